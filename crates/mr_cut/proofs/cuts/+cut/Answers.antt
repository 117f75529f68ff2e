use Rattle.mr_cut.proofs.Common.{rules, arith, sym, ap, subst, ◌∙◌, IsNode, seen, IsCut}
use Rattle.mr_cut.proofs.CutLemmas.{IsMiddleOf, middle_of, AreJoinable, joinable, cut_of}
use Rattle.mr_cut.proofs.cuts.+cut.Goals.{After-divide-left, After-cut-low}
use Rattle.mr_cut.proofs.cuts.+cut.Goals as goal

-- the child between the parts
child_node : (g : _) (t : _) (c : After-divide-left g t) → IsMiddleOf c.args.node.value c.divide-left.result.1.value
child_node g t c = middle_of (sym (ap seen c.in-Inner.is) ∙ c.open-body.ensures.seen) c.divide-left.ensures.divided

-- the parts and the two roots of the child
parts : (g : _) (t : _) (c : After-cut-low g t) → AreJoinable c.args.node.value c.divide-left.result.0.value c.cut-low.result.0.value c.cut-low.result.1.value c.divide-left.result.2.value
parts g t c = joinable (subst IsNode c.in-Inner.is c.open-body.ensures.whole) (sym (ap seen c.in-Inner.is) ∙ c.open-body.ensures.seen) c.divide-left.ensures.divided c.cut-low.ensures.cut

pub cut-low-requires : goal.cut-low-requires
cut-low-requires g t c κs within =
    let below = child_node g t (goal.at.cut-low-requires g t c).After-divide-left in
    (omega (arith, below.level, c.decreases), (within, (search rules, omega (arith, below.blanks, c.divide-left.ensures.stock, c.requires.stock))))

pub join-low-requires : goal.join-low-requires
join-low-requires g t c =
    let at = goal.at.join-low-requires g t c in
    let below = child_node g t at.After-divide-left in
    let both = parts g t at.After-cut-low in
    (search rules, (c.divide-left.ensures.divided.front.root, (c.cut-low.ensures.cut.low_root, (both.low_ordered, omega (arith, below.blanks, below.level, both.low_near, c.divide-left.ensures.stock, c.cut-low.ensures.stock, c.requires.stock)))))

pub join-high-requires : goal.join-high-requires
join-high-requires g t c =
    let at = goal.at.join-high-requires g t c in
    let below = child_node g t at.After-divide-left in
    let both = parts g t at.After-cut-low in
    (search rules, (c.cut-low.ensures.cut.high_root, (c.divide-left.ensures.divided.back.root, (both.high_ordered, omega (arith, below.blanks, below.level, both.low_near, both.high_near, c.divide-left.ensures.stock, c.cut-low.ensures.stock, c.join-low.ensures.stock, c.requires.stock)))))

pub returns-in-Inner-clause-cut : goal.returns-in-Inner-clause-cut
returns-in-Inner-clause-cut g t c =
    subst (λ s. IsCut c.args.key s c.join-low.result.value c.join-high.result.value) (sym (ap seen c.in-Inner.is) ∙ c.open-body.ensures.seen) (cut_of c.divide-left.ensures.divided c.cut-low.ensures.cut c.join-low.ensures.root c.join-low.ensures.rows c.join-low.ensures.height c.join-high.ensures.root c.join-high.ensures.rows c.join-high.ensures.height)

pub returns-in-Inner-clause-stock : goal.returns-in-Inner-clause-stock
returns-in-Inner-clause-stock g t c =
    let at = goal.at.returns-in-Inner-clause-stock g t c in
    let below = child_node g t at.After-divide-left in
    let both = parts g t at.After-cut-low in
    omega (arith, below.blanks, below.level, both.low_near, both.high_near, c.divide-left.ensures.stock, c.cut-low.ensures.stock, c.join-low.ensures.stock, c.join-high.ensures.stock)

pub returns-in-Inner-clause-path_no_fewer : goal.returns-in-Inner-clause-path_no_fewer
returns-in-Inner-clause-path_no_fewer g t c =
    let below = child_node g t (goal.at.returns-in-Inner-clause-path_no_fewer g t c).After-divide-left in
    omega (arith, below.level, c.open-body.ensures.steps, c.divide-left.ensures.no_fewer, c.cut-low.ensures.path_no_fewer)

pub returns-in-Inner-clause-path : goal.returns-in-Inner-clause-path
returns-in-Inner-clause-path g t c =
    let below = child_node g t (goal.at.returns-in-Inner-clause-path g t c).After-divide-left in
    omega (arith, below.level, c.open-body.ensures.steps, c.divide-left.ensures.steps, c.cut-low.ensures.path)

pub returns-in-Inner-clause-joins_no_fewer : goal.returns-in-Inner-clause-joins_no_fewer
returns-in-Inner-clause-joins_no_fewer g t c =
    let below = child_node g t (goal.at.returns-in-Inner-clause-joins_no_fewer g t c).After-divide-left in
    omega (arith, below.level, c.cut-low.ensures.joins_no_fewer, c.join-low.ensures.no_fewer, c.join-high.ensures.no_fewer)

pub returns-in-Inner-clause-joins : goal.returns-in-Inner-clause-joins
returns-in-Inner-clause-joins g t c =
    let at = goal.at.returns-in-Inner-clause-joins g t c in
    let below = child_node g t at.After-divide-left in
    let both = parts g t at.After-cut-low in
    omega (arith, below.steps, below.level, both.low_near, both.high_near, c.cut-low.ensures.joins, c.join-low.ensures.steps, c.join-high.ensures.steps)

pub returns-in-Leaf-clause-path_no_fewer : goal.returns-in-Leaf-clause-path_no_fewer
returns-in-Leaf-clause-path_no_fewer g t c = omega (arith, c.open-body.ensures.steps, c.halves_of.ensures.steps, ap (λ s. s.height) (sym (ap seen c.in-Leaf.is) ∙ c.open-body.ensures.seen))

pub returns-in-Leaf-clause-joins_no_fewer : goal.returns-in-Leaf-clause-joins_no_fewer
returns-in-Leaf-clause-joins_no_fewer g t c = omega (arith, ap (λ s. s.height) (sym (ap seen c.in-Leaf.is) ∙ c.open-body.ensures.seen))
