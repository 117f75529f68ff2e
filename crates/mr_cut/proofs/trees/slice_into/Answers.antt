use Rattle.mr_cut.proofs.Common.{rules, arith, ◌+◌, ◌*◌, ◌≤◌, sym, subst, ap, Seen, IsCut}
use Rattle.mr_cut.proofs.CutLemmas.{both_meters, cut_rows}
use Rattle.mr_cut.proofs.trees.slice_into.Goals.{After-put_root-2}
use Rattle.mr_cut.proofs.trees.slice_into.Goals as goal

-- the trees that stand in the places of both are the cut of the whole one
whole_cut : (g : _) (c : After-put_root-2 g) → IsCut c.args.key c.args.tree.now c.put_root.new.place c.put_root-2.new.place
whole_cut g c =
    let at = λ (whole low high : Seen _). IsCut c.args.key whole low high in
    subst (λ s. at s c.put_root.new.place c.put_root-2.new.place) c.take_root-root.ensures.root
    (subst (λ s. at c.take_root-root.result.value s c.put_root-2.new.place) (sym c.put_root.ensures)
    (subst (λ s. at c.take_root-root.result.value c.cut-below.result.0.value s) (sym c.put_root-2.ensures) c.cut-below.ensures.cut))

pub returns-clause-low : goal.returns-clause-low
returns-clause-low g c = (cut_rows c.args.key _ _ _ (whole_cut g (goal.at.returns-clause-low g c).After-put_root-2)).0

pub returns-clause-high : goal.returns-clause-high
returns-clause-high g c = (cut_rows c.args.key _ _ _ (whole_cut g (goal.at.returns-clause-high g c).After-put_root-2)).1

pub returns-clause-apart : goal.returns-clause-apart
returns-clause-apart g c =
    let cut = whole_cut g (goal.at.returns-clause-apart g c).After-put_root-2 in
    (c.args.key, cut.below, cut.from)

pub returns-clause-heights : goal.returns-clause-heights
returns-clause-heights g c =
    let cut = whole_cut g (goal.at.returns-clause-heights g c).After-put_root-2 in
    (cut.low_height, cut.high_height)

pub returns-clause-path : goal.returns-clause-path
returns-clause-path g c =
    let whole = c.take_root-root.ensures.root in
    omega (arith, ap (λ s. s.height) whole, c.new-path.ensures, c.cut-below.ensures.path, c.steps.ensures, c.steps-3.ensures)

pub returns-clause-path_no_fewer : goal.returns-clause-path_no_fewer
returns-clause-path_no_fewer g c =
    let whole = c.take_root-root.ensures.root in
    omega (arith, ap (λ s. s.height) whole, c.new-path.ensures, c.cut-below.ensures.path_no_fewer, c.steps-3.ensures)

pub overflow_add-result : goal.overflow_add-result
overflow_add-result g c =
    omega (arith, (both_meters _ c.args.tree.now.height c.steps.result c.steps-2.result (ap (λ s. s.height) (c.take_root-root.ensures.root)) (omega (arith, c.height.ensures.value, c.height.ensures.low)) (omega (arith, c.new-path.ensures, c.cut-below.ensures.path, c.steps.ensures)) (omega (arith, c.new-joins.ensures, c.cut-below.ensures.joins, c.steps-2.ensures))).1)

pub returns-clause-steps : goal.returns-clause-steps
returns-clause-steps g c =
    (both_meters _ c.args.tree.now.height c.steps.result c.steps-2.result (ap (λ s. s.height) (c.take_root-root.ensures.root)) (omega (arith, c.height.ensures.value, c.height.ensures.low)) (omega (arith, c.new-path.ensures, c.cut-below.ensures.path, c.steps.ensures)) (omega (arith, c.new-joins.ensures, c.cut-below.ensures.joins, c.steps-2.ensures))).0

pub returns-clause-no_fewer : goal.returns-clause-no_fewer
returns-clause-no_fewer g c =
    let whole = c.take_root-root.ensures.root in
    omega (arith, ap (λ s. s.height) whole, c.new-path.ensures, c.new-joins.ensures, c.cut-below.ensures.joins_no_fewer, c.steps.ensures, c.steps-2.ensures, c.steps-3.ensures)

pub cut-below-requires : goal.cut-below-requires
cut-below-requires g c =
    let whole = c.take_root-root.ensures.root in
    (search rules, subst (λ s. (s.height + 2) * (s.height + 2) ≤ c.give.new.self) (sym whole) (omega (arith, c.give.ensures, c.requires.stock)))

pub returns-clause-joins : goal.returns-clause-joins
returns-clause-joins g c =
    let whole = c.take_root-root.ensures.root in
    let beside = subst (λ s. c.cut-below.new.joins ≤ c.new-joins.result + 32 * ((s.height + 1) * (s.height + 1))) whole c.cut-below.ensures.joins in
    omega (arith, beside, c.new-joins.ensures, c.steps.ensures, c.steps-2.ensures, c.steps-3.ensures)
