use Rattle.mr_node.proofs.Common.{arith, ◌≡◌, get_or, sym, ap, subst, ◌∙◌, IsWell}
use Rattle.mr_node.proofs.RootLemmas.{only_child_left}
use Rattle.mr_node.proofs.node.only_child.Goals as goal

pub unreachable-requires : goal.unreachable-requires
unreachable-requires g c = omega (arith, ap (λ s. s.height) c.in-Leaf.ensures.seen, c.requires.above_leaves)

pub returns-clause-rows : goal.returns-clause-rows
returns-clause-rows g c =
    let b = c.in-Inner.inner in
    let one : b.len ≡ 1 = ap (λ s. s.width) c.in-Inner.ensures.seen ∙ c.requires.one in
    let both = only_child_left b (get_or b.leasts 0 0, c.take_child-child.result) c.in-Inner.ensures.whole one c.take_child-child.ensures.child in
    ap (λ s. s.rows) c.into_inner.ensures ∙ sym both.0 ∙ ap (λ s. s.rows) c.in-Inner.ensures.seen

pub returns-clause-well : goal.returns-clause-well
returns-clause-well g c =
    let b = c.in-Inner.inner in
    let one : b.len ≡ 1 = ap (λ s. s.width) c.in-Inner.ensures.seen ∙ c.requires.one in
    let both = only_child_left b (get_or b.leasts 0 0, c.take_child-child.result) c.in-Inner.ensures.whole one c.take_child-child.ensures.child in
    subst IsWell (sym c.into_inner.ensures) both.1.well

pub returns-clause-two : goal.returns-clause-two
returns-clause-two g c =
    let b = c.in-Inner.inner in
    let one : b.len ≡ 1 = ap (λ s. s.width) c.in-Inner.ensures.seen ∙ c.requires.one in
    let both = only_child_left b (get_or b.leasts 0 0, c.take_child-child.result) c.in-Inner.ensures.whole one c.take_child-child.ensures.child in
    omega (arith, ap (λ s. s.width) c.into_inner.ensures, both.1.enough)
