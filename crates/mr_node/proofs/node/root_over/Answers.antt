use Rattle.mr_node.proofs.Common.{rules, arith, ◌≡◌, ◌+◌, refl, sym, ap, subst, ◌∙◌, AreEntries, IsHalved}
use Rattle.mr_node.proofs.SizeLemmas.{low_tree}
use Rattle.mr_node.proofs.RootLemmas.{root_inner}
use Rattle.mr_node.proofs.node.root_over.Goals as goal

pub overflow_add-height : goal.overflow_add-height
overflow_add-height g c = omega (arith, low_tree c.args.node.value c.requires.well (omega (arith, c.requires.full)), c.height.ensures.value, ap (λ s. s.height) c.deref.ensures)

pub invariant_of-result : goal.invariant_of-result
invariant_of-result g c =
    let low = c.halve_into.new.self in
    let high = c.halve_into.new.high in
    let half = subst (λ s. IsHalved s low high) c.deref_mut.ensures.value c.halve_into.ensures in
    (root_inner c.args.node.value low high c.empty_inner-root.result c.insert_child.new.inner c.insert_child-2.new.inner c.requires.well half
    (c.empty_inner-root.ensures.height ∙ ap (λ n. n + 1) (c.height.ensures.value ∙ ap (λ s. s.height) c.deref.ensures)) c.empty_inner-root.ensures.len c.empty_inner-root.ensures.entries c.insert_child.ensures.height c.insert_child.ensures.len c.insert_child-2.ensures.height c.insert_child-2.ensures.len c.insert_child-2.ensures.entries c.insert_child.ensures.children c.insert_child-2.ensures.children).0

pub returns-clause-root : goal.returns-clause-root
returns-clause-root g c =
    let low = c.halve_into.new.self in
    let high = c.halve_into.new.high in
    let half = subst (λ s. IsHalved s low high) c.deref_mut.ensures.value c.halve_into.ensures in
    (root_inner c.args.node.value low high c.empty_inner-root.result c.insert_child.new.inner c.insert_child-2.new.inner c.requires.well half
    (c.empty_inner-root.ensures.height ∙ ap (λ n. n + 1) (c.height.ensures.value ∙ ap (λ s. s.height) c.deref.ensures)) c.empty_inner-root.ensures.len c.empty_inner-root.ensures.entries c.insert_child.ensures.height c.insert_child.ensures.len c.insert_child-2.ensures.height c.insert_child-2.ensures.len c.insert_child-2.ensures.entries c.insert_child.ensures.children c.insert_child-2.ensures.children).1

pub halve_into-requires : goal.halve_into-requires
halve_into-requires g c = (search rules, ap (λ s. s.width) c.deref_mut.ensures.value ∙ c.requires.full)

pub insert_child-requires : goal.insert_child-requires
insert_child-requires g c =
    let root = c.empty_inner-root.ensures in
    let empty = subst (λ n. AreEntries n c.empty_inner-root.result.leasts c.empty_inner-root.result.children) (sym root.len) root.entries in
    let low = c.halve_into.ensures.low in
    (search rules, (search rules, (empty, (omega (arith, root.len), (omega arith, record { level = refl; enough = low.enough; well = low.well })))))

pub insert_child-requires-2 : goal.insert_child-requires-2
insert_child-requires-2 g c =
    let root = c.insert_child.ensures in
    let len : c.insert_child.new.inner.len ≡ 1 = omega (arith, root.len, c.empty_inner-root.ensures.len) in
    let high = c.halve_into.ensures.high in
    (search rules, (search rules, (root.entries, (omega (arith, len), (omega (arith, len), record { level = refl; enough = high.enough; well = high.well })))))
