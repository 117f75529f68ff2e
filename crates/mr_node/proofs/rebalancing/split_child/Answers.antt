use Rattle.mr_node.proofs.Common.{rules, arith, ◌≡◌, Option, Some, IfSome, set, length, refl, ap, subst, ◌∙◌, StartsWith, NodePart, IsHalved}
use Rattle.mr_node.proofs.PlaceLemmas.{got_used, never_none}
use Rattle.mr_node.proofs.EntryListLemmas.{entries_written}
use Rattle.mr_node.proofs.CutLemmas.{split_halves}
use Rattle.mr_node.proofs.rebalancing.split_child.Goals as goal

full_child : {V : Type 0} {place : Option (NodePart V)} {k : NodePart V} → place ≡ Some k → IfSome place (λ k. k.node.value.width ≡ 32) → k.node.value.width ≡ 32
full_child is full = subst (λ o. IfSome o (λ k. k.node.value.width ≡ 32)) is full

pub unreachable-requires : goal.unreachable-requires
unreachable-requires g c = never_none c.args.inner.now.len c.args.place c.index-inner-place.result c.args.inner.now.children c.requires.inner.entries.packed c.requires.within c.in-None.is

pub put_child-requires : goal.put_child-requires
put_child-requires g c =
    let b = c.args.inner.now in
    (search rules, ((entries_written b.len c.args.place c.count_anew.new.child b.leasts b.children c.requires.inner.entries c.requires.within).0, (c.requires.room, omega (arith, c.requires.within))))

pub returns : goal.returns
returns g c =
    let b = c.args.inner.now in
    let got = got_used b.len c.args.place c.index-inner-place.result c.in-Some.child b.children c.requires.inner.entries.packed c.requires.within c.in-Some.is in
    let halved = subst (λ s. IsHalved s c.halve_into.new.self c.halve_into.new.high) c.deref_mut-node.ensures.value c.halve_into.ensures in
    split_halves c.args.place c.least-least.result b (record b { children = set b.children c.args.place (Some c.count_anew.new.child) }) c.put_child.new.inner c.in-Some.child c.count_anew.new.child _ c.halve_into.new.self c.halve_into.new.high c.requires.inner c.requires.within got refl
    c.put_child.ensures.children c.put_child.ensures.height c.put_child.ensures.len c.put_child.ensures.entries halved (ap (λ n. n.value) c.count_anew.ensures.node) c.count_anew.ensures.count refl (c.len-count.ensures ∙ ap (λ s. length s.rows) c.deref-2.ensures)
    (λ wide. subst (λ s. StartsWith c.least-least.result s.rows) c.deref.ensures (c.least-least.ensures (omega (arith, ap (λ s. s.width) c.deref.ensures, wide))))

pub halve_into-requires : goal.halve_into-requires
halve_into-requires g c =
    let b = c.args.inner.now in
    let got = got_used b.len c.args.place c.index-inner-place.result c.in-Some.child b.children c.requires.inner.entries.packed c.requires.within c.in-Some.is in
    (search rules, ap (λ s. s.width) c.deref_mut-node.ensures.value ∙ full_child got c.requires.full)
