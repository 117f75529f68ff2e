use Rattle.mr_node.proofs.Common.{rules, arith, ◌+◌, ◌++◌, sym, ap, subst, ◌∙◌, get_or-set_other, IsOrderedBy, key_of_pair, StartsWith, IsShare, AreEvened}
use Rattle.mr_node.proofs.PlaceLemmas.{got_used, never_none}
use Rattle.mr_node.proofs.RebalanceLemmas.{pair_at, pair_widths, pair_shared}
use Rattle.mr_node.proofs.rebalancing.share_pair.Goals as goal

pub unreachable-requires : goal.unreachable-requires
unreachable-requires g c = never_none c.args.inner.now.len (c.args.place + 1) c.index-inner-place.result c.args.inner.now.children c.requires.loose.entries.packed c.requires.within (sym c.take.ensures.value ∙ c.in_default.is)

pub share_with-joined-requires : goal.share_with-joined-requires
share_with-joined-requires g c =
    let b = c.args.inner.now in
    let high = got_used b.len (c.args.place + 1) c.index-inner-place.result c.in-Some.next b.children c.requires.loose.entries.packed c.requires.within (sym c.take.ensures.value ∙ c.in-Some.is) in
    let same = sym (get_or-set_other b.children (c.args.place + 1) c.args.place _ c.index-inner-place-2.result (λ e. omega (arith, e))) ∙ c.in-Some-children.is in
    let low = got_used b.len c.args.place c.index-inner-place-2.result c.in-Some-children.first b.children c.requires.loose.entries.packed (omega (arith, c.requires.within)) same in
    let pair = pair_at 15 c.args.place b c.in-Some-children.first c.in-Some.next c.requires.loose low high in
    let one = c.deref_mut.ensures.value in
    let two = c.deref_mut-in-Some-children.ensures.value in
    let ordered = subst (λ s. IsOrderedBy key_of_pair (c.deref_mut.result.now.rows ++ s.rows)) (sym two) (subst (λ s. IsOrderedBy key_of_pair (s.rows ++ c.in-Some.next.node.value.rows)) (sym one) pair.ordered) in
    let wide = pair_widths 15 c.args.place b c.in-Some-children.first c.in-Some.next pair ∙ sym (ap (λ s. s.width + c.in-Some.next.node.value.width) one) ∙ sym (ap (λ s. c.deref_mut.result.now.width + s.width) two) in
    (search rules, (ap (λ s. s.height) one ∙ pair.first.level ∙ sym (ap (λ s. s.height) two ∙ pair.second.level), (ordered, subst (λ n. IsShare n c.args.low) wide c.requires.share)))

pub unreachable-requires-in-None : goal.unreachable-requires-in-None
unreachable-requires-in-None g c =
    let b = c.args.inner.now in
    let same = sym (get_or-set_other b.children (c.args.place + 1) c.args.place _ c.index-inner-place-2.result (λ e. omega (arith, e))) ∙ c.in-None.is in
    never_none b.len c.args.place c.index-inner-place-2.result b.children c.requires.loose.entries.packed (omega (arith, c.requires.within)) same

pub returns-clause-pair : goal.returns-clause-pair
returns-clause-pair g c =
    let b = c.args.inner.now in
    let high = got_used b.len (c.args.place + 1) c.index-inner-place.result c.in-Some.next b.children c.requires.loose.entries.packed c.requires.within (sym c.take.ensures.value ∙ c.in-Some.is) in
    let same = sym (get_or-set_other b.children (c.args.place + 1) c.args.place _ c.index-inner-place-2.result (λ e. omega (arith, e))) ∙ c.in-Some-children.is in
    let low = got_used b.len c.args.place c.index-inner-place-2.result c.in-Some-children.first b.children c.requires.loose.entries.packed (omega (arith, c.requires.within)) same in
    let pair = pair_at 15 c.args.place b c.in-Some-children.first c.in-Some.next c.requires.loose low high in
    let evened = subst (λ s. AreEvened c.share_with-joined.result s c.in-Some.next.node.value c.share_with-joined.new.self c.share_with-joined.new.next) c.deref_mut.ensures.value (subst (λ s. AreEvened c.share_with-joined.result c.deref_mut.result.now s c.share_with-joined.new.self c.share_with-joined.new.next) c.deref_mut-in-Some-children.ensures.value c.share_with-joined.ensures.nodes) in
    let last = c.deref.ensures ∙ ap (λ n. n.value) c.count_anew-in-Some-children.ensures.node in
    pair_shared c.args.place c.args.low c.share_with-joined.result b _ c.in-Some-children.first c.in-Some.next c.count_anew.new.child c.count_anew-in-Some-children.new.child c.least.result c.share_with-joined.new.self c.share_with-joined.new.next c.requires.loose c.requires.within pair evened c.share_with-joined.ensures.width
    (ap (λ n. n.value) c.count_anew.ensures.node) c.count_anew.ensures.count (ap (λ n. n.value) c.count_anew-in-Some-children.ensures.node) c.count_anew-in-Some-children.ensures.count
    (λ wide. subst (λ s. StartsWith c.least.result s.rows) last (c.least.ensures (omega (arith, ap (λ s. s.width) last, wide))))
