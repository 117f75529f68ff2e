use Rattle.hlr_owners.proofs.Common.{◌∙◌, ap, refl, inl, arith}
use Rattle.hlr_owners.proofs.DissolveLemmas.{dissolver_is_part, dissolver_width, dissolver_meets, dissolver_home, dissolved_home, part_again, all_dissolved}
use Rattle.hlr_owners.proofs.PartLemmas.{owner_is_part, part_has_place}
use Rattle.hlr_owners.proofs.PostedLemmas.{posted_before, part_slot}
use Rattle.hlr_owners.proofs.EditLemmas.{only_memory, may_refuse}
use Rattle.hlr_owners.proofs.owners.Owners.dissolve.Goals as goal

pub remove-requires : goal.remove-requires
remove-requires c = rw c.self.inside.owners.ok.0 (part_has_place _ c.self.invariant.0 c.args.part _ c.in_ok-i.ensures.index)

pub unreachable-requires : goal.unreachable-requires
unreachable-requires c = owner_is_part _ c.self.invariant.0 c.args.part _ c.in_ok-i.ensures.index c.in_default.field-0 c.in_default.ensures.value

pub lend-requires : goal.lend-requires
lend-requires c =
    dissolved_home _ c.self.invariant.0 _ _ c.in_ok-i.ensures.answer _ c.in_ok-i.ensures.index c.in-Part.part_owner c.in-Part.ensures.value c.in-Part-index_mut.front (rw (c.in-Part-index_mut.is, c.remove.ensures.items) at c.index_mut.ensures.value) (rw (← c.self.view_is) at c.requires.home)

pub holding_mut-requires : goal.holding_mut-requires
holding_mut-requires c =
    dissolver_home _ c.self.invariant.0 _ _ c.in_ok-i.ensures.answer _ c.in_ok-i.ensures.index c.in-Part.part_owner c.in-Part.ensures.value c.in-Part-index_mut.front (rw (c.in-Part-index_mut.is, c.remove.ensures.items) at c.index_mut.ensures.value) (rw (← c.self.view_is) at c.requires.home)

pub dissolve-merged-requires : goal.dissolve-merged-requires
dissolve-merged-requires c =
    let front = rw (c.in-Part-index_mut.is, c.remove.ensures.items) at c.index_mut.ensures.value in
    rw (c.lend.ensures.holding, c.holding_mut.ensures.value, c.deref.ensures) (record {
      width = dissolver_width _ c.self.invariant.0 _ _ c.in_ok-i.ensures.answer _ c.in_ok-i.ensures.index c.in-Part.part_owner c.in-Part.ensures.value c.in-Part-index_mut.front front;
      board = posted_before _ c.self.invariant.0 _ c.self.invariant.1 c.args.part _ c.in_ok-i.ensures.index c.in-Part.part_owner c.in-Part.ensures.value;
      alone = part_slot _ c.self.invariant.0 _ c.self.invariant.1 c.args.part _ c.in_ok-i.ensures.index c.in-Part.part_owner c.in-Part.ensures.value;
    })

pub unreachable-requires-in-Piece : goal.unreachable-requires-in-Piece
unreachable-requires-in-Piece c = dissolver_is_part _ c.self.invariant.0 _ _ c.in_ok-i.ensures.answer _ c.in_ok-i.ensures.index c.in-Piece.field-0 (rw (c.in-Piece.is, c.remove.ensures.items) at c.index_mut.ensures.value)

pub join-requires-clause-other : goal.join-requires-clause-other
join-requires-clause-other c =
    rw (c.in-Ok.ensures.merged.back, c.lend.ensures.holding, c.deref-in-Ok.ensures) (posted_before _ c.self.invariant.0 _ c.self.invariant.1 c.args.part _ c.in_ok-i.ensures.index c.in-Part.part_owner c.in-Part.ensures.value)

pub invariant_of-self : goal.invariant_of-self
invariant_of-self c =
    let again = part_again _ c.self.invariant.0 _ _ c.in_ok-i.ensures.answer _ c.in_ok-i.ensures.index c.in-Part.part_owner c.in-Part.ensures.value c.in-Part-index_mut.front (rw (c.in-Part-index_mut.is, c.remove.ensures.items) at c.index_mut.ensures.value) c.dissolve-merged.new.self c.of.result (rw c.holding_mut.ensures.value at c.in-Err.ensures.refused.1)
    (c.of.ensures.0 ∙ (ap (λ b. b.value) c.in-Err.ensures.refused.0 ∙ c.lend.ensures.holding)) c.of.ensures.1 (rw (← c.self.view_is) at c.requires.home) in
    let longer = c.insert_reserved.ensures.capacity in
    rw (c.insert_reserved.ensures.items, c.remove.ensures.items, again) (c.self.invariant.0, c.self.invariant.1, omega (arith, c.self.invariant.2, c.remove.ensures.capacity))

pub returns-in-Err : goal.returns-in-Err
returns-in-Err c =
    let again = part_again _ c.self.invariant.0 _ _ c.in_ok-i.ensures.answer _ c.in_ok-i.ensures.index c.in-Part.part_owner c.in-Part.ensures.value c.in-Part-index_mut.front (rw (c.in-Part-index_mut.is, c.remove.ensures.items) at c.index_mut.ensures.value) c.dissolve-merged.new.self c.of.result (rw c.holding_mut.ensures.value at c.in-Err.ensures.refused.1)
    (c.of.ensures.0 ∙ (ap (λ b. b.value) c.in-Err.ensures.refused.0 ∙ c.lend.ensures.holding)) c.of.ensures.1 (rw (← c.self.view_is) at c.requires.home) in
    let meets = rw (← c.lend.ensures.holding, ← c.holding_mut.ensures.value) at (dissolver_meets _ c.self.invariant.0 _ _ c.in_ok-i.ensures.answer _ c.in_ok-i.ensures.index c.in-Part.part_owner c.in-Part.ensures.value c.in-Part-index_mut.front (rw (c.in-Part-index_mut.is, c.remove.ensures.items) at c.index_mut.ensures.value)) in
    rw (← c.self.view_is, c.insert_reserved.ensures.items, c.remove.ensures.items, again) (record {
      answer = may_refuse _ _ _ _ c.in_ok-i.ensures.answer refl (only_memory _ _ meets c.in-Err.ensures.why);
      after = refl;
      homes = refl;
      while_out = λ ks become. refl;
    })

pub invariant_of-self-2 : goal.invariant_of-self-2
invariant_of-self-2 c =
    let all = all_dissolved _ c.self.invariant.0 _ _ c.in_ok-i.ensures.answer _ c.in_ok-i.ensures.index c.in-Part.part_owner c.in-Part.ensures.value _ c.self.invariant.1 c.in-Part-index_mut.front (rw (c.in-Part-index_mut.is, c.remove.ensures.items) at c.index_mut.ensures.value)
    c.dissolve-merged.new.self _ (rw (c.lend.ensures.holding, c.holding_mut.ensures.value) at c.in-Ok.ensures.merged) c.in-Ok.ensures.after (rw c.lend.ensures.holding at c.in-Ok.ensures.other)
    (rw (← c.self.view_is) at c.requires.home) _ c.join.ensures.both in
    rw (c.dissolve_at.ensures c.args.part c.in_ok-i.ensures.index, c.remove.ensures.items) (all.ruled, all.desks, rw c.remove.ensures.capacity c.self.invariant.2)

pub returns : goal.returns
returns c =
    let all = all_dissolved _ c.self.invariant.0 _ _ c.in_ok-i.ensures.answer _ c.in_ok-i.ensures.index c.in-Part.part_owner c.in-Part.ensures.value _ c.self.invariant.1 c.in-Part-index_mut.front (rw (c.in-Part-index_mut.is, c.remove.ensures.items) at c.index_mut.ensures.value)
    c.dissolve-merged.new.self _ (rw (c.lend.ensures.holding, c.holding_mut.ensures.value) at c.in-Ok.ensures.merged) c.in-Ok.ensures.after (rw c.lend.ensures.holding at c.in-Ok.ensures.other)
    (rw (← c.self.view_is) at c.requires.home) _ c.join.ensures.both in
    rw (← c.self.view_is, c.dissolve_at.ensures c.args.part c.in_ok-i.ensures.index, c.remove.ensures.items) (record {
      answer = rw c.in_ok-i.ensures.answer (inl refl);
      after = all.store;
      homes = all.homes;
      while_out = all.while_out;
    })
