use Rattle.hlr_owners.proofs.Common.{refl}
use Rattle.hlr_owners.proofs.LendLemmas.{back_here, back_index, home_is, back_ruled, back_desks, back_piece, part_state_is}
use Rattle.hlr_owners.proofs.owners.Owners.back.Goals as goal

pub back-requires : goal.back-requires
back-requires c = home_is _ c.self.invariant.0 _ _ (back_here _ c.self.invariant.0 c.args.holding.value (rw c.deref.ensures at c.rules.ensures) _ (rw (← c.self.view_is, c.lo.ensures, c.deref-2.ensures) at c.owner_of-i.ensures.at) (rw (← c.self.view_is) at c.requires)) c.in-Part.part_owner (rw c.in-Part.is at c.index_mut.ensures.value)

pub unreachable-requires : goal.unreachable-requires
unreachable-requires c = back_piece c.self.inside.owners.items _ _ c.in-Piece.field-0 (back_here _ c.self.invariant.0 c.args.holding.value (rw c.deref.ensures at c.rules.ensures) _ (rw (← c.self.view_is, c.lo.ensures, c.deref-2.ensures) at c.owner_of-i.ensures.at) (rw (← c.self.view_is) at c.requires)) (rw c.in-Piece.is at c.index_mut.ensures.value)

pub invariant_of-self : goal.invariant_of-self
invariant_of-self c = (
  back_ruled _ c.self.invariant.0 _ _ (back_here _ c.self.invariant.0 c.args.holding.value (rw c.deref.ensures at c.rules.ensures) _ (rw (← c.self.view_is, c.lo.ensures, c.deref-2.ensures) at c.owner_of-i.ensures.at) (rw (← c.self.view_is) at c.requires)) c.in-Part.part_owner (rw c.in-Part.is at c.index_mut.ensures.value) c.back.new.self c.back.ensures.owner.0 (rw c.deref.ensures at c.rules.ensures),
  back_desks _ c.self.invariant.0 _ _ (back_here _ c.self.invariant.0 c.args.holding.value (rw c.deref.ensures at c.rules.ensures) _ (rw (← c.self.view_is, c.lo.ensures, c.deref-2.ensures) at c.owner_of-i.ensures.at) (rw (← c.self.view_is) at c.requires)) c.in-Part.part_owner (rw c.in-Part.is at c.index_mut.ensures.value) c.back.new.self _ c.back.ensures.owner.0 (rw c.deref.ensures at c.rules.ensures) c.self.invariant.1,
  c.self.invariant.2,
)

pub returns : goal.returns
returns c = λ j fits.
    let same = back_index _ c.self.invariant.0 c.args.holding.value (rw c.deref.ensures at c.rules.ensures) _ j (rw (← c.self.view_is, c.lo.ensures, c.deref-2.ensures) at c.owner_of-i.ensures.at) (rw (← c.self.view_is) at fits) in
    rw (← c.self.view_is, ← same, part_state_is c.back.new.self _ c.back.ensures.owner.0 c.back.ensures.owner.1) refl
