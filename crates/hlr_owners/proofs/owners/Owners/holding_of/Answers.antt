use Rattle.hlr_owners.proofs.Common.{refl}
use Rattle.hlr_owners.proofs.WhileOutLemmas.{rows_while_out}
use Rattle.hlr_owners.proofs.HomeLemmas.{owner_home}
use Rattle.hlr_owners.proofs.ListingLemmas.{part_rows}
use Rattle.hlr_owners.proofs.RegionOwnerLemmas.{piece_loose}
use Rattle.hlr_owners.proofs.owners.Owners.holding_of.Goals as goal

pub holding-requires : goal.holding-requires
holding-requires c =
    let at = rw (← c.self.view_is) at c.owner_of.ensures.at in
    owner_home _ c.self.invariant.0 _ _ at c.in-Part.part_owner (rw c.in-Part.is at c.index.ensures) (rw (← c.self.view_is) at c.requires.home)

pub returns-in-Part : goal.returns-in-Part
returns-in-Part c =
    let at = rw (← c.self.view_is) at c.owner_of.ensures.at in
    let is = rw c.in-Part.is at c.index.ensures in
    let home = owner_home _ c.self.invariant.0 _ _ at c.in-Part.part_owner is (rw (← c.self.view_is) at c.requires.home) in
    rw (← c.self.view_is, c.holding.ensures.value) (record {
      home = part_rows _ c.self.invariant.0 _ _ at c.in-Part.part_owner is;
      while_out = rows_while_out _ c.self.invariant.0 _ _ at c.in-Part.part_owner is home;
      moving = tt;
    })

pub returns-in-Piece-clause-moving : goal.returns-in-Piece-clause-moving
returns-in-Piece-clause-moving c =
    let at = rw (← c.self.view_is) at c.owner_of.ensures.at in
    (refl, rw (← c.self.view_is) (piece_loose _ c.self.invariant.0 _ _ at c.in-Piece.field-0 (rw c.in-Piece.is at c.index.ensures)))
