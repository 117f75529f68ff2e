use Rattle.hlr_owners.proofs.ListingLemmas.{part_subscriber}
use Rattle.hlr_owners.proofs.Common.{refl}
use Rattle.hlr_owners.proofs.HomeLemmas.{owner_home}
use Rattle.hlr_owners.proofs.RegionOwnerLemmas.{owner_there, part_not_loose, piece_loose}
use Rattle.hlr_owners.proofs.owners.Owners.number_in.Goals as goal

pub index-requires : goal.index-requires
index-requires c = rw c.self.inside.owners.ok.0 (owner_there _ c.self.invariant.0 _ _ (rw (← c.self.view_is) at c.requires.owner))

pub holding-requires : goal.holding-requires
holding-requires c =
    let at = rw (← c.self.view_is) at c.requires.owner in
    owner_home _ c.self.invariant.0 _ _ at c.in-Part.part_owner (rw c.in-Part.is at c.index.ensures) (rw (← c.self.view_is) at c.requires.home)

pub returns-in-Part : goal.returns-in-Part
returns-in-Part c =
    let at = rw (← c.self.view_is) at c.requires.owner in
    let is = rw c.in-Part.is at c.index.ensures in
    rw (← c.self.view_is) (record {
      number = rw (part_subscriber _ c.self.invariant.0 _ _ at c.in-Part.part_owner is, c.number_of.ensures, c.holding.ensures.value) refl;
      home = part_not_loose _ c.self.invariant.0 _ _ at c.in-Part.part_owner is;
      moving = tt;
    })

pub returns-in-Piece-clause-moving : goal.returns-in-Piece-clause-moving
returns-in-Piece-clause-moving c =
    let at = rw (← c.self.view_is) at c.requires.owner in
    (refl, rw (← c.self.view_is) (piece_loose _ c.self.invariant.0 _ _ at c.in-Piece.field-0 (rw c.in-Piece.is at c.index.ensures)))
