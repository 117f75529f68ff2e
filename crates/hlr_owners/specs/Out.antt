-- Parts whose holdings are lent: how they were when they were lent, and the owners with what these holdings have
-- become.
use Rattle.std.specs.Prelude.{List, [], ◌∷◌, Option, Some, None, if◌then◌else◌}
use Rattle.holding.specs.Held.{HoldingState}
use Rattle.hlr_owners.specs.PartOwnerState.{PartOwnerState}
use Rattle.hlr_owners.specs.Owners.{of_parts}
use Rattle.hlr_owners.specs.declared.part_owner.RegionOwner.{RegionOwner}
use Rattle.hlr_owners.specs.declared.part_owner.RegionOwner.TheVariants.{Part, Piece}

-- the holding of a lent part, as it was when it was lent
abbrev pub out_of : PartOwnerState → Option HoldingState
out_of part_owner_state = if part_owner_state.home then None else Some part_owner_state.holding

-- the lent holdings, by the numbers of their parts
abbrev pub outs_in : List RegionOwner → List (Option HoldingState)
outs_in owners = of_parts out_of owners

-- a part with this holding in place of its own, if its own is lent
abbrev pub with_out : PartOwnerState → HoldingState → PartOwnerState
with_out part_owner_state holding = record part_owner_state { holding = if part_owner_state.home then part_owner_state.holding else holding }

-- the owners with these holdings in the places of the lent ones, by the numbers of the parts
abbrev pub with_outs : List RegionOwner → List HoldingState → List RegionOwner
with_outs [] holdings = []
with_outs (Piece b ∷ owners) holdings = Piece b ∷ with_outs owners holdings
with_outs (Part part_owner_state ∷ owners) [] = Part part_owner_state ∷ with_outs owners []
with_outs (Part part_owner_state ∷ owners) (holding ∷ holdings) = Part (with_out part_owner_state holding) ∷ with_outs owners holdings
