-- What goes through the ring of a lent part, and the rings from which a register takes parts in.
use Rattle.std.specs.Prelude.{◌≡◌, ℕ, List, [], ◌∷◌, Option, Some, None, slice_index_or, ⊤}
use Rattle.std.specs.declared.alloc.Global.{Global}
use Rattle.rtrb.specs.Ring.{received}
use Rattle.rtrb.specs.declared.consumer.Consumer.{Consumer}
use Rattle.holding.specs.Held.{HoldingState}
use Rattle.hlr_lent.specs.declared.ring.Message.{Message}
use Rattle.hlr_lent.specs.declared.ring.Message.TheVariants.{Lent, Home}
use Rattle.hlr_lent.specs.declared.ring.ReturnRule.{ReturnRule}
use Rattle.hlr_lent.specs.Jobs.{IsWorked}

-- the holding as it was lent, if this and nothing else has gone through the ring
abbrev pub lent_as : List Message → Option HoldingState
lent_as [] = None
lent_as (Lent snapshot ∷ []) = Some snapshot.value
lent_as (Lent snapshot ∷ (next ∷ rest)) = None
lent_as (Home holding ∷ rest) = None

-- a holding may come home through the ring: it is what jobs have made of the one that was lent
abbrev pub MayComeHome : List Message → HoldingState → Type 0
MayComeHome past holding = (lent : HoldingState) × (lent_as past ≡ Some lent) × IsWorked lent holding

-- the rule of a ring: first it gets the state of the holding that is lent, and then a holding that may come home
abbrev pub MayFollow : List Message → Message → Type 0
MayFollow past (Lent snapshot) = past ≡ []
MayFollow past (Home holding) = MayComeHome past holding.value

-- a lent part has a ring, through which the state of its holding was sent as it was lent, and a part that is home has
-- none
abbrev pub HasRing : Option HoldingState → Option (Consumer Message Global ReturnRule) → Type 0
HasRing None None = ⊤
HasRing None (Some ring) = ⊥
HasRing (Some lent) None = ⊥
HasRing (Some lent) (Some ring) = lent_as (received ring) ≡ Some lent

-- each part has its ring or none in this way, by its number
abbrev pub HaveRings : List (Option HoldingState) → List (Option (Consumer Message Global ReturnRule)) → Type 0
HaveRings outs rings = (part : ℕ) → HasRing (slice_index_or outs part None) (slice_index_or rings part None)
