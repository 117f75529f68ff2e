-- What went through the ring of a part that went home.
use Rattle.std.specs.Prelude.{◌++◌}
use Rattle.hlr_lent.proofs.Common.{◌≡◌, refl, List, [], ◌∷◌, Option, Some, None, HoldingState, Message, lent_as}
use Rattle.hlr_lent.specs.Sent.{gone_home}
use Rattle.hlr_lent.specs.declared.ring.Message.TheVariants.{Lent, Home}

-- the holding that a message takes home
abbrev pub taken_home : Message → Option HoldingState
taken_home (Home holding) = Some holding.value
taken_home (Lent snapshot) = None

-- what is sent behind how the holding was lent is what went home
pub sent_behind : (past : List Message) (lent : HoldingState) → lent_as past ≡ Some lent → (message : Message) → gone_home (past ++ message ∷ []) ≡ taken_home message
sent_behind [] lent is message = absurd cc
sent_behind (Lent snapshot ∷ []) lent is (Home holding) = refl
sent_behind (Lent snapshot ∷ []) lent is (Lent other) = refl
sent_behind (Lent snapshot ∷ (next ∷ rest)) lent is message = absurd cc
sent_behind (Home holding ∷ rest) lent is message = absurd cc
