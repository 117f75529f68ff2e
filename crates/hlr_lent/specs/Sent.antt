-- What is left of a part that went home: it says which holding was sent.
use Rattle.std.specs.Prelude.{List, [], ◌∷◌, Option, Some, None}
use Rattle.rtrb.specs.Ring.{sent}
use Rattle.holding.specs.Held.{HoldingState}
use Rattle.hlr_lent.specs.declared.lent_part.Sent.{Sent}
use Rattle.hlr_lent.specs.declared.ring.Message.{Message}
use Rattle.hlr_lent.specs.declared.ring.Message.TheVariants.{Lent, Home}

-- the holding that went home, if it was lent first and nothing else has gone through the ring
abbrev pub gone_home : List Message → Option HoldingState
gone_home (Lent snapshot ∷ (Home holding ∷ [])) = Some holding.value
gone_home _ = None

-- the holding that a part sent home
abbrev pub holding_sent : Sent → Option HoldingState
holding_sent left = gone_home (sent left.ring)
