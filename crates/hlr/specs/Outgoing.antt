-- What a line and a sink have together, and a text that is added to it: no public clause cites these.
use Rattle.std.specs.Prelude.{◌≡◌, ◌++◌, Bool, true, ℕ, List, Option, Result, Ok, Err}
use Rattle.std.specs.Io.KnownBytes.{Appends}
use Rattle.hlr.specs.Sink.{AppendsFront}
use Rattle.hlr.specs.declared.sink.Stalled.{Stalled}

-- the bytes of a line, and those that a sink took
pub record Outgoing : Type 0 where
  pub line : List ℕ
  pub taken : Option (List ℕ)

-- the same, of both
abbrev pub outgoing : List ℕ → Option (List ℕ) → Outgoing
outgoing line taken = record { line = line; taken = taken }

-- a text is added behind a line, and the sink took a front of both, and the rest is the line
pub record AddsWhole (text : List ℕ) (old new : Outgoing) : Type 0 where
  pub put : List ℕ
  pub grew : Appends old.taken new.taken put
  pub all : put ++ new.line ≡ old.line ++ text

-- a text is to be added behind a line, and the sink took a front of both
abbrev pub AddsFront : List ℕ → Outgoing → Outgoing → Type 0
AddsFront text old new = AppendsFront old.taken new.taken (old.line ++ text)

-- a text is added behind a line, or the sink told of a fault
abbrev pub Adds : List ℕ → Outgoing → Outgoing → Bool → Result (Unit {0}) Stalled → Type 0
Adds text old new stalled (Ok done) = AddsWhole text old new
Adds text old new stalled (Err why) = AddsFront text old new × (stalled ≡ true)
