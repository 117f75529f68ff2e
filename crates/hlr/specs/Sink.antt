-- What is said of a sink and of the bytes that it took.
use Rattle.std.specs.Prelude.{◌≡◌, ◌++◌, ◌==◌, ◌&&◌, not, Bool, true, false, ℕ, List, length, Option, Result, Ok, Err}
use Rattle.std.specs.Io.KnownBytes.{Appends}
use Rattle.hlr.specs.declared.sink.PutFault.{PutFault}
use Rattle.hlr.specs.declared.sink.Stalled.{Stalled}

-- a put failed, or took 0 bytes of a piece that has some
abbrev pub stalls : Result ℕ PutFault → List ℕ → Bool
stalls (Ok n) piece = (n == 0) && not (length piece == 0)
stalls (Err fault) piece = true

-- a put took bytes
abbrev pub takes : Result ℕ PutFault → Bool
takes (Ok n) = not (n == 0)
takes (Err fault) = false

-- a whole begins with its front
pub record Begins (front whole : List ℕ) : Type 0 where
  pub rest : List ℕ
  pub whole_is : whole ≡ front ++ rest

-- known bytes grow by a front of the whole
pub record AppendsFront (old new : Option (List ℕ)) (whole : List ℕ) : Type 0 where
  pub front : List ℕ
  pub begins : Begins front whole
  pub grew : Appends old new front

-- a text is put: the sink took all of it, or a front of it and then told of a fault
abbrev pub Puts : List ℕ → Option (List ℕ) → Option (List ℕ) → Bool → Result (Unit {0}) Stalled → Type 0
Puts text old new stalled (Ok done) = Appends old new text
Puts text old new stalled (Err why) = AppendsFront old new text × (stalled ≡ true)
