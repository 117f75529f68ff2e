-- What boxes contain.
use Rattle.std.specs.Prelude.{List, map, Box}
use Rattle.std.specs.declared.alloc.Global.{Global}

-- what boxes contain
abbrev pub unboxed : {X : Type 0} → List (Box X Global) → List X
unboxed boxes = map (λ b. b.value) boxes
