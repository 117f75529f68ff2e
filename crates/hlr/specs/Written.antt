-- What a line has so far.
use Rattle.std.specs.Prelude.{ℕ, ◌≤◌, List, length}
use Rattle.hlr.specs.declared.lines.TheConstants.{LINE_LIMIT}

-- the bytes that a line has so far
pub record Written : Type 0 where
  pub items : List ℕ

-- a line of these bytes may be built on
abbrev pub HasRoom : List ℕ → Type 0
HasRoom items = length items ≤ LINE_LIMIT
