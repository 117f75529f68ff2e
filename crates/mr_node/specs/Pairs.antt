-- Two neighbours: how they become one node, or two half full ones.
use Rattle.std.specs.Prelude.{◌≡◌, ℕ, ◌+◌, ◌<◌, ◌≤◌, Bool, true, false, ◌++◌}
use Rattle.mr_node.specs.Rows.{Seen}
use Rattle.mr_node.specs.Levels.{IsWell}

-- the widths of two neighbours that are evened out: the left one has all, or both have 16 or more, and 33 together
-- (no public clause cites it)
abbrev pub AreEvenWidths : Bool → ℕ → ℕ → Type 0
AreEvenWidths true c d = (c ≤ 32) × (d ≡ 0)
AreEvenWidths false c d = (16 ≤ c) × (c ≤ 32) × (16 ≤ d) × (d ≤ 32) × (32 < c + d)

-- how many of two neighbours' entries the first one may get: all, or so many that both are half full
-- (no public clause cites it)
pub record IsShare (both low : ℕ) : Type 0 where
  pub fits : low ≤ 32
  pub within : low ≤ both
  pub rest : both ≤ low + 32
  pub half : low < both → (16 ≤ low) × (low + 16 ≤ both) × (32 < both)

-- the node of a child at height h
pub record IsChildNode {V : Type 0} (h : ℕ) (s : Seen V) : Type 0 where
  pub level : s.height ≡ h
  pub enough : 16 ≤ s.width
  pub well : IsWell s

-- two neighbours made into one node, which has all of their own
pub record IsJoined {V : Type 0} (a b x : Seen V) : Type 0 where
  pub level : x.height ≡ a.height
  pub width : x.width ≡ a.width + b.width
  pub well : IsWell x
  pub rows : x.rows ≡ a.rows ++ b.rows

-- two neighbours that are too wide for one node, made into two half full ones
pub record ArePaired {V : Type 0} (a b x y : Seen V) : Type 0 where
  pub low : IsChildNode a.height x
  pub high : IsChildNode a.height y
  pub width : x.width + y.width ≡ a.width + b.width
  pub rows : x.rows ++ y.rows ≡ a.rows ++ b.rows
  pub many : 32 < a.width + b.width

-- two neighbours evened out: the first has all rows, or both are half full
abbrev pub AreEvened : {V : Type 0} → Bool → Seen V → Seen V → Seen V → Seen V → Type 0
AreEvened true a b x y = IsJoined a b x
AreEvened false a b x y = ArePaired a b x y

-- a full node made into two half full ones (no public clause cites it)
pub record IsHalved {V : Type 0} (a x y : Seen V) : Type 0 where
  pub low : IsChildNode a.height x
  pub high : IsChildNode a.height y
  pub rows : x.rows ++ y.rows ≡ a.rows
  pub low_width : x.width ≡ 16
  pub high_width : y.width ≡ 16
