-- A tree that is cut at a key, and trees that may be joined.
use Rattle.std.specs.Prelude.{◌≡◌, ℕ, ◌+◌, ◌<◌, ◌≤◌, List, ◌++◌}
use Rattle.tatp_rows.specs.Spans.{keys_below, keys_from}
use Rattle.mr_node.specs.Rows.{Seen, key_of_pair, KeysBelow, KeysFrom}
use Rattle.mr_node.specs.Levels.{NodeInner, children_of, rows_of}
use Rattle.mr_subtree.specs.Trees.{IsRoot}

-- the rows with keys below the key
abbrev pub rows_below : {V : Type 0} → ℕ → List (ℕ × V) → List (ℕ × V)
rows_below key rows = keys_below key_of_pair key rows

-- the rows with keys from the key on
abbrev pub rows_from : {V : Type 0} → ℕ → List (ℕ × V) → List (ℕ × V)
rows_from key rows = keys_from key_of_pair key rows

-- there is a key that parts the low rows from the high ones
abbrev pub AreApart : {V : Type 0} → List (ℕ × V) → List (ℕ × V) → Type 0
AreApart low high = (key : ℕ) × (KeysBelow key low) × (KeysFrom key high)

-- two roots that a node was cut into at a key: the rows in front of the key and those from it on, no higher than the
-- node (no public clause cites it)
pub record IsCut {V : Type 0} (key : ℕ) (whole low high : Seen V) : Type 0 where
  pub low_root : IsRoot low
  pub high_root : IsRoot high
  pub rows : low.rows ++ high.rows ≡ whole.rows
  pub below : KeysBelow key low.rows
  pub from : KeysFrom key high.rows
  pub low_height : low.height ≤ whole.height
  pub high_height : high.height ≤ whole.height

-- a root over some children of a node of this height, which has room where it is as high (no public clause cites it)
pub record IsSideRoot {V : Type 0} (height : ℕ) (s : Seen V) : Type 0 where
  pub root : IsRoot s
  pub low : s.height ≤ height
  pub room : s.height ≡ height → s.width < 32

-- an inner node divided at the child to which a key belongs (no public clause cites it)
pub record IsDividedNode {V : Type 0} (key : ℕ) (b : NodeInner V) (left mid right : Seen V) : Type 0 where
  pub front : IsSideRoot b.height left
  pub back : IsSideRoot b.height right
  pub level : mid.height + 1 ≡ b.height
  pub rows : left.rows ++ (mid.rows ++ right.rows) ≡ rows_of (children_of b)
  pub below : KeysBelow key left.rows
  pub from : KeysFrom key right.rows
