-- The entries of a leaf round the place of a key: no clause of a public call cites these.
use Rattle.std.specs.Prelude.{◌≡◌, ℕ, ◌+◌, ◌<◌, ◌≤◌, take, drop, length, slice_index_or}
use Rattle.mr_node.specs.declared.body.Leaf.{Leaf}
use Rattle.mr_node.specs.Rows.{KeysBelow, KeysFrom}
use Rattle.mr_node.specs.Levels.{pairs_of}

-- the key stands at this place of the leaf
pub record IsThere {V : Type 0} (key place : ℕ) (leaf : Leaf V) : Type 0 where
  pub within : place < length leaf.values.items
  pub same : slice_index_or leaf.keys place 0 ≡ key

-- the key stands nowhere in the leaf, and would stand at this place
pub record IsFree {V : Type 0} (key place : ℕ) (leaf : Leaf V) : Type 0 where
  pub within : place ≤ length leaf.values.items
  pub below : KeysBelow key (take place (pairs_of leaf))
  pub above : KeysFrom (key + 1) (drop place (pairs_of leaf))
