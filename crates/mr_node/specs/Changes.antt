-- What a removal, and a new or collapsed root, make of a node.
use Rattle.std.specs.Prelude.{◌≡◌, ℕ, ◌+◌, ◌<◌, ◌≤◌}
use Rattle.tatp_rows.specs.Ordered.{without_row}
use Rattle.mr_node.specs.Rows.{Seen, key_of_pair}
use Rattle.mr_node.specs.Levels.{IsWell}

-- the node without a row, at the same height
pub record IsShrunk {V : Type 0} (key : ℕ) (old new : Seen V) : Type 0 where
  pub rows : new.rows ≡ without_row key_of_pair key old.rows
  pub level : new.height ≡ old.height
  pub width : old.width ≤ new.width + 1
  pub well : IsWell new

-- the same rows under a new root of two children
pub record HasNewRoot {V : Type 0} (old new : Seen V) : Type 0 where
  pub rows : new.rows ≡ old.rows
  pub height : new.height ≡ old.height + 1
  pub width : new.width ≡ 2
  pub well : IsWell new

-- the same rows without an inner root of one child
pub record IsLowered {V : Type 0} (old new : Seen V) : Type 0 where
  pub rows : new.rows ≡ old.rows
  pub well : IsWell new
  pub two : 0 < new.height → 2 ≤ new.width
