-- What an insertion makes of a node.
use Rattle.std.specs.Prelude.{◌≡◌, ℕ, ◌≤◌, Bool, true, false, length, None, IsSome}
use Rattle.tatp_rows.specs.Ordered.{row_at, with_row}
use Rattle.mr_node.specs.declared.room.Room.{Room}
use Rattle.mr_node.specs.declared.room.Room.TheVariants.{Done, Exists, Full}
use Rattle.mr_node.specs.Rows.{Seen, key_of_pair}
use Rattle.mr_node.specs.Levels.{IsWell}

-- the node has one row more, at its place, at the same height
pub record IsGrown {V : Type 0} (key : ℕ) (value : V) (old new : Seen V) : Type 0 where
  pub rows : new.rows ≡ with_row key_of_pair (key, value) old.rows
  pub level : new.height ≡ old.height
  pub width : old.width ≤ new.width
  pub well : IsWell new

-- the answer of an insertion that takes no memory: the row went in, or the key is there, or the leaf is full, and so
-- has 32 rows
abbrev pub IsRoomAnswer : {V : Type 0} → ℕ → V → Seen V → Seen V → Room → Type 0
IsRoomAnswer key value old new Done = (row_at key_of_pair key old.rows ≡ None) × IsGrown key value old new
IsRoomAnswer key value old new Exists = IsSome (row_at key_of_pair key old.rows) × (new ≡ old)
IsRoomAnswer key value old new Full = (row_at key_of_pair key old.rows ≡ None) × (new ≡ old) × (32 ≤ length old.rows)

-- the row went in
abbrev pub is_done : Room → Bool
is_done Done = true
is_done Exists = false
is_done Full = false
