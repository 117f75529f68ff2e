-- The rules of a whole tree.
use Rattle.std.specs.Prelude.{◌≡◌, ℕ, ◌+◌, ◌*◌, ◌^◌, ◌<◌, ◌≤◌, List, None, is_some, if◌then◌else◌, Result, Ok, Err}
use Rattle.tatp_rows.specs.Ordered.{row_at, with_row}
use Rattle.tatp_rows.specs.declared.refusal.Back.{Back}
use Rattle.tatp_rows.specs.declared.refusal.Refusal.TheVariants.{Exists, Memory}
use Rattle.mr_node.specs.Rows.{Seen, key_of_pair}
use Rattle.mr_node.specs.Levels.{IsWell}

-- the root meets the rules of a node, and has two children at least where it has any
pub record IsRoot {V : Type 0} (s : Seen V) : Type 0 where
  pub well : IsWell s
  pub two : 0 < s.height → 2 ≤ s.width

-- a height and a number of rows that belong together
pub record IsHeightOf (height count : ℕ) : Type 0 where
  pub low : 0 < height → 2 * 16 ^ height ≤ count
  pub high : count ≤ 32 ^ (height + 1)

-- what an insertion answers: the row is in, or its key is there, or memory was refused; refused, nothing changed
abbrev pub IsInserted : {V : Type 0} → ℕ → V → List (ℕ × V) → List (ℕ × V) → Result (Unit {0}) (Back V) → Type 0
IsInserted key value old new (Ok u) = (row_at key_of_pair key old ≡ None) × (new ≡ with_row key_of_pair (key, value) old)
IsInserted key value old new (Err back) =
    (back.item ≡ value) × (new ≡ old) × (back.why ≡ (if is_some (row_at key_of_pair key old) then Exists else Memory))
