-- Where a search among the keys of a node stops: no clause of a public call cites these.
use Rattle.std.specs.Prelude.{ℕ, ◌-◌, ◌<◌, ◌≤◌, List, length, slice_index_or}

-- no key is less than one in front of it
abbrev pub IsRising : List ℕ → Type 0
IsRising keys = (i j : ℕ) → i ≤ j → j < length keys → slice_index_or keys i 0 ≤ slice_index_or keys j 0

-- the key in front of a place is less than this one, and the one there is not
pub record IsStop (key place : ℕ) (keys : List ℕ) : Type 0 where
  pub within : place ≤ length keys
  pub before : 0 < place → slice_index_or keys (place - 1) 0 < key
  pub here : place < length keys → key ≤ slice_index_or keys place 0
