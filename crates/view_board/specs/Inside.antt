-- What calls inside the crate promise each other; no public clause cites it.
use Rattle.std.specs.Prelude.{ℕ, ◌*◌, ◌^◌, ◌<◌, List, slice_index, slice_index_or, ℤ, pos, neg_ℤ, ◌-ℤ◌, ◌≤ℤ◌}
use Rattle.view_board.specs.declared.words.TheConstants.{CELLS}
use Rattle.view_board.specs.Words.{plus_word, minus_word}

-- sums over this many slots fit: none is past 2^64 for each slot, either way
pub record AreWithin (slots : ℕ) (sums : List ℤ) : Type 0 where
  pub low : (c : ℕ) → c < CELLS → neg_ℤ (pos (slots * 2 ^ 64)) ≤ℤ slice_index_or sums c (pos 0)
  pub high : (c : ℕ) → c < CELLS → slice_index_or sums c (pos 0) ≤ℤ pos (slots * 2 ^ 64)

-- the amount that levels the two words of a cell in a slot: positive where the plus-word is the lower, negative where
-- the minus-word is
abbrev pub wanting : List ℕ → ℕ → ℕ → ℤ
wanting words slot cell = pos (slice_index words (minus_word slot cell)) -ℤ pos (slice_index words (plus_word slot cell))
