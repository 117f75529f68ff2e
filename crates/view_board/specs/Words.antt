-- The words of the board: 16 slots, each with a plus-word and a minus-word for each cell.
use Rattle.std.specs.Prelude.{ℕ, zero, suc, ◌+◌, ◌-◌, ◌*◌, ◌/◌, ◌%◌, ◌<◌, ◌≤◌, ◌==◌, max, not, nat_lt, List, map, count_by, Bool, if◌then◌else◌, slice_index, slice_set, ℤ, pos, negsuc, ◌-ℤ◌}
use Rattle.std.specs.Int.RustNames.{unsigned_abs}
use Rattle.std.specs.List.{range_with_len}
use Rattle.view_board.specs.declared.words.TheConstants.{SLOTS, CELLS, SLOT_WORDS, WORDS, LIMIT}

-- the place of a slot's plus-word of a cell
abbrev pub plus_word : ℕ → ℕ → ℕ
plus_word slot cell = slot * SLOT_WORDS + cell

-- the place of a slot's minus-word of a cell
abbrev pub minus_word : ℕ → ℕ → ℕ
minus_word slot cell = slot * SLOT_WORDS + CELLS + cell

-- the word that an amount raises in a slot and cell: the plus-word, or for a negative amount the minus-word
abbrev pub word_of : ℕ → ℕ → ℤ → ℕ
word_of slot cell (pos n) = plus_word slot cell
word_of slot cell (negsuc n) = minus_word slot cell

-- the words after an amount is posted in a slot and cell
abbrev pub raised_by : List ℕ → ℕ → ℕ → ℤ → List ℕ
raised_by words slot cell amount =
    slice_set words (word_of slot cell amount) (slice_index words (word_of slot cell amount) + unsigned_abs amount)

-- in how many steps an amount raises its word: in one, and an amount of 0 in none
abbrev pub raises_of : ℤ → ℕ
raises_of (pos zero) = 0
raises_of (pos (suc n)) = 1
raises_of (negsuc n) = 1

-- an amount would carry its word past the limit
abbrev pub is_worn : List ℕ → ℕ → ℕ → ℤ → Bool
is_worn words slot cell amount = nat_lt LIMIT (slice_index words (word_of slot cell amount) + unsigned_abs amount)

-- the net of a slot in a cell: its plus-word less its minus-word
abbrev pub slot_net : List ℕ → ℕ → ℕ → ℤ
slot_net words cell slot = pos (slice_index words (plus_word slot cell)) -ℤ pos (slice_index words (minus_word slot cell))

-- a number for each word
unfoldable pub each_word : (ℕ → ℕ) → List ℕ
each_word number = map number (range_with_len 0 WORDS)

-- a flag for each slot
unfoldable pub each_slot : (ℕ → Bool) → List Bool
each_slot flag = map flag (range_with_len 0 SLOTS)

-- no word passes the limit
abbrev pub AreSmall : List ℕ → Type 0
AreSmall words = (w : ℕ) → slice_index words w ≤ LIMIT

-- some word passes the limit
abbrev pub HasGreat : List ℕ → Type 0
HasGreat words = (w : ℕ) × (LIMIT < slice_index words w)

-- the other word of a word's cell in the same slot: the minus-word of a plus-word, and the other way round
abbrev pub twin_of : ℕ → ℕ
twin_of w = if nat_lt (w % SLOT_WORDS) CELLS then w + CELLS else w - CELLS

-- the words where in a slot the lower of each cell's two words is raised to the higher
abbrev pub leveled : ℕ → List ℕ → List ℕ
leveled slot words =
    each_word (λ w. if w / SLOT_WORDS == slot then max (slice_index words w) (slice_index words (twin_of w)) else slice_index words w)

-- in how many cells of a slot the two words differ
unfoldable pub uneven_cells : ℕ → List ℕ → ℕ
uneven_cells slot words =
    count_by (λ c. not (slice_index words (plus_word slot c) == slice_index words (minus_word slot c))) (range_with_len 0 CELLS)
