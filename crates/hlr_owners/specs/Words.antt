-- The words of the board as lists of slots see them. In which words a slot is, view_board defines.
use Rattle.std.specs.Prelude.{ℕ, List, [], ◌∷◌, replicate, ℤ, pos, ◌+ℤ◌}
use Rattle.std.specs.List.{range_with_len}
use Rattle.view_board.specs.Words.{slot_net}
use Rattle.view_board.specs.declared.words.TheConstants.{SLOTS, WORDS}

-- all words at 0
unfoldable pub blank_words : List ℕ
blank_words = replicate WORDS 0

-- the net of some slots in a cell: the sum of their nets
abbrev pub net : List ℕ → List ℕ → ℕ → ℤ
net words [] c = pos 0
net words (slot ∷ slots) c = slot_net words c slot +ℤ net words slots c

-- all slots
unfoldable pub all_slots : List ℕ
all_slots = range_with_len 0 SLOTS
