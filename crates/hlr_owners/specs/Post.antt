-- Posting: the first cells in which a part's net differs from the count over its rows are raised to agree.
use Rattle.std.specs.Prelude.{ℕ, ◌+◌, min, List, [], ◌∷◌, ℤ, pos, ◌-ℤ◌, if◌then◌else◌, Result, Ok, Err}
use Rattle.tatp_rows.specs.declared.refusal.Refusal.{Refusal}
use Rattle.tatp_rows.specs.declared.refusal.Refusal.TheVariants as refusal
use Rattle.view_board.specs.Words.{is_worn, raised_by}
use Rattle.view_board.specs.declared.words.TheConstants.{SLOTS}
pub use Rattle.view_delta.specs.Pending.{is_zero}
use Rattle.holding.specs.Post.{due}
use Rattle.hlr_owners.specs.Words.{net}

-- the least of a part's slots, of which each part has exactly one; of none, a number that is no slot
abbrev pub least_slot : List ℕ → ℕ
least_slot [] = SLOTS
least_slot (slot ∷ slots) = min slot (least_slot slots)

-- the words of a slot are raised by the gaps of cells, one after another, up to one that would pass its limit; this
-- gives how many were raised, and the words then
abbrev pub raise_cells : (ℕ → ℤ) → ℕ → List ℕ → ℕ → List ℕ → Result ℕ Refusal × List ℕ
raise_cells gaps slot [] done words = (Ok done, words)
raise_cells gaps slot (c ∷ cells) done words =
    if is_worn words slot c (gaps c) then (Err refusal.Worn, words)
    else raise_cells gaps slot cells (done + 1) (raised_by words slot c (gaps c))

-- posting a part with these slots, of which it raises the least
abbrev pub post : (ℕ → ℕ) → List ℕ → ℕ → List ℕ → Result ℕ Refusal × List ℕ
post count slots limit words =
    let gap = λ (c : ℕ). pos (count c) -ℤ net words slots c in
    raise_cells gap (least_slot slots) (due gap limit) 0 words
