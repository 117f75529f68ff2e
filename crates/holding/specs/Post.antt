-- Posting: the first cells in which a desk's net differs from the count over the rows are raised to agree.
use Rattle.std.specs.Prelude.{ℕ, ◌+◌, not, List, [], ◌∷◌, take, ℤ, pos, ◌-ℤ◌, if◌then◌else◌, Result, Ok, Err}
use Rattle.std.specs.List.{filter, range_with_len}
use Rattle.tatp_rows.specs.declared.refusal.Refusal.{Refusal}
use Rattle.tatp_rows.specs.declared.refusal.Refusal.TheVariants as refusal
use Rattle.tatp_actions.specs.declared.cells.TheConstants.{CELLS}
use Rattle.view_board.specs.Nets.{net_of}
use Rattle.view_board.specs.Views.{posted}
use Rattle.view_board.specs.Words.{is_worn}
use Rattle.view_board.specs.declared.rule.View.{View}
use Rattle.view_delta.specs.Pending.{is_zero}

-- the cells, ascending
unfoldable pub all_cells : List ℕ
all_cells = range_with_len 0 CELLS

-- by how much a count differs from what is published
abbrev pub gap : (ℕ → ℕ) → View → ℕ → ℤ
gap count view c = pos (count c) -ℤ net_of view c

-- the cells to post: the first `limit` of those with a gap, in ascending order
abbrev pub due : (ℕ → ℤ) → ℕ → List ℕ
due gaps limit = take limit (filter (λ c. not (is_zero (gaps c))) all_cells)

-- the gaps of cells are posted in a slot, each in one step, one cell after another, up to one whose word would wear;
-- the answer is how many were posted, and what the desk knows then
abbrev pub post_cells : (ℕ → ℤ) → ℕ → List ℕ → ℕ → View → Result ℕ Refusal × View
post_cells gaps slot [] done view = (Ok done, view)
post_cells gaps slot (c ∷ cells) done view =
    if is_worn view.numbers slot c (gaps c) then (Err refusal.Worn, view)
    else post_cells gaps slot cells (done + 1) (posted view slot c (gaps c))

-- posting in a slot up to this many cells
abbrev pub post : (ℕ → ℕ) → ℕ → ℕ → View → Result ℕ Refusal × View
post count slot limit view = post_cells (gap count view) slot (due (gap count view) limit) 0 view
