-- The desks of the parts, and the desk of the slots that no part has, and what they know of the words of the board.
use Rattle.std.specs.Prelude.{◌≡◌, ℕ, ◌<◌, ◌/◌, List, ◌∷◌, sum_by, if◌then◌else◌, slice_index, pos}
use Rattle.std.specs.List.{AllByRecursion, filter}
use Rattle.atomic_table.specs.Seated.{TableId}
use Rattle.tatp_actions.specs.declared.cells.TheConstants.{CELLS}
use Rattle.view_board.specs.Desks.{DeskState}
use Rattle.view_board.specs.Views.{owned_at, Owns, OwnsAlone, IsWide}
use Rattle.view_board.specs.Words.{each_word, plus_word, minus_word, slot_net, AreSmall}
use Rattle.view_board.specs.declared.words.TheConstants.{SLOTS, SLOT_WORDS}
use Rattle.holding.specs.Held.{HoldingState}
use Rattle.hlr_owners.specs.Words.{all_slots}

-- the desk of a holding
abbrev pub desk_of : HoldingState → DeskState
desk_of holding = holding.desk

-- a desk's number at a word of one of its slots, and 0 at any other word
abbrev pub own_number : ℕ → DeskState → ℕ
own_number w desk = if owned_at desk.view (w / SLOT_WORDS) then slice_index desk.view.numbers w else 0

-- the words of the board, each of which is the number that the desk of its slot keeps
abbrev pub words_of : List DeskState → List ℕ
words_of desks = each_word (λ w. sum_by (own_number w) desks)

-- the slots of a desk, ascending
abbrev pub slots_in : DeskState → List ℕ
slots_in desk = filter (owned_at desk.view) all_slots

-- 1 if the slot is the desk's, and 0 otherwise
abbrev pub owns_one : ℕ → DeskState → ℕ
owns_one slot desk = if owned_at desk.view slot then 1 else 0

-- a desk of a board
pub record IsOfBoard (board : TableId) (desk : DeskState) : Type 0 where
  pub same : desk.board ≡ board
  pub wide : IsWide desk.view

-- the desk of a part has one slot
abbrev pub HasOneSlot : DeskState → Type 0
HasOneSlot desk = (slot : ℕ) × OwnsAlone desk.view slot

-- each slot has one of the desks; each part has one slot, and each other slot has a net of 0 in each cell
pub record ShareSlots (spare : DeskState) (desks : List DeskState) : Type 0 where
  pub once : (slot : ℕ) → slot < SLOTS → sum_by (owns_one slot) (spare ∷ desks) ≡ 1
  pub alone : AllByRecursion HasOneSlot desks
  pub idle : (slot : ℕ) → Owns spare.view slot → (c : ℕ) → c < CELLS → slot_net spare.view.numbers c slot ≡ pos 0

-- the rules of all desks: they are the board's, and share its slots
pub record AreDesks (board : TableId) (spare : DeskState) (desks : List DeskState) : Type 0 where
  pub of_board : AllByRecursion (IsOfBoard board) (spare ∷ desks)
  pub shares : ShareSlots spare desks

-- the plus-word of a slot equals its minus-word in each cell
abbrev pub IsLevel : List ℕ → ℕ → Type 0
IsLevel words slot = (c : ℕ) → c < CELLS → slice_index words (plus_word slot c) ≡ slice_index words (minus_word slot c)

-- the plus-words of all slots equal their minus-words
abbrev pub AreLevel : List ℕ → Type 0
AreLevel words = (slot : ℕ) → slot < SLOTS → IsLevel words slot

-- words that a register may open with: none is past the limit, and each slot has a net of 0 in each cell
pub record AreOpening (words : List ℕ) : Type 0 where
  pub small : AreSmall words
  pub level : AreLevel words
