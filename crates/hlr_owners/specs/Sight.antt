-- A right sight of a register's words.
use Rattle.std.specs.Prelude.{◌≡◌, ◌==◌, ℕ, ◌/◌, ◌<◌, ◌≤◌, false, List, length, slice_index}
use Rattle.std.specs.List.{AllByRecursion, list_any}
use Rattle.view_board.specs.declared.words.TheConstants.{SLOT_WORDS, WORDS, LIMIT}
use Rattle.hlr_owners.specs.Store.{Store}

-- no part has the slot
abbrev pub IsSpare : Store → ℕ → Type 0
IsSpare store slot = AllByRecursion (λ slots. list_any (λ own. own == slot) slots ≡ false) store.slots

-- the words as a look may find them: those of slots that no part has are exact, each other one is at least what had
-- been seen of it, and none passes the limit
pub record IsSightOf (store : Store) (words : List ℕ) : Type 0 where
  pub wide : length words ≡ WORDS
  pub own : (w : ℕ) → w < WORDS → IsSpare store (w / SLOT_WORDS) → slice_index words w ≡ slice_index store.words w
  pub later : (w : ℕ) → slice_index store.sight w ≤ slice_index words w
  pub small : (w : ℕ) → slice_index words w ≤ LIMIT
