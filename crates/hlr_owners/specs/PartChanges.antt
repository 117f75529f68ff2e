-- Divides and dissolves: what they make of a store, and which owners are home.
use Rattle.std.specs.Prelude.{◌≡◌, ◌==◌, ◌≤◌, ◌+◌, not, ℕ, true, List, [], ◌∷◌, insert, remove, slice_get, slice_index, Option, Some, None, Result, Ok, Err}
use Rattle.std.specs.List.{list_any}
use Rattle.tatp_rows.specs.declared.refusal.Refusal.{Refusal}
use Rattle.part_table.specs.Dissolve.{dissolved}
use Rattle.part_table.specs.Divide.{divided}
use Rattle.part_table.specs.Least.{least}
use Rattle.view_board.specs.Desks.{DeskState, with_view}
use Rattle.view_board.specs.Views.{IsLeastSlot, both, taken_back, without}
use Rattle.view_board.specs.Words.{leveled}
use Rattle.view_board.specs.declared.words.TheConstants.{SLOTS}
use Rattle.holding.specs.Held.{HoldingState}
use Rattle.hlr_owners.specs.WhileOut.{MayBecome, store_with}
use Rattle.hlr_owners.specs.Out.{outs_in}
use Rattle.hlr_owners.specs.Post.{least_slot}
use Rattle.hlr_owners.specs.Owners.{OwnersState, desks_in, homes_in}
use Rattle.hlr_owners.specs.Store.{Store, slots_of}

-- the least slot that no part has
abbrev pub free_slot : List (List ℕ) → ℕ
free_slot slots = least (λ slot. not (list_any (λ own. list_any (λ s. s == slot) own) slots)) 0 SLOTS

-- what a divide leaves: the regions, in which that of the part is cut in two, and the new part with the least slot that
-- no part had; a refusal changes nothing
abbrev pub IsDivided : ℕ → ℕ → Result (ℕ × ℕ × ℕ) Refusal → Store → Store → Type 0
IsDivided part at (Err why) before after = after ≡ before
IsDivided part at (Ok new) before after =
    after ≡ record before { regions = divided part at before.regions; slots = insert before.slots (part + 1) (free_slot before.slots ∷ []) }

-- the words after what a part has published is taken back, if there is such a part: in its slot, the lower one of each
-- cell's two words is raised to the higher one
abbrev pub words_back : Option (List ℕ) → List ℕ → List ℕ
words_back None words = words
words_back (Some slots) words = leveled (least_slot slots) words

-- what a dissolve leaves: the regions, in which that of the part is joined to the one in front, and the words without
-- what the part had published; no part has its slot then, and at least as much was seen of each word. A refusal changes
-- nothing
abbrev pub IsDissolved : ℕ → Result (ℕ × ℕ × ℕ) Refusal → Store → Store → Type 0
IsDissolved part (Err why) before after = after ≡ before
IsDissolved part (Ok front) before after =
    (after ≡ record before {
      regions = dissolved part before.regions;
      words = words_back (slots_of before part) before.words;
      slots = remove before.slots part;
      sight = after.sight;
    }) × ((w : ℕ) → slice_index before.sight w ≤ slice_index after.sight w)

-- the owners after a divide: those that were home or lent still are, there is a new part behind one, and the desk of
-- the free slots gave up its least slot
pub record IsWithNew (part : ℕ) (before after : OwnersState) : Type 0 where
  pub homes : homes_in after.owners ≡ insert (homes_in before.owners) (part + 1) true
  pub outs : outs_in after.owners ≡ insert (outs_in before.owners) (part + 1) None
  pub slot : ℕ
  pub least : IsLeastSlot before.spare.view slot
  pub spare : after.spare ≡ with_view before.spare (without before.spare.view slot)
  pub width : after.width ≡ before.width

-- the owners after a dissolve: a part is gone, and the desk of the free slots took in the part's desk, which had taken
-- back what it had published
pub record IsWithout (part : ℕ) (before after : OwnersState) : Type 0 where
  pub homes : homes_in after.owners ≡ remove (homes_in before.owners) part
  pub outs : outs_in after.owners ≡ remove (outs_in before.owners) part
  pub gone : DeskState
  pub there : slice_get (desks_in before.owners) part ≡ Some gone
  pub slot : ℕ
  pub least : IsLeastSlot gone.view slot
  pub spare : after.spare ≡ with_view before.spare (both before.spare.view (taken_back gone.view slot))
  pub seen : (w : ℕ) → slice_index before.spare.view.seen w ≤ slice_index after.spare.view.seen w
  pub width : after.width ≡ before.width

-- which owners are home, and which are lent, after a divide; a refusal changes nothing
abbrev pub AreHomesDivided : ℕ → Result (ℕ × ℕ × ℕ) Refusal → OwnersState → OwnersState → Type 0
AreHomesDivided part (Err why) before after = after ≡ before
AreHomesDivided part (Ok new) before after = IsWithNew part before after

-- which owners are home, and which are lent, after a dissolve
abbrev pub AreHomesDissolved : ℕ → Result (ℕ × ℕ × ℕ) Refusal → OwnersState → OwnersState → Type 0
AreHomesDissolved part (Err why) before after = after ≡ before
AreHomesDissolved part (Ok front) before after = IsWithout part before after

-- a divide is right for the stores, no matter what the lent holdings have become
abbrev pub IsDividedWhileOut : ℕ → ℕ → Result (ℕ × ℕ × ℕ) Refusal → OwnersState → OwnersState → Type 0
IsDividedWhileOut part at done before after =
    (holdings : List HoldingState) → MayBecome before.owners holdings → IsDivided part at done (store_with before holdings) (store_with after holdings)

-- a dissolve is right for the stores, no matter what the lent holdings have become
abbrev pub IsDissolvedWhileOut : ℕ → Result (ℕ × ℕ × ℕ) Refusal → OwnersState → OwnersState → Type 0
IsDissolvedWhileOut part done before after =
    (holdings : List HoldingState) → MayBecome before.owners holdings → IsDissolved part done (store_with before holdings) (store_with after holdings)
