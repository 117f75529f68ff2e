-- No public clause cites this.
use Rattle.std.specs.Prelude.{◌≡◌, ◌≢◌, ◌≤◌, ℕ, Bool, true, false, List, length, Some, None, Result, Ok}
use Rattle.std.proofs.Common.{refl}
use Rattle.tatp_actions.specs.Book.{Book}
use Rattle.hlr_owners.specs.Owners.{book_in}
use Rattle.hlr_core.specs.declared.event.Event.{Event}
use Rattle.edit_lines.specs.Reading.{event_of, first_checked}
use Rattle.edit_lines.specs.declared.error.LineError.{LineError}
use Rattle.edit_lines.proofs.LengthLemmas.{IsUnread, long_not_first, long_unread}
use Rattle.hlr_kept.specs.Rows.{HasOtherRows, book_after_line, book_after_read}
use Rattle.hlr_kept.specs.declared.opening.Restored.{Restored}

-- a line may lead from one register to another: the first line leaves it, and the others change its rows
abbrev pub Leads : Bool → List ℕ → Restored → Restored → Type 0
Leads false line before after = (first_checked line ≡ Ok tt) × (after.register ≡ before.register)
Leads true line before after =
    (book_after_line line (Some (book_in before.register.owners)) ≡ Some (book_in after.register.owners))
    × HasOtherRows before.register after.register

-- the same, with the first line read by then
abbrev pub Restores : List ℕ → Restored → Restored → Type 0
Restores line before after = (after.is_begun ≡ true) × Leads before.is_begun line before after

-- a line can't be done: it isn't the first line that is wanted, or it has no event that is answered Done
abbrev pub LeadsNowhere : Bool → List ℕ → Restored → Type 0
LeadsNowhere false line before = first_checked line ≢ Ok tt
LeadsNowhere true line before = book_after_line line (Some (book_in before.register.owners)) ≡ None

-- the same, by whether the first line was read
abbrev pub IsBadFor : List ℕ → Restored → Type 0
IsBadFor line before = LeadsNowhere before.is_begun line before

-- a line that has no event leads nowhere
unread_nowhere : (book : Book) (read : Result Event LineError) → IsUnread read → book_after_read read book ≡ None
unread_nowhere book read unread = rw unread.1 refl

-- a line of 44 bytes or more leads nowhere
long_nowhere : (begun : Bool) (line : List ℕ) (at : Restored) → 44 ≤ length line → LeadsNowhere begun line at
long_nowhere false line at long = long_not_first line long
long_nowhere true line at long = unread_nowhere (book_in at.register.owners) (event_of line) (long_unread line long)

-- so it is bad for each register
pub long_is_bad : (line : List ℕ) (at : Restored) → 44 ≤ length line → IsBadFor line at
long_is_bad line at long = long_nowhere at.is_begun line at long
