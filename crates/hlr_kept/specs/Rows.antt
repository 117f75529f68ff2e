-- The rows that a journal stands for. Its first line names the format, and each other line is that of an event which is
-- answered Done where its turn comes.
use Rattle.std.specs.Prelude.{◌≡◌, ◌⊎◌, ◌<◌, ◌≤◌, ◌+◌, ◌^◌, ⊤, ℕ, List, [], ◌∷◌, length, Option, Some, None, Result, Ok, Err, if◌then◌else◌}
use Rattle.tatp_rows.specs.declared.refusal.Refusal.{Refusal}
use Rattle.tatp_actions.specs.Book.{Book, empty_book}
use Rattle.tatp_actions.specs.declared.action.Action.{Action}
use Rattle.tatp_actions.specs.declared.action.RowReply.{RowReply}
use Rattle.hlr_owners.specs.Owners.{OwnersState, book_in, store_in}
use Rattle.hlr_core.specs.Step.{action_for, is_done, whole_effect}
use Rattle.hlr_core.specs.declared.event.Event.{Event}
use Rattle.journal.specs.Lines.{HasFence, recovered}
use Rattle.journal_file.specs.declared.fault.JournalFault.{JournalFault}
use Rattle.journal_file.specs.declared.fault.JournalFault.TheVariants.{BadLine, Failed, Full, Memory, NoJournal}
use Rattle.edit_lines.specs.Reading.{event_of, first_checked}
use Rattle.edit_lines.specs.declared.error.LineError.{LineError}

-- the book that an effect leaves, if it is that the action was done
abbrev pub done_book : RowReply × Book → Option Book
done_book done = if is_done done.0 then Some done.1 else None

-- the book after what an event asks for, if that is done
abbrev pub book_after_action : Result Action Refusal → Book → Option Book
book_after_action (Ok act) book = done_book (whole_effect act book)
book_after_action (Err why) book = None

-- the book after an event, if it is answered Done
abbrev pub book_after_event : Event → Book → Option Book
book_after_event event book = book_after_action (action_for event book) book

-- the book after the event that a line was read as
abbrev pub book_after_read : Result Event LineError → Book → Option Book
book_after_read (Ok event) book = book_after_event event book
book_after_read (Err why) book = None

-- the book after the event of a line, if it has one, and that is answered Done
abbrev pub book_after_line : List ℕ → Option Book → Option Book
book_after_line line None = None
book_after_line line (Some book) = book_after_read (event_of line) book

-- the book after the events of some lines, one after another
abbrev pub book_after_lines : List (List ℕ) → Option Book → Option Book
book_after_lines [] book = book
book_after_lines (line ∷ lines) book = book_after_lines lines (book_after_line line book)

-- the empty book, if the first line is right
abbrev pub book_after_first : Result (Unit {0}) LineError → Option Book
book_after_first (Ok right) = Some empty_book
book_after_first (Err why) = None

-- the rows that the lines of a journal stand for; a journal that was just made has no line
abbrev pub book_of_lines : List (List ℕ) → Option Book
book_of_lines [] = Some empty_book
book_of_lines (first ∷ lines) = book_after_lines lines (book_after_first (first_checked first))

-- the rows that a file stands for, or None if it is no journal of a register
abbrev pub book_of : List ℕ → Option Book
book_of file = book_of_lines (recovered file)

-- a file has the rows of another one, and can be opened if that one can
abbrev pub HasRowsOf : List ℕ → List ℕ → Type 0
HasRowsOf file now = (HasFence file → HasFence now) × (book_of now ≡ book_of file)

-- nothing has changed of a register but its rows
abbrev pub HasOtherRows : OwnersState → OwnersState → Type 0
HasOtherRows before after = store_in after ≡ record (store_in before) { book = book_in after.owners }

-- why a file isn't opened as a journal: memory was refused, a line of it is bad, no 0 stands behind its text, or its first
-- line would make it longer than 2^61 bytes
abbrev pub IsNotOpened : List ℕ → JournalFault → Type 0
IsNotOpened file Memory = ⊤
IsNotOpened file BadLine = book_of file ≡ None
IsNotOpened file NoJournal = ¬ (HasFence file)
IsNotOpened file Full = 2 ^ 61 ≤ length file + 14
IsNotOpened file _ = ⊥

-- why an opening gives up: the disk has failed meanwhile, or the file can't be opened
abbrev pub IsGivenUp : ℕ → ℕ → List ℕ → JournalFault → Type 0
IsGivenUp before now file why = ((why ≡ Failed) × (before < now)) ⊎ IsNotOpened file why
