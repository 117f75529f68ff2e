-- Orders under way: the lines that their run leaves, and what a crash makes of them.
use Rattle.std.specs.Prelude.{⊤, ◌≡◌, ◌≤◌, ℕ, Bool, true, false, List, [], ◌∷◌, ◌++◌, length, take, Some, if◌then◌else◌}
use Rattle.journal.specs.Lines.{text, lines, recovered, HasNoZero, IsWhole}
use Rattle.journal.specs.Tape.{IsOpen}
use Rattle.journal.specs.declared.tape.Tape.{Tape}
use Rattle.edit_lines.specs.Lines.{has_line, line_of}
use Rattle.hlr_owners.specs.Owners.{OwnersState, store_in}
use Rattle.hlr_owners.specs.Store.{Store}
use Rattle.hlr_core.specs.Run.{IsRun}
use Rattle.hlr_core.specs.Step.{is_done}
use Rattle.hlr_core.specs.declared.event.Reply.{Reply}
use Rattle.hlr_core.specs.declared.event.Reply.TheVariants as reply
use Rattle.hlr_core.specs.declared.order.Answer.{Answer}
use Rattle.hlr_core.specs.declared.order.Answer.TheVariants as answer
use Rattle.hlr_core.specs.declared.order.Order.{Order}
use Rattle.hlr_core.specs.declared.order.Order.TheVariants as order
use Rattle.tatp_rows.specs.declared.refusal.Refusal.{Refusal}
use Rattle.tatp_rows.specs.declared.refusal.Refusal.TheVariants as refusal
use Rattle.hlr_kept.specs.Rows.{book_of}

-- the reply says that rows were changed
abbrev pub tells_done : Reply → Bool
tells_done (reply.Rows rows) = is_done rows
tells_done _ = false

-- the refusal is for want of memory
abbrev pub is_memory : Refusal → Bool
is_memory refusal.Memory = true
is_memory _ = false

-- the same of a reply
abbrev pub wants_memory : Reply → Bool
wants_memory (reply.Refused why) = is_memory why
wants_memory _ = false

-- the order is an event that was answered Done
abbrev pub changed_rows : Order → Answer → Bool
changed_rows (order.Event event) (answer.Reply told) = tells_done told
changed_rows _ _ = false

-- the line of an event; a recut writes none, because it leaves the rows
abbrev pub line_for : Order → List ℕ
line_for (order.Event event) = line_of event
line_for (order.Recut bounds) = []

-- the order is an event that has a line of its own
abbrev pub is_writable : Order → Bool
is_writable (order.Event event) = has_line event
is_writable (order.Recut bounds) = false

-- the lines of the events that were answered Done
abbrev pub lines_of : List Order → List Answer → List (List ℕ)
lines_of [] answers = []
lines_of (one ∷ orders) [] = []
lines_of (one ∷ orders) (told ∷ answers) =
    if changed_rows one told then line_for one ∷ lines_of orders answers else lines_of orders answers

-- each event that was answered Done has a line of its own
abbrev pub HaveLines : List Order → List Answer → Type 0
HaveLines [] answers = ⊤
HaveLines (one ∷ orders) [] = ⊤
HaveLines (one ∷ orders) (told ∷ answers) =
    (changed_rows one told ≡ true → is_writable one ≡ true) × HaveLines orders answers

-- what is written of an order with this answer
abbrev pub line_bytes : Order → Answer → List ℕ
line_bytes one told = if changed_rows one told then line_for one ++ 10 ∷ [] else []

-- bytes are whole lines, these ones, with no 0 in them
pub record IsGroup (written : List (List ℕ)) (bytes : List ℕ) : Type 0 where
  pub lines : lines bytes ≡ written
  pub no_zero : HasNoZero bytes
  pub whole : IsWhole bytes

-- a journal has its first line
abbrev pub IsBegun : List (List ℕ) → Type 0
IsBegun [] = ⊥
IsBegun (first ∷ lines) = ⊤

-- All that was written is on the disk: the journal stands for the rows of a store.
pub record IsOnDisk {D : Type 0} (seen : D → List ℕ) (may_leave : D → List ℕ → Type 0) (stored : Store) (tape : Tape D)
    : Type 0 where
  pub open_tape : IsOpen seen may_leave tape
  pub synced : tape.synced ≡ tape.end
  pub whole : IsWhole (text (seen tape.device))
  pub begun : IsBegun (recovered (seen tape.device))
  pub rows : book_of (seen tape.device) ≡ Some stored.book

-- Orders lead from the store of the disk to that of the register, in a right run with these answers. The lines of the
-- events that were answered Done are yet to be written.
pub record IsAhead (stored : Store) (orders : List Order) (register : OwnersState) (answers : List Answer) (group : List ℕ)
    : Type 0 where
  pub run : IsRun orders stored answers (store_in register)
  pub fit : HaveLines orders answers
  pub lines : IsGroup (lines_of orders answers) group

-- The file stands for the rows after the first so many of the orders, in a run with these answers.
pub record StandsAfterSome (orders : List Order) (answers : List Answer) (before : Store) (file : List ℕ)
    : Type 0 where
  pub count : ℕ
  pub within : count ≤ length orders
  pub after : Store
  pub run : IsRun (take count orders) before (take count answers) after
  pub rows : book_of file ≡ Some after.book
