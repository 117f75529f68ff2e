-- A journal without its register: the lines that wait for its file, and the rows that it stands for.
use Rattle.std.specs.Prelude.{◌≡◌, ◌≤◌, ℕ, List, [], ◌++◌, length, take, Some, None}
use Rattle.tatp_actions.specs.Book.{Book}
use Rattle.journal_file.specs.declared.relayed.Relayed.{Relayed}
use Rattle.journal.specs.Lines.{HasNoZero, IsWhole, lines, recovered, text}
use Rattle.journal.specs.Tape.{IsOpen}
use Rattle.hlr_core.specs.declared.event.Event.{Event}
use Rattle.hlr_core.specs.declared.event.Reply.{Reply}
use Rattle.hlr_core.specs.declared.order.Answer.TheVariants as answer
use Rattle.hlr_core.specs.declared.order.Order.TheVariants as order
use Rattle.hlr_kept.specs.Rows.{book_after_lines, book_of}
use Rattle.hlr_kept.specs.Runs.{IsBegun, line_bytes}
use Rattle.hlr_kept.specs.declared.keeping.Journal.{Journal}

-- All of the file is on the disk, and it has its first line. Whole lines wait for it, with no 0 in them. With these
-- lines behind its own, the file stands for the rows of a book.
pub record Keeps {D : Type 0} (seen : D → List ℕ) (may_leave : D → List ℕ → Type 0) (book : Book) (journal : Journal D)
    : Type 0 where
  pub open_tape : IsOpen seen may_leave journal.tape
  pub synced : journal.tape.synced ≡ journal.tape.end
  pub whole : IsWhole (text (seen journal.tape.device))
  pub begun : IsBegun (recovered (seen journal.tape.device))
  pub no_zero : HasNoZero journal.group.items
  pub whole_lines : IsWhole journal.group.items
  pub rows : book_after_lines (lines journal.group.items) (book_of (seen journal.tape.device)) ≡ Some book

-- a journal stands for the rows of a book, unless a sync has failed
abbrev pub StandsFor : {D : Type 0} → (D → List ℕ) → (D → List ℕ → Type 0) → Book → Journal D → Type 0
StandsFor seen may_leave book journal = journal.fault ≡ None → Keeps seen may_leave book journal

-- no line waits, and no sync has failed
abbrev pub IsSettled : {D : Type 0} → Journal D → Type 0
IsSettled journal = (journal.fault ≡ None) × (journal.group.items ≡ [])

-- Nothing has changed. There may be more memory for lines.
pub record IsSame {D : Type 0} (before after : Journal D) : Type 0 where
  pub tape : after.tape ≡ before.tape
  pub group : after.group.items ≡ before.group.items
  pub fault : after.fault ≡ before.fault

-- A journal whose file has an owner has noted the same calls, and the same lines wait.
pub record HasSameCalls (before after : Journal Relayed) : Type 0 where
  pub calls : after.tape.device.log.calls ≡ before.tape.device.log.calls
  pub fd : after.tape.device.fd ≡ before.tape.device.fd
  pub end : after.tape.end ≡ before.tape.end
  pub synced : after.tape.synced ≡ before.tape.synced
  pub len : after.tape.len ≡ before.tape.len
  pub group : after.group.items ≡ before.group.items
  pub fault : after.fault ≡ before.fault

-- Nothing has changed. There may be more memory for calls.
pub record IsLike (before after : Journal Relayed) : Type 0 where
  pub same : HasSameCalls before after
  pub owed : after.tape.device.owed.items ≡ before.tape.device.owed.items
  pub made : after.tape.device.made.calls ≡ before.tape.device.made.calls

-- The owner of the file has made all calls that it was owed. Nothing else has changed.
pub record IsHanded (before after : Journal Relayed) : Type 0 where
  pub same : HasSameCalls before after
  pub owed : after.tape.device.owed.items ≡ []
  pub made : after.tape.device.made.calls ≡ before.tape.device.log.calls

-- The line of an event is behind those that waited, if the reply is Done. Nothing else has changed.
pub record IsPut {D : Type 0} (event : Event) (told : Reply) (before after : Journal D) : Type 0 where
  pub tape : after.tape ≡ before.tape
  pub group : after.group.items ≡ before.group.items ++ line_bytes (order.Event event) (answer.Reply told)
  pub fault : after.fault ≡ before.fault

-- The file stands for the rows after the first so many of the lines that waited.
pub record StandsAfterFirst {D : Type 0} (seen : D → List ℕ) (before : Journal D) (file : List ℕ) : Type 0 where
  pub count : ℕ
  pub within : count ≤ length (lines before.group.items)
  pub book : Book
  pub rows : book_of file ≡ Some book
  pub after : book_after_lines (take count (lines before.group.items)) (book_of (seen before.tape.device)) ≡ Some book
