-- What a journal stands for while orders are under way, and after a crash.
use Rattle.std.specs.Prelude.{◌≡◌, ◌≤◌, ◌<◌, ℕ, true, false, List, [], ◌∷◌, ◌++◌, length, take, Some, None, pos, ◌+ℤ◌}
use Rattle.tatp_actions.specs.Cell.{cell}
use Rattle.tatp_actions.specs.declared.cells.TheConstants.{CELLS}
use Rattle.part_table.specs.Regions.{pieces_of}
use Rattle.journal_file.specs.Device.{IsFront}
use Rattle.journal.specs.Lines.{HasFence, lines}
use Rattle.journal.specs.Tape.{HasLinesBetween}
use Rattle.edit_lines.specs.Lines.{is_change}
use Rattle.hlr_owners.specs.Owners.{OwnersState, book_in, store_in, unposted}
use Rattle.hlr_owners.specs.Store.{Store, published}
use Rattle.hlr_core.specs.Run.{IsOrderStep, IsRun}
use Rattle.hlr_core.specs.Step.{IsStep}
use Rattle.hlr_core.specs.declared.event.Event.{Event}
use Rattle.hlr_core.specs.declared.event.Reply.{Reply}
use Rattle.hlr_core.specs.declared.order.Answer.{Answer}
use Rattle.hlr_core.specs.declared.order.Order.{Order}
use Rattle.hlr_kept.specs.Rows.{book_after_event, book_after_lines, book_of, book_of_lines}
use Rattle.hlr_kept.specs.Runs.{HaveLines, IsAhead, IsBegun, StandsAfterSome, changed_rows, is_writable, line_bytes, lines_of, tells_done, wants_memory}

-- The rows after some lines are those after the first so many of these orders.
pub record AreAfterSome (orders : List Order) (answers : List Answer) (before : Store) (front : List (List ℕ))
    : Type 0 where
  pub count : ℕ
  pub within : count ≤ length orders
  pub after : Store
  pub run : IsRun (take count orders) before (take count answers) after
  pub rows : book_after_lines front (Some before.book) ≡ Some after.book

-- each front of the lines that a run leaves stands for the rows after the first so many of its orders
abbrev pub FrontsAreRuns : Type 0
FrontsAreRuns =
    (orders : List Order) (answers : List Answer) (before after : Store)
    → IsRun orders before answers after → HaveLines orders answers
    → (front : List (List ℕ)) → IsFront front (lines_of orders answers) → AreAfterSome orders answers before front

-- with the lines of orders behind those of a store, a journal stands for the rows that the orders lead to
abbrev pub WrittenIsKept : Type 0
WrittenIsKept =
    (stored : Store) (orders : List Order) (register : OwnersState) (answers : List Answer) (group : List ℕ)
    (written : List (List ℕ))
    → IsAhead stored orders register answers group → IsBegun written → book_of_lines written ≡ Some stored.book
    → book_of_lines (written ++ lines group) ≡ Some (book_in register.owners)

-- a crash while the lines of orders are written behind those of a store leaves the rows after the first so many of the
-- orders
abbrev pub CrashesLeaveRuns : Type 0
CrashesLeaveRuns =
    (stored : Store) (orders : List Order) (register : OwnersState) (answers : List Answer) (group : List ℕ)
    (written : List (List ℕ)) (file : List ℕ)
    → IsAhead stored orders register answers group → IsBegun written → book_of_lines written ≡ Some stored.book
    → HasLinesBetween written (written ++ lines group) file → HasFence file × StandsAfterSome orders answers stored file

-- an order that is carried out next is under way once its line is put behind the others, if it is an event that was
-- answered Done
abbrev pub AppliedIsAhead : Type 0
AppliedIsAhead =
    (stored : Store) (orders : List Order) (before after : OwnersState) (answers : List Answer) (group : List ℕ)
    (one : Order) (told : Answer)
    → IsAhead stored orders before answers group → IsOrderStep one (store_in before) told (store_in after)
    → (changed_rows one told ≡ true → is_writable one ≡ true)
    → IsAhead stored (orders ++ one ∷ []) after (answers ++ told ∷ []) (group ++ line_bytes one told)

-- where no piece is loose, an event that changes rows is answered Done exactly if the rows of its line are there,
-- unless it is refused for want of memory
abbrev pub RedoneIsRight : Type 0
RedoneIsRight =
    (event : Event) (before after : Store) (told : Reply)
    → is_change event ≡ true → pieces_of before.regions ≡ [] → IsStep event before told after
    → (tells_done told ≡ true → book_after_event event before.book ≡ Some after.book)
    × (tells_done told ≡ false → wants_memory told ≡ false → book_after_event event before.book ≡ None)

-- A register has the rows after the first so many of some orders, in a right run from a store, and counts its cells
-- over these rows.
pub record IsAfterSome (orders : List Order) (before : Store) (register : OwnersState) : Type 0 where
  pub count : ℕ
  pub within : count ≤ length orders
  pub answers : List Answer
  pub after : Store
  pub run : IsRun (take count orders) before answers after
  pub rows : book_in register.owners ≡ after.book
  pub cells : (c : ℕ) → c < CELLS
      → published (store_in register) c +ℤ unposted register.owners c ≡ pos (cell register.width c after.book)

-- a register that has the rows of a file which a crash has left while orders were under way loses nothing that was
-- answered before: its rows are those after the first so many of the orders
abbrev pub LosesNothing : OwnersState → Type 0
LosesNothing register =
    (stored : Store) (orders : List Order) (answers : List Answer) (file : List ℕ)
    → StandsAfterSome orders answers stored file → book_of file ≡ Some (book_in register.owners)
    → IsAfterSome orders stored register
