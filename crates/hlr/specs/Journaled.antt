-- What a run with a journal answers, and what a crash leaves of its journal.
use Rattle.std.specs.Prelude.{◌≡◌, ◌≢◌, ◌++◌, ℕ, List, IfSome, Option, Result, Ok, Err}
use Rattle.std.specs.Io.KnownBytes.{Appends}
use Rattle.csv.specs.Reading.{AreRecords, Reached, default_config}
use Rattle.csv.specs.declared.parser.State.{State}
use Rattle.csv.specs.declared.parser.State.TheVariants as st
use Rattle.journal.specs.Lines.{HasFence}
use Rattle.journal_file.specs.Device.{LeavesOnly}
use Rattle.hlr_owners.specs.Store.{Store}
use Rattle.hlr_core.specs.declared.order.Answer.{Answer}
use Rattle.hlr_core.specs.declared.order.Order.{Order}
use Rattle.hlr_kept.specs.Runs.{StandsAfterSome}
use Rattle.hlr.specs.Orders.{answers_in, orders_of}
use Rattle.hlr.specs.Run.{AnsweredRecords}
use Rattle.hlr.specs.Sink.{AppendsFront}
use Rattle.hlr.specs.Text.{RecordsText}
use Rattle.hlr.specs.declared.fault.Fault.{Fault}
use Rattle.hlr.specs.declared.fault.Fault.TheVariants as fault

-- the records are all those of the bytes, or, after a fault, the first ones, and the run stopped so behind them
abbrev pub AreReadBy : (List (List (List ℕ)) → Fault → Type 0) → List ℕ → List (List (List ℕ)) → Result (Unit {0}) Fault
    → Type 0
AreReadBy stops bytes rows (Ok done) = AreRecords default_config st.StartRecord bytes rows
AreReadBy stops bytes rows (Err why) =
    (state : State) × (left : List ℕ) × Reached default_config st.StartRecord bytes rows state left
    × (why ≢ fault.Write → stops rows why)

-- a sink took a text whole, or, where it or the journal failed, a front of it
abbrev pub Wrote : List ℕ → Option (List ℕ) → Option (List ℕ) → Result (Unit {0}) Fault → Type 0
Wrote text old new (Ok done) = Appends old new text
Wrote text old new (Err fault.Write) = AppendsFront old new text
Wrote text old new (Err why) = Appends old new text

-- a file is a journal of the rows after the first so many of these orders, which were answered so from a store on
abbrev pub StandsFor : Store → List Order → List Answer → List ℕ → Type 0
StandsFor start orders answers file = HasFence file × StandsAfterSome orders answers start file

-- The first of some records are on the disk, whose text is all that anybody was told of, or more. A crash from now on leaves
-- a file that stands for the rows after these, and after the first so many orders of the others.
pub record AreAcknowledged {D : Type 0} (may_leave : D → List ℕ → Type 0) (start : Store) (rows : List (List (List ℕ)))
    (last : D) (took : List ℕ → Type 0) : Type 0 where
  pub kept : List (List (List ℕ))
  pub held : List (List (List ℕ))
  pub all : rows ≡ kept ++ held
  pub text : List ℕ
  pub stored : Store
  pub on_disk : RecordsText kept start text stored
  pub told : took text
  pub answers : List Answer
  pub leaves : (file : List ℕ) → may_leave last file → StandsFor stored (orders_of held) answers file

-- records that a run answered from a store on: they were read from the bytes, if these are known, their text went to the
-- sink, and a crash at any moment of the run leaves a file that stands for the rows after the first so many of their
-- orders, answered as the text tells; behind the run, no crash takes back what the sink was told
pub record RanJournaled {D : Type 0} (may_leave : D → List ℕ → Type 0) (moment : D → ℕ) (left_since : D → ℕ → List ℕ → Type 0)
    (stops : List ℕ → List (List (List ℕ)) → Fault → Type 0) (known : Option (List ℕ)) (start : Store) (first last : D)
    (old new : Option (List ℕ)) (r : Result (Unit {0}) Fault) : Type 0 where
  pub done : AnsweredRecords start
  pub read : IfSome known (λ bytes. AreReadBy (stops bytes) bytes done.rows r)
  pub wrote : Wrote done.text old new r
  pub leaves : LeavesOnly moment left_since first last
      (StandsFor start (orders_of done.rows) (answers_in done.rows start done.text done.end done.answers))
  pub acknowledged : AreAcknowledged may_leave start done.rows last (AppendsFront old new)
