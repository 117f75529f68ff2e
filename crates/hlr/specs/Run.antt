-- What a run answers, and what it writes of that.
use Rattle.std.specs.Prelude.{◌≡◌, ◌≢◌, ◌≤◌, ◌++◌, ◌∷◌, [], ℕ, Bool, true, List, length, Option, Result, Ok, Err, ⊤}
use Rattle.std.specs.Io.KnownBytes.{Appends}
use Rattle.csv.specs.Reading.{AreRecords, Reached, default_config}
use Rattle.csv.specs.declared.parser.State.{State}
use Rattle.csv.specs.declared.parser.State.TheVariants as st
use Rattle.hlr_owners.specs.Store.{Store}
use Rattle.hlr_core.specs.Kept.{IsSameAtHome}
use Rattle.hlr_core.specs.Run.{IsRun}
use Rattle.hlr_core.specs.declared.event.Event.{Event}
use Rattle.hlr.specs.declared.run.TheConstants.{RECORDS}
use Rattle.hlr.specs.declared.fault.Fault.{Fault}
use Rattle.hlr.specs.declared.fault.Fault.TheVariants as fault
use Rattle.hlr.specs.Command.{Command as command}
use Rattle.hlr.specs.Orders.{answers_in, orders_of, TellAnswers}
use Rattle.hlr.specs.Records.{command_of}
use Rattle.hlr.specs.Sink.{Begins}
use Rattle.hlr.specs.Text.{RecordsText}

-- after a fault of the sink a front of the text was taken, after any other fault all of it
abbrev pub WritesWhole : Fault → List ℕ → List ℕ → Type 0
WritesWhole fault.Write written text = ⊤
WritesWhole fault.Memory written text = written ≡ text
WritesWhole fault.Field written text = written ≡ text
WritesWhole fault.Thread written text = written ≡ text
WritesWhole fault.Read written text = written ≡ text

-- records that a run answered, as many as it may at most, with their text and the store after them: the text of each
-- tells its answer, what they order of the register is a right run with these answers, and gives, takes, recuts and
-- parts that come and go change none of them but Moving
pub record AnsweredRecords (start : Store) : Type 0 where
  pub rows : List (List (List ℕ))
  pub few : length rows ≤ RECORDS
  pub text : List ℕ
  pub end : Store
  pub answers : RecordsText rows start text end
  pub tells : TellAnswers rows start text end answers
  pub run : IsRun (orders_of rows) start (answers_in rows start text end answers) end
  pub kept : IsSameAtHome (orders_of rows) start.book (answers_in rows start text end answers) end.book

-- all records of the bytes are answered
pub record RanWhole (start : Store) (bytes : List ℕ) (old new : Option (List ℕ)) : Type 0 where
  pub answered : AnsweredRecords start
  pub are_records : AreRecords default_config st.StartRecord bytes answered.rows
  pub grew : Appends old new answered.text

-- the first records of the bytes are answered
pub record RanFront (start : Store) (bytes : List ℕ) (old new : Option (List ℕ)) (why : Fault) : Type 0 where
  pub answered : AnsweredRecords start
  pub state : State
  pub left : List ℕ
  pub are_first : Reached default_config st.StartRecord bytes answered.rows state left
  pub written : List ℕ
  pub begins : Begins written answered.text
  pub whole : WritesWhole why written answered.text
  pub grew : Appends old new written

-- the first records of the bytes are answered, and unless the sink failed, a run stopped so behind them
pub record StoppedFront (stops : List (List (List ℕ)) → Fault → Type 0) (start : Store) (bytes : List ℕ)
    (old new : Option (List ℕ)) (why : Fault) : Type 0 where
  pub front : RanFront start bytes old new why
  pub stopped : why ≢ fault.Write → stops front.answered.rows why

-- a run from a store over these bytes: on Ok all records are answered, after a fault those in front of what stopped it
abbrev pub RanUntil : (List (List (List ℕ)) → Fault → Type 0) → Store → List ℕ → Option (List ℕ) → Option (List ℕ)
    → Result (Unit {0}) Fault → Type 0
RanUntil stops start bytes old new (Ok done) = RanWhole start bytes old new
RanUntil stops start bytes old new (Err why) = StoppedFront stops start bytes old new why

-- a record of these fields asks for an event
abbrev pub AsksEvent : List (List ℕ) → Type 0
AsksEvent fields = (event : Event) × (command_of fields ≡ Ok (command.Ask event))

-- behind these records of the bytes stands one that asks for an event
abbrev pub HasNextEvent : List ℕ → List (List (List ℕ)) → Type 0
HasNextEvent bytes rows =
    (fields : List (List ℕ)) × AsksEvent fields
    × (state : State) × (left : List ℕ) × Reached default_config st.StartRecord bytes (rows ++ fields ∷ []) state left

-- what is known of where a run over a reader stopped, once the reader is gone: where a thread was refused, the record
-- behind those that were answered asks for an event
abbrev pub IsStop : List ℕ → List (List (List ℕ)) → Fault → Type 0
IsStop bytes rows fault.Thread = HasNextEvent bytes rows
IsStop bytes rows _ = ⊤

-- a run over a reader of these bytes
abbrev pub Ran : Store → List ℕ → Option (List ℕ) → Option (List ℕ) → Result (Unit {0}) Fault → Type 0
Ran start bytes = RanUntil (IsStop bytes) start bytes

-- all that a run wrote is flushed, unless the sink failed or was never used
abbrev pub IsFlushedAfter : Result (Unit {0}) Fault → Bool → Type 0
IsFlushedAfter (Ok done) flushed = flushed ≡ true
IsFlushedAfter (Err fault.Memory) flushed = flushed ≡ true
IsFlushedAfter (Err fault.Thread) flushed = flushed ≡ true
IsFlushedAfter (Err fault.Read) flushed = flushed ≡ true
IsFlushedAfter (Err fault.Write) flushed = ⊤
IsFlushedAfter (Err fault.Field) flushed = ⊤
