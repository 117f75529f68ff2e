-- What is said of a source of records, and of where a run over one stops.
use Rattle.std.specs.Prelude.{◌≡◌, ◌⊎◌, ◌++◌, ◌∷◌, [], ℕ, Bool, true, false, List, length, Option, Some, ⊤}
use Rattle.csv.specs.Reading.{ExplainsRead, Reached, ReadsNext, Ready, default_config, has_failed, reader_config, reader_state, reader_trim, source_of, stops_reader}
use Rattle.csv.specs.declared.error.ErrorKind.{ErrorKind}
use Rattle.csv.specs.declared.parser.State.{State}
use Rattle.csv.specs.declared.parser.State.TheVariants as st
use Rattle.csv.specs.declared.reader.Reader.{Reader}
use Rattle.csv.specs.declared.reader.Trim.TheVariants as trim
use Rattle.hlr.specs.Fault.{read_fault_of}
use Rattle.hlr.specs.Run.{AsksEvent}
use Rattle.hlr.specs.declared.fault.Fault.{Fault}
use Rattle.hlr.specs.declared.fault.Fault.TheVariants as fault
use Rattle.hlr.specs.declared.run.TheConstants.{RECORDS}

-- what a source has still to give: bytes, where they are known, and the state of the text in front of them
pub record Unread : Type 0 where
  pub bytes : Option (List ℕ)
  pub state : State

-- a read took the next record, if there was one
abbrev pub ReadsOne : Unread → Unread → Bool → List (List ℕ) → Type 0
ReadsOne before after found fields = ReadsNext default_config before.state before.bytes after.bytes found fields after.state

-- what a reader of CSV has still to give
abbrev pub unread_by : {R : Type 0} → (R → Option (List ℕ)) → Reader R → Unread
unread_by rem reader = record { bytes = source_of rem reader; state = reader_state reader }

-- a reader of CSV reads each record as it is
abbrev pub IsOpenReader : {R : Type 0} → Reader R → Type 0
IsOpenReader reader = (reader_trim reader ≡ trim.None) × Ready reader × (reader_config reader ≡ default_config)

-- a read of a reader of CSV failed for this reason, and left it so; after a failure of its bytes or for want of memory
-- the reader gives no further record
abbrev pub FailsIn : {R : Type 0} → (R → Option (List ℕ)) → Reader R → Reader R → Fault → Type 0
FailsIn rem before after why = (error : ErrorKind) × (why ≡ read_fault_of error) × ExplainsRead rem before after false error
    × (has_failed after ≡ stops_reader error)

-- these records of the bytes were read, and what is left behind them is still to be read
pub record AreRead (bytes : List ℕ) (unread : Unread) (rows : List (List (List ℕ))) : Type 0 where
  pub left : List ℕ
  pub left_is : unread.bytes ≡ Some left
  pub reached : Reached default_config st.StartRecord bytes rows unread.state left

-- how a source is seen: what it has still to give, what it had to give when the last read of it began, and why a read
-- failed
pub record Seen (T : Type 0) : Type 1 where
  pub unread : T → Unread
  pub begun : T → Unread
  pub fails : T → T → Fault → Type 0

-- a source gave exactly these records of the bytes, and then a read failed for this reason, which was the last one
pub record FailedBehind {T : Type 0} (source : Seen T) (bytes : List ℕ) (rows : List (List (List ℕ))) (why : Fault)
    (now : T) : Type 0 where
  pub at : T
  pub read : AreRead bytes (source.unread at) rows
  pub last : source.begun now ≡ source.unread at
  pub failed : source.fails at now why

-- a source gave exactly these records of the bytes and one more, which asks for an event
abbrev pub GaveEvent : List ℕ → Unread → List (List (List ℕ)) → Type 0
GaveEvent bytes unread rows = (fields : List (List ℕ)) × AsksEvent fields × AreRead bytes unread (rows ++ fields ∷ [])

-- why a run over a source answered these records of the bytes and no further one: they are all that were read, and the
-- read behind them failed; or exactly one more was read, and they are as many as a run may answer, or, with threads,
-- memory or a thread was refused for the event that the last one asks for
abbrev pub StopsBehind : {T : Type 0} → Seen T → Bool → List ℕ → T → List (List (List ℕ)) → Fault → Type 0
StopsBehind source threads bytes now rows fault.Read =
    FailedBehind source bytes rows fault.Read now
    ⊎ ((length rows ≡ RECORDS) × (fields : List (List ℕ)) × AreRead bytes (source.unread now) (rows ++ fields ∷ []))
StopsBehind source threads bytes now rows fault.Memory =
    FailedBehind source bytes rows fault.Memory now ⊎ ((threads ≡ true) × GaveEvent bytes (source.unread now) rows)
StopsBehind source threads bytes now rows fault.Thread = (threads ≡ true) × GaveEvent bytes (source.unread now) rows
StopsBehind source threads bytes now rows fault.Field = ⊥
StopsBehind source threads bytes now rows fault.Write = ⊤
