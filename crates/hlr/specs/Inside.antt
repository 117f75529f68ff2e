-- What the calls that write answers promise each other; no clause of `run` or `run_alone` cites this.
use Rattle.std.specs.Prelude.{◌≡◌, ◌++◌, ◌≤◌, ⊤, ◌⊎◌, length, ℕ, Bool, true, false, List, [], ◌∷◌, map, MatchResult, Result, Ok, Err, codes, ℤ, pos, slice_index, slice_index_or}
use Rattle.std.specs.List.{flat_map}
use Rattle.std.specs.Str.{bytes_eq}
use Rattle.tatp_rows.specs.declared.refusal.Refusal.{Refusal}
use Rattle.hlr_core.specs.declared.event.Event.{Event}
use Rattle.hlr_core.specs.declared.event.Reply.{Reply}
use Rattle.hlr_workers.specs.Standing.{Engaged, Stands, Took}
use Rattle.csv.specs.Reading.{AreRecords, Reached, default_config}
use Rattle.csv.specs.declared.parser.State.{State}
use Rattle.csv.specs.declared.parser.State.TheVariants as st
use Rattle.hlr.specs.Command.{Command}
use Rattle.hlr.specs.Command.{Command as command}
use Rattle.hlr.specs.Lines.{reply_line}
use Rattle.hlr.specs.Records.{command_of}
use Rattle.tatp_actions.specs.Cell.{cell}
use Rattle.hlr_owners.specs.Owners.{OwnersState, store_in}
use Rattle.hlr_owners.specs.Store.{Store, published, unpublished}
use Rattle.hlr_core.specs.Index.{index_of}
use Rattle.hlr.specs.Reports.{report_text, cells_where, is_standing, standing_line, is_counted, rows_line, index_text, regions_text, scan_text, views_text}
use Rattle.hlr.specs.Outgoing.{Adds, AddsFront, AddsWhole, Outgoing}
use Rattle.hlr.specs.Run.{AsksEvent}
use Rattle.hlr.specs.Text.{proposal_line, CommandText, RecordText, RecordsText}
use Rattle.hlr.specs.declared.fault.Fault.{Fault}
use Rattle.hlr.specs.declared.fault.Fault.TheVariants as fault
use Rattle.hlr.specs.declared.run.TheConstants.{RECORDS}
use Rattle.hlr.specs.declared.records.Kind.{Kind}
use Rattle.hlr.specs.declared.records.Kind.TheVariants as kind
use Rattle.hlr.specs.declared.records.Report.{Report}
use Rattle.hlr.specs.declared.records.Report.TheVariants as report
use Rattle.hlr.specs.declared.records.Word.{Word}
use Rattle.hlr.specs.declared.records.Word.TheVariants as word
use Rattle.hlr.specs.declared.reports.Counts.{Counts}
use Rattle.hlr.specs.declared.reports.Counts.TheVariants as counts
use Rattle.hlr.specs.declared.sink.Stalled.{Stalled}

-- a command of a record is answered, and the answer stands behind a line
pub record AddsAnswer (fields : List (List ℕ)) (asked : Result Command Refusal) (before after : Store) (old new : List ℕ)
    : Type 0 where
  pub text : List ℕ
  pub answer : CommandText fields asked before text after
  pub grew : new ≡ old ++ text

-- a record is answered, and its answer added
pub record Answers (fields : List (List ℕ)) (before after : Store) (old new : Outgoing) (stalled : Bool)
    (r : Result (Unit {0}) Stalled) : Type 0 where
  pub text : List ℕ
  pub answer : RecordText fields before text after
  pub put : Adds text old new stalled r

-- the count of a cell in an array of them
abbrev pub signed_at : List ℤ → ℕ → ℤ
signed_at counts c = slice_index_or counts c (pos 0)

-- the word of a report of the cells
abbrev pub total_word : Counts → List ℕ
total_word (counts.Standing published unposted) = codes "views,"
total_word (counts.Rows cells) = codes "scan,"

-- the report shows the cell
abbrev pub is_shown : Counts → ℕ → Bool
is_shown (counts.Standing published unposted) = is_standing (signed_at published.now) (signed_at unposted.now)
is_shown (counts.Rows cells) = is_counted (slice_index cells.now)

-- the line of a cell in the report
abbrev pub shown_line : Counts → ℕ → List ℕ
shown_line (counts.Standing published unposted) = standing_line (signed_at published.now) (signed_at unposted.now)
shown_line (counts.Rows cells) = rows_line (slice_index cells.now)

-- the report, which is that of `views` or of `scan`
abbrev pub cells_text : Counts → List ℕ
cells_text counts = report_text (total_word counts) (shown_line counts) (cells_where (is_shown counts))

-- the word of a report
abbrev pub word_of_report : Report → Word
word_of_report report.Views = word.Views
word_of_report report.Scan = word.Scan
word_of_report report.Index = word.Index
word_of_report report.Regions = word.Regions
word_of_report report.Propose = word.Propose

-- the text of a report on a store
abbrev pub report_on : Report → Store → List ℕ
report_on report.Views store = views_text (published store) (unpublished store)
report_on report.Scan store = scan_text (λ c. cell store.width c store.book)
report_on report.Index store = index_text (index_of store.book.subscribers)
report_on report.Regions store = regions_text store.regions
report_on report.Propose store = proposal_line store

-- a text is none of the four words that most records have
pub record IsRarer (text : List ℕ) : Type 0 where
  pub gsd : bytes_eq text (codes "gsd") ≡ false
  pub gnd : bytes_eq text (codes "gnd") ≡ false
  pub gad : bytes_eq text (codes "gad") ≡ false
  pub ul : bytes_eq text (codes "ul") ≡ false

-- what the records of a word ask for
abbrev pub kind_of : Word → Kind
kind_of word.Views = kind.Report report.Views
kind_of word.Scan = kind.Report report.Scan
kind_of word.Index = kind.Report report.Index
kind_of word.Regions = kind.Report report.Regions
kind_of word.Propose = kind.Report report.Propose
kind_of word.Recut = kind.Recut
kind_of _ = kind.Event

-- the command that asks for the event which is made of what was read
abbrev pub asks : {X : Type 0} → (X → Event) → Result X Refusal → Result Command Refusal
asks event_of (Ok read) = Ok (command.Ask (event_of read))
asks event_of (Err why) = Err why

-- the lines of replies
abbrev pub replies_text : List (ℕ × Reply) → List ℕ
replies_text replies = flat_map (λ (one : ℕ × Reply). reply_line one.1) replies

-- the records ask for these events, one for each
abbrev pub AskFor : List (List (List ℕ)) → List Event → Type 0
AskFor [] [] = ⊤
AskFor (row ∷ rows) (event ∷ events) = (command_of row ≡ Ok (command.Ask event)) × AskFor rows events
AskFor _ _ = ⊥

-- answers to records are owed: an engine took the events that they ask for since it stood at a store
pub record IsOwed (rows : List (List (List ℕ))) (before : Store) (engine : Engaged) : Type 0 where
  pub events : List Event
  pub asked : AskFor rows events
  pub stands : Stands engine before (map Took events)

-- of records from a store on, the first are answered, and their text is added; the answers to the others are owed
pub record IsUnderway (rows : List (List (List ℕ))) (start : Store) (engine : Engaged) (old new : Outgoing)
    : Type 0 where
  pub answered : List (List (List ℕ))
  pub owed : List (List (List ℕ))
  pub all : rows ≡ answered ++ owed
  pub text : List ℕ
  pub now : Store
  pub answers : RecordsText answered start text now
  pub grew : AddsWhole text old new
  pub owes : IsOwed owed now engine

-- the store of a register, with some sight of the words, of which no text tells
abbrev pub with_sight : List ℕ → OwnersState → Store
with_sight sight register = record (store_in register) { sight = sight }

-- records from a store on are answered, up to the store of a register, and their text is added
pub record AreAnswered (rows : List (List (List ℕ))) (start : Store) (register : OwnersState) (old new : Outgoing)
    : Type 0 where
  pub text : List ℕ
  pub sight : List ℕ
  pub answers : RecordsText rows start text (with_sight sight register)
  pub grew : AddsWhole text old new

-- records from a store on are answered, of whose text the sink took a front and then told of a fault
pub record AreBrokenOff (rows : List (List (List ℕ))) (start : Store) (old new : Outgoing) (stalled : Bool)
    : Type 0 where
  pub text : List ℕ
  pub end : Store
  pub answers : RecordsText rows start text end
  pub front : AddsFront text old new
  pub told : stalled ≡ true

-- whatever records are underway, what is owed of them is written, or the sink told of a fault in their text
abbrev pub WritesOwed : Engaged → OwnersState → Outgoing → Outgoing → Bool → Result (Unit {0}) Stalled → Type 0
WritesOwed before after taken new stalled r =
    (rows : List (List (List ℕ))) (start : Store) (old : Outgoing) → IsUnderway rows start before old taken
    → MatchResult r (λ done. AreAnswered rows start after old new) (λ why. AreBrokenOff rows start old new stalled)

-- nothing is owed: no event is pending, and the engine stands at its register
pub record IsAtRest (engine : Engaged) : Type 0 where
  pub none : engine.replies ≡ []
  pub stands : Stands engine (store_in engine.register) []

-- behind records, one more is answered, or the sink told of a fault in the text of the others or in its own
abbrev pub HasAnswered : List (List (List ℕ)) → List (List ℕ) → Store → Engaged → Outgoing → Outgoing → Bool
    → Result (Unit {0}) Stalled → Type 0
HasAnswered rows fields start engine old new stalled (Ok done) = IsUnderway (rows ++ fields ∷ []) start engine old new
HasAnswered rows fields start engine old new stalled (Err why) =
    AreBrokenOff rows start old new stalled ⊎ AreBrokenOff (rows ++ fields ∷ []) start old new stalled

-- whatever records are underway, one more is answered behind them
abbrev pub AnswersNext : List (List ℕ) → Engaged → Engaged → Outgoing → Outgoing → Bool
    → Result (Unit {0}) Stalled → Type 0
AnswersNext fields before after taken new stalled r =
    (rows : List (List (List ℕ))) (start : Store) (old : Outgoing) → IsUnderway rows start before old taken
    → HasAnswered rows fields start after old new stalled r

-- behind records, one more is answered or owed; the engine stands as it did where it has no memory or thread for the
-- event that it asks for
abbrev pub HasTaken : List (List (List ℕ)) → List (List ℕ) → Store → Engaged → Outgoing → Outgoing → Bool
    → Result (Unit {0}) Fault → Type 0
HasTaken rows fields start engine old new stalled (Ok done) = IsUnderway (rows ++ fields ∷ []) start engine old new
HasTaken rows fields start engine old new stalled (Err fault.Memory) = IsUnderway rows start engine old new × AsksEvent fields
HasTaken rows fields start engine old new stalled (Err fault.Thread) = IsUnderway rows start engine old new × AsksEvent fields
HasTaken rows fields start engine old new stalled (Err fault.Write) =
    AreBrokenOff rows start old new stalled ⊎ AreBrokenOff (rows ++ fields ∷ []) start old new stalled
HasTaken rows fields start engine old new stalled (Err _) = ⊥

-- whatever records are underway, one more is taken behind them
abbrev pub TakesNext : List (List ℕ) → Engaged → Engaged → Outgoing → Outgoing → Bool
    → Result (Unit {0}) Fault → Type 0
TakesNext fields before after taken new stalled r =
    (rows : List (List (List ℕ))) (start : Store) (old : Outgoing) → IsUnderway rows start before old taken
    → HasTaken rows fields start after old new stalled r

-- all records of the bytes are read, and this holds of them, and a run may answer this many
pub record HasComeToEnd (bytes : List ℕ) (P : List (List (List ℕ)) → Type 0) : Type 0 where
  pub rows : List (List (List ℕ))
  pub few : length rows ≤ RECORDS
  pub are_records : AreRecords default_config st.StartRecord bytes rows
  pub holds : P rows

-- the first records of the bytes are read, and this holds of them
pub record HasComeTo (bytes : List ℕ) (P : List (List (List ℕ)) → Type 0) : Type 0 where
  pub rows : List (List (List ℕ))
  pub few : length rows ≤ RECORDS
  pub state : State
  pub left : List ℕ
  pub are_first : Reached default_config st.StartRecord bytes rows state left
  pub holds : P rows

-- how far a run came that ended so, before the last answers are handed on: this holds of the records that were read,
-- and a run stopped so behind them; or the sink failed, and that holds of them
abbrev pub HasCome : (List (List (List ℕ)) → Fault → Type 0) → List ℕ → (List (List (List ℕ)) → Type 0)
    → (List (List (List ℕ)) → Type 0) → Result (Unit {0}) Fault → Type 0
HasCome stops bytes P broken (Ok done) = HasComeToEnd bytes P
HasCome stops bytes P broken (Err fault.Write) = HasComeTo bytes broken
HasCome stops bytes P broken (Err why) = HasComeTo bytes (λ rows. P rows × stops rows why)
