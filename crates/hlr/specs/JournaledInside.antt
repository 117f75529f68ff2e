-- What the calls of a run with a journal promise each other; no clause of `run_journaled` cites this.
use Rattle.std.specs.Prelude.{◌≡◌, ◌++◌, ◌≤◌, ◌⊎◌, ◌||◌, length, ℕ, Bool, true, List, [], ◌∷◌, Option, Some, IfSome, MatchResult, Result, Ok, Err, is_some}
use Rattle.tatp_rows.specs.declared.refusal.Refusal.{Refusal}
use Rattle.journal_file.specs.Device.{LeavesOnly}
use Rattle.journal_file.specs.declared.fault.JournalFault.{JournalFault}
use Rattle.hlr_owners.specs.Owners.{store_in}
use Rattle.hlr_owners.specs.Store.{Store}
use Rattle.hlr_core.specs.declared.order.Answer.{Answer}
use Rattle.hlr_core.specs.declared.order.Order.{Order}
use Rattle.hlr_kept.specs.UnderWay.{IsUnderWay}
use Rattle.hlr_kept.specs.declared.journaled.Journaled.{Journaled}
use Rattle.hlr.specs.Command.{Command}
use Rattle.hlr.specs.Journaled.{AreAcknowledged, AreReadBy, StandsFor}
use Rattle.hlr.specs.Orders.{answer_in, answers_in, order_of, orders_of}
use Rattle.hlr.specs.Outgoing.{AddsFront, AddsWhole, Outgoing, outgoing}
use Rattle.hlr.specs.Run.{AsksEvent}
use Rattle.hlr.specs.Text.{CommandText, RecordsText}
use Rattle.hlr.specs.declared.fault.Fault.{Fault}
use Rattle.hlr.specs.declared.fault.Fault.TheVariants as fault
use Rattle.hlr.specs.declared.run.TheConstants.{RECORDS}
use Rattle.hlr.specs.declared.sink.Stalled.{Stalled}

-- the sink failed, or the journal did
abbrev pub has_stopped : Bool → Option JournalFault → Bool
has_stopped stalled fault = stalled || is_some fault

-- a command of a record is answered behind a line, and its order joins those that are under way
pub record JoinsAnswer {D : Type 0} (seen : D → List ℕ) (may_leave : D → List ℕ → Type 0) (fields : List (List ℕ))
    (asked : Result Command Refusal) (before after : Journaled D) (old new : List ℕ) : Type 0 where
  pub text : List ℕ
  pub answer : CommandText fields asked (store_in before.register) text (store_in after.register)
  pub grew : new ≡ old ++ text
  pub joins : (stored : Store) (orders : List Order) (answers : List Answer)
      → IsUnderWay seen may_leave stored orders answers before
      → IsUnderWay seen may_leave stored (orders ++ order_of fields asked)
      (answers ++ answer_in fields asked (store_in before.register) text (store_in after.register) answer) after
  pub tape : after.journal.tape ≡ before.journal.tape

-- Records from a store on are answered. The first of them are on the disk, and what a sink took of the text is theirs;
-- the others are under way, and their text waits in the line.
pub record AreKept {D : Type 0} (seen : D → List ℕ) (may_leave : D → List ℕ → Type 0) (moment : D → ℕ)
    (left_since : D → ℕ → List ℕ → Type 0) (rows : List (List (List ℕ))) (start : Store) (first : D)
    (now : Journaled D) (old new : Outgoing) : Type 0 where
  pub kept : List (List (List ℕ))
  pub held : List (List (List ℕ))
  pub all : rows ≡ kept ++ held
  pub told : List ℕ
  pub stored : Store
  pub on_disk : RecordsText kept start told stored
  pub text : List ℕ
  pub waiting : RecordsText held stored text (store_in now.register)
  pub unsent : List ℕ
  pub line : new.line ≡ unsent ++ text
  pub grew : AddsWhole told old (outgoing unsent new.taken)
  pub under_way : IsUnderWay seen may_leave stored (orders_of held)
      (answers_in held stored text (store_in now.register) waiting) now
  pub leaves : LeavesOnly moment left_since first now.journal.tape.device
      (StandsFor start (orders_of kept ++ orders_of held)
      (answers_in kept start told stored on_disk ++ answers_in held stored text (store_in now.register) waiting))

-- records from a store on are answered, and all of them are on the disk
pub record AreSynced {D : Type 0} (seen : D → List ℕ) (may_leave : D → List ℕ → Type 0) (moment : D → ℕ)
    (left_since : D → ℕ → List ℕ → Type 0) (rows : List (List (List ℕ))) (start : Store) (first : D)
    (now : Journaled D) (old new : Outgoing) : Type 0 where
  pub text : List ℕ
  pub on_disk : RecordsText rows start text (store_in now.register)
  pub grew : AddsWhole text old new
  pub under_way : IsUnderWay seen may_leave (store_in now.register) [] [] now
  pub leaves : LeavesOnly moment left_since first now.journal.tape.device
      (StandsFor start (orders_of rows) (answers_in rows start text (store_in now.register) on_disk))

-- records from a store on are answered, of whose text the sink took a front, and then it or the journal failed; no crash
-- takes back what the sink was told
pub record AreCutOff {D : Type 0} (may_leave : D → List ℕ → Type 0) (moment : D → ℕ) (left_since : D → ℕ → List ℕ → Type 0) (rows : List (List (List ℕ)))
    (start : Store) (first last : D) (old new : Outgoing) (stopped : Bool) : Type 0 where
  pub text : List ℕ
  pub end : Store
  pub answers : RecordsText rows start text end
  pub front : AddsFront text old new
  pub told : stopped ≡ true
  pub leaves : LeavesOnly moment left_since first last
      (StandsFor start (orders_of rows) (answers_in rows start text end answers))
  pub acknowledged : AreAcknowledged may_leave start rows last (λ told. AddsFront told old new)

-- whatever records are kept, all of them are on the disk then, or the sink or the journal failed
abbrev pub Syncs : {D : Type 0} (seen : D → List ℕ) (may_leave : D → List ℕ → Type 0) (moment : D → ℕ)
    (left_since : D → ℕ → List ℕ → Type 0) → Journaled D → Journaled D → Outgoing → Outgoing → Bool
    → Result (Unit {0}) Stalled → Type 0
Syncs {D} seen may_leave moment left_since before after taken new stopped r =
    (rows : List (List (List ℕ))) (start : Store) (first : D) (old : Outgoing)
    → AreKept seen may_leave moment left_since rows start first before old taken
    → MatchResult r (λ done. AreSynced seen may_leave moment left_since rows start first after old new)
    (λ why. AreCutOff may_leave moment left_since rows start first after.journal.tape.device old new stopped)

-- behind records, one more is answered; the journal is as it was where there is no memory for the event that it asks for
abbrev pub HasKept : {D : Type 0} (seen : D → List ℕ) (may_leave : D → List ℕ → Type 0) (moment : D → ℕ)
    (left_since : D → ℕ → List ℕ → Type 0) → List (List (List ℕ)) → List (List ℕ) → Store → D → Journaled D → Outgoing
    → Outgoing → Bool → Result (Unit {0}) Fault → Type 0
HasKept seen may_leave moment left_since rows fields start first now old new stopped (Ok done) =
    AreKept seen may_leave moment left_since (rows ++ fields ∷ []) start first now old new
HasKept seen may_leave moment left_since rows fields start first now old new stopped (Err fault.Memory) =
    AreKept seen may_leave moment left_since rows start first now old new × AsksEvent fields
HasKept seen may_leave moment left_since rows fields start first now old new stopped (Err fault.Write) =
    AreCutOff may_leave moment left_since rows start first now.journal.tape.device old new stopped
    ⊎ AreCutOff may_leave moment left_since (rows ++ fields ∷ []) start first now.journal.tape.device old new stopped
HasKept seen may_leave moment left_since rows fields start first now old new stopped (Err _) = ⊥

-- whatever records are kept, one more is answered behind them
abbrev pub KeepsNext : {D : Type 0} (seen : D → List ℕ) (may_leave : D → List ℕ → Type 0) (moment : D → ℕ)
    (left_since : D → ℕ → List ℕ → Type 0) → List (List ℕ) → Journaled D → Journaled D → Outgoing → Outgoing → Bool
    → Result (Unit {0}) Fault → Type 0
KeepsNext {D} seen may_leave moment left_since fields before after taken new stopped r =
    (rows : List (List (List ℕ))) (start : Store) (first : D) (old : Outgoing)
    → AreKept seen may_leave moment left_since rows start first before old taken
    → HasKept seen may_leave moment left_since rows fields start first after old new stopped r

-- the records that were read are kept, or cut off where the sink or the journal failed
abbrev pub HasHeld : {D : Type 0} (seen : D → List ℕ) (may_leave : D → List ℕ → Type 0) (moment : D → ℕ)
    (left_since : D → ℕ → List ℕ → Type 0) → List (List (List ℕ)) → Store → D → Journaled D → Outgoing → Outgoing → Bool
    → Result (Unit {0}) Fault → Type 0
HasHeld seen may_leave moment left_since rows start first now old new stopped (Err fault.Write) =
    AreCutOff may_leave moment left_since rows start first now.journal.tape.device old new stopped
HasHeld seen may_leave moment left_since rows start first now old new stopped _ =
    AreKept seen may_leave moment left_since rows start first now old new

-- how far a run with a journal came, before the last answers are handed on
pub record HasComeKept {D : Type 0} (seen : D → List ℕ) (may_leave : D → List ℕ → Type 0) (moment : D → ℕ)
    (left_since : D → ℕ → List ℕ → Type 0) (stops : List ℕ → List (List (List ℕ)) → Fault → Type 0)
    (known : Option (List ℕ)) (start : Store) (first : D) (now : Journaled D) (old new : Outgoing) (stopped : Bool)
    (r : Result (Unit {0}) Fault) : Type 0 where
  pub rows : List (List (List ℕ))
  pub few : length rows ≤ RECORDS
  pub read : IfSome known (λ bytes. AreReadBy (stops bytes) bytes rows r)
  pub holds : HasHeld seen may_leave moment left_since rows start first now old new stopped r
