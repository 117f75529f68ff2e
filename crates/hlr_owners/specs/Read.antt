-- The reads of rows.
use Rattle.std.specs.Prelude.{◌≡◌, ◌<◌, ℕ, false, Option, Result, Err, if◌then◌else◌, ok_or}
use Rattle.tatp_rows.specs.Rows.{SpecialFacilityRow, CallForwardingRow}
use Rattle.tatp_rows.specs.declared.refusal.Refusal.{Refusal}
use Rattle.tatp_rows.specs.declared.refusal.Refusal.TheVariants as refusal
use Rattle.tatp_actions.specs.Action.{IsOutcome, s_id_of}
use Rattle.tatp_actions.specs.Book.{facility_at, forwarding_at}
use Rattle.tatp_actions.specs.declared.action.Action.{Action}
use Rattle.tatp_actions.specs.declared.action.RowReply.{RowReply}
use Rattle.holding.specs.Held.{HoldingState}
use Rattle.hlr_owners.specs.Answered.{IsAnswered, is_loose}
use Rattle.hlr_owners.specs.Store.{Store}

-- a subscriber is in a part, and a read of the part's rows has the same answer as a read of all rows
pub record HasRowsOf (s_id : ℕ) (store : Store) (holding : HoldingState) : Type 0 where
  pub home : is_loose s_id store.regions ≡ false
  pub answers : (act : Action) (answer : RowReply) → s_id_of act ≡ s_id → IsOutcome act holding.part.book answer holding.part.book → IsOutcome act store.book answer store.book
  pub facility : (sf_type : ℕ) → sf_type < 256 → facility_at store.book s_id sf_type ≡ facility_at holding.part.book s_id sf_type
  pub forwarding : (sf_type hour : ℕ) → sf_type < 256 → hour < 256
      → forwarding_at store.book s_id sf_type hour ≡ forwarding_at holding.part.book s_id sf_type hour

-- the answer to a read of a subscriber's row: Moving if a loose piece has the subscriber, and otherwise the row, or a
-- refusal if there is none
abbrev pub row_answer : {R : Type 0} → ℕ → Store → Option R → Refusal → Result R Refusal
row_answer s_id store found none = if is_loose s_id store.regions then Err refusal.Moving else ok_or found none

-- the same for a facility
abbrev pub facility_answer : ℕ → ℕ → Store → Result SpecialFacilityRow Refusal
facility_answer s_id sf_type store = row_answer s_id store (facility_at store.book s_id sf_type) refusal.NoFacility

-- the same for the forwarding of a facility that starts at an hour
abbrev pub forwarding_answer : ℕ → ℕ → ℕ → Store → Result CallForwardingRow Refusal
forwarding_answer s_id sf_type hour store =
    row_answer s_id store (forwarding_at store.book s_id sf_type hour) refusal.NoForwarding

-- an action with this reply leaves the store as it is
abbrev pub IsRead : Action → Store → RowReply → Type 0
IsRead act store answer = IsAnswered (is_loose (s_id_of act) store.regions) act store.book answer store.book
