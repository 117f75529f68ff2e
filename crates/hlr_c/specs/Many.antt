-- What a call from C returns and writes for many queries at once, on a register or on a lent part. It changes neither.
use Rattle.std.specs.Prelude.{◌≡◌, ℕ, ◌<◌, List, length, slice_index, slice_index_or, Ok}
use Rattle.tatp_rows.specs.Refusal.{code_of}
use Rattle.tatp_rows.specs.Rows.{SubscriberRow, AccessInfoRow}
use Rattle.tatp_rows.specs.declared.refusal.Refusal.TheVariants.{Field}
use Rattle.hlr_owners.specs.Owners.{OwnersState}
use Rattle.tatp_actions.specs.declared.action.Action.TheVariants as action
use Rattle.holding.specs.Held.{HoldingState}
use Rattle.hlr_core.specs.declared.event.Event.TheVariants as event
use Rattle.hlr_c.specs.Call.{IsAnswer}
use Rattle.hlr_c.specs.Parts.{IsPartRead}
use Rattle.hlr_c.specs.Told.{access_told, numbers_told, subscriber_told}
use Rattle.hlr_c.specs.declared.codes.TheConstants.{AWAY, DONE, ELSEWHERE}
use Rattle.hlr_c.specs.declared.rows.HlrAccessAsked.{HlrAccessAsked}
use Rattle.hlr_c.specs.declared.rows.HlrDestinationAsked.{HlrDestinationAsked}
use Rattle.hlr_c.specs.declared.rows.HlrNumbers.{HlrNumbers}

-- one read of a subscriber: its code, and the row, given what that was before
abbrev pub IsSubscriberRead : ℕ → SubscriberRow → OwnersState → ℕ × SubscriberRow → OwnersState → Type 0
IsSubscriberRead s_id row = IsAnswer (Ok (event.SubscriberData s_id)) (subscriber_told row) (AWAY, row)

-- one read of an access, in the same way
abbrev pub IsAccessRead : HlrAccessAsked → AccessInfoRow → OwnersState → ℕ × AccessInfoRow → OwnersState → Type 0
IsAccessRead asked row = IsAnswer (Ok (event.AccessData asked.s_id asked.ai_type)) (access_told asked.s_id asked.ai_type row) (AWAY, row)

-- one read of the numbers to which a call is forwarded, in the same way
abbrev pub IsDestinationRead : HlrDestinationAsked → HlrNumbers → OwnersState → ℕ × HlrNumbers → OwnersState → Type 0
IsDestinationRead asked numbers =
    IsAnswer (Ok (event.NewDestination asked.s_id asked.sf_type asked.start_time asked.end_time)) (numbers_told numbers) (AWAY, numbers)

-- one read of a subscriber of a lent part
abbrev pub IsPartSubscriberRead : ℕ → SubscriberRow → HoldingState → ℕ × SubscriberRow → HoldingState → Type 0
IsPartSubscriberRead s_id row = IsPartRead (action.SubscriberData s_id) (subscriber_told row) (ELSEWHERE, row)

-- one read of an access of a lent part
abbrev pub IsPartAccessRead : HlrAccessAsked → AccessInfoRow → HoldingState → ℕ × AccessInfoRow → HoldingState → Type 0
IsPartAccessRead asked row =
    IsPartRead (action.AccessData asked.s_id asked.ai_type) (access_told asked.s_id asked.ai_type row) (ELSEWHERE, row)

-- one read of the numbers to which a call to a subscriber of a lent part is forwarded
abbrev pub IsPartDestinationRead : HlrDestinationAsked → HlrNumbers → HoldingState → ℕ × HlrNumbers → HoldingState → Type 0
IsPartDestinationRead asked numbers =
    IsPartRead (action.NewDestination asked.s_id asked.sf_type asked.start_time asked.end_time) (numbers_told numbers) (ELSEWHERE, numbers)

-- there are as many rows and codes as queries
abbrev pub AreAsMany : {Q X : Type 0} → List Q → List X × List ℕ → Type 0
AreAsMany asked lists = (length lists.0 ≡ length asked) × (length lists.1 ≡ length asked)

-- each place has what one read returns and writes for the query there
abbrev pub AreAnswered : {Q X : Type 0} → (Q → X → ℕ × X → Type 0) → List Q → List X → List X × List ℕ → Type 0
AreAnswered {Q} {X} Answers asked before lists =
    (at : ℕ) (question : Q) (row : X) → at < length asked
    → Answers (slice_index_or asked at question) (slice_index_or before at row) (slice_index lists.1 at, slice_index_or lists.0 at row)

-- Field, and nothing is written, if there aren't as many rows and codes as queries; otherwise each query is answered
pub record IsManyRead {S Q X : Type 0} (IsRead : Q → X → S → ℕ × X → S → Type 0) (asked : List Q) (lists : List X × List ℕ) (before : S) (answer : ℕ × (List X × List ℕ)) (after : S) : Type 0 where
  pub same : after ≡ before
  pub refused : ¬ (AreAsMany asked lists) → answer ≡ (code_of Field, lists)
  pub answered : AreAsMany asked lists
      → (answer.0 ≡ DONE) × AreAnswered (λ question row found. IsRead question row before found before) asked lists.0 answer.1
