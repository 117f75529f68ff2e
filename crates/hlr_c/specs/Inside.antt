-- What calls inside the crate promise each other. No clause of a public call cites this.
use Rattle.std.specs.Prelude.{◌≡◌, ◌⊎◌, ℕ, ◌+◌, ◌-◌, ◌<◌, ◌≤◌, Bool, true, false, List, length, Option, Some, None, slice_index, slice_index_or, ⊤}
use Rattle.tatp_rows.specs.Refusal.{code_of}
use Rattle.tatp_rows.specs.Rows.{is_between}
use Rattle.tatp_rows.specs.declared.refusal.Refusal.{Refusal}
use Rattle.tatp_rows.specs.declared.ranges.TheConstants.{LAST_SUBSCRIBER}
use Rattle.tatp_actions.specs.Action.{is_in_range, is_typed}
use Rattle.tatp_actions.specs.declared.action.Action.TheVariants as action
use Rattle.holding.specs.Held.{HoldingState}
use Rattle.hlr_owners.specs.Owners.{OwnersState}
use Rattle.hlr_core.specs.WhileOut.{IsRegisterStep}
use Rattle.hlr_core.specs.declared.event.Event.{Event}
use Rattle.hlr_core.specs.declared.event.Event.TheVariants as event
use Rattle.hlr_core.specs.declared.event.Reply.TheVariants as reply
use Rattle.hlr_lent.specs.Away.{IsAway}
use Rattle.hlr_lent.specs.Sent.{holding_sent}
use Rattle.hlr_lent.specs.declared.lent_part.Sent.{Sent}
use Rattle.hlr_c.specs.Many.{AreAsMany}
use Rattle.hlr_c.specs.Parts.{has}
use Rattle.hlr_c.specs.declared.codes.TheConstants.{AWAY}
use Rattle.hlr_c.specs.declared.rows.HlrAccessAsked.{HlrAccessAsked}
use Rattle.hlr_c.specs.declared.rows.HlrDestinationAsked.{HlrDestinationAsked}

-- an event that changes rows, if it is done
abbrev pub changes_rows : Event → Bool
changes_rows (event.SubscriberData s_id) = false
changes_rows (event.NewDestination s_id sf_type start_time end_time) = false
changes_rows (event.AccessData s_id ai_type) = false
changes_rows (event.Post part limit) = false
changes_rows (event.Give part side at) = false
changes_rows (event.Take piece part) = false
changes_rows (event.Divide part at) = false
changes_rows (event.Dissolve part) = false
changes_rows _ = true

-- the code of an event that needs a lent part: that of a refusal that is known without the part, or AWAY
abbrev pub IsAwayCode : Event → OwnersState → ℕ → Type 0
IsAwayCode event register code =
    ((code ≡ AWAY) × IsAway event register)
    ⊎ (¬ (IsAway event register) × (why : Refusal)
    × IsRegisterStep event register (reply.Refused why) register × (code ≡ code_of why))

-- the part of a handle went home as it was, if there was one
abbrev pub IsSent : Option HoldingState → Option Sent → Type 0
IsSent None None = ⊤
IsSent None (Some left) = ⊥
IsSent (Some kept) None = ⊥
IsSent (Some kept) (Some left) = holding_sent left ≡ Some kept

-- places from one up to another of this many, at most 16
abbrev pub IsBlock : ℕ → ℕ → ℕ → Type 0
IsBlock from to count = (from ≤ to) × (to ≤ count) × (to ≤ from + 16)

-- the questions in front of one have their answers, and the rows from there on are as before
pub record IsAnsweredTo {Q X : Type 0} (Answers : Q → X → ℕ × X → Type 0) (asked : List Q) (before : List X) (lists : List X × List ℕ) (n : ℕ) : Type 0 where
  pub as_many : AreAsMany asked lists
  pub here : (k : ℕ) (question : Q) (row : X) → k < n
      → Answers (slice_index_or asked k question) (slice_index_or before k row) (slice_index lists.1 k, slice_index_or lists.0 k row)
  pub ahead : (k : ℕ) (row : X) → n ≤ k → slice_index_or lists.0 k row ≡ slice_index_or before k row

-- the questions in front of the second place have their answers, if those in front of the first one had them
abbrev pub AnswersFrom : {Q X : Type 0} → (Q → X → ℕ × X → Type 0) → List Q → ℕ → ℕ → List X × List ℕ → List X × List ℕ → Type 0
AnswersFrom {Q} {X} Answers asked from to old new =
    (before : List X) → IsAnsweredTo Answers asked before old from → IsAnsweredTo Answers asked before new to

-- what was found for each question tells its answer
pub record AreTold {S Q F X : Type 0} (IsRead : Q → X → S → ℕ × X → S → Type 0) (told : Q → X → F → ℕ × X) (of : S) (asked : List Q) (found : List F) : Type 0 where
  pub as_many : length found ≡ length asked
  pub each : (at : ℕ) (question : Q) (one : F) (row : X) → at < length asked
      → IsRead (slice_index_or asked at question) row of (told (slice_index_or asked at question) row (slice_index_or found at one)) of

-- the places from one up to another have what is told of their questions and of what was found for these; those in
-- front are as before, and so are the rows behind
pub record AreWritten {Q F X : Type 0} (told : Q → X → F → ℕ × X) (asked : List Q) (found : List F) (from : ℕ) (old new : List X × List ℕ) (to : ℕ) : Type 0 where
  pub as_many : AreAsMany asked new
  pub behind : (k : ℕ) (row : X) → k < from → (slice_index new.1 k ≡ slice_index old.1 k) × (slice_index_or new.0 k row ≡ slice_index_or old.0 k row)
  pub here : (k : ℕ) (question : Q) (one : F) (row : X) → from ≤ k → k < to
      → told (slice_index_or asked k question) (slice_index_or old.0 k row) (slice_index_or found (k - from) one) ≡ (slice_index new.1 k, slice_index_or new.0 k row)
  pub ahead : (k : ℕ) (row : X) → to ≤ k → slice_index_or new.0 k row ≡ slice_index_or old.0 k row

-- an s_id is one of a part
abbrev pub IsOwn : ℕ → HoldingState → Type 0
IsOwn s_id part = (is_between 1 LAST_SUBSCRIBER s_id ≡ true) × (has s_id part ≡ true)

-- an access is asked for whose fields are in range, of a subscriber of a part
abbrev pub IsOwnAccess : HlrAccessAsked → HoldingState → Type 0
IsOwnAccess asked part = (is_typed asked.s_id asked.ai_type ≡ true) × (has asked.s_id part ≡ true)

-- numbers are asked for by fields in range, of a subscriber of a part
abbrev pub IsOwnCall : HlrDestinationAsked → HoldingState → Type 0
IsOwnCall asked part =
    (is_in_range (action.NewDestination asked.s_id asked.sf_type asked.start_time asked.end_time) ≡ true) × (has asked.s_id part ≡ true)
