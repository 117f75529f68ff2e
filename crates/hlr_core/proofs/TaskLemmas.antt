-- What an event asks for as a task, and what a holding answers to a task.
use Rattle.hlr_core.proofs.Common.{◌≡◌, ◌∙◌, refl, sym, ap, ℕ, Bool, true, false, Option, Some, None, Ok, Err, inl, inr, arith, Bor, MatchResult, ok_or, option_copied, AccessInfoRow, SubscriberRow, is_between, LAST_SUBSCRIBER, Refusal, access_data, effect, is_in_range, subscriber_data, IsOutcome, IsWithin, access_at, subscriber_at, Action, RowReply, HoldingState, IsHolding, subscriber_fits, IsAsked, IsRowAction, AsksFor, IsActed, checked, reply_of, Reply}
use Rattle.tatp_rows.specs.declared.refusal.Refusal.TheVariants as refusal
use Rattle.tatp_actions.specs.declared.action.Action.TheVariants as action
use Rattle.tatp_actions.specs.declared.action.RowReply.TheVariants as row_reply
use Rattle.holding.specs.declared.job.Job.TheVariants as job
use Rattle.hlr_core.specs.declared.event.Reply.TheVariants as reply

-- what is asked for where fields are in range or not, and an action is wanted or none
pub refused_so : (fits : Bool) (wanted : Option Action) (why : Refusal) → IsAsked fits wanted (Err why) → checked fits wanted ≡ Err why
refused_so false wanted why is = ap Err (sym is)
refused_so true None why is = ap Err (sym is)
refused_so true (Some act) why is = absurd is

pub asks_so : (fits : Bool) (wanted : Option Action) (act : Action) → IsAsked fits wanted (Ok act) → IsRowAction act → is_in_range act ≡ true → AsksFor (checked fits wanted) (job.Act act)
asks_so fits wanted act asked row in_range = (rw (asked.1 ∙ in_range, asked.0) refl, row, in_range)

-- what is read of a holding leaves it
module _ (act : Action) (holding : HoldingState) (rules : IsHolding holding) where
  kept_acted : (rows : RowReply) → IsOutcome act holding.part.book rows holding.part.book → IsActed act holding (reply_of rows) holding
  kept_acted rows outcome = record { rows = rows; outcome = outcome; answered = refl; range = (refl, refl, refl); desk = (refl, refl); rules = rules }

  pub read_acted : (rows : RowReply) → is_in_range act ≡ true → effect act holding.part.book ≡ (rows, holding.part.book) → IsActed act holding (reply_of rows) holding
  read_acted rows in_range does = kept_acted rows (inr (inl (in_range, sym does)))

  pub field_acted : is_in_range act ≡ false → IsActed act holding (reply.Refused refusal.Field) holding
  field_acted out = kept_acted (row_reply.Refused refusal.Field) (inl (out, refl, refl))

-- the subscriber of a holding's action is one of all
pub held_fits : (holding : HoldingState) → IsHolding holding → (s_id : ℕ) → IsWithin holding.part.lo holding.part.hi s_id → is_between 1 LAST_SUBSCRIBER s_id ≡ true
held_fits holding rules s_id within =
    let range = rules.rules.range in
    let from = range.0 in
    let to = range.2 in
    let low = within.0 in
    let high = within.1 in
    subscriber_fits s_id (omega arith, omega arith)

module _ (s_id : ℕ) (holding : HoldingState) (rules : IsHolding holding) (within : IsWithin holding.part.lo holding.part.hi s_id) where
  pub subscriber_acted : (lent : Option (Bor SubscriberRow)) (answer : Reply) → option_copied lent ≡ subscriber_at holding.part.book s_id
      → MatchResult (ok_or lent refusal.NoSubscriber) (λ row. answer ≡ reply.Rows (row_reply.Row row.now)) (λ why. answer ≡ reply.Refused why)
      → IsActed (action.SubscriberData s_id) holding answer holding
  subscriber_acted (Some row) answer found is =
      rw is (read_acted (action.SubscriberData s_id) holding rules (row_reply.Row row.now) (held_fits holding rules s_id within) (ap (subscriber_data holding.part.book) (sym found)))
  subscriber_acted None answer found is =
      rw is (read_acted (action.SubscriberData s_id) holding rules (row_reply.Refused refusal.NoSubscriber) (held_fits holding rules s_id within) (ap (subscriber_data holding.part.book) (sym found)))

  pub access_acted : (kind : ℕ) → is_between 1 4 kind ≡ true → (found : Option AccessInfoRow) (answer : Reply) → found ≡ access_at holding.part.book s_id kind
      → MatchResult (ok_or found refusal.NoAccess) (λ row. answer ≡ reply.Rows (row_reply.AccessRow row.data1 row.data2 row.data3 row.data4)) (λ why. answer ≡ reply.Refused why)
      → IsActed (action.AccessData s_id kind) holding answer holding
  access_acted kind typed (Some row) answer same is =
      rw is (read_acted (action.AccessData s_id kind) holding rules (row_reply.AccessRow row.data1 row.data2 row.data3 row.data4) (rw (held_fits holding rules s_id within, typed) refl)
      (ap (access_data holding.part.book) (sym same)))
  access_acted kind typed None answer same is =
      rw is (read_acted (action.AccessData s_id kind) holding rules (row_reply.Refused refusal.NoAccess) (rw (held_fits holding rules s_id within, typed) refl)
      (ap (access_data holding.part.book) (sym same)))
