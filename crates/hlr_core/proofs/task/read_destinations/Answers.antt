use Rattle.hlr_core.proofs.Common.{◌≡◌, ◌∙◌, refl, sym, ap, ℕ, true, is_between, is_start_time, LAST_SUBSCRIBER, both_from, is_in_range, new_destination, none_read, numbers_read}
use Rattle.tatp_rows.specs.declared.refusal.Refusal.TheVariants as refusal
use Rattle.tatp_actions.specs.declared.action.Action.TheVariants as action
use Rattle.tatp_actions.specs.declared.action.RowReply.TheVariants as row_reply
use Rattle.hlr_core.proofs.TaskLemmas.{field_acted, held_fits, read_acted}
use Rattle.hlr_core.proofs.task.read_destinations.Goals.{then-not-is_between-via-then-not-is_between, then-not-is_between-via-else-not-is_between+then-not-is_start_time, then-not-is_between-via-else-not-is_between+else-not-is_start_time+then-not-is_between-2}
use Rattle.hlr_core.proofs.task.read_destinations.Goals as goal

pub returns-then-not-is_between : goal.returns-then-not-is_between
returns-then-not-is_between c =
    let rules = c.rules.ensures in
    let held = held_fits c.args.holding.now rules c.args.s_id c.requires in
    field_acted (action.NewDestination c.args.s_id c.args.sf_type c.args.start_time c.args.end_time) c.args.holding.now rules
    (elim c.then-not-is_between.branch [
      | then-not-is_between-via-then-not-is_between w ↦ rw (held, sym w.if-not-is_between.ensures) refl
      | then-not-is_between-via-else-not-is_between+then-not-is_start_time w ↦
          rw (held, sym w.if-not-is_between.ensures, sym (rw w.from.ensures at w.if-not-is_start_time.ensures)) refl
      | then-not-is_between-via-else-not-is_between+else-not-is_start_time+then-not-is_between-2 w ↦
          rw (held, sym w.if-not-is_between.ensures, sym (rw w.from.ensures at w.if-not-is_start_time.ensures), sym w.if-not-is_between-2.ensures) refl
    ])

-- the fields are in range
fits : (s_id sf_type start_time end_time : ℕ) → is_between 1 LAST_SUBSCRIBER s_id ≡ true → is_between 1 4 sf_type ≡ true → is_start_time start_time ≡ true → is_between 1 24 end_time ≡ true
    → is_in_range (action.NewDestination s_id sf_type start_time end_time) ≡ true
fits s_id sf_type start_time end_time held kind start end = both_from _ _ (both_from _ _ held kind) (both_from _ _ start end)

pub returns-then-is_empty : goal.returns-then-is_empty
returns-then-is_empty c =
    let book = c.args.holding.now.part.book in
    read_acted (action.NewDestination c.args.s_id c.args.sf_type c.args.start_time c.args.end_time) c.args.holding.now c.rules.ensures (row_reply.Refused refusal.NoDestination) (fits c.args.s_id c.args.sf_type c.args.start_time c.args.end_time (held_fits c.args.holding.now c.rules.ensures c.args.s_id c.requires) (sym c.if-not-is_between.ensures) (sym (rw c.from.ensures at c.if-not-is_start_time.ensures)) (sym c.if-not-is_between-2.ensures))
    (ap (new_destination book) (sym c.destinations-numbers.ensures) ∙ none_read book c.destinations-numbers.result.items (sym c.is_empty.ensures ∙ c.if-is_empty.true))

pub returns : goal.returns
returns c =
    let book = c.args.holding.now.part.book in
    read_acted (action.NewDestination c.args.s_id c.args.sf_type c.args.start_time c.args.end_time) c.args.holding.now c.rules.ensures (row_reply.Numbers c.destinations-numbers.result) (fits c.args.s_id c.args.sf_type c.args.start_time c.args.end_time (held_fits c.args.holding.now c.rules.ensures c.args.s_id c.requires) (sym c.if-not-is_between.ensures) (sym (rw c.from.ensures at c.if-not-is_start_time.ensures)) (sym c.if-not-is_between-2.ensures))
    (ap (new_destination book) (sym c.destinations-numbers.ensures) ∙ numbers_read book c.destinations-numbers.result (sym c.is_empty.ensures ∙ c.if-is_empty.false))
