use Rattle.hlr_owners.proofs.Common.{err_from_is_err_and, sym, ap, ◌∙◌, both_from, new_destination}
use Rattle.tatp_actions.specs.declared.action.Action.TheVariants as action
use Rattle.hlr_owners.proofs.ReadLemmas.{subscriber_fits, reads, moving_while_out, numbers_read, none_read}
use Rattle.hlr_owners.proofs.owners.Owners.destinations.Goals as goal

pub returns-then-is_empty : goal.returns-then-is_empty
returns-then-is_empty c =
    let book = c.in_ok-holding.holding.now.part.book in
    let both = reads (action.NewDestination c.args.s_id c.args.sf_type c.args.start_time c.args.end_time) c.args.self.now (both_from _ _ (both_from _ _ (subscriber_fits _ c.requires.subscriber) c.requires.kind) (both_from _ _ c.requires.start c.requires.end)) c.in_ok-holding.holding.now c.in_ok-holding.ensures.home c.in_ok-holding.ensures.while_out _
    (ap (new_destination book) (sym c.destinations-numbers.ensures) ∙ none_read book c.destinations-numbers.result.items (sym c.is_empty.ensures ∙ c.if-is_empty.true)) in
    record { numbers = tt; refused = both.0; while_out = both.1 }

pub returns : goal.returns
returns c =
    let book = c.in_ok-holding.holding.now.part.book in
    let both = reads (action.NewDestination c.args.s_id c.args.sf_type c.args.start_time c.args.end_time) c.args.self.now (both_from _ _ (both_from _ _ (subscriber_fits _ c.requires.subscriber) c.requires.kind) (both_from _ _ c.requires.start c.requires.end)) c.in_ok-holding.holding.now c.in_ok-holding.ensures.home c.in_ok-holding.ensures.while_out _
    (ap (new_destination book) (sym c.destinations-numbers.ensures) ∙ numbers_read book c.destinations-numbers.result (sym c.is_empty.ensures ∙ c.if-is_empty.false)) in
    record { numbers = both.0; refused = tt; while_out = both.1 }

pub returns-in_err-holding-clause-while_out : goal.returns-in_err-holding-clause-while_out
returns-in_err-holding-clause-while_out c =
    let p = err_from_is_err_and c.from_residual.result c.from_residual.ensures.1 in
    let moving = c.in_err-holding.ensures.moving in
    rw (p.1, p.2) (moving_while_out (action.NewDestination c.args.s_id c.args.sf_type c.args.start_time c.args.end_time) c.args.self.now (both_from _ _ (both_from _ _ (subscriber_fits _ c.requires.subscriber) c.requires.kind) (both_from _ _ c.requires.start c.requires.end)) c.in_err-holding.field-0.0 (let is = moving.0 in cc) moving.1)
