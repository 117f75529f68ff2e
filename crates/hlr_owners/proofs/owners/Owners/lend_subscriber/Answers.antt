use Rattle.hlr_owners.proofs.Common.{err_from_is_err_and, sym, ap, subscriber_data}
use Rattle.tatp_actions.specs.declared.action.Action.TheVariants as action
use Rattle.hlr_owners.proofs.ReadLemmas.{subscriber_fits, reads, moving_while_out}
use Rattle.hlr_owners.proofs.owners.Owners.lend_subscriber.Goals as goal

pub returns-in-Some : goal.returns-in-Some
returns-in-Some c =
    let both = reads (action.SubscriberData c.args.s_id) c.args.self.now (subscriber_fits _ c.requires.subscriber) c.in_ok-holding.holding.now c.in_ok-holding.ensures.home c.in_ok-holding.ensures.while_out _
    (ap (subscriber_data c.in_ok-holding.holding.now.part.book) (sym c.in-Some.ensures)) in
    record { row = both.0; refused = tt; while_out = both.1 }

pub returns-in-None : goal.returns-in-None
returns-in-None c =
    let both = reads (action.SubscriberData c.args.s_id) c.args.self.now (subscriber_fits _ c.requires.subscriber) c.in_ok-holding.holding.now c.in_ok-holding.ensures.home c.in_ok-holding.ensures.while_out _
    (ap (subscriber_data c.in_ok-holding.holding.now.part.book) (sym c.in-None.ensures)) in
    record { row = tt; refused = both.0; while_out = both.1 }

pub returns-in_err-holding-clause-while_out : goal.returns-in_err-holding-clause-while_out
returns-in_err-holding-clause-while_out c =
    let p = err_from_is_err_and c.from_residual.result c.from_residual.ensures.1 in
    let moving = c.in_err-holding.ensures.moving in
    rw (p.1, p.2) (moving_while_out (action.SubscriberData c.args.s_id) c.args.self.now (subscriber_fits _ c.requires.subscriber) c.in_err-holding.field-0.0 (let is = moving.0 in cc) moving.1)
