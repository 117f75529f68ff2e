use Rattle.tatp_actions.proofs.Common.{◌≡◌, ℕ, sym, map, subst, arith, Some, None, SubscriberRow, first_subscriber, PartState}
use Rattle.tatp_actions.proofs.FirstLemmas.{first_answered, none_past}
use Rattle.tatp_actions.proofs.recount.Part.first_sub_from.Goals as goal

pub returns-then-s_id-last : goal.returns-then-s_id-last
returns-then-s_id-last c =
    let part = c.self.invariant.0 in
    let bound = part.range.2 in
    subst (λ (is : PartState). None ≡ first_subscriber c.args.s_id is.book.subscribers) c.self.view_is
    (sym (none_past c.args.s_id c.self.inside.lo c.self.inside.hi (map (λ (pair : ℕ × SubscriberRow). pair.1) c.self.inside.rows.subscribers.rows) (omega arith) part.rows.subscribers))

pub returns-in_err-row : goal.returns-in_err-row
returns-in_err-row c =
    rw c.from_residual.ensures
    (subst (λ (is : PartState). None ≡ first_subscriber c.args.s_id is.book.subscribers) c.self.view_is
    (first_answered c.args.s_id c.subscriber_key.result c.self.inside.rows.subscribers.rows None c.self.invariant.1.subscribers c.subscriber_key.ensures c.in_err-row.ensures))

pub returns : goal.returns
returns c =
    subst (λ (is : PartState). Some c.in_ok-row.row.now ≡ first_subscriber c.args.s_id is.book.subscribers) c.self.view_is
    (first_answered c.args.s_id c.subscriber_key.result c.self.inside.rows.subscribers.rows (Some (c.in_ok-row.field-0-0, c.in_ok-row.row.now)) c.self.invariant.1.subscribers c.subscriber_key.ensures c.in_ok-row.ensures)
