use Rattle.tatp_actions.proofs.Common.{Result, sym, subst, done_reply, Acts, notes_of, InsertForwarding}
use Rattle.tatp_actions.proofs.ActsLemmas.{handed_on}
use Rattle.tatp_actions.proofs.TransactionLemmas.{forwarding_inserted, insertion_refused}
use Rattle.tatp_actions.proofs.part.Part.insert_forwarding.Goals as goal

pub returns-in_err-more_forwardings : goal.returns-in_err-more_forwardings
returns-in_err-more_forwardings g c =
    subst (λ (r : Result _ _). Acts (InsertForwarding c.args.row) c.args.self.now (done_reply r) (notes_of r) c.more_forwardings.new.self) (sym (handed_on c.from_residual.result c.in_err-more_forwardings.field-0.0 c.from_residual.ensures))
    (insertion_refused _ _ _ _ _ c.args.row c.in-Some.facility _ c.s_id-s_id.ensures.value c.sf_type.ensures c.s_id-s_id.ensures.in_range c.facility.ensures.kept
    c.in-Some.ensures.found c.in_err-more_forwardings.ensures.added c.in_err-more_forwardings.ensures.kept)

pub returns : goal.returns
returns g c =
    forwarding_inserted _ _ _ _ _ _ _ c.args.row c.in-Some.facility _ c.s_id-s_id.ensures.value c.sf_type.ensures c.s_id-s_id.ensures.in_range c.facility.ensures.kept
    c.in-Some.ensures.found c.in_ok-more_forwardings.ensures.added c.in_ok-more_forwardings.ensures.kept c.is_active.ensures c.zone_of-zone.ensures.value c.forwarding_moved-change.ensures
