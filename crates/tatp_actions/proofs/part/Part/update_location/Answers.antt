use Rattle.tatp_actions.proofs.Common.{refl, sym, ◌∙◌, subscriber_at}
use Rattle.tatp_actions.proofs.TransactionLemmas.{location_moved}
use Rattle.tatp_actions.proofs.part.Part.update_location.Goals as goal

pub returns : goal.returns
returns g c =
    rw (← c.get-vlr_location.ensures.value)
    (location_moved c.args.self.now c.revise_subscriber.new.self c.args.s_id c.get-vlr_location.result c.to-swap.result
    c.location.result _ (subscriber_at c.args.self.now.book c.args.s_id) c.revise_subscriber.ensures.rules c.requires
    c.get-vlr_location.ensures.nonzero c.get-vlr_location.type_inv refl
    (sym c.if-not-revise_subscriber.false ∙ c.revise_subscriber.ensures.found)
    (rw c.location.ensures c.revise_subscriber.ensures.spent) c.to-swap.ensures c.revise_subscriber.ensures.kept
    c.revise_subscriber.ensures.asked c.location_moved-change.ensures)
