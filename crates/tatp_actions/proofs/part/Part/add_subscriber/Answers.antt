use Rattle.tatp_actions.proofs.AdministrationLemmas.{subscriber_is_added}
use Rattle.tatp_actions.proofs.part.Part.add_subscriber.Goals as goal

pub returns : goal.returns
returns g c =
    subscriber_is_added _ _ _ _ _ c.args.row _ c.s_id-s_id.ensures.value c.s_id-s_id.ensures.in_range c.in_ok-more_subscribers.ensures.added c.in_ok-more_subscribers.ensures.kept
    c.zone_of-zone.ensures.value c.vlr_location.ensures c.subscriber_added-change.ensures
