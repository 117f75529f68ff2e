use Rattle.tatp_actions.proofs.Common.{sym, ◌∙◌, subscriber_at}
use Rattle.tatp_actions.proofs.ActsLemmas.{some_from}
use Rattle.tatp_actions.proofs.AdministrationLemmas.{facility_is_added}
use Rattle.tatp_actions.proofs.part.Part.add_facility.Goals as goal

pub returns : goal.returns
returns g c =
    let there = some_from (subscriber_at c.args.self.now.book c.s_id-s_id.result) (sym c.has_subscriber.ensures.value ∙ c.if-not-has_subscriber.false) in
    facility_is_added _ _ _ _ _ c.args.row there.0 _ c.has_subscriber.ensures.rules c.s_id-s_id.ensures.value c.s_id-s_id.ensures.in_range c.has_subscriber.ensures.kept there.1
    c.in_ok-more_facilities.ensures.added c.in_ok-more_facilities.ensures.kept c.zone_of-zone.ensures.value c.row_added.ensures
