use Rattle.tatp_actions.proofs.Common.{sym, ap, ◌∙◌, has_active}
use Rattle.tatp_actions.proofs.DestinationLemmas.{asked_again, numbers_found}
use Rattle.tatp_actions.proofs.destinations.find_destinations.Goals as goal

pub returns-clause-found : goal.returns-clause-found
returns-clause-found g c =
    numbers_found _ _ _ _ _ c.args.s_id c.args.sf_type c.args.start_time c.args.end_time _ _ _ _ c.requires
    (asked_again _ _ c.facility.ensures.kept) c.find_destination-first.ensures.asked c.find_destination-second.ensures.asked c.find_destination-third.ensures.asked
    (sym c.if-not-is_active.false ∙ c.is_active.ensures ∙ ap has_active c.facility.ensures.found)
    c.find_destination-first.ensures.found c.find_destination-second.ensures.found c.find_destination-third.ensures.found c.numbers_of.ensures
