use Rattle.tatp_actions.proofs.Common.{◌∙◌, ap, destination}
use Rattle.tatp_actions.proofs.DestinationLemmas.{by_times, destination_late}
use Rattle.tatp_actions.proofs.destinations.find_destination.Goals as goal

pub returns-then-start_time-hour-clause-found : goal.returns-then-start_time-hour-clause-found
returns-then-start_time-hour-clause-found g c =
    destination_late c.args.part.now.book c.args.s_id c.args.sf_type c.args.hour c.args.start_time c.args.end_time c.if-start_time-hour.true

pub returns-clause-found : goal.returns-clause-found
returns-clause-found g c =
    c.number_of.ensures
    ∙ by_times _ c.args.s_id c.args.sf_type c.args.hour c.args.start_time c.args.end_time c.requires.rows.rules c.ranges.sf_type.fits c.ranges.hour.fits _ c.forwarding-found.ensures.found
    ∙ ap (destination c.args.s_id c.args.sf_type c.args.start_time c.args.end_time) c.forwarding-found.ensures.found
