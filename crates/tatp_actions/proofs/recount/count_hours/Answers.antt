use Rattle.tatp_actions.proofs.Common.{◌∙◌, sym}
use Rattle.tatp_actions.proofs.CounterLemmas.{hours_go_on, hours_end}
use Rattle.tatp_actions.proofs.recount.count_hours.Goals as goal

pub loop-hour-preserved : goal.loop-hour-preserved
loop-hour-preserved c = rw c.count_with_room.ensures (sym (hours_go_on c.loop-hour.hour c.args.to c.loop-hour.cells c.loop-hour-test.true) ∙ c.loop-hour.invariant)

pub returns : goal.returns
returns c = sym (hours_end c.loop-hour.hour c.args.to c.loop-hour.cells c.loop-hour-test.false) ∙ c.loop-hour.invariant
