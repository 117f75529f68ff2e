use Rattle.tatp_actions.proofs.Common.{◌≡◌, ◌-◌, one_more_from}
use Rattle.tatp_actions.proofs.recount.count_hours.Given as goal

abbrev pub invariant-loop-hour : goal.invariant-loop-hour
invariant-loop-hour l = one_more_from l.hour (l.to - l.hour) l.cells ≡ one_more_from l.from (l.to - l.from) l.initial.cells
