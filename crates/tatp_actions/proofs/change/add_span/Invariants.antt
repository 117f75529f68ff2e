use Rattle.tatp_actions.proofs.Common.{◌≤◌, max}
use Rattle.tatp_actions.proofs.DeltaLemmas.{AreSpanned}
use Rattle.tatp_actions.proofs.change.add_span.Given as goal

abbrev pub invariant-loop-hour : goal.invariant-loop-hour
invariant-loop-hour l = (l.hour ≤ max l.from l.to) × AreSpanned l.initial.deltas l.deltas l.up l.from l.hour
