use Rattle.hlr_kept.specs.UnderWay.{IsReady}
use Rattle.hlr_kept.proofs.tests.submit.Given as goal

abbrev pub invariant-loop-event : goal.invariant-loop-event
invariant-loop-event g l = IsReady g.D.Device.seen g.D.Device.may_leave l.kept.journaled
