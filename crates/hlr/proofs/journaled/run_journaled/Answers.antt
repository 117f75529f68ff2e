use Rattle.hlr.proofs.Common.{Err, IsStop}
use Rattle.hlr.specs.declared.fault.Fault.TheVariants as fault
use Rattle.hlr.proofs.JournaledFacts.{ran_ended, ran_journaled, ran_none}
use Rattle.hlr.proofs.journaled.run_journaled.Goals as goal

pub returns-in_default-clause-text : goal.returns-in_default-clause-text
returns-in_default-clause-text g c =
    ran_ended g.D.Device.may_leave g.D.Device.moment g.D.Device.left_since IsStop _ _ _ _ IsStop (λ bytes rows why stop. stop) _ _ _ (Err fault.Memory) _
    (ran_none g.D.Device.seen g.D.Device.may_leave g.D.Device.moment g.D.Device.left_since g.met.D.Device.only_now c.args.journaled.now _ _ c.requires.settled) c.finish.ensures.bytes c.finish.ensures.answer

pub returns-clause-text : goal.returns-clause-text
returns-clause-text g c =
    ran_journaled g.D.Device.may_leave g.D.Device.moment g.D.Device.left_since _ _ _ _ _ _ _ _ _ _ _ _ c.in-Ok.ensures.source c.answer_all-done.ensures.text c.finish-2.ensures.bytes c.finish-2.ensures.answer
