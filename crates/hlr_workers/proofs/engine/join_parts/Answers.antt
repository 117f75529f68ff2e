use Rattle.hlr_workers.proofs.Common.{arith, outs_in}
use Rattle.hlr_workers.proofs.EngineLemmas.{brought_itself, brought_twice, none_next}
use Rattle.hlr_workers.proofs.engine.join_parts.Goals as goal

pub loop-part-init : goal.loop-part-init
loop-part-init g c = record { brought = brought_itself _ _ c.requires.kept; home = λ q from low. absurd (omega arith) }

pub loop-part-preserved : goal.loop-part-preserved
loop-part-preserved g c =
    let was = c.loop-part.invariant in
    let home = c.join.ensures in
    record {
      brought = brought_twice _ _ _ _ _ _ was.brought home.brought;
      home = λ q from low. rw home.home (none_next (outs_in c.loop-part.workers.register.owners) c.args.parts.first c.loop-part.part was.home q from low);
    }

pub returns-clause-home : goal.returns-clause-home
returns-clause-home g c =
    let past = c.loop-part-test.false in
    λ q from low. c.loop-part.invariant.home q from (omega arith)
