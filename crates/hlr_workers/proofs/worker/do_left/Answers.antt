use Rattle.hlr_workers.proofs.Common.{arith}
use Rattle.hlr_workers.proofs.ShapeLemmas.{not_again}
use Rattle.hlr_workers.proofs.WorkLemmas.{batch_done, room, stop_done, within}
use Rattle.hlr_workers.proofs.worker.do_left.Goals as goal

pub do_batch-requires-clause-within : goal.do_batch-requires-clause-within
do_batch-requires-clause-within g c κs lives =
    let left = rw c.in-Do.is at c.requires.left in
    within left.0 c.args.replies.now.items c.args.holding.now c.in-Do.batch left.1 left.2

pub do_batch-requires-clause-room : goal.do_batch-requires-clause-room
do_batch-requires-clause-room g c =
    let left = rw c.in-Do.is at c.requires.left in
    omega (arith, room left.0 c.args.replies.now.items c.args.holding.now c.in-Do.batch left.1 left.2, c.requires.room)

pub unreachable-requires : goal.unreachable-requires
unreachable-requires g c =
    let left = rw c.in-Begin.is at c.requires.left in
    not_again left.0 c.in-Begin.field-0 left.1.0 left.2.0

pub returns-in-Do-clause-done : goal.returns-in-Do-clause-done
returns-in-Do-clause-done g c =
    rw c.in-Do.is (λ got done well. batch_done got c.args.replies.now.items c.args.holding.now c.in-Do.batch done well c.do_batch.new.replies.items c.do_batch.new.holding c.do_batch.ensures.done)

pub returns-in-Stop-clause-done : goal.returns-in-Stop-clause-done
returns-in-Stop-clause-done g c = rw c.in-Stop.is (λ got done well. stop_done got c.args.replies.now.items c.args.holding.now done)
