use Rattle.hlr_workers.proofs.Common.{arith, view}
use Rattle.hlr_workers.proofs.ShapeLemmas.{not_again}
use Rattle.hlr_workers.proofs.WorkLemmas.{at_work, batch_done, room, stop_done, within}
use Rattle.hlr_workers.proofs.work.serve.Goals as goal

pub do_batch-requires-clause-within : goal.do_batch-requires-clause-within
do_batch-requires-clause-within g c κs lives =
    rw c.deref_mut.ensures.value (within (view c.loop.pass).got c.loop.replies.items c.loop.holding.value c.in-Do.batch c.loop.invariant.work.1 c.in-Do.ensures.right)

pub do_batch-requires-clause-room : goal.do_batch-requires-clause-room
do_batch-requires-clause-room g c κs lives =
    let few = room (view c.loop.pass).got c.loop.replies.items c.loop.holding.value c.in-Do.batch c.loop.invariant.work.1 c.in-Do.ensures.right in
    let places = c.loop.invariant.room in omega (arith, few, places)

pub loop-preserved : goal.loop-preserved
loop-preserved g c = record {
  pass = c.pop.ensures.pass;
  board = c.do_batch.ensures.board;
  work = at_work _ _ _ _ c.in-Do.ensures.got
      (batch_done (view c.loop.pass).got c.loop.replies.items c.loop.holding.value c.in-Do.batch c.loop.invariant.work.1 c.in-Do.ensures.right c.do_batch.new.replies.items c.do_batch.new.holding
      (rw c.deref_mut.ensures.value at c.do_batch.ensures.done));
  room = rw c.do_batch.ensures.capacity c.loop.invariant.room;
}

pub unreachable-requires : goal.unreachable-requires
unreachable-requires g c = not_again (view c.loop.pass).got c.in-Begin.field-0 c.loop.invariant.work.1.0 c.in-Begin.ensures.right.0

pub returns-in-Stop-clause-work : goal.returns-in-Stop-clause-work
returns-in-Stop-clause-work g c = at_work _ _ _ _ c.in-Stop.ensures.got (stop_done (view c.loop.pass).got c.loop.replies.items c.loop.holding.value c.loop.invariant.work.1)
