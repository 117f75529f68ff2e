use Rattle.hlr_workers.proofs.Common.{◌∙◌, refl, ap, arith, [], ◌∷◌, length, length-append, job_of}
use Rattle.hlr_workers.proofs.SessionLemmas.{itself, job_same, same_twice, within_later}
use Rattle.hlr_workers.proofs.WorkLemmas.{more_next, more_none, one_within}
use Rattle.hlr_workers.proofs.work.do_batch.Goals as goal

pub loop-one-init : goal.loop-one-init
loop-one-init g c = record {
  more = more_none c.args.replies.now.items c.args.holding.now;
  same = itself c.args.holding.now c.args.holding.now refl;
  long = omega arith;
  capacity = refl;
}

pub carry_out-reply-requires-clause-within : goal.carry_out-reply-requires-clause-within
carry_out-reply-requires-clause-within g c =
    let low = rw c.as_slice-one-items.ensures.value at c.loop-one-test.true in
    let is = rw c.as_slice-one-items.ensures.value at c.one-item.is in
    within_later c.args.holding.now c.loop-one.holding (job_of c.one-item.result.task) c.loop-one.invariant.same
    (one_within c.args.holding.now c.args.batch.now.items c.loop-one.one-index c.one-item.result c.requires.within low is)

pub push_reserved-requires : goal.push_reserved-requires
push_reserved-requires g c =
    omega (arith, c.loop-one.replies.ok, c.loop-one.invariant.long, rw c.as_slice-one-items.ensures.value at c.loop-one-test.true, c.requires.room, c.loop-one.invariant.capacity)

pub loop-one-preserved : goal.loop-one-preserved
loop-one-preserved g c =
    let low = rw c.as_slice-one-items.ensures.value at c.loop-one-test.true in
    let is = rw c.as_slice-one-items.ensures.value at c.one-item.is in
    let was = c.loop-one.invariant in
    record {
      more = more_next c.args.batch.now.items c.loop-one.one-index c.one-item.result c.args.replies.now.items c.loop-one.replies.items c.push_reserved.new.self.items c.carry_out-reply.result c.args.holding.now c.loop-one.holding
          c.carry_out-reply.new.holding low is was.more c.carry_out-reply.ensures c.push_reserved.ensures.items;
      same = same_twice c.args.holding.now c.loop-one.holding c.carry_out-reply.new.holding was.same
          (job_same (job_of c.one-item.result.task) c.loop-one.holding c.carry_out-reply.result c.carry_out-reply.new.holding c.carry_out-reply.ensures);
      long =
          let grew = ap length c.push_reserved.ensures.items in
          let one = length-append c.loop-one.replies.items ((c.one-item.result.number, c.carry_out-reply.result) ∷ []) in
          let long = was.long in
          omega (arith, grew, one, long);
      capacity = c.push_reserved.ensures.capacity ∙ was.capacity;
    }
