use Rattle.hlr_core.proofs.Common.{arith, ◌∙◌, take_all}
use Rattle.hlr_core.proofs.HomeLemmas.{desk_later}
use Rattle.hlr_core.proofs.RunLemmas.{run_next}
use Rattle.hlr_core.proofs.AtHomeLemmas.{same_at_home}
use Rattle.hlr_core.proofs.register.Register.apply_all.Goals as goal

pub loop-order-preserved : goal.loop-order-preserved
loop-order-preserved c = record {
  run = run_next c.args.orders.now c.loop-order.order-index c.order-item.result _ _ _ _ _ _ c.loop-order-test.true c.order-item.is c.loop-order.invariant.run c.carry_out-answer.ensures.step c.push_reserved.ensures.items;
  home = c.carry_out-answer.ensures.home;
  spare = desk_later _ _ _ c.loop-order.invariant.spare c.carry_out-answer.ensures.spare;
  so_far = omega (arith, c.push_reserved.ensures.len, c.loop-order.invariant.so_far);
  room = c.push_reserved.ensures.capacity ∙ c.loop-order.invariant.room;
}

pub returns-clause-kept : goal.returns-clause-kept
returns-clause-kept c = same_at_home _ _ _ _ (rw (take_all c.loop-order.order-index c.args.orders.now c.loop-order-test.false) at c.loop-order.invariant.run)
