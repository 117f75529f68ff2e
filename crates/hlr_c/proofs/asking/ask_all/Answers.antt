use Rattle.hlr_c.proofs.Common.{arith, refl}
use Rattle.hlr_c.proofs.asking.ask_all.Goals as goal

pub loop-from-preserved-then-not-ask_block : goal.loop-from-preserved-then-not-ask_block
loop-from-preserved-then-not-ask_block g c =
    let none = c.if-not-ask_block.ensures.none refl in
    record { within = c.block_end-to.ensures.block.1; answered = c.ask_each.ensures c.args.rows.now (rw (none.0, none.1) c.loop-from.invariant.answered) }

pub loop-from-preserved : goal.loop-from-preserved
loop-from-preserved g c = record { within = c.block_end-to.ensures.block.1; answered = c.if-not-ask_block.ensures.done refl c.args.rows.now c.loop-from.invariant.answered }

pub returns : goal.returns
returns g c = λ at question row below. c.loop-from.invariant.answered.here at question row (omega (arith, c.loop-from-test.false, below))
