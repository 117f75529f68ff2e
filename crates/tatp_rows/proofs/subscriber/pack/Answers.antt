use Rattle.tatp_rows.proofs.Common.{◌-◌, arith}
use Rattle.tatp_rows.proofs.PackLemmas.{pack_none, pack_more, pack_fits, pack_all, pack_below}
use Rattle.tatp_rows.proofs.subscriber.pack.Goals as goal

pub overflow_mul-value : goal.overflow_mul-value
overflow_mul-value c = let fits = pack_fits _ _ _ _ c.loop-i.invariant c.requires.base.1 c.loop-i-test.true in omega arith

pub overflow_add-value : goal.overflow_add-value
overflow_add-value c =
    let fits = pack_fits _ _ _ _ c.loop-i.invariant c.requires.base.1 c.loop-i-test.true in
    let digit = c.fits-digits (9 - c.loop-i.i) in
    omega (arith, c.from.ensures)

pub loop-i-init : goal.loop-i-init
loop-i-init c = pack_none _ _

pub loop-i-preserved : goal.loop-i-preserved
loop-i-preserved c =
    let long = c.told-digits in
    let inside = c.loop-i-test.true in
    let digit = c.requires.digits (9 - c.loop-i.i) (omega arith) in
    pack_more _ _ _ (9 - c.loop-i.i) _ _ c.loop-i.invariant c.requires.base.1 (omega arith) c.from.ensures (omega (arith, c.from.ensures))

pub returns-clause-value : goal.returns-clause-value
returns-clause-value c = let long = c.told-digits in pack_all _ _ _ _ c.loop-i.invariant (omega arith)

pub returns-clause-below : goal.returns-clause-below
returns-clause-below c =
    let long = c.told-digits in
    rw long at (pack_below c.args.base c.args.digits.now _ _ c.loop-i.invariant (omega arith) c.requires.digits)
