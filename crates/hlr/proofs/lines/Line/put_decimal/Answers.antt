use Rattle.hlr.proofs.Common.{sym, arith, length_one}
use Rattle.hlr.proofs.LineFacts.{length_decimal}
use Rattle.hlr.proofs.lines.Line.put_decimal.Goals as goal

pub put_digits-requires-clause-count : goal.put_digits-requires-clause-count
put_digits-requires-clause-count c = sym (length_one c.args.n (omega arith))

pub put_digits-requires-then-n-lt100-clause-count : goal.put_digits-requires-then-n-lt100-clause-count
put_digits-requires-then-n-lt100-clause-count c = sym (length_decimal 1 c.args.n (omega arith) (omega arith) c.ranges.n.fits)

pub put_digits-requires-then-n-lt1000-clause-count : goal.put_digits-requires-then-n-lt1000-clause-count
put_digits-requires-then-n-lt1000-clause-count c = sym (length_decimal 2 c.args.n (omega arith) (omega arith) c.ranges.n.fits)

pub put_digits-requires-2-clause-count : goal.put_digits-requires-2-clause-count
put_digits-requires-2-clause-count c =
    let log = c.ilog10.ensures in sym (length_decimal c.ilog10.result c.args.n log.power_le log.next_power_gt c.ranges.n.fits)
