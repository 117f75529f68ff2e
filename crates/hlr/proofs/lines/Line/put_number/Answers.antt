use Rattle.hlr.proofs.Common.{ap, length, length-take, arith, length-decimal-le, Written}
use Rattle.hlr.proofs.LineFacts.{long_number, number_over}
use Rattle.hlr.proofs.lines.Line.put_number.Goals as goal

pub returns-then-n-gt999999999999999-clause-bytes :
    goal.returns-then-n-gt999999999999999-clause-bytes
returns-then-n-gt999999999999999-clause-bytes c = rw (long_number c.args.n (omega arith) (omega arith)) c.put_decimal.ensures.bytes

pub write_digits-requires : goal.write_digits-requires
write_digits-requires c =
    let size = ap (λ (w : Written). length w.items) c.self.view_is in
    let room = length-take c.self.inside.len c.self.inside.bytes in
    let short = length-decimal-le 15 c.args.n (omega arith) (omega arith) c.ranges.n.fits in
    (omega (arith, size, room, short, c.self.told, c.put.ensures.len), omega (arith, c.self.told, c.self.invariant))

pub returns-clause-bytes : goal.returns-clause-bytes
returns-clause-bytes c =
    let w = c.write_digits.ensures in
    number_over c.args.n c.self.inside.bytes _ _ _ c.write_digits.result _ (omega arith) c.put.ensures.bytes (ap (λ (w : Written). w.items) c.self.view_is) w.before w.written w.start (omega (arith, c.self.told, c.self.invariant))
