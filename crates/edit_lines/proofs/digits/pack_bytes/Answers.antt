use Rattle.edit_lines.proofs.Common.{arith, length, pow-le-pow_right}
use Rattle.edit_lines.proofs.digits.pack_bytes.Goals as goal

pub pack-requires-clause-room : goal.pack-requires-clause-room
pack-requires-clause-room c =
    let power = pow-le-pow_right {n = 256} (omega arith) {i = length c.args.bytes.now} {j = 5} c.requires in
    omega arith
