use Rattle.hlr.proofs.Common.{◌≡◌, ◌∙◌, ◌++◌, ap, length, length-take, take, arith, decimal, Written}
use Rattle.hlr.proofs.LineFacts.{written_behind}
use Rattle.hlr.proofs.lines.Line.put_digits.Goals as goal

-- there is room for the digits
pub write_digits-requires : goal.write_digits-requires
write_digits-requires c =
    let size = ap (λ (w : Written). length w.items) c.self.view_is in
    let room = length-take c.self.inside.len c.self.inside.bytes in
    (omega (arith, c.requires.count), omega (arith, size, room, c.self.told, c.self.invariant, c.requires.room))

pub returns-clause-bytes : goal.returns-clause-bytes
returns-clause-bytes c =
    let w = c.write_digits.ensures in
    let size = ap (λ (w : Written). length w.items) c.self.view_is in
    let room = length-take c.self.inside.len c.self.inside.bytes in
    let first : c.write_digits.result ≡ c.self.inside.len = omega (arith, c.requires.count, w.start) in
    written_behind c.self.inside.bytes _ (decimal c.args.n) c.write_digits.result _ w.before w.written w.start (omega (arith, size, room, c.self.told, c.self.invariant, c.requires.room))
    ∙ ap (λ k. take k c.self.inside.bytes ++ decimal c.args.n) first ∙ ap (λ (w : Written). w.items ++ decimal c.args.n) c.self.view_is
