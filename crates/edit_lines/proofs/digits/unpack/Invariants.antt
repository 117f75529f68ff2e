use Rattle.edit_lines.proofs.Common.{IsUnpackedTo}
use Rattle.edit_lines.proofs.digits.unpack.Given as goal

abbrev pub invariant-loop-i : goal.invariant-loop-i
invariant-loop-i g l = IsUnpackedTo l.base g.row.N l.fn.value l.i l.list l.rest
