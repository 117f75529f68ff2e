use Rattle.edit_lines.proofs.Common.{◌≡◌, drop}
use Rattle.tatp_rows.specs.Packed.{packed}
use Rattle.edit_lines.proofs.digits.pack.Given as goal

abbrev pub invariant-loop-i : goal.invariant-loop-i
invariant-loop-i l = l.value ≡ packed l.base (drop l.i l.list)
