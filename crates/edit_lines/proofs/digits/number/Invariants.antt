use Rattle.edit_lines.proofs.Common.{◌≡◌, drop}
use Rattle.edit_lines.specs.Reading.{number_of}
use Rattle.edit_lines.proofs.digits.number.Given as goal

abbrev pub invariant-loop-i : goal.invariant-loop-i
invariant-loop-i l = l.number ≡ number_of (drop l.i l.digits)
