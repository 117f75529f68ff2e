use Rattle.edit_lines.proofs.DigitLemmas.{ten}
use Rattle.edit_lines.proofs.digits.join.Goals as goal

pub returns : goal.returns
returns c = ten _ _ c.told-low c.told-high
