use Rattle.edit_lines.proofs.DoneLemmas.{step_is_change}
use Rattle.edit_lines.proofs.done.done_is_change.Goals as goal

pub returns : goal.returns
returns c = λ event before after step. step_is_change event before after step
