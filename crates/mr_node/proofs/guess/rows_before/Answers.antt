use Rattle.mr_node.proofs.Common.{arith, ◌∙◌}
use Rattle.mr_node.proofs.GuessLemmas.{rows_counted}
use Rattle.mr_node.proofs.guess.rows_before.Goals as goal

pub returns : goal.returns
returns c few n e = c.wrapping_shr.ensures ∙ rows_counted c.args.key c.args.least c.args.shift n (omega (arith, c.ranges.key)) few e
