use Rattle.mr_node.proofs.Common.{ap, ◌∙◌}
use Rattle.mr_node.proofs.NodeLemmas.{seen_with}
use Rattle.mr_node.proofs.ReviseLemmas.{put_at}
use Rattle.mr_node.proofs.node.Node.replace.Goals as goal

pub returns-clause-rows : goal.returns-clause-rows
returns-clause-rows g c = c.revise.ensures.rows ∙ ap (seen_with c.args.self.now) (put_at c.args.key c.args.value c.args.self.now.rows)
