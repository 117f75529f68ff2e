use Rattle.group_tree.proofs.Common.{◌∙◌}
use Rattle.group_tree.proofs.ForwardingLemmas.{forwarding_found, forwarding_left, holds_without}
use Rattle.group_tree.proofs.forwardings.ForwardingsGroupForwarding.remove.Goals as goal

pub returns-clause-value : goal.returns-clause-value
returns-clause-value c = c.remove.ensures.value ∙ rw (c.s_id_in.ensures, c.type_in.ensures, c.start_time_in.ensures) (forwarding_found c.args.key c.args.self.now)

pub returns-clause-rows : goal.returns-clause-rows
returns-clause-rows c = rw (c.remove.ensures.rows, c.start_time_in.ensures) (forwarding_left c.args.key c.args.self.now)

pub returns-clause-rules : goal.returns-clause-rules
returns-clause-rules c = rw c.remove.ensures.rows (holds_without _ _ c.args.self.now c.requires)
