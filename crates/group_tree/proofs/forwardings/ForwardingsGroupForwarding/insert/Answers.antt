use Rattle.group_tree.proofs.ForwardingLemmas.{forwarding_put, holds_put}
use Rattle.group_tree.proofs.forwardings.ForwardingsGroupForwarding.insert.Goals as goal

pub returns-clause-rows : goal.returns-clause-rows
returns-clause-rows c = rw c.is_ok.ensures.value (forwarding_put c.args.row.now c.s_id-s_id.ensures.in_range c.args.self.now c.insert.new.self c.insert.result c.insert.ensures)

pub returns-clause-rules : goal.returns-clause-rules
returns-clause-rules c = holds_put c.args.row.now c.s_id-s_id.ensures.in_range _ c.args.self.now c.insert.new.self c.insert.result c.requires c.insert.ensures
