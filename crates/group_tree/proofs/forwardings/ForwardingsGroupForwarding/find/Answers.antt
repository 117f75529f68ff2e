use Rattle.group_tree.proofs.Common.{◌∙◌}
use Rattle.group_tree.proofs.ForwardingLemmas.{forwarding_found}
use Rattle.group_tree.proofs.forwardings.ForwardingsGroupForwarding.find.Goals as goal

pub returns : goal.returns
returns c = c.get.ensures ∙ rw (c.s_id_in.ensures, c.type_in.ensures, c.start_time_in.ensures) (forwarding_found c.args.key c.args.self.now)
