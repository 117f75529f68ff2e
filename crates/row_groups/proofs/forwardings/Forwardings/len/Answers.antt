use Rattle.row_groups.proofs.Common.{◌∙◌, sym, forwarding_row}
use Rattle.row_groups.proofs.FilledLemmas.{length-filled}
use Rattle.row_groups.proofs.ForwardingLemmas.{forwarding_rules}
use Rattle.row_groups.proofs.forwardings.Forwardings.len.Goals as goal

pub returns-clause-value : goal.returns-clause-value
returns-clause-value c = rw (← c.self.view_is) (c.count_taken.ensures ∙ sym (length-filled forwarding_row 0 c.self.inside.words))

pub returns-clause-rules : goal.returns-clause-rules
returns-clause-rules c = rw (← c.self.view_is) (forwarding_rules c.self.inside.words c.self.invariant)
