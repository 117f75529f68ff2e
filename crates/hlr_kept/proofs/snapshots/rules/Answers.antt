use Rattle.std.proofs.Common.{subst}
use Rattle.mr_node.specs.Rows.{key_of_pair}
use Rattle.tatp_rows.specs.Ordered.{IsOrderedBy}
use Rattle.hlr_owners.specs.Owners.{book_in}
use Rattle.hlr_owners.proofs.RegionOwnerLemmas.{ruled_rows}
use Rattle.hlr_kept.proofs.RuleLemmas.{single_rows}
use Rattle.hlr_kept.proofs.snapshots.rules.Goals as goal

pub returns-clause-rules : goal.returns-clause-rules
returns-clause-rules c = (ruled_rows c.args.register.now c.rules.ensures.ruled).rules

pub returns-clause-alone : goal.returns-clause-alone
returns-clause-alone c = single_rows (book_in c.args.register.now.owners).subscribers (subst (IsOrderedBy key_of_pair) c.index.ensures c.first_from.ensures.pairs.0)
