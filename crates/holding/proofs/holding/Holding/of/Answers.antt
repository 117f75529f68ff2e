use Rattle.holding.proofs.HeldLemmas.{few, opened}
use Rattle.holding.proofs.holding.Holding.of.Goals as goal

pub pending_of-requires-clause-few : goal.pending_of-requires-clause-few
pending_of-requires-clause-few c k below = rw (c.recount-counts.ensures k below) (few c.args.part c.width-width.ensures.rules k)

pub invariant_of-result : goal.invariant_of-result
invariant_of-result c =
    opened c.args.part _ c.pending_of.result _ c.args.desk _ c.width-width.ensures.rules c.least_slot-slot.ensures.least c.requires.small c.pending_of.ensures.wide c.recount-counts.ensures c.pending_of.ensures.deltas c.of-pending.ensures

pub returns-clause-rules : goal.returns-clause-rules
returns-clause-rules c = invariant_of-result c
