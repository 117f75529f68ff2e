use Rattle.tatp_actions.proofs.Common.{◌≡◌, ◌∙◌, sym, subst, rules, nat_lt, prefix_len, IsPartitionPoint-from_clause, IsOrderedBy, partitioned, place_from_point}
use Rattle.tatp_actions.proofs.table.Table.place_of.Goals as goal

pub returns-clause-place : goal.returns-clause-place
returns-clause-place g c =
    let xs = c.deref.result.now in
    let ordered = subst (λ pairs. IsOrderedBy (λ pair. pair.0) pairs) (sym c.deref.ensures.value) c.self.invariant in
    let partition = partitioned (λ pair. pair.0) c.args.key xs ordered in
    let point = IsPartitionPoint-from_clause (λ pair. nat_lt pair.0 c.args.key) _ _ c.partition_point.ensures.partitioned partition (λ a r q k. search rules) in
    subst (λ pairs. c.partition_point.result ≡ prefix_len (λ pair. nat_lt pair.0 c.args.key) pairs) (c.deref.ensures.value ∙ c.self.view_is)
    (place_from_point (λ pair. pair.0) c.args.key _ xs c.partition_point.ensures.bound point)
