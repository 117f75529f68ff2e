use Rattle.row_groups.proofs.Common.{IsSome, sym, forwarding_start, forwarding_with, row_at, with_row_at_absent}
use Rattle.row_groups.proofs.FilledLemmas.{none_mapped, some_mapped}
use Rattle.row_groups.proofs.ForwardingLemmas.{hour_replaced}
use Rattle.row_groups.proofs.forwardings.Forwardings.replace.Goals as goal

pub returns-in_err-old-clause-rows : goal.returns-in_err-old-clause-rows
returns-in_err-old-clause-rows c =
    let absent = none_mapped (forwarding_with c.s_id.result c.sf_type.result) (row_at forwarding_start c.start_time.result c.args.self.now) c.in_err-old.ensures in
    sym (with_row_at_absent forwarding_start c.args.row.now.start_time (forwarding_with 0 0 c.args.row.now) c.args.self.now (rw (← c.start_time.ensures) absent))

pub returns-clause-rows : goal.returns-clause-rows
returns-clause-rows c =
    let found = some_mapped (forwarding_with c.s_id.result c.sf_type.result) c.in_ok-old.old (row_at forwarding_start c.start_time.result c.args.self.now) c.in_ok-old.ensures in
    let found' : IsSome (row_at forwarding_start c.args.row.now.start_time c.args.self.now) = rw (← c.start_time.ensures) found in
    rw (← c.self.view_is, c.of.ensures) (hour_replaced c.args.row.now c.place_of.result c.self.inside.words c.place_of.ensures.place (rw c.self.view_is found'))
