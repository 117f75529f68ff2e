use Rattle.row_groups.proofs.Common.{sym, forwarding_start, without_row_absent}
use Rattle.row_groups.proofs.ForwardingLemmas.{hour_removed}
use Rattle.row_groups.proofs.forwardings.Forwardings.remove.Goals as goal

pub returns-in_err-fields-clause-rows : goal.returns-in_err-fields-clause-rows
returns-in_err-fields-clause-rows c = sym (without_row_absent forwarding_start c.args.start_time c.args.self.now (sym c.in_err-fields.ensures.found))

pub returns-clause-rows : goal.returns-clause-rows
returns-clause-rows c = rw (← c.self.view_is, c.none.ensures) (hour_removed c.place_at.result c.args.start_time c.self.inside.words c.place_at.ensures.place)
