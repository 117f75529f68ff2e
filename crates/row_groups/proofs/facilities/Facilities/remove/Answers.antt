use Rattle.row_groups.proofs.Common.{sym, arith, ◌-◌, facility_keys, facility_row, facility_type, without_row_absent}
use Rattle.row_groups.proofs.FilledLemmas.{filled-taken}
use Rattle.row_groups.proofs.facilities.Facilities.remove.Goals as goal

pub returns-in_err-data-clause-rows : goal.returns-in_err-data-clause-rows
returns-in_err-data-clause-rows c = sym (without_row_absent facility_type c.args.sf_type c.args.self.now (sym c.in_err-data.ensures.found))

pub returns-clause-rows : goal.returns-clause-rows
returns-clause-rows c =
    let from = c.in_ok-data.ensures.within.0 in
    rw (← c.self.view_is) (sym (filled-taken facility_row facility_type (λ place. place) facility_keys 1 (c.from.result - 1) c.args.sf_type c.self.inside.places (omega (arith, c.from.ensures))))
