use Rattle.row_groups.proofs.Common.{sym, arith, ◌-◌, access_keys, access_row, access_type, without_row_absent}
use Rattle.row_groups.proofs.FilledLemmas.{filled-taken}
use Rattle.row_groups.proofs.accesses.Accesses.remove.Goals as goal

pub returns-in_err-data-clause-rows : goal.returns-in_err-data-clause-rows
returns-in_err-data-clause-rows c = sym (without_row_absent access_type c.args.ai_type c.args.self.now (sym c.in_err-data.ensures.found))

pub returns-clause-rows : goal.returns-clause-rows
returns-clause-rows c =
    let from = c.in_ok-data.ensures.within.0 in
    rw (← c.self.view_is) (sym (filled-taken access_row access_type (λ place. place) access_keys 1 (c.from.result - 1) c.args.ai_type c.self.inside.places (omega (arith, c.from.ensures))))
