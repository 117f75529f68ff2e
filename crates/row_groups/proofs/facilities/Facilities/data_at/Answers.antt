use Rattle.row_groups.proofs.Common.{sym, arith, ◌-◌, between_is, facility_keys, facility_row, facility_type, filled-found}
use Rattle.row_groups.proofs.GroupLemmas.{no_type}
use Rattle.row_groups.proofs.FilledLemmas.{read_place}
use Rattle.row_groups.proofs.facilities.Facilities.data_at.Goals as goal

pub returns-clause-found : goal.returns-clause-found
returns-clause-found c =
    let range = between_is 1 4 c.args.sf_type (sym c.if-not-is_between.ensures) in
    let from = range.0 in
    let to = range.1 in
    let read = read_place c.self.inside.places (c.from.result - 1) c.index-places-from.result (omega (arith, c.self.invariant, c.from.ensures)) c.index-places-from.is in
    rw (← c.self.view_is, ← c.index-places-from.is, read) (sym (filled-found facility_row facility_type (λ place. place) facility_keys 1 (c.from.result - 1) c.args.sf_type c.self.inside.places (omega (arith, c.from.ensures))))

pub returns-then-not-is_between-clause-found : goal.returns-then-not-is_between-clause-found
returns-then-not-is_between-clause-found c = rw (← c.self.view_is) (sym (no_type facility_row facility_type facility_keys c.self.inside.places c.self.invariant c.args.sf_type (sym c.if-not-is_between.ensures)))
