use Rattle.tatp_actions.proofs.Common.{◌∙◌, refl, sym, facility_key, tables_of, stored_book}
use Rattle.tatp_actions.proofs.StoredLemmas.{found_in}
use Rattle.tatp_actions.proofs.ForwardedLemmas.{active_destinations, idle_destinations, lent_rows}
use Rattle.tatp_actions.proofs.lending.Part.destinations.Goals as goal

pub returns-then-not-is_active : goal.returns-then-not-is_active
returns-then-not-is_active c =
    let facility = found_in facility_key _ _ _ _ c.self.invariant.1.facilities c.row_key-key.ensures c.get_by_guess.ensures in
    rw (← c.self.view_is) (idle_destinations (stored_book (tables_of c.self.inside.rows)) c.args.s_id c.args.sf_type c.args.start_time c.args.end_time _ _ facility (sym c.is_active.ensures ∙ c.if-not-is_active.true) c.new.ensures)

pub returns : goal.returns
returns c =
    let facility = found_in facility_key _ _ _ _ c.self.invariant.1.facilities c.row_key-key.ensures c.get_by_guess.ensures in
    let pairs = c.self.inside.rows.forwardings.rows in
    rw (← c.self.view_is) (active_destinations (stored_book (tables_of c.self.inside.rows)) pairs c.args.s_id c.args.sf_type c.args.start_time c.args.end_time c.row_key-key.result _ c.self.invariant.0.rows.rules refl c.self.invariant.1.forwardings c.row_key-key.ensures c.ranges.sf_type.fits
    (lent_rows c.row_key-key.result pairs c.group.result c.group.ensures.found c.group.ensures.none) _ _ facility (sym c.is_active.ensures ∙ c.if-not-is_active.false) c.numbers_within.ensures)
