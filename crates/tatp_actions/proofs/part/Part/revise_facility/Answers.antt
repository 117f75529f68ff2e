use Rattle.tatp_actions.proofs.Common.{is_some, ap, ◌∙◌, facility_at, stored_book}
use Rattle.tatp_actions.proofs.RevisedLemmas.{spent_found, facility_there, facility_is, facility_holds, facility_keeps}
use Rattle.tatp_actions.proofs.part.Part.revise_facility.Goals as goal

pub revise_f-requires : goal.revise_f-requires
revise_f-requires g c = facility_keeps _ _ _ _ _ _ _ c.args.s_id c.args.sf_type (g.E.Revise.revised c.args.revision.now) c.row_key.ensures c.ranges.sf_type.fits c.self.invariant c.requires

pub invariant_of-self : goal.invariant_of-self
invariant_of-self g c = facility_holds _ _ _ _ _ _ _ _ _ c.args.s_id c.args.sf_type _ c.row_key.ensures c.ranges.sf_type.fits c.self.invariant c.requires c.revise_f.ensures.rows

pub returns-clause-found : goal.returns-clause-found
returns-clause-found g c =
    rw (← c.self.view_is) (c.revise_f.ensures.found ∙ ap is_some (facility_there (g.R.Rows.tables c.self.inside.rows) c.row_key.result c.args.s_id c.args.sf_type c.self.invariant.1 c.row_key.ensures))

pub returns-clause-spent : goal.returns-clause-spent
returns-clause-spent g c =
    let tables = g.R.Rows.tables c.self.inside.rows in
    rw (← c.self.view_is)
    (spent_found c.row_key.result g.E.Revise.spent c.args.revision.now c.revise_f.new.revision tables.facilities (facility_at (stored_book tables) c.args.s_id c.args.sf_type)
    (facility_there tables c.row_key.result c.args.s_id c.args.sf_type c.self.invariant.1 c.row_key.ensures) c.revise_f.ensures.spent)

pub returns-clause-kept : goal.returns-clause-kept
returns-clause-kept g c = rw (← c.self.view_is) (facility_is _ _ _ _ _ _ _ _ _ c.args.s_id c.args.sf_type _ c.row_key.ensures c.ranges.sf_type.fits c.self.invariant c.requires c.revise_f.ensures.rows)
