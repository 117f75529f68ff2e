use Rattle.row_groups.proofs.Common.{◌∙◌, sym, facility_keys, facility_row, facility_type, facility_with}
use Rattle.row_groups.proofs.GroupLemmas.{type_put, type_refused}
use Rattle.row_groups.proofs.facilities.Facilities.insert.Goals as goal

pub returns-then-is_some : goal.returns-then-is_some
returns-then-is_some c = rw (← c.self.view_is)
    (type_refused facility_row facility_type facility_keys c.self.inside.places c.self.invariant c.place_of-place.result (facility_with 0 c.args.row.now) c.place_of-place.ensures.place c.place_of-place.ensures.within c.index-self-place.result c.index-self-place.is
    (sym c.is_some.ensures ∙ c.if-is_some.true))

pub returns : goal.returns
returns c = rw (← c.self.view_is)
    (type_put facility_row facility_type facility_keys c.self.inside.places c.self.invariant c.place_of-place.result (facility_with 0 c.args.row.now) c.place_of-place.ensures.place c.place_of-place.ensures.within c.index-self-place.result c.index-self-place.is
    (c.of.result) c.of.ensures.back (sym c.is_some.ensures ∙ c.if-is_some.false))
