use Rattle.row_groups.proofs.Common.{◌∙◌, refl, sym, access_data, access_keys, access_row, access_type, access_with}
use Rattle.row_groups.proofs.GroupLemmas.{type_put, type_refused}
use Rattle.row_groups.proofs.accesses.Accesses.insert.Goals as goal

pub returns-then-is_some : goal.returns-then-is_some
returns-then-is_some c = rw (← c.self.view_is)
    (type_refused access_row access_type access_keys c.self.inside.places c.self.invariant c.place_of-place.result (access_with 0 c.args.row.now) c.place_of-place.ensures.place c.place_of-place.ensures.within c.index-self-place.result c.index-self-place.is
    (sym c.is_some.ensures ∙ c.if-is_some.true))

pub returns : goal.returns
returns c = rw (← c.self.view_is, c.of.ensures)
    (type_put access_row access_type access_keys c.self.inside.places c.self.invariant c.place_of-place.result (access_with 0 c.args.row.now) c.place_of-place.ensures.place c.place_of-place.ensures.within c.index-self-place.result c.index-self-place.is
    (access_data c.args.row.now) refl (sym c.is_some.ensures ∙ c.if-is_some.false))
