use Rattle.row_groups.proofs.Common.{◌∙◌, refl, sym, facility_keys, facility_row, facility_type}
use Rattle.row_groups.proofs.FilledLemmas.{length-filled}
use Rattle.row_groups.proofs.GroupLemmas.{typed_rules}
use Rattle.row_groups.proofs.facilities.Facilities.len.Goals as goal

pub returns-clause-value : goal.returns-clause-value
returns-clause-value c = rw (← c.self.view_is) (c.count_taken.ensures ∙ sym (length-filled facility_row 1 c.self.inside.places))

pub returns-clause-rules : goal.returns-clause-rules
returns-clause-rules c = rw (← c.self.view_is) (typed_rules facility_row facility_type facility_keys c.self.inside.places c.self.invariant (λ row. row.s_id) (λ place d. refl))
