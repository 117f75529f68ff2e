use Rattle.group_tree.proofs.Common.{◌∙◌, ◌≡◌, s_id_in}
use Rattle.group_tree.proofs.TypedLemmas.{accesses, found_in, missing_in}
use Rattle.group_tree.proofs.accesses.AccessesGroupAccess.row_in.Goals as goal

pub returns-in_err-row : goal.returns-in_err-row
returns-in_err-row c = λ holds. c.from_residual-in_err-row.ensures ∙ missing_in accesses c.args.base c.args.place _ c.args.self.now c.in_err-row.ensures

pub returns : goal.returns
returns c = λ holds.
    let own : c.in_ok-checked_s_id_in.field-0 ≡ s_id_in c.args.base = let found = rw holds.s_id at c.in_ok-checked_s_id_in.ensures in cc in
    found_in accesses c.args.base c.args.place c.in_ok-checked_s_id_in.field-0 c.from.result c.in_ok-row.row c.args.self.now c.from.ensures own c.in_ok-row.ensures
