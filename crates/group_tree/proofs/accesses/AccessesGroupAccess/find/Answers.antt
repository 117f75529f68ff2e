use Rattle.group_tree.proofs.Common.{◌∙◌, ap, option_map, sym}
use Rattle.group_tree.proofs.TypedLemmas.{accesses, typed_found, typed_missing}
use Rattle.group_tree.proofs.accesses.AccessesGroupAccess.find.Goals as goal

pub returns-then-start_time_in-ne0 : goal.returns-then-start_time_in-ne0
returns-then-start_time_in-ne0 c = sym (ap (option_map (λ p. p.1)) (typed_missing accesses c.args.key c.args.self.now (rw c.start_time_in.ensures at c.if-start_time_in-ne0.true)))

pub returns : goal.returns
returns c = c.get.ensures ∙ rw (c.s_id_in.ensures, c.type_in.ensures) (typed_found accesses c.args.key c.args.self.now (sym c.start_time_in.ensures ∙ c.if-start_time_in-ne0.false))
