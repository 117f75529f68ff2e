use Rattle.group_tree.proofs.Common.{◌∙◌, ap, option_map, sym}
use Rattle.group_tree.proofs.TypedLemmas.{accesses, typed_found, typed_left, typed_left_there, typed_missing, holds_without}
use Rattle.group_tree.proofs.accesses.AccessesGroupAccess.remove.Goals as goal

pub returns-then-start_time_in-ne0-clause-value : goal.returns-then-start_time_in-ne0-clause-value
returns-then-start_time_in-ne0-clause-value c = sym (ap (option_map (λ p. p.1)) (typed_missing accesses c.args.key c.args.self.now (rw c.start_time_in.ensures at c.if-start_time_in-ne0.true)))

pub returns-then-start_time_in-ne0-clause-rows : goal.returns-then-start_time_in-ne0-clause-rows
returns-then-start_time_in-ne0-clause-rows c = typed_left_there accesses c.args.key c.args.self.now (rw c.start_time_in.ensures at c.if-start_time_in-ne0.true)

pub returns-clause-value : goal.returns-clause-value
returns-clause-value c = c.remove.ensures.value ∙ rw (c.s_id_in.ensures, c.type_in.ensures) (typed_found accesses c.args.key c.args.self.now (sym c.start_time_in.ensures ∙ c.if-start_time_in-ne0.false))

pub returns-clause-rows : goal.returns-clause-rows
returns-clause-rows c = rw (c.remove.ensures.rows, c.type_in.ensures) (typed_left accesses c.args.key c.args.self.now (sym c.start_time_in.ensures ∙ c.if-start_time_in-ne0.false))

pub returns-clause-rules : goal.returns-clause-rules
returns-clause-rules c = rw c.remove.ensures.rows (holds_without accesses _ _ c.args.self.now c.requires)
