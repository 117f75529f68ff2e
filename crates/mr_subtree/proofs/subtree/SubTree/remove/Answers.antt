use Rattle.mr_subtree.proofs.Common.{rules, arith, ap, ◌∙◌, without_row, key_of_pair, value_at}
use Rattle.mr_subtree.proofs.subtree.SubTree.remove.Goals as goal

pub returns-clause-rows : goal.returns-clause-rows
returns-clause-rows g c = c.lower.ensures.lowered.rows ∙ c.remove-gone.ensures.new.rows ∙ ap (λ s. without_row key_of_pair c.args.key s.rows) c.self.view_is

pub remove-gone-requires : goal.remove-gone-requires
remove-gone-requires g c = (search rules, c.self.invariant.two)

pub lower-requires : goal.lower-requires
lower-requires g c = (search rules, (c.remove-gone.ensures.new.well, λ above_leaves. omega (arith, c.remove-gone.ensures.new.width, c.self.invariant.two (omega (arith, above_leaves, c.remove-gone.ensures.new.level)))))

pub invariant_of-self : goal.invariant_of-self
invariant_of-self g c = record { well = c.lower.ensures.lowered.well; two = c.lower.ensures.lowered.two }

pub returns-clause-value : goal.returns-clause-value
returns-clause-value g c = c.remove-gone.ensures.value ∙ ap (λ s. value_at c.args.key s.rows) c.self.view_is
