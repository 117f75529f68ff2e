use Rattle.group_tree.proofs.Common.{◌∙◌, base_of, Some, None}
use Rattle.group_tree.proofs.TreeLemmas.{absent_removed, are_without, its_rules, its_value, none_removed, none_there, removed_are, removed_there, removed_whole}
use Rattle.group_tree.proofs.tree.GroupTree.remove.Goals.{then-len-eq0, else-len-eq0}
use Rattle.group_tree.proofs.tree.GroupTree.remove.Goals as goal

pub returns-in_err-group-clause-rows : goal.returns-in_err-group-clause-rows
returns-in_err-group-clause-rows g c =
    rw (← c.self.view_is) (none_removed g.met.G.Group.laws c.self.invariant c.args.key c.base-base.ensures c.in_err-group.ensures)

pub returns-in_err-group-clause-value : goal.returns-in_err-group-clause-value
returns-in_err-group-clause-value g c =
    rw (← c.self.view_is) (c.from_residual.ensures ∙ none_there g.met.G.Group.laws c.self.invariant c.args.key c.base-base.ensures c.in_err-group.ensures)

pub remove-requires : goal.remove-requires
remove-requires g c =
    its_rules g.met.G.Group.laws c.self.invariant c.args.key c.base-base.ensures c.in_ok-group.field-0.now c.in_ok-group.ensures

pub returns-in_err-row-clause-rows : goal.returns-in_err-row-clause-rows
returns-in_err-row-clause-rows g c =
    rw (← c.self.view_is) (absent_removed g.met.G.Group.laws c.self.invariant c.args.key c.base-base.ensures c.in_ok-group.field-0.now c.in_ok-group.ensures c.in_err-row.ensures.value)

pub returns-in_err-row-clause-value : goal.returns-in_err-row-clause-value
returns-in_err-row-clause-value g c =
    rw (← c.self.view_is) (c.from_residual-in_err-row.ensures ∙ its_value g.met.G.Group.laws c.self.invariant c.args.key c.base-base.ensures c.in_ok-group.field-0.now c.in_ok-group.ensures None c.in_err-row.ensures.value)

pub invariant_of-self : goal.invariant_of-self
invariant_of-self g c =
    rw c.remove-then-len-eq0.ensures.rows (are_without g.met.G.Group.laws c.self.invariant c.args.key c.base-base.ensures c.in_ok-group.field-0.now c.in_ok-group.ensures)

pub invariant_of-self-else-len-eq0 : goal.invariant_of-self-else-len-eq0
invariant_of-self-else-len-eq0 g c =
    rw c.replace.ensures.rows (removed_are g.met.G.Group.laws c.self.invariant c.args.key c.base-base.ensures c.in_ok-group.field-0.now c.in_ok-group.ensures c.remove.new.self c.len.result (c.len.ensures (base_of g.G.Group.span c.args.key)) c.if-len-eq0.false c.remove.ensures.rules)

pub returns-clause-rows : goal.returns-clause-rows
returns-clause-rows g c =
    let size = c.len.ensures (base_of g.G.Group.span c.args.key) in
    elim c.if-len-eq0.branch [
      | then-len-eq0 w ↦ rw (w.self-is, ← c.self.view_is, w.remove-then-len-eq0.ensures.rows) (removed_whole g.met.G.Group.laws c.self.invariant c.args.key c.base-base.ensures c.in_ok-group.field-0.now c.in_ok-group.ensures c.remove.new.self c.len.result c.remove.ensures.rows size w.if-len-eq0.true)
      | else-len-eq0 w ↦ rw (w.self-is, ← c.self.view_is, w.replace.ensures.rows) (removed_there g.met.G.Group.laws c.self.invariant c.args.key c.base-base.ensures c.in_ok-group.field-0.now c.in_ok-group.ensures c.remove.new.self c.remove.ensures.rows)
    ]

pub returns-clause-value : goal.returns-clause-value
returns-clause-value g c =
    rw (← c.self.view_is) (its_value g.met.G.Group.laws c.self.invariant c.args.key c.base-base.ensures c.in_ok-group.field-0.now c.in_ok-group.ensures (Some c.in_ok-row.row) c.in_ok-row.ensures.value)
