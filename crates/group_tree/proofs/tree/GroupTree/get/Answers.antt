use Rattle.group_tree.proofs.Common.{◌∙◌, ap, sym, option_map}
use Rattle.group_tree.proofs.TreeLemmas.{its_row, its_rules, no_row}
use Rattle.group_tree.proofs.tree.GroupTree.get.Goals as goal

pub returns-in_err-group : goal.returns-in_err-group
returns-in_err-group g c =
    rw (← c.self.view_is) (c.from_residual.ensures ∙ sym (ap (option_map (λ p. p.1)) (no_row g.met.G.Group.laws c.self.invariant c.args.key c.base.ensures c.in_err-group.ensures)))

pub find-requires : goal.find-requires
find-requires g c =
    its_rules g.met.G.Group.laws c.self.invariant c.args.key c.base.ensures c.in_ok-group.group.now c.in_ok-group.ensures

pub returns : goal.returns
returns g c =
    rw (← c.self.view_is) (c.find.ensures ∙ sym (ap (option_map (λ p. p.1)) (its_row g.met.G.Group.laws c.self.invariant c.args.key c.base.ensures c.in_ok-group.group.now c.in_ok-group.ensures)))
