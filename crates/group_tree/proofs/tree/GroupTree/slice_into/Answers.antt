use Rattle.group_tree.proofs.Common.{rows_of}
use Rattle.group_tree.proofs.CutLemmas.{are_below, are_from, cut_apart, rows_cut_below, rows_cut_from}
use Rattle.group_tree.proofs.tree.GroupTree.slice_into.Goals as goal

pub invariant_of-self : goal.invariant_of-self
invariant_of-self g c =
    rw c.slice_into.ensures.low (are_below g.met.G.Group.laws c.args.key c.self.inside.groups.rows c.self.invariant)

pub invariant_of-high : goal.invariant_of-high
invariant_of-high g c =
    rw c.slice_into.ensures.high (are_from g.met.G.Group.laws c.args.key c.self.inside.groups.rows c.self.invariant)

pub returns-clause-low : goal.returns-clause-low
returns-clause-low g c =
    rw (← c.self.view_is, c.slice_into.ensures.low) (rows_cut_below g.met.G.Group.laws c.args.key c.self.inside.groups.rows c.requires.key c.self.invariant.each)

pub returns-clause-high : goal.returns-clause-high
returns-clause-high g c =
    rw (← c.self.view_is, c.slice_into.ensures.high) (rows_cut_from g.met.G.Group.laws c.args.key c.self.inside.groups.rows c.requires.key c.self.invariant.each)

pub returns-clause-apart : goal.returns-clause-apart
returns-clause-apart g c =
    rw (c.slice_into.ensures.low, c.slice_into.ensures.high, rows_cut_below g.met.G.Group.laws c.args.key c.self.inside.groups.rows c.requires.key c.self.invariant.each, rows_cut_from g.met.G.Group.laws c.args.key c.self.inside.groups.rows c.requires.key c.self.invariant.each)
    (cut_apart g.G.Group.span c.args.key (rows_of g.G.Group.listed c.self.inside.groups.rows) c.requires.key)
