use Rattle.mr_subtree.proofs.Common.{◌<◌, ◌≤◌, sym, ap, subst, ◌∙◌, with_row_at, key_of_pair, seen_with}
use Rattle.mr_subtree.proofs.subtree.SubTree.replace.Goals as goal

pub returns-clause-rows : goal.returns-clause-rows
returns-clause-rows g c = c.replace.ensures.rows ∙ ap (λ s. seen_with s (with_row_at key_of_pair c.args.key (c.args.key, c.args.value) s.rows)) c.self.view_is

pub invariant_of-self : goal.invariant_of-self
invariant_of-self g c = record {
  well = c.replace.ensures.well;
  two = subst (λ s. 0 < s.height → 2 ≤ s.width) (sym c.replace.ensures.rows) c.self.invariant.two;
}
