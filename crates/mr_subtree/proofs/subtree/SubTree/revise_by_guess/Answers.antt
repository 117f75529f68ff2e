use Rattle.mr_subtree.proofs.Common.{◌<◌, ◌≤◌, is_some, sym, ap, subst, ◌∙◌, value_at, revised_at, spent_at, seen_with}
use Rattle.mr_subtree.proofs.subtree.SubTree.revise_by_guess.Goals as goal

pub returns-clause-rows : goal.returns-clause-rows
returns-clause-rows g c = c.revise_by_guess.ensures.rows ∙ ap (λ s. seen_with s (revised_at c.args.key (g.E.Revise.revised c.args.revision.now) s.rows)) c.self.view_is

pub returns-clause-spent : goal.returns-clause-spent
returns-clause-spent g c = c.revise_by_guess.ensures.spent ∙ ap (λ s. spent_at c.args.key g.E.Revise.spent c.args.revision.now s.rows) c.self.view_is

pub returns-clause-found : goal.returns-clause-found
returns-clause-found g c = c.revise_by_guess.ensures.found ∙ ap (λ s. is_some (value_at c.args.key s.rows)) c.self.view_is

pub invariant_of-self : goal.invariant_of-self
invariant_of-self g c = record {
  well = c.revise_by_guess.ensures.well;
  two = subst (λ s. 0 < s.height → 2 ≤ s.width) (sym c.revise_by_guess.ensures.rows) c.self.invariant.two;
}
