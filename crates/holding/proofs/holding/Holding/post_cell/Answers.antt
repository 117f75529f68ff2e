use Rattle.holding.proofs.Common.{ap, ◌∙◌, FitsSigned, w64, rules, to_z-of_z, DeskState}
use Rattle.holding.proofs.HeldLemmas.{published, wide_posted}
use Rattle.holding.proofs.holding.Holding.post_cell.Goals as goal

pub invariant_of-self-2 : goal.invariant_of-self-2
invariant_of-self-2 g c =
    let fits : FitsSigned w64 c.get.result = search rules in
    published c.self.inside.part c.self.inside.pending _ c.self.inside.desk c.add.new.desk c.self.inside.slot c.args.cell _ c.self.invariant (ap (λ (d : DeskState). d.view.owned) c.in_ok-add.ensures.ok) (to_z-of_z w64 c.get.result fits ∙ c.get.ensures) c.in_ok-add.ensures.net c.clear.ensures (rw c.in_ok-add.ensures.ok (wide_posted _ _ _ _ c.self.invariant.wide))

pub returns-clause-after : goal.returns-clause-after
returns-clause-after g c = invariant_of-self-2 g c
