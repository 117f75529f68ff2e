use Rattle.hlr_lent.proofs.Common.{home_after}
use Rattle.hlr_lent.proofs.EventLemmas.{rings_after}
use Rattle.hlr_lent.proofs.lender.Lender.apply.Goals as goal

pub invariant_of-self : goal.invariant_of-self
invariant_of-self c =
    let did = c.apply in (
      rings_after c.self.inside.register did.new.self c.args.event did.result c.self.inside.rings.items (rw c.self.view_is c.requires) did.ensures.homes c.self.invariant.0,
      c.self.invariant.1,
      λ none. home_after c.args.event did.result c.self.inside.register did.new.self did.ensures.homes (c.self.invariant.2 none),
    )
