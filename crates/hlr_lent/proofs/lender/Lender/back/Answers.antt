use Rattle.hlr_lent.proofs.Common.{◌≡◌, ◌∙◌, sym, true, false, None, Option, length-set, by_test}
use Rattle.hlr_lent.proofs.ComeLemmas.{come_back, come_rings, come_with}
use Rattle.hlr_lent.proofs.RingLemmas.{Ring}
use Rattle.hlr_lent.proofs.lender.Lender.back.Goals as goal

pub back-requires : goal.back-requires
back-requires c =
    come_with c.self.inside.register c.rules.ensures.ruled c.self.inside.rings.items c.self.invariant.0 c.args.part c.in-Some.ring (sym c.take_ring.ensures.ring ∙ c.in-Some.is)
    c.in-Some-arrived.holding.value (rw c.in-Some-arrived.is at c.arrived.ensures.come)

pub invariant_of-self-in-Some-arrived : goal.invariant_of-self-in-Some-arrived
invariant_of-self-in-Some-arrived c =
    let h = c.self.inside.register in
    let are = c.rules.ensures.ruled in
    let rings = c.self.inside.rings.items in
    let is = sym c.take_ring.ensures.ring ∙ c.in-Some.is in
    let come = rw c.in-Some-arrived.is at c.arrived.ensures.come in
    let with = come_with h are rings c.self.invariant.0 c.args.part c.in-Some.ring is c.in-Some-arrived.holding.value come in
    let none : Option Ring = None in (
      rw (c.back.ensures with.0 with.1, c.take_ring.ensures.items) (come_rings h are rings c.self.invariant.0 c.args.part c.in-Some.ring is c.in-Some-arrived.holding.value come),
      rw (c.take_ring.ensures.items) (length-set rings c.args.part none ∙ c.self.invariant.1),
      λ kept. c.all_at_home.ensures.0 (by_test c.all_at_home.result (λ yes. yes) (λ no. absurd (let clash : true ≡ false = rw no at kept in cc))),
    )

pub returns-in-Some-arrived-clause-come : goal.returns-in-Some-arrived-clause-come
returns-in-Some-arrived-clause-come c =
    let h = c.self.inside.register in
    let are = c.rules.ensures.ruled in
    let rings = c.self.inside.rings.items in
    let is = sym c.take_ring.ensures.ring ∙ c.in-Some.is in
    let come = rw c.in-Some-arrived.is at c.arrived.ensures.come in
    let with = come_with h are rings c.self.invariant.0 c.args.part c.in-Some.ring is c.in-Some-arrived.holding.value come in
    λ yes. rw (c.back.ensures with.0 with.1, ← c.self.view_is) (come_back h are rings c.self.invariant.0 c.args.part c.in-Some.ring is c.in-Some-arrived.holding.value come)
