use Rattle.hlr_lent.proofs.Common.{◌<◌, ◌∙◌, arith, refl, length, Some, length-set, outs_in}
use Rattle.hlr_lent.proofs.RingLemmas.{rings_put}
use Rattle.hlr_lent.proofs.RegionOwnerLemmas.{few_outs, fits_again, lent_outs, lent_there, undone}
use Rattle.hlr_lent.proofs.lender.Lender.lend.Goals as goal

pub put_ring-requires : goal.put_ring-requires
put_ring-requires c =
    let h = c.self.inside.register in
    let are = c.rules.ensures.ruled in
    let went = c.lend-holding in
    omega (arith, lent_there h are c.args.part went.result.value went.new.self went.ensures.lent, few_outs h are, c.self.invariant.1)

pub invariant_of-self : goal.invariant_of-self
invariant_of-self c =
    let h = c.self.inside.register in
    let are = c.rules.ensures.ruled in
    let went = c.lend-holding in
    let there = lent_there h are c.args.part went.result.value went.new.self went.ensures.lent in
    let few = few_outs h are in
    let long = c.self.invariant.1 in
    let short : c.args.part < length c.self.inside.rings.items = omega arith in
    rw (c.put_ring.ensures, lent_outs h are c.args.part went.result.value went.new.self went.ensures.lent) (
      rings_put (outs_in h.owners) c.self.inside.rings.items c.self.invariant.0 c.args.part went.result.value c.tell.new.lender there short (rw c.deref.ensures at c.tell.ensures.lender),
      length-set c.self.inside.rings.items c.args.part (Some c.tell.new.lender) ∙ long,
      λ no. absurd cc,
    )

-- the box was refused: the holding that is taken back is the one that was lent
pub back-requires : goal.back-requires
back-requires c =
    let went = c.lend-holding in
    let lent = went.ensures.lent in
    let same = c.into_holding.ensures ∙ (rw c.in-Err.is at c.new.ensures.value_returned) ∙ c.of.ensures in
    (lent.index, rw same (fits_again c.args.part c.self.inside.register went.new.self went.result.value lent))

pub invariant_of-self-in-Err-new : goal.invariant_of-self-in-Err-new
invariant_of-self-in-Err-new c =
    let went = c.lend-holding in
    let lent = went.ensures.lent in
    let same = c.into_holding.ensures ∙ (rw c.in-Err.is at c.new.ensures.value_returned) ∙ c.of.ensures in
    let fits = fits_again c.args.part c.self.inside.register went.new.self went.result.value lent in
    rw (c.back.ensures lent.index (rw same fits) ∙ undone c.args.part c.self.inside.register went.new.self went.result.value lent c.into_holding.result.value same) c.self.invariant

pub returns-in-Err-clause-refused : goal.returns-in-Err-clause-refused
returns-in-Err-clause-refused c =
    let went = c.lend-holding in
    let lent = went.ensures.lent in
    let same = c.into_holding.ensures ∙ (rw c.in-Err.is at c.new.ensures.value_returned) ∙ c.of.ensures in
    let fits = fits_again c.args.part c.self.inside.register went.new.self went.result.value lent in
    (c.back.ensures lent.index (rw same fits) ∙ undone c.args.part c.self.inside.register went.new.self went.result.value lent c.into_holding.result.value same ∙ c.self.view_is, refl)
