use Rattle.hlr_lent.proofs.Common.{◌≡◌, ◌∙◌, arith, None, Option, length-replicate, MOST_PARTS, part_home_of_all}
use Rattle.hlr_lent.proofs.RingLemmas.{Ring, no_rings}
use Rattle.hlr_lent.proofs.lender.Lender.of.Goals as goal

pub invariant_of-result : goal.invariant_of-result
invariant_of-result c =
    let end = c.loop.auto.counter-end in
    let test = c.loop-test.false in
    let all : c.loop.counter ≡ MOST_PARTS = omega arith in
    let none : Option Ring = None in
    rw (c.loop.invariant.0) (no_rings c.args.register.owners c.loop.counter (λ p. part_home_of_all p c.args.register c.requires), length-replicate c.loop.counter none ∙ all, λ none. c.requires)
