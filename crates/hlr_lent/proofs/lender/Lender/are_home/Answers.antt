use Rattle.hlr_lent.proofs.Common.{◌≡◌, arith, refl, true, false}
use Rattle.hlr_lent.proofs.lender.Lender.are_home.Goals as goal

pub returns-then-not-is_part_home : goal.returns-then-not-is_part_home
returns-then-not-is_part_home c = (
  λ yes. absurd (let clash : false ≡ true = yes in cc),
  λ all. (
      let bounds = c.loop-part.auto.part in
      let same = c.from.ensures in
      let test = c.loop-part-test.true in
      let home = all c.from.result (omega arith) (omega arith) in
      let yes : c.is_part_home.result ≡ true = c.is_part_home.ensures.1 home in
      let out = c.if-not-is_part_home.true in
      cc),
)

pub returns : goal.returns
returns c = (
  λ yes. λ q from below. c.loop-part.invariant q from (omega (arith, c.loop-part-test.false, below)),
  λ all. refl,
)
