use Rattle.hlr_lent.proofs.Common.{◌<◌, ◌≤◌, arith, length, refl}
use Rattle.hlr_lent.proofs.RingLemmas.{past_home, test_tells}
use Rattle.hlr_lent.proofs.lender.Lender.is_part_home.Goals as goal

pub returns-then-part-from : goal.returns-then-part-from
returns-then-part-from c =
    let rings = c.self.inside.rings.items in
    let from = c.from.ensures in
    let test = c.if-part-from.true in
    let long = c.self.invariant.1 in
    let past : length rings ≤ c.args.part = omega arith in
    (λ yes. rw (← c.self.view_is) (past_home c.self.inside.register.owners rings c.self.invariant.0 c.args.part past), λ home. refl)

pub returns : goal.returns
returns c =
    let rings = c.self.inside.rings.items in
    let from = c.from.ensures in
    let test = c.if-part-from.false in
    let long = c.self.invariant.1 in
    let there : c.args.part < length rings = omega arith in
    let tells = test_tells c.self.inside.register.owners rings c.self.invariant.0 c.args.part c.index-rings-part.result c.is_none.result there (rw c.as_slice-rings.ensures.value at c.index-rings-part.is) c.is_none.ensures in
    (λ yes. rw (← c.self.view_is) (tells.0 yes), λ home. tells.1 (rw c.self.view_is home))
