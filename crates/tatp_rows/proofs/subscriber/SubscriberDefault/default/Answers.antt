-- The least digits are so many zeros.
use Rattle.tatp_rows.proofs.Common.{rules, arith, ◌≡◌, refl}
use Rattle.tatp_rows.specs.Packed.{unpacked}
use Rattle.tatp_rows.proofs.subscriber.SubscriberDefault.default.Goals as goal

pub invariant_of-result : goal.invariant_of-result
unfolding unpacked
invariant_of-result c =
    let number : c.default.result ≡ 0 = search rules in
    (omega arith, omega arith, rw number refl)

pub returns : goal.returns
unfolding unpacked
returns c =
    let number : c.default.result ≡ 0 = search rules in
    rw number refl
