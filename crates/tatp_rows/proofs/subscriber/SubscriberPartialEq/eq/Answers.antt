-- Rows are alike where their packed digits are.
use Rattle.tatp_rows.proofs.Common.{arith, ◌==◌, nat_eq, packed_back}
use lib.Pointwise.{pointwise}
use Rattle.tatp_rows.proofs.PackLemmas.{reordered}
use Rattle.tatp_rows.proofs.subscriber.SubscriberPartialEq.eq.Goals as goal

pub returns : goal.returns
returns c =
    let one = c.t1-1 in
    let two = c.t2-1 in
    let a = one.inside in
    let b = two.inside in
    rw (
      c.and_eq-6.ensures,
      c.and_eq-5.ensures,
      c.and_eq-4.ensures,
      c.and_eq-3.ensures,
      c.and_eq-2.ensures,
      c.and_eq.ensures,
      c.eq.ensures,
      ← one.view_is,
      ← two.view_is,
      packed_back 16 10 a.hexes (omega arith) one.invariant.1,
      packed_back 16 10 b.hexes (omega arith) two.invariant.1,
      packed_back 2 10 a.bits (omega arith) one.invariant.0,
      packed_back 2 10 b.bits (omega arith) two.invariant.0,
    )
    (reordered (a.hexes == b.hexes) (a.s_id == b.s_id) (a.msc_location == b.msc_location) (a.vlr_location == b.vlr_location) (a.bits == b.bits) (a.sub_nbr == b.sub_nbr) (pointwise nat_eq a.bytes b.bytes))
