use Rattle.tatp_rows.proofs.Common.{◌≡◌, ◌+◌, ◌-◌, ◌%◌, refl, set, arith, unpacked}
use Rattle.tatp_rows.proofs.PackLemmas.{first_changed}
use Rattle.tatp_rows.proofs.RowLemmas.{bit_1_in_range}
use Rattle.tatp_rows.proofs.subscriber.Subscriber.with_bit_1.Goals as goal

changed : (c : goal.After-result-1) → unpacked 2 10 (c.self.inside.bits - c.self.inside.bits % 2 + c.from.result) ≡ set (unpacked 2 10 c.self.inside.bits) 0 c.args.bit_1
changed c = rw c.from.ensures (first_changed c.self.inside.bits c.args.bit_1 9 c.requires)

pub invariant_of-result : goal.invariant_of-result
invariant_of-result c =
    let old = c.self.inside in
    let bits = c.self.invariant.0 in
    let bit = c.from.ensures in
    let small = c.requires in (
      omega arith,
      c.self.invariant.1,
      rw (changed c) (bit_1_in_range (record {
        s_id = old.s_id;
        sub_nbr = old.sub_nbr;
        bits = unpacked 2 10 old.bits;
        hexes = unpacked 16 10 old.hexes;
        bytes = old.bytes;
        msc_location = old.msc_location;
        vlr_location = old.vlr_location;
      }) c.args.bit_1 c.requires c.self.invariant.2),
    )

pub returns : goal.returns
returns c = rw (← c.self.view_is, changed c) refl
