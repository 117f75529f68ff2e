-- The row that is made has the fields that were given, and they are in range.
use Rattle.tatp_rows.proofs.Common.{◌≡◌, sym, arith, unpacked}
use Rattle.tatp_rows.proofs.PackLemmas.{digits_each, ten_back}
use Rattle.tatp_rows.proofs.RowLemmas.{AreChecked, made_is, made_in_range}
use Rattle.tatp_rows.proofs.subscriber.Subscriber.try_new.Goals as goal

checked : (c : goal.After-pack-2) → AreChecked c.args.s_id c.in_ok-s_id.s_id c.args.sub_nbr c.args.bits c.args.hexes c.args.bytes c.args.msc_location c.in_ok-msc_location.msc_location c.args.vlr_location c.in_ok-vlr_location.vlr_location
checked c = record {
  s_id_is = c.in_ok-s_id.ensures;
  sub_nbr_below = let number = c.value-number.ensures.in_range in let same = c.value-number.ensures.value in omega arith;
  bits_between = sym c.if-not-all_between.ensures;
  hexes_between = sym c.if-not-all_between-2.ensures;
  bytes_between = sym c.if-not-all_between-3.ensures;
  msc_location_is = c.in_ok-msc_location.ensures;
  vlr_location_is = c.in_ok-vlr_location.ensures;
}

bits_are : (c : goal.After-pack-2) → unpacked 2 10 c.pack-2.result ≡ c.args.bits
bits_are c = let each = digits_each 1 c.args.bits (checked c).bits_between in rw c.pack-2.ensures.value (ten_back 2 c.args.bits each.0 each.1)

hexes_are : (c : goal.After-pack-2) → unpacked 16 10 c.pack.result ≡ c.args.hexes
hexes_are c = let each = digits_each 15 c.args.hexes (checked c).hexes_between in rw c.pack.ensures.value (ten_back 16 c.args.hexes each.0 each.1)

pub invariant_of-result : goal.invariant_of-result
invariant_of-result c = (c.pack-2.ensures.below, c.pack.ensures.below, rw (bits_are c, hexes_are c) (made_in_range _ _ _ _ _ _ _ _ _ _ (checked c)))

pub returns : goal.returns
returns c = rw (bits_are c, hexes_are c) (made_is _ _ _ _ _ _ _ _ _ _ (checked c))
