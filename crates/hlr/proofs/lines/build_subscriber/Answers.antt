use Rattle.hlr.proofs.Common.{◌++◌, codes, number_text, bytes_text, hexes_text}
use Rattle.std.specs.Fmt.{decimal}
use Rattle.hlr.specs.Lines.{subscriber_line}
use Rattle.hlr.proofs.LineFacts.{put_both}
use Rattle.hlr.proofs.lines.build_subscriber.Goals as goal

pub returns : goal.returns
unfolding subscriber_line
returns c =
    let row = c.args.row.now in
    let t0 = codes "subscriber," in
    let e0 = c.put_word.ensures.bytes in
    let t1 = t0 ++ decimal row.s_id in
    let e1 = put_both _ _ _ t0 (decimal row.s_id) e0 (rw (c.from.ensures, c.s_id.ensures.value) at c.put_decimal.ensures.bytes) in
    let t2 = t1 ++ codes "," in
    let e2 = put_both _ _ _ t1 (codes ",") e1 c.put_byte.ensures.bytes in
    let t3 = t2 ++ number_text row.sub_nbr in
    let e3 = put_both _ _ _ t2 (number_text row.sub_nbr) e2 (rw (c.value.ensures.value, c.sub_nbr.ensures) at c.put_number.ensures.bytes) in
    let t4 = t3 ++ codes "," in
    let e4 = put_both _ _ _ t3 (codes ",") e3 c.put_byte-2.ensures.bytes in
    let t5 = t4 ++ hexes_text row.bits in
    let e5 = put_both _ _ _ t4 (hexes_text row.bits) e4 (rw c.bits.ensures at c.put_hexes.ensures.bytes) in
    let t6 = t5 ++ codes "," in
    let e6 = put_both _ _ _ t5 (codes ",") e5 c.put_byte-3.ensures.bytes in
    let t7 = t6 ++ hexes_text row.hexes in
    let e7 = put_both _ _ _ t6 (hexes_text row.hexes) e6 (rw c.hexes.ensures at c.put_hexes-2.ensures.bytes) in
    let t8 = t7 ++ codes "," in
    let e8 = put_both _ _ _ t7 (codes ",") e7 c.put_byte-4.ensures.bytes in
    let t9 = t8 ++ bytes_text row.bytes in
    let e9 = put_both _ _ _ t8 (bytes_text row.bytes) e8 (rw c.bytes.ensures at c.put_bytes.ensures.bytes) in
    let t10 = t9 ++ codes "," in
    let e10 = put_both _ _ _ t9 (codes ",") e9 c.put_byte-5.ensures.bytes in
    let t11 = t10 ++ decimal row.msc_location in
    let e11 = put_both _ _ _ t10 (decimal row.msc_location) e10 (rw (c.from-2.ensures, c.msc_location.ensures) at c.put_decimal-2.ensures.bytes) in
    let t12 = t11 ++ codes "," in
    let e12 = put_both _ _ _ t11 (codes ",") e11 c.put_byte-6.ensures.bytes in
    let t13 = t12 ++ decimal row.vlr_location in
    let e13 = put_both _ _ _ t12 (decimal row.vlr_location) e12 (rw (c.from-3.ensures, c.vlr_location.ensures) at c.put_decimal-3.ensures.bytes) in
    let t14 = t13 ++ codes "\n" in
    let e14 = put_both _ _ _ t13 (codes "\n") e13 c.put_byte-7.ensures.bytes in
    e14
