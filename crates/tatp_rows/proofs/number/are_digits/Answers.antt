use Rattle.tatp_rows.proofs.Common.{refl, ap, ◌∙◌, ℕ, ◌+◌, ◌-◌, ◌%◌, ◌^◌, map, leb, cond, Bool, arith, ◌==◌, is_ascii_digit, zip2_of_maps, zip2_splat, splat_is_map, map-map, mask_l-mod, length-map}
use lib.Lanes.{mask_l, top}
use Rattle.tatp_rows.proofs.DigitLemmas.{none_stops}
use Rattle.tatp_rows.proofs.number.are_digits.Goals as goal

abbrev stops : ℕ → Bool
stops x = top 7 (cond (leb 10 ((x + 208) % 256)) 255 0)

pub returns : goal.returns
returns c =
    let v = c.args.bytes in
    let long = c.fits-bytes.0 in
    let lanes = zip2_of_maps {Y = ℕ} {Z = ℕ} (λ a b. cond (leb a b) 255 0) (λ _. 10) (λ x. (x + 208) % 256) v (splat_is_map {Y = ℕ} v 8 10 long) (zip2_splat {Y = ℕ} (λ x y. (x + (256 - y)) % 256) v 8 48 long) in
    let mask = ap (λ l. mask_l l % 2 ^ 64) (ap (map (top 7)) lanes ∙ map-map (top 7) _ v) ∙ mask_l-mod (map stops v) 64 (omega (arith, length-map v stops, long)) in
    ap (λ m. m == 0) mask ∙ none_stops stops is_ascii_digit v refl c.fits-bytes.1
