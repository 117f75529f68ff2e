-- Lists of small numbers that are packed into a number and unpacked again.
use Rattle.edit_lines.proofs.Common.{◌≡◌, refl, ap, ◌∙◌, ℕ, zero, suc, ◌+◌, ◌*◌, ◌/◌, ◌%◌, ◌^◌, ◌<◌, true, List, [], ◌∷◌, ◌++◌, length, get_or, take, drop, length-take, length-drop, get_or-take, get_or-drop, take_at, drop_at, arith, EachIndex, ◌==◌, list_all, both, between_each, length-are_between, are_between, is_between, packed_below, unpacked_back}
use Rattle.tatp_rows.specs.Packed.{packed, unpacked}

pub length-unpacked : (base size n : ℕ) → length (unpacked base size n) ≡ size
unfolding unpacked
length-unpacked base zero n = refl
length-unpacked base (suc size) n = ap suc (length-unpacked base size (n / base))

-- a list of this length, of numbers below a base
pub record AreSmall (base size : ℕ) (ns : List ℕ) : Type 0 where
  pub long : length ns ≡ size
  pub each : EachIndex ns (λ k. get_or ns k 0 < base)

-- small numbers that were packed are unpacked
pub unpacked-packed : (base size : ℕ) (ns : List ℕ) → AreSmall base size ns → unpacked base size (packed base ns) ≡ ns
unpacked-packed base size ns small = rw small.long at (unpacked_back base ns small.each)

pub packed-small : (base size : ℕ) (ns : List ℕ) → AreSmall base size ns → packed base ns < base ^ size
packed-small base size ns small = rw small.long at (packed_below base ns small.each)

-- numbers of a range are small
pub small_from : (base size low high : ℕ) (ns : List ℕ) → are_between size low high ns ≡ true → high < base → AreSmall base size ns
small_from base size low high ns between below =
    let parts = both (length ns == size) (list_all (is_between low high) ns) between in
    record {
      long = length-are_between size low high ns between;
      each = λ k inside. let each = between_each low high ns parts.1 k inside in omega arith;
    }

-- the halves of ten bytes are small
pub low_half : (ns : List ℕ) → AreSmall 256 10 ns → AreSmall 256 5 (take 5 ns)
low_half ns small =
    let long = small.long in
    let size : length (take 5 ns) ≡ 5 = omega (arith, length-take 5 ns) in
    record { long = size; each = λ k inside. rw (get_or-take 5 ns k 0 (omega arith)) (small.each k (omega arith)) }

pub high_half : (ns : List ℕ) → AreSmall 256 10 ns → AreSmall 256 5 (drop 5 ns)
high_half ns small =
    let long = small.long in
    let size : length (drop 5 ns) ≡ 5 = omega (arith, length-drop 5 ns) in
    record { long = size; each = λ k inside. rw (get_or-drop 5 ns k 0) (small.each (5 + k) (omega arith)) }

-- the halves of two lists of five
pub low_of : (low high : ℕ) → take 5 (unpacked 256 5 low ++ unpacked 256 5 high) ≡ unpacked 256 5 low
low_of low high = take_at (unpacked 256 5 low) (unpacked 256 5 high) 5 (length-unpacked 256 5 low)

pub high_of : (low high : ℕ) → drop 5 (unpacked 256 5 low ++ unpacked 256 5 high) ≡ unpacked 256 5 high
high_of low high = drop_at (unpacked 256 5 low) (unpacked 256 5 high) 5 (length-unpacked 256 5 low)
