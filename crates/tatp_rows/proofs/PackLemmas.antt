-- Digits that are packed in one number.
use Rattle.tatp_rows.proofs.Common.{◌≡◌, refl, sym, ap, ◌∙◌, ℕ, suc, Bool, true, false, ◌+◌, ◌-◌, ◌*◌, ◌/◌, ◌%◌, ◌^◌, ◌<◌, ◌≤◌, List, [], ◌∷◌, length, get_or, set, take, drop, ◌++◌, append_assoc, add-one, length-set, arith, EachIndex, add-mul-div_left, add-mul-mod_self_left, div-eq_of_lt, mod-eq_of_lt, mul_comm, mul-le-mul_left, pow-le-pow_right, pow-suc, pow-zero, append-nil, drop_all, drop_more, take_all, take_more_set, ◌==◌, ◌&&◌, list_all, are_between, is_between}
use lib.Arith.{digits_lt}
use Rattle.tatp_rows.proofs.RowLemmas.{between_each, both, length-are_between}
use Rattle.tatp_rows.specs.Packed.{packed, unpacked}

-- the digits of the number that digits make are these
pub unpacked_back : (base : ℕ) (digits : List ℕ) → EachIndex digits (λ k. get_or digits k 0 < base) → unpacked base (length digits) (packed base digits) ≡ digits
unfolding packed unpacked
unpacked_back base [] each = refl
unpacked_back base (digit ∷ digits) each =
    let first = each 0 (omega arith) in
    let rest = unpacked_back base digits (λ k within. each (suc k) (omega arith)) in
    let some : 0 < base = omega arith in
    let lowest : (digit + base * packed base digits) % base ≡ digit = add-mul-mod_self_left digit base (packed base digits) ∙ mod-eq_of_lt first in
    let others : (digit + base * packed base digits) / base ≡ packed base digits = add-mul-div_left digit (packed base digits) some ∙ ap (λ q. q + packed base digits) (div-eq_of_lt first) ∙ omega arith in
    rw (lowest, others, rest) refl

-- digits make a number below a power of their base
pub packed_below : (base : ℕ) (digits : List ℕ) → EachIndex digits (λ k. get_or digits k 0 < base) → packed base digits < base ^ length digits
unfolding packed
packed_below base [] each = rw (pow-zero base) (omega arith)
packed_below base (digit ∷ digits) each =
    let first = each 0 (omega arith) in
    let rest = packed_below base digits (λ k within. each (suc k) (omega arith)) in
    let turned : digit + base * packed base digits ≡ packed base digits * base + digit = rw (mul_comm base (packed base digits)) (omega arith) in
    rw (turned, pow-suc base (length digits)) (digits_lt rest first)

-- the first i of so many digits are unpacked
pub record IsUnpackedTo (base size value i : ℕ) (digits : List ℕ) (rest : ℕ) : Type 0 where
  pub long : length digits ≡ size
  pub done : take i digits ++ unpacked base (size - i) rest ≡ unpacked base size value

one_of : (base size rest : ℕ) → unpacked base (suc size) rest ≡ rest % base ∷ unpacked base size (rest / base)
unfolding unpacked
one_of base size rest = refl

none_of : (base rest : ℕ) → unpacked base 0 rest ≡ []
unfolding unpacked
none_of base rest = refl

pub unpack_none : (base size value : ℕ) (digits : List ℕ) → length digits ≡ size → IsUnpackedTo base size value 0 digits value
unpack_none base size value digits long = record { long = long; done = let all : size - 0 ≡ size = omega arith in rw all refl }

pub unpack_more : (base size value i : ℕ) (digits : List ℕ) (rest : ℕ) → IsUnpackedTo base size value i digits rest → i < size
    → IsUnpackedTo base size value (i + 1) (set digits i (rest % base)) (rest / base)
unpack_more base size value i digits rest so inside =
    let long = so.long in
    let left : size - i ≡ suc (size - (i + 1)) = omega arith in
    let one : unpacked base (suc (size - (i + 1))) rest ≡ rest % base ∷ unpacked base (size - (i + 1)) (rest / base) = one_of base (size - (i + 1)) rest in
    record {
      long = length-set digits i (rest % base) ∙ so.long;
      done = rw (take_more_set digits i (rest % base) (omega arith)) (append_assoc (take i digits) (rest % base ∷ []) _ ∙ rw (left, one) at so.done);
    }

pub unpack_all : (base size value i : ℕ) (digits : List ℕ) (rest : ℕ) → IsUnpackedTo base size value i digits rest → size ≤ i → digits ≡ unpacked base size value
unpack_all base size value i digits rest so past =
    let long = so.long in
    let none : size - i ≡ 0 = omega arith in
    let whole : take i digits ≡ digits = take_all i digits (omega arith) in
    sym (append-nil digits) ∙ rw (whole, none, none_of base rest) at so.done

-- the last i of some digits are packed
pub record IsPackedFrom (base : ℕ) (digits : List ℕ) (i value : ℕ) : Type 0 where
  pub value_is : value ≡ packed base (drop (length digits - i) digits)
  pub below : value < 16 ^ i

pub pack_none : (base : ℕ) (digits : List ℕ) → IsPackedFrom base digits 0 0
unfolding packed
pack_none base digits = record { value_is = rw (drop_all (length digits - 0) digits (omega arith)) refl; below = omega arith }

pub pack_more : (base : ℕ) (digits : List ℕ) (i at value digit : ℕ) → IsPackedFrom base digits i value → base ≤ 16 → at + 1 + i ≡ length digits → digit ≡ get_or digits at 0 → digit < base
    → IsPackedFrom base digits (i + 1) (value * base + digit)
unfolding packed
pack_more base digits i at value digit so small place is fits =
    let here : length digits - (i + 1) ≡ at = omega arith in
    let behind : length digits - i ≡ at + 1 = omega arith in
    let below = so.below in
    let most : value * base ≤ value * 16 = mul-le-mul_left value small in
    let power : 16 ^ (i + 1) ≡ 16 ^ i * 16 = rw add-one (pow-suc 16 i) in
    record {
      value_is = rw (here, drop_more digits at 0 (omega arith), ← is, ← behind, ← so.value_is, mul_comm base value) (omega arith);
      below = omega arith;
    }

-- while digits are left there is room for one more, and in the end all are packed
pub pack_fits : (base : ℕ) (digits : List ℕ) (i value : ℕ) → IsPackedFrom base digits i value → base ≤ 16 → i < 10 → value * base < 16 ^ 10
pack_fits base digits i value so small inside =
    let below = so.below in
    let most : value * base ≤ value * 16 = mul-le-mul_left value small in
    let power = pow-le-pow_right {n = 16} (omega arith) {i = i} {j = 9} (omega arith) in
    omega arith

pub pack_all : (base : ℕ) (digits : List ℕ) (i value : ℕ) → IsPackedFrom base digits i value → length digits ≤ i → value ≡ packed base digits
pack_all base digits i value so past = let none : length digits - i ≡ 0 = omega arith in rw none at so.value_is

pub pack_below : (base : ℕ) (digits : List ℕ) (i value : ℕ) → IsPackedFrom base digits i value → length digits ≤ i → EachIndex digits (λ k. get_or digits k 0 < base) → value < base ^ length digits
pack_below base digits i value so past each = rw (pack_all base digits i value so past) (packed_below base digits each)

-- ten digits of a range
pub digits_each : (high : ℕ) (digits : List ℕ) → are_between 10 0 high digits ≡ true → (length digits ≡ 10) × EachIndex digits (λ k. get_or digits k 0 < high + 1)
digits_each high digits between =
    let parts = both (length digits == 10) (list_all (is_between 0 high) digits) between in
    (length-are_between 10 0 high digits between, λ k inside. let each = between_each 0 high digits parts.1 k inside in omega arith)

pub ten_back : (base : ℕ) (digits : List ℕ) → length digits ≡ 10 → EachIndex digits (λ k. get_or digits k 0 < base) → unpacked base 10 (packed base digits) ≡ digits
ten_back base digits long each = rw long at (unpacked_back base digits each)

-- another digit in front
pub first_changed : (n digit : ℕ) (size : ℕ) → digit ≤ 1 → unpacked 2 (suc size) (n - n % 2 + digit) ≡ set (unpacked 2 (suc size) n) 0 digit
unfolding unpacked
first_changed n digit size small =
    let lowest : (n - n % 2 + digit) % 2 ≡ digit = omega arith in
    let others : (n - n % 2 + digit) / 2 ≡ n / 2 = omega arith in
    rw (lowest, others) refl

-- seven tests in another order
pub reordered : (h s m v b n t : Bool) → ((((((h && s) && m) && v) && b) && n) && t) ≡ (n && (h && (s && (m && (v && (b && t))))))
reordered true true true true true true t = refl
reordered true true true true true false t = refl
reordered true true true true false true t = refl
reordered true true true true false false t = refl
reordered true true true false b true t = refl
reordered true true true false b false t = refl
reordered true true false v b true t = refl
reordered true true false v b false t = refl
reordered true false m v b true t = refl
reordered true false m v b false t = refl
reordered false s m v b true t = refl
reordered false s m v b false t = refl
