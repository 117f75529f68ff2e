-- Numbers as digits, and lists of numbers that are packed into one.
use Rattle.edit_lines.proofs.Common.{◌≡◌, refl, sym, ap, ◌∙◌, ℕ, zero, suc, ◌+◌, ◌-◌, ◌*◌, ◌/◌, ◌%◌, ◌^◌, ◌<◌, ◌≤◌, List, [], ◌∷◌, ◌++◌, length, get_or, drop, append_assoc, append-nil, length-drop, get_or-drop, drop_all, drop_more, arith, mul_comm, pow-suc, pow-zero, pow-le-pow_right, EachIndex, packed_below}
use Rattle.tatp_rows.specs.Packed.{packed}
use Rattle.edit_lines.specs.Lines.{digits}
use Rattle.edit_lines.specs.Reading.{number_of}

-- one digit in front of the rest
pub digits_more : (count n : ℕ) → digits (suc count) n ≡ (128 + n % 128) ∷ digits count (n / 128)
unfolding digits
digits_more count n = refl

pub digits_none : (n : ℕ) → digits 0 n ≡ []
unfolding digits
digits_none n = refl

pub length-digits : (count n : ℕ) → length (digits count n) ≡ count
unfolding digits
length-digits zero n = refl
length-digits (suc count) n = ap suc (length-digits count (n / 128))

-- digits are put behind a line one by one
pub put_more : (items line whole : List ℕ) (count i rest digit : ℕ) → i < count → items ++ digits (count - i) rest ≡ whole → line ≡ items ++ digit ∷ [] → digit ≡ 128 + rest % 128
    → line ++ digits (count - (i + 1)) (rest / 128) ≡ whole
put_more items line whole count i rest digit inside so line_is digit_is =
    let left : count - i ≡ suc (count - (i + 1)) = omega arith in
    let one = digits_more (count - (i + 1)) rest in
    rw (line_is, digit_is) (append_assoc items ((128 + rest % 128) ∷ []) (digits (count - (i + 1)) (rest / 128)) ∙ rw (left, one) at so)

pub put_all : (items whole : List ℕ) (count i rest : ℕ) → count ≤ i → items ++ digits (count - i) rest ≡ whole → items ≡ whole
put_all items whole count i rest past so =
    let none : count - i ≡ 0 = omega arith in
    sym (append-nil items) ∙ rw (none, digits_none rest) at so

-- digits stand for a number below the power of 128 that their count gives
pub number_below : (ds : List ℕ) → number_of ds < 128 ^ length ds
unfolding number_of
number_below [] = rw (pow-zero 128) (omega arith)
number_below (d ∷ ds) =
    let rest = number_below ds in
    let power = pow-suc 128 (length ds) in
    omega arith

-- digits are read from the last to the first
pub number_none : (ds : List ℕ) → 0 ≡ number_of (drop (length ds) ds)
unfolding number_of
number_none ds = rw (drop_all (length ds) ds (omega arith)) refl

pub number_more : (ds : List ℕ) (i n digit : ℕ) → 0 < i → i ≤ length ds → n ≡ number_of (drop i ds) → digit ≡ get_or ds (i - 1) 0 % 128 → n * 128 + digit ≡ number_of (drop (i - 1) ds)
unfolding number_of
number_more ds i n digit some inside so is =
    let here : i - 1 + 1 ≡ i = omega arith in
    rw (drop_more ds (i - 1) 0 (omega arith), here, ← so, ← is) (omega arith)

pub number_room : (ds : List ℕ) (i n : ℕ) → 0 < i → i ≤ length ds → length ds ≤ 8 → n ≡ number_of (drop i ds) → n < 2 ^ 49
number_room ds i n some inside few so =
    let below = number_below (drop i ds) in
    let size = length-drop i ds in
    let power = pow-le-pow_right {n = 128} (omega arith) {i = length (drop i ds)} {j = 7} (omega arith) in
    omega arith

-- numbers are packed from the last to the first
pub pack_none : (base : ℕ) (ns : List ℕ) → 0 ≡ packed base (drop (length ns) ns)
unfolding packed
pack_none base ns = rw (drop_all (length ns) ns (omega arith)) refl

pub pack_more : (base : ℕ) (ns : List ℕ) (i value n : ℕ) → 0 < i → i ≤ length ns → value ≡ packed base (drop i ns) → n ≡ get_or ns (i - 1) 0 → value * base + n ≡ packed base (drop (i - 1) ns)
unfolding packed
pack_more base ns i value n some inside so is =
    let here : i - 1 + 1 ≡ i = omega arith in
    rw (drop_more ns (i - 1) 0 (omega arith), here, ← so, ← is, mul_comm base value) (omega arith)

pub pack_room : (base : ℕ) (ns : List ℕ) (i value n : ℕ) → 0 < i → i ≤ length ns → value ≡ packed base (drop i ns) → n ≡ get_or ns (i - 1) 0 → EachIndex ns (λ k. get_or ns k 0 < base) → 2 ≤ base
    → base ^ length ns ≤ 2 ^ 56 → value * base + n < 2 ^ 56
pack_room base ns i value n some inside so is each large room =
    let same = pack_more base ns i value n some inside so is in
    let size = length-drop (i - 1) ns in
    let below = packed_below base (drop (i - 1) ns) (λ k within. rw (get_or-drop (i - 1) ns k 0) (each (i - 1 + k) (omega arith))) in
    let power = pow-le-pow_right {n = base} (omega arith) {i = length (drop (i - 1) ns)} {j = length ns} (omega arith) in
    omega arith

-- two lists of five are a list of ten
pub ten : (low high : List ℕ) → length low ≡ 5 → length high ≡ 5
    → get_or low 0 0 ∷ (get_or low 1 0 ∷ (get_or low 2 0 ∷ (get_or low 3 0 ∷ (get_or low 4 0 ∷ (get_or high 0 0 ∷ (get_or high 1 0 ∷ (get_or high 2 0 ∷ (get_or high 3 0 ∷ (get_or high 4 0 ∷ []))))))))) ≡ low ++ high
ten low high five five' = rw (five_of low five, five_of high five') refl
  where
    five_of : (ns : List ℕ) → length ns ≡ 5 → ns ≡ get_or ns 0 0 ∷ (get_or ns 1 0 ∷ (get_or ns 2 0 ∷ (get_or ns 3 0 ∷ (get_or ns 4 0 ∷ []))))
    five_of [] size = absurd (omega arith)
    five_of (a ∷ []) size = absurd (omega arith)
    five_of (a ∷ b ∷ []) size = absurd (omega arith)
    five_of (a ∷ b ∷ c ∷ []) size = absurd (omega arith)
    five_of (a ∷ b ∷ c ∷ d ∷ []) size = absurd (omega arith)
    five_of (a ∷ b ∷ c ∷ d ∷ e ∷ []) size = refl
    five_of (a ∷ b ∷ c ∷ d ∷ e ∷ f ∷ ns) size = absurd (omega arith)
