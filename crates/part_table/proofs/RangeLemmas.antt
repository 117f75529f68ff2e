-- Numbers in order, from one on.
use Rattle.part_table.proofs.Common.{◌≡◌, ◌∙◌, refl, ap, ℕ, zero, suc, ◌+◌, ◌-◌, ◌<◌, ◌≤◌, List, [], ◌∷◌, ◌++◌, length, map, arith, AllByRecursion, range_with_len, length-range_with_len}

-- one of them: where it stands, those in front of it, and those behind it
pub range_split : (a n p : ℕ) (ns ms : List ℕ) → ns ++ p ∷ ms ≡ range_with_len a n → (p ≡ a + length ns) × (ns ≡ range_with_len a (length ns)) × (ms ≡ range_with_len (p + 1) (length ms))
range_split a zero p [] ms is = absurd cc
range_split a (suc n) p [] ms is =
    let same : p ≡ a = cc in
    let rest : ms ≡ range_with_len (a + 1) n = cc in
    let count : length ms ≡ n = ap length rest ∙ length-range_with_len (a + 1) n in
    (omega arith, refl, rw (same, count) rest)
range_split a zero p (m ∷ ns) ms is = absurd cc
range_split a (suc n) p (m ∷ ns) ms is =
    let own : m ≡ a = cc in
    let rest : ns ++ p ∷ ms ≡ range_with_len (a + 1) n = cc in
    let more = range_split (a + 1) n p ns ms rest in
    let stands = more.0 in
    (omega arith, rw own (ap (λ others. a ∷ others) more.1), more.2)

-- two ranges that follow one another
pub range_append : (a n m : ℕ) → range_with_len a n ++ range_with_len (a + n) m ≡ range_with_len a (n + m)
range_append a zero m =
    let same : a + 0 ≡ a = omega arith in
    let all : 0 + m ≡ m = omega arith in
    rw (same, all) refl
range_append a (suc n) m =
    let same : a + suc n ≡ a + 1 + n = omega arith in
    let more : suc n + m ≡ suc (n + m) = omega arith in
    rw (same, more) (ap (λ others. a ∷ others) (range_append (a + 1) n m))

-- each rises, and each falls, by one
pub range_raised : (a n : ℕ) → map (λ p. p + 1) (range_with_len a n) ≡ range_with_len (a + 1) n
range_raised a zero = refl
range_raised a (suc n) = ap (λ others. (a + 1) ∷ others) (range_raised (a + 1) n)

pub range_lowered : (a n : ℕ) → map (λ p. p - 1) (range_with_len (a + 1) n) ≡ range_with_len a n
range_lowered a zero = refl
range_lowered a (suc n) = let same : a + 1 - 1 ≡ a = omega arith in rw same (ap (λ others. a ∷ others) (range_lowered (a + 1) n))

-- they are from the first on, and below the end
pub range_within : (a n low high : ℕ) → low ≤ a → a + n ≤ high → AllByRecursion (λ p. (low ≤ p) × (p < high)) (range_with_len a n)
range_within a zero low high from to = tt
range_within a (suc n) low high from to = ((omega arith, omega arith), range_within (a + 1) n low high (omega arith) (omega arith))

-- numbers that are a range are the range of their count
pub range_count : (a n : ℕ) (ns : List ℕ) → ns ≡ range_with_len a n → (ns ≡ range_with_len a (length ns)) × (length ns ≡ n)
range_count a n ns is = let count : length ns ≡ n = ap length is ∙ length-range_with_len a n in (rw count is, count)
