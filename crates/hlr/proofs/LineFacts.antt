-- Digits that are written behind a line, or over its end.
use Rattle.hlr.proofs.Common.{◌≡◌, refl, sym, ap, ◌∙◌, ℕ, zero, suc, ◌+◌, ◌-◌, ◌*◌, ◌/◌, ◌%◌, ◌^◌, ◌<◌, ◌≤◌, List, [], ◌∷◌, ◌++◌, length, take, drop, replicate, append_assoc, arith, decimal, decimal_digit, decimal_nonempty, decimal_step, length-decimal-le, length-append, length-take, take-append-drop, take-append-le, take-replicate, take-take, take_all, length_four, length_pair, number_text}

-- how many digits a number has
pub length_decimal : (k n : ℕ) → 10 ^ k ≤ n → n < 10 * 10 ^ k → n < 2 ^ 64 → length (decimal n) ≡ k + 1
length_decimal zero n from below fits = ap length (decimal_digit n (omega arith))
length_decimal (suc k) n from below fits =
    let shorter = length_decimal k (n / 10) (omega arith) (omega arith) (omega arith) in
    ap length (decimal_step n (omega arith) fits) ∙ omega (arith, shorter, length-append (decimal (n / 10)) ((48 + n % 10) ∷ []))

-- two pieces behind each other
pub put_both : (old mid new a b : List ℕ) → mid ≡ old ++ a → new ≡ mid ++ b → new ≡ old ++ (a ++ b)
put_both old mid new a b first second = second ∙ ap (λ w. w ++ b) first ∙ append_assoc old a b

-- a number of 16 digits or more is as long as it is
pub long_number : (n : ℕ) → 999999999999999 < n → n < 2 ^ 64 → number_text n ≡ decimal n
long_number n long fits =
    let low = length_four n (omega arith) fits in
    let middle = length_four (n / 10000) (omega arith) (omega arith) in
    let high = length_four (n / 10000 / 10000) (omega arith) (omega arith) in
    let first = length_pair (n / 10000 / 10000 / 10000) (omega arith) (omega arith) in
    let some = decimal_nonempty (n / 10000 / 10000 / 10000 / 100) (omega arith) in
    let none : 15 - length (decimal n) ≡ 0 = omega arith in
    rw none refl

-- a front that ends in the second of two lists
take_behind : (xs ys : List ℕ) (n : ℕ) → take (length xs + n) (xs ++ ys) ≡ xs ++ take n ys
take_behind [] ys n = ap (λ k. take k ys) (omega arith)
take_behind (x ∷ xs) ys n =
    let more : length (x ∷ xs) + n ≡ suc (length xs + n) = omega arith in ap (λ k. take k (x ∷ xs ++ ys)) more ∙ ap (λ l. x ∷ l) (take_behind xs ys n)

-- bytes that are written behind what is before them
pub written_behind : (before after digits : List ℕ) (start end : ℕ) → take start after ≡ take start before → drop start after ≡ digits ++ drop end before → start + length digits ≡ end → end ≤ length before
    → take end after ≡ take start before ++ digits
written_behind before after digits start end kept is ends within =
    let front : length (take start before) ≡ start = omega (arith, length-take start before) in
    let all : after ≡ take start before ++ (digits ++ drop end before) = sym (take-append-drop start after) ∙ ap (λ l. l ++ drop start after) kept ∙ ap (λ l. take start before ++ l) is in
    ap (take end) all ∙ ap (λ n. take n (take start before ++ (digits ++ drop end before))) (sym (ap (λ n. n + length digits) front ∙ ends))
    ∙ take_behind (take start before) (digits ++ drop end before) (length digits)
    ∙ ap (λ l. take start before ++ l) (take-append-le (length digits) digits (drop end before) (omega arith) ∙ take_all (length digits) digits (omega arith))

-- bytes that are written over the last of a list
pub written_over : (before after old over digits : List ℕ) (start end : ℕ) → take end before ≡ old ++ over → take start after ≡ take start before → drop start after ≡ digits ++ drop end before
    → start + length digits ≡ end → length digits ≤ length over → end ≤ length before → take end after ≡ old ++ (take (length over - length digits) over ++ digits)
written_over before after old over digits start end was kept is ends few within =
    let size : length (take end before) ≡ end = omega (arith, length-take end before) in
    let both : length old + length over ≡ end = sym (length-append old over) ∙ (ap length (sym was) ∙ size) in
    let from : start ≡ length old + (length over - length digits) = omega arith in
    let old_front : take start before ≡ old ++ take (length over - length digits) over =
    sym (take-take start end before (omega arith)) ∙ ap (take start) was ∙ ap (λ n. take n (old ++ over)) from ∙ take_behind old over (length over - length digits) in
    written_behind before after digits start end kept is ends within ∙ ap (λ l. l ++ digits) old_front
    ∙ append_assoc old (take (length over - length digits) over) digits

-- the digits of a number, over the last of 15 zeros
pub number_over : (n : ℕ) (before after old line : List ℕ) (start end : ℕ) → n < 1000000000000000 → line ≡ old ++ replicate 15 48 → take end before ≡ line → take start after ≡ take start before
    → drop start after ≡ decimal n ++ drop end before → start + length (decimal n) ≡ end → end ≤ length before → take end after ≡ old ++ number_text n
number_over n before after old line start end small zeros was kept is ends within =
    let short = length-decimal-le 15 n (omega arith) (omega arith) (omega arith) in
    written_over before after old (replicate 15 48) (decimal n) start end (was ∙ zeros) kept is ends short within
    ∙ ap (λ l. old ++ (l ++ decimal n)) (take-replicate (15 - length (decimal n)) 15 48 (omega arith))
