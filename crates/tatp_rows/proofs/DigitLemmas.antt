-- Eight digits that are read as one word.
use Rattle.tatp_rows.proofs.Common.{◌≡◌, refl, sym, ap, ◌∙◌, ℕ, ◌+◌, ◌-◌, ◌*◌, ◌/◌, ◌%◌, ◌^◌, ◌<◌, ◌≤◌, Bool, true, false, List, [], ◌∷◌, map, length, get_or, take, drop, Fits, w8, arith, ◌==◌, ◌&&◌, ◌++◌, not, slice_set, Ok, Err, bit_and, list_all, is_ascii_digit, digit_value, AllDigits, digits_value, digits_value_after, agree_below, agree_below_at, nat_tests, and_block, and_mask, mod-mul-add, drop_more, length-drop, take_all, take-append-drop, list_all-append, All-get_or, AllPass-from_list_all, chunk-drop, pow-suc, pow-zero, Field, number_in, digits_value-lt}
use Rattle.tatp_rows.proofs.NumberLemmas.{AreDigits, digits_more, digit_is}
use Rattle.tatp_rows.proofs.RowLemmas.{both}
use lib.Lanes.{Each1, chunk, mask_l}

-- no lane stops where each byte passes
pub none_stops : (stops passes : ℕ → Bool) (xs : List ℕ) → agree_below (λ x. not (stops x)) passes 256 ≡ true → Each1 (Fits w8) xs → (mask_l (map stops xs) == 0) ≡ list_all passes xs
none_stops stops passes [] agree fits = refl
none_stops stops passes (x ∷ xs) agree fits = by (stops x) refl (agree_below_at (λ x. not (stops x)) passes 256 x agree fits.0.fits) (none_stops stops passes xs agree fits.1)
  where
    by : (b : Bool) → stops x ≡ b → not (stops x) ≡ passes x → (mask_l (map stops xs) == 0) ≡ list_all passes xs → (mask_l (map stops (x ∷ xs)) == 0) ≡ list_all passes (x ∷ xs)
    by true stopped same rest = rw (← same, stopped) (grind (arith, nat_tests))
    by false on same rest = rw (← same, on, ← rest) (grind (arith, nat_tests))

-- of two halves of a block the lower one is kept, beside the blocks above
low_kept : (k rest mask high low : ℕ) → high * 2 ^ k + low < 2 ^ (k + k) → low < 2 ^ k → 2 ^ k - 1 < 2 ^ (k + k)
    → bit_and (rest * 2 ^ (k + k) + (high * 2 ^ k + low)) (mask * 2 ^ (k + k) + (2 ^ k - 1)) ≡ bit_and rest mask * 2 ^ (k + k) + low
low_kept k rest mask high low within small ones =
    rw (and_block (k + k) rest mask (high * 2 ^ k + low) (2 ^ k - 1) within ones, and_mask (high * 2 ^ k + low) k, mod-mul-add high (2 ^ k) low small) refl

-- neighbours among eight digits are joined
pub twos_joined : (a b c d e f g h word : ℕ) → a ≤ 9 → b ≤ 9 → c ≤ 9 → d ≤ 9 → e ≤ 9 → f ≤ 9 → g ≤ 9 → h ≤ 9
    → word ≡ a + b * 256 + c * 65536 + d * 16777216 + e * 4294967296 + f * 1099511627776 + g * 281474976710656 + h * 72057594037927936
    → bit_and (word * 10 + word / 256) 71777214294589695 ≡ a * 10 + b + (c * 10 + d) * 65536 + (e * 10 + f) * 4294967296 + (g * 10 + h) * 281474976710656
twos_joined a b c d e f g h word a' b' c' d' e' f' g' h' is =
    let shifted : word / 256 ≡ b + c * 256 + d * 65536 + e * 16777216 + f * 4294967296 + g * 1099511627776 + h * 281474976710656 = omega arith in
    let top = 0 * 65536 + (h * 10 * 256 + (g * 10 + h)) in
    let third = top * 65536 + ((f * 10 + g) * 256 + (e * 10 + f)) in
    let second = third * 65536 + ((d * 10 + e) * 256 + (c * 10 + d)) in
    let sum : word * 10 + word / 256 ≡ second * 65536 + ((b * 10 + c) * 256 + (a * 10 + b)) = omega arith in
    let first_kept = low_kept 8 second 1095233372415 (b * 10 + c) (a * 10 + b) (omega arith) (omega arith) (omega arith) in
    let second_kept = low_kept 8 third 16711935 (d * 10 + e) (c * 10 + d) (omega arith) (omega arith) (omega arith) in
    let third_kept = low_kept 8 top 255 (f * 10 + g) (e * 10 + f) (omega arith) (omega arith) (omega arith) in
    let top_kept = low_kept 8 0 0 (h * 10) (g * 10 + h) (omega arith) (omega arith) (omega arith) in
    rw (sum, first_kept, second_kept, third_kept, top_kept) (omega arith)

-- neighbours among four pairs of digits are joined
pub fours_joined : (a b c d word : ℕ) → a ≤ 99 → b ≤ 99 → c ≤ 99 → d ≤ 99
    → word ≡ a + b * 65536 + c * 4294967296 + d * 281474976710656
    → bit_and (word * 100 + word / 65536) 281470681808895 ≡ a * 100 + b + (c * 100 + d) * 4294967296
fours_joined a b c d word a' b' c' d' is =
    let shifted : word / 65536 ≡ b + c * 65536 + d * 4294967296 = omega arith in
    let top = 0 * 4294967296 + (d * 100 * 65536 + (c * 100 + d)) in
    let sum : word * 100 + word / 65536 ≡ top * 4294967296 + ((b * 100 + c) * 65536 + (a * 100 + b)) = omega arith in
    let first_kept = low_kept 16 top 65535 (b * 100 + c) (a * 100 + b) (omega arith) (omega arith) (omega arith) in
    let top_kept = low_kept 16 0 0 (d * 100) (c * 100 + d) (omega arith) (omega arith) (omega arith) in
    rw (sum, first_kept, top_kept) (omega arith)

-- the number that eight digits spell, from the word of their bytes
module _ (a b c d e f g h word : ℕ) (a' : a ≤ 9) (b' : b ≤ 9) (c' : c ≤ 9) (d' : d ≤ 9) (e' : e ≤ 9) (f' : f ≤ 9) (g' : g ≤ 9) (h' : h ≤ 9)
    (is : word ≡ a + b * 256 + c * 65536 + d * 16777216 + e * 4294967296 + f * 1099511627776 + g * 281474976710656 + h * 72057594037927936) where
  abbrev twos : ℕ
  twos = bit_and (word * 10 + word / 256) 71777214294589695

  abbrev fours : ℕ
  fours = bit_and (twos * 100 + twos / 65536) 281470681808895

  fours_are : fours ≡ (a * 10 + b) * 100 + (c * 10 + d) + ((e * 10 + f) * 100 + (g * 10 + h)) * 4294967296
  fours_are =
      fours_joined (a * 10 + b) (c * 10 + d) (e * 10 + f) (g * 10 + h) twos (omega arith) (omega arith) (omega arith) (omega arith)
      (twos_joined a b c d e f g h word a' b' c' d' e' f' g' h' is)

  pub all_joined : bit_and fours 4294967295 * 10000 + fours / 4294967296
      ≡ (((((((a * 10 + b) * 10 + c) * 10 + d) * 10 + e) * 10 + f) * 10 + g) * 10 + h)
  all_joined =
      let low : bit_and fours 4294967295 ≡ fours % 4294967296 = and_mask fours 32 in
      omega (arith, fours_are, low)

-- eight digits one by one, and what is made of their word
module _ (text : List ℕ) (size : length text ≡ 8) (all : list_all is_ascii_digit text ≡ true) where
  digit : ℕ → ℕ
  digit i = get_or text i 0 - 48

  is_digit : (i : ℕ) → i < 8 → is_ascii_digit (get_or text i 0) ≡ true
  is_digit i below = All-get_or (λ x. is_ascii_digit x ≡ true) text i 0 (omega arith) (AllPass-from_list_all is_ascii_digit text all)

  byte_is : (i : ℕ) → i < 8 → (get_or text i 0 ≡ digit i + 48) × (digit i ≤ 9)
  unfolding digit
  byte_is i below = let known = digit_is (get_or text i 0) (is_digit i below) in (omega arith, omega arith)

  one_more : (i value : ℕ) → i < 8 → AreDigits text i value → AreDigits text (i + 1) (value * 10 + digit i)
  unfolding digit
  one_more i value below read = digits_more text i value (get_or text i 0 - 48) read (omega arith) (is_digit i below) refl

  abbrev value : ℕ
  value = ((((((digit 0 * 10 + digit 1) * 10 + digit 2) * 10 + digit 3) * 10 + digit 4) * 10 + digit 5) * 10 + digit 6) * 10 + digit 7

  value_is : value ≡ digits_value 10 text
  value_is =
      let none : AreDigits text 0 0 = record { digits = refl; value_is = refl } in
      let first = one_more 1 _ (omega arith) (one_more 0 _ (omega arith) none) in
      let second = one_more 3 _ (omega arith) (one_more 2 _ (omega arith) first) in
      let third = one_more 5 _ (omega arith) (one_more 4 _ (omega arith) second) in
      let last = one_more 7 _ (omega arith) (one_more 6 _ (omega arith) third) in
      let whole : take 8 text ≡ text = take_all 8 text (omega arith) in
      omega (arith, rw whole at last.value_is)

  module _ (word : ℕ) (is : word ≡ get_or text 0 0 + get_or text 1 0 * 256 + get_or text 2 0 * 65536 + get_or text 3 0 * 16777216 + get_or text 4 0 * 4294967296 + get_or text 5 0 * 1099511627776 + get_or text 6 0 * 281474976710656 + get_or text 7 0 * 72057594037927936) where
    ones_from : (a b c d e f g h : ℕ) → get_or text 0 0 ≡ a + 48 → get_or text 1 0 ≡ b + 48 → get_or text 2 0 ≡ c + 48 → get_or text 3 0 ≡ d + 48 → get_or text 4 0 ≡ e + 48 → get_or text 5 0 ≡ f + 48 → get_or text 6 0 ≡ g + 48 → get_or text 7 0 ≡ h + 48
        → word - 3472328296227680304 ≡ a + b * 256 + c * 65536 + d * 16777216 + e * 4294967296 + f * 1099511627776 + g * 281474976710656 + h * 72057594037927936
    ones_from a b c d e f g h a' b' c' d' e' f' g' h' = omega arith

    -- the bytes, less what a zero is in each, are joined by twos, by fours, and all
    pub eight_joined : (let ones = word - 3472328296227680304 in
        let twos = bit_and (ones * 10 + ones / 256) 71777214294589695 in
        let fours = bit_and (twos * 100 + twos / 65536) 281470681808895 in
        bit_and fours 4294967295 * 10000 + fours / 4294967296) ≡ digits_value 10 text
    eight_joined =
        let a = byte_is 0 (omega arith) in
        let b = byte_is 1 (omega arith) in
        let c = byte_is 2 (omega arith) in
        let d = byte_is 3 (omega arith) in
        let e = byte_is 4 (omega arith) in
        let f = byte_is 5 (omega arith) in
        let g = byte_is 6 (omega arith) in
        let h = byte_is 7 (omega arith) in
        all_joined _ _ _ _ _ _ _ _ _ a.1 b.1 c.1 d.1 e.1 f.1 g.1 h.1 (ones_from _ _ _ _ _ _ _ _ a.0 b.0 c.0 d.0 e.0 f.0 g.0 h.0) ∙ value_is

-- digits behind a number, and behind other digits
digits_behind : (radix n : ℕ) (ds : List ℕ) → digits_value_after radix n ds ≡ n * radix ^ length ds + digits_value radix ds
digits_behind radix n [] = rw (pow-zero radix) (omega arith)
digits_behind radix n (c ∷ cs) =
    let here = digits_behind radix (n * radix + digit_value c) cs in
    let alone = digits_behind radix (0 * radix + digit_value c) cs in
    rw (here, alone, pow-suc radix (length cs)) (grind arith)

digits_append : (radix n : ℕ) (ds es : List ℕ) → digits_value_after radix n (ds ++ es) ≡ digits_value_after radix (digits_value_after radix n ds) es
digits_append radix n [] es = refl
digits_append radix n (c ∷ cs) es = digits_append radix (n * radix + digit_value c) cs es

-- ASCII digits are digits
digits_all : (text : List ℕ) → list_all is_ascii_digit text ≡ true → AllDigits 10 text
digits_all [] all = tt
digits_all (c ∷ cs) all =
    let parts = both (is_ascii_digit c) (list_all is_ascii_digit cs) all in
    let known = digit_is c parts.0 in
    (omega arith, digits_all cs parts.1)

and_false : (b : Bool) → (b && false) ≡ false
and_false true = refl
and_false false = refl

-- fifteen bytes, as eight and eight that share one
module _ (text : List ℕ) (size : length text ≡ 15) where
  behind_first : text ≡ chunk 0 8 text ++ drop 8 text
  behind_first = chunk-drop 0 8 text

  rest_is : chunk 7 8 text ≡ drop 7 text
  rest_is = take_all 8 (drop 7 text) (omega (arith, length-drop 7 text))

  last_is : chunk 7 8 text ≡ get_or text 7 0 ∷ drop 8 text
  last_is = rest_is ∙ drop_more text 7 0 (omega arith)

  before_last : text ≡ take 7 text ++ chunk 7 8 text
  before_last = sym (ap (λ r. take 7 text ++ r) rest_is ∙ take-append-drop 7 text)

  module _ (first : list_all is_ascii_digit (chunk 0 8 text) ≡ true) (last : list_all is_ascii_digit (chunk 7 8 text) ≡ true) where
    rest_pass : list_all is_ascii_digit (drop 8 text) ≡ true
    rest_pass = (both (is_ascii_digit (get_or text 7 0)) (list_all is_ascii_digit (drop 8 text)) (rw last_is at last)).1

    pub zero_before : list_all is_ascii_digit (slice_set (chunk 7 8 text) 0 48) ≡ true
    zero_before = rw last_is rest_pass

    all_pass : list_all is_ascii_digit text ≡ true
    all_pass = ap (list_all is_ascii_digit) behind_first ∙ rw (list_all-append is_ascii_digit (chunk 0 8 text) (drop 8 text), first) rest_pass

    joined_value : digits_value 10 (chunk 0 8 text) * 10000000 + digits_value 10 (slice_set (chunk 7 8 text) 0 48) ≡ digits_value 10 text
    joined_value =
        let short : length (drop 8 text) ≡ 7 = omega (arith, length-drop 8 text) in
        let behind : digits_value_after 10 (digits_value 10 (chunk 0 8 text)) (drop 8 text) ≡ digits_value 10 (chunk 0 8 text) * 10000000 + digits_value 10 (drop 8 text) =
        rw short at (digits_behind 10 (digits_value 10 (chunk 0 8 text)) (drop 8 text)) in
        rw last_is (sym (ap (digits_value 10) behind_first ∙ digits_append 10 0 (chunk 0 8 text) (drop 8 text) ∙ behind))

    pub joined_below : digits_value 10 (chunk 0 8 text) * 10000000 + digits_value 10 (slice_set (chunk 7 8 text) 0 48) < 1000000000000000
    joined_below =
        let below : digits_value 10 text < 10 ^ 15 = rw size at (digits_value-lt 10 text (digits_all text all_pass)) in
        omega (arith, joined_value)

    pub joined_read : Ok (digits_value 10 (chunk 0 8 text) * 10000000 + digits_value 10 (slice_set (chunk 7 8 text) 0 48)) ≡ number_in text
    joined_read = rw (joined_value, size, all_pass) refl

  -- what other bytes give
  refused : list_all is_ascii_digit text ≡ false → Err Field ≡ number_in text
  refused fails = rw (fails, and_false (length text == 15)) refl

  pub first_refused : list_all is_ascii_digit (chunk 0 8 text) ≡ false → Err Field ≡ number_in text
  first_refused fails = refused (ap (list_all is_ascii_digit) behind_first ∙ rw (list_all-append is_ascii_digit (chunk 0 8 text) (drop 8 text), fails) refl)

  pub last_refused : list_all is_ascii_digit (chunk 7 8 text) ≡ false → Err Field ≡ number_in text
  last_refused fails = refused (ap (list_all is_ascii_digit) before_last ∙ rw (list_all-append is_ascii_digit (take 7 text) (chunk 7 8 text), fails) (and_false _))
