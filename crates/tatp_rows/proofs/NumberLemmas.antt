-- Numbers of subscribers: how their digits are read one by one, and what is written.
use Rattle.tatp_rows.proofs.Common.{◌≡◌, refl, ap, ◌∙◌, ℕ, ◌+◌, ◌-◌, ◌*◌, ◌<◌, ◌≤◌, ◌++◌, List, [], length, get_or, take, true, false, rules, arith, decimal, replicate, list_all, is_ascii_digit, digit_value, digits_value, styled_decimal, format_spec, nat_tests, digit_value_digit, digits_value_more, append-nil, list_all_more, number_text}
use Rattle.std.specs.Fmt.{padded_integral, char_count}

-- what an ASCII digit is worth
pub digit_is : (c : ℕ) → is_ascii_digit c ≡ true → (48 ≤ c) × (c ≤ 57) × (digit_value c ≡ c - 48)
digit_is c digit =
    let low : 48 ≤ c = grind (arith, nat_tests) in
    let high : c ≤ 57 = grind (arith, nat_tests) in
    (low, high, omega (arith, digit_value_digit c (search rules)))

-- the first i bytes of a text are digits, and spell this value
pub record AreDigits (text : List ℕ) (i : ℕ) (value : ℕ) : Type 0 where
  pub digits : list_all is_ascii_digit (take i text) ≡ true
  pub value_is : value ≡ digits_value 10 (take i text)

-- one digit more
pub digits_more : (text : List ℕ) (i value more : ℕ) → AreDigits text i value → i < length text → is_ascii_digit (get_or text i 0) ≡ true → more ≡ get_or text i 0 - 48 → AreDigits text (i + 1) (value * 10 + more)
digits_more text i value more read inside digit is =
    let known = digit_is (get_or text i 0) digit in
    record {
      digits = list_all_more is_ascii_digit text i 0 inside ∙ rw (read.digits, digit) refl;
      value_is = rw (digits_value_more 10 text i inside, ← read.value_is, known.2, is) refl;
    }

-- zeros stand before a numeral that is shorter than 15 characters
padded_numeral : (numeral : List ℕ) → padded_integral (format_spec 32 0 4 15 18446744073709551615) false [] numeral ≡ replicate (15 - length numeral) 48 ++ numeral
unfolding padded_integral char_count
padded_numeral numeral =
    let none : 15 - length numeral - 0 - 0 ≡ 15 - length numeral = omega arith in
    rw (append-nil numeral) (ap (λ n. replicate n 48 ++ numeral) none)

-- the text that `{:015}` writes
pub written : (n : ℕ) → styled_decimal (format_spec 32 0 4 15 18446744073709551615) n ≡ number_text n
written n = padded_numeral (decimal n)
