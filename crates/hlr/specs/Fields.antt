-- What the text of a field spells, or Field.
use Rattle.std.specs.Prelude.{ℕ, ◌+◌, ◌*◌, ◌^◌, ◌==◌, ◌&&◌, not, nat_lt, List, [], ◌∷◌, length, map, slice_index, if◌then◌else◌, Result, Ok, Err}
use Rattle.std.specs.List.{list_all, range_with_len}
use Rattle.std.specs.Char.{is_ascii_digit, digit_value}
use Rattle.std.specs.Str.Parse.{digits_value}
use Rattle.tatp_rows.specs.Rows.{between}
use Rattle.tatp_rows.specs.declared.refusal.Refusal.{Refusal}
use Rattle.tatp_rows.specs.declared.refusal.Refusal.TheVariants.{Field}

-- what comes next, unless it was refused
infixl 10 ◌>>=◌
abbrev pub ◌>>=◌ : {A B : Type 0} → Result A Refusal → (A → Result B Refusal) → Result B Refusal
◌>>=◌ (Ok a) next = next a
◌>>=◌ (Err why) next = Err why

-- a number: one or more digits with a value below 2^64
unfoldable pub number_field : List ℕ → Result ℕ Refusal
number_field text =
    if not (length text == 0) && (list_all is_ascii_digit text && nat_lt (digits_value 10 text) (2 ^ 64))
    then Ok (digits_value 10 text) else Err Field

-- the numbers of fields
abbrev pub number_fields : List (List ℕ) → Result (List ℕ) Refusal
number_fields [] = Ok []
number_fields (text ∷ texts) = do
  n ← number_field text
  ns ← number_fields texts
  Ok (n ∷ ns)

-- a number that fits a byte
abbrev pub byte_field : List ℕ → Result ℕ Refusal
byte_field text = do
  n ← number_field text
  between 0 255 n

-- that many digits, each with a value below the limit; the digits above 9 are letters of either case
unfoldable pub digits_field : ℕ → ℕ → List ℕ → Result (List ℕ) Refusal
digits_field limit size text =
    if (length text == size) && list_all (λ c. nat_lt (digit_value c) limit) text then Ok (map digit_value text) else Err Field

-- the ten bytes of twenty hexadecimal digits, two for each
unfoldable pub bytes_of : List ℕ → List ℕ
bytes_of digits = map (λ k. 16 * slice_index digits (2 * k) + slice_index digits (2 * k + 1)) (range_with_len 0 10)

-- ten bytes, written as twenty hexadecimal digits
abbrev pub bytes_field : List ℕ → Result (List ℕ) Refusal
bytes_field text = do
  digits ← digits_field 16 20 text
  Ok (bytes_of digits)
