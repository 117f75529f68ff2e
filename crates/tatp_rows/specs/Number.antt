-- Numbers of subscribers: 15 decimal digits.
use Rattle.std.specs.Prelude.{ℕ, ◌-◌, ◌<◌, ◌==◌, ◌&&◌, ◌++◌, nat_lt, Bool, List, length, if◌then◌else◌, Result, Ok, Err, decimal, replicate}
use Rattle.std.specs.List.{list_all}
use Rattle.std.specs.Char.{is_ascii_digit}
use Rattle.std.specs.Str.Parse.{digits_value}
use Rattle.tatp_rows.specs.declared.refusal.Refusal.{Refusal}
use Rattle.tatp_rows.specs.declared.refusal.Refusal.TheVariants.{Field}

-- a number has at most 15 digits
abbrev pub IsNumber : ℕ → Type 0
IsNumber n = n < 1000000000000000

-- whether a value is such a number
abbrev pub is_number : ℕ → Bool
is_number n = nat_lt n 1000000000000000

-- the number of a value, where it is one
abbrev pub number_of : ℕ → Result ℕ Refusal
number_of n = if is_number n then Ok n else Err Field

-- the number that a text spells: exactly 15 digits
abbrev pub number_in : List ℕ → Result ℕ Refusal
number_in text = if length text == 15 && list_all is_ascii_digit text then Ok (digits_value 10 text) else Err Field

-- the 15 digits of a number: as many zeros as its decimal digits leave
abbrev pub number_text : ℕ → List ℕ
number_text n = replicate (15 - length (decimal n)) 48 ++ decimal n
