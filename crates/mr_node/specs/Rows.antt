-- What is seen of a node: its height, its width and its rows.
use Rattle.std.specs.Prelude.{ℕ, ◌-◌, ◌^◌, List, Option, option_map, refl}
use Rattle.std.specs.Coded.{Coded, code_by, coded×, coded_ℕ, coded_list}
use Rattle.tatp_rows.specs.Ordered.{row_at}
use Rattle.tatp_rows.specs.Spans.{AllBelow, AllFrom, StartsAt}

-- a node's height above the leaves, the number of its own entries or children, and its pairs of key and value in order
pub record Seen (V : Type 0) : Type 0 where
  pub height : ℕ
  pub width : ℕ
  pub rows : List (ℕ × V)

-- what is seen of a node is stored as the tuple of its parts
abbrev pub seen_code : {V : Type 0} → Coded V → Coded (Seen V)
seen_code {V} code =
    code_by (ℕ × (ℕ × List (ℕ × V))) (coded× coded_ℕ (coded× coded_ℕ (coded_list (coded× coded_ℕ code)))) (λ s. (s.height, (s.width, s.rows))) (λ p. record { height = p.0; width = p.1.0; rows = p.1.1 }) (λ _. refl)

-- all keys are below this number, so a count of rows in order always fits 64 bits, and so does one more
abbrev pub key_limit : ℕ
key_limit = 2 ^ 64 - 2

-- the key of a pair
abbrev pub key_of_pair : {V : Type 0} → ℕ × V → ℕ
key_of_pair p = p.0

-- each key of the pairs is below k
abbrev pub KeysBelow : {V : Type 0} → ℕ → List (ℕ × V) → Type 0
KeysBelow k xs = AllBelow key_of_pair k xs

-- each key of the pairs is k or more
abbrev pub KeysFrom : {V : Type 0} → ℕ → List (ℕ × V) → Type 0
KeysFrom k xs = AllFrom key_of_pair k xs

-- the first pair has this key
abbrev pub StartsWith : {V : Type 0} → ℕ → List (ℕ × V) → Type 0
StartsWith k xs = StartsAt key_of_pair k xs

-- the value at a key
abbrev pub value_at : {V : Type 0} → ℕ → List (ℕ × V) → Option V
value_at key rows = option_map (λ p. p.1) (row_at key_of_pair key rows)
