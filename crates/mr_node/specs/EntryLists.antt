-- Entries in order: keys in an array, and beside each key what belongs to it.
use Rattle.std.specs.Prelude.{◌≡◌, ℕ, ◌-◌, ◌^◌, ◌<◌, ◌≤◌, List, [], ◌∷◌, Option, Some, None, length, ⊤}
use Rattle.std.specs.List.{zip}

-- what stands behind the last key: the greatest number of 64 bits
abbrev pub no_key : ℕ
no_key = 2 ^ 64 - 1

-- what the used places hold, in order
abbrev pub somes : {X : Type 0} → List (Option X) → List X
somes [] = []
somes (None ∷ xs) = somes xs
somes (Some x ∷ xs) = x ∷ somes xs

-- the first n places are used, and no other
abbrev pub IsPacked : {X : Type 0} → ℕ → List (Option X) → Type 0
IsPacked n [] = n ≡ 0
IsPacked n (None ∷ xs) = (n ≡ 0) × IsPacked 0 xs
IsPacked n (Some x ∷ xs) = (0 < n) × IsPacked (n - 1) xs

-- each key behind the first n is the greatest number
abbrev pub IsPadded : ℕ → List ℕ → Type 0
IsPadded n [] = ⊤
IsPadded n (k ∷ keys) = (n ≡ 0 → k ≡ no_key) × IsPadded (n - 1) keys

-- one key for each item, at most 32, and behind those keys only the greatest number
pub record AreKeyed {X : Type 0} (keys : List ℕ) (items : List X) : Type 0 where
  pub fits : length items ≤ 32
  pub padded : IsPadded (length items) keys
  pub keyed : length items ≤ length keys

-- the entries: each key with what stands beside it
abbrev pub entries : {X : Type 0} → List ℕ → List (Option X) → List (ℕ × X)
entries keys places = zip keys (somes places)

-- n entries, in the first n places of both
pub record AreEntries {X : Type 0} (n : ℕ) (keys : List ℕ) (places : List (Option X)) : Type 0 where
  pub fits : n ≤ 32
  pub packed : IsPacked n places
  pub padded : IsPadded n keys
  pub keyed : length (somes places) ≤ length keys
