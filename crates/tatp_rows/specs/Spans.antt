-- Lists cut by their keys: all keys below a number, or from it on.
use Rattle.std.specs.Prelude.{◌≡◌, ℕ, ◌<◌, ◌≤◌, nat_lt, nat_le, List, [], ◌∷◌}
use Rattle.std.specs.List.{AllByRecursion, filter}

-- each key is below k
abbrev pub AllBelow : {X : Type 0} → (X → ℕ) → ℕ → List X → Type 0
AllBelow key k xs = AllByRecursion (λ x. key x < k) xs

-- each key is k or more
abbrev pub AllFrom : {X : Type 0} → (X → ℕ) → ℕ → List X → Type 0
AllFrom key k xs = AllByRecursion (λ x. k ≤ key x) xs

-- the first element has the key k
abbrev pub StartsAt : {X : Type 0} → (X → ℕ) → ℕ → List X → Type 0
StartsAt key k [] = ⊥
StartsAt key k (x ∷ xs) = key x ≡ k

-- the elements with keys below k
abbrev pub keys_below : {X : Type 0} → (X → ℕ) → ℕ → List X → List X
keys_below key k xs = filter (λ x. nat_lt (key x) k) xs

-- the elements with keys from k on
abbrev pub keys_from : {X : Type 0} → (X → ℕ) → ℕ → List X → List X
keys_from key k xs = filter (λ x. nat_le k (key x)) xs
