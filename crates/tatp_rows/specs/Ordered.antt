-- Lists that are ordered by a number of each element, its key, and their edits at a key.
use Rattle.std.specs.Prelude.{ℕ, suc, ◌<◌, ◌==◌, nat_lt, List, [], ◌∷◌, Option, Some, None, if◌then◌else◌, ⊤}
use Rattle.std.specs.List.{AllByRecursion}

-- the keys rise strictly, so no key comes twice
abbrev pub IsOrderedBy : {X : Type 0} → (X → ℕ) → List X → Type 0
IsOrderedBy key [] = ⊤
IsOrderedBy key (x ∷ xs) = AllByRecursion (λ y. key x < key y) xs × IsOrderedBy key xs

-- the element at a key
abbrev pub row_at : {X : Type 0} → (X → ℕ) → ℕ → List X → Option X
row_at key k [] = None
row_at key k (x ∷ xs) = if key x == k then Some x else row_at key k xs

-- the list with the element at a key replaced, where there is one
abbrev pub with_row_at : {X : Type 0} → (X → ℕ) → ℕ → X → List X → List X
with_row_at key k y [] = []
with_row_at key k y (x ∷ xs) = if key x == k then y ∷ xs else x ∷ with_row_at key k y xs

-- the list with one more element, in front of the first that has a greater key
abbrev pub with_row : {X : Type 0} → (X → ℕ) → X → List X → List X
with_row key y [] = y ∷ []
with_row key y (x ∷ xs) = if nat_lt (key y) (key x) then y ∷ (x ∷ xs) else x ∷ with_row key y xs

-- the elements by their keys, each in front of those with a greater one
abbrev pub in_order : {X : Type 0} → (X → ℕ) → List X → List X
in_order key [] = []
in_order key (x ∷ xs) = with_row key x (in_order key xs)

-- how many stand in front of the first with a greater key
abbrev pub behind_equals : {X : Type 0} → (X → ℕ) → ℕ → List X → ℕ
behind_equals key k [] = 0
behind_equals key k (x ∷ xs) = if nat_lt k (key x) then 0 else suc (behind_equals key k xs)

-- the list without the element at a key
abbrev pub without_row : {X : Type 0} → (X → ℕ) → ℕ → List X → List X
without_row key k [] = []
without_row key k (x ∷ xs) = if key x == k then xs else x ∷ without_row key k xs
