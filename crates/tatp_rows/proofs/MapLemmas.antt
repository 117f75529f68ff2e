-- Ordered lists under `map`: the edits of a list of pairs are the edits of its rows, where each pair's key is its
-- row's.
use Rattle.tatp_rows.proofs.Common.{◌≡◌, refl, ℕ, List, [], ◌∷◌, map, arith, ◌==◌, option_map, AllByRecursion, nat_tests, row_at, with_row_at, with_row, without_row}
use Rattle.tatp_rows.proofs.OrderedLemmas.{by_test}

module _ {X Y : Type 0} (f : X → Y) where
  -- what holds of each element of the list that is made
  pub each-map : (P : Y → Type 0) (xs : List X) → AllByRecursion (λ x. P (f x)) xs → AllByRecursion P (map f xs)
  each-map P [] each = tt
  each-map P (x ∷ xs) each = (each.0, each-map P xs each.1)

  pub each-unmap : (P : Y → Type 0) (xs : List X) → AllByRecursion P (map f xs) → AllByRecursion (λ x. P (f x)) xs
  each-unmap P [] each = tt
  each-unmap P (x ∷ xs) each = (each.0, each-unmap P xs each.1)

  module _ (key : X → ℕ) (key' : Y → ℕ) where
    pub row_at-map : (k : ℕ) (xs : List X) → AllByRecursion (λ x. key x ≡ key' (f x)) xs → row_at key' k (map f xs) ≡ option_map f (row_at key k xs)
    row_at-map k [] same = refl
    row_at-map k (x ∷ xs) same = by_test (key x == k)
        (λ e. rw (← same.0, e) refl)
        (λ e. rw (← same.0, e) (row_at-map k xs same.1))

    pub with_row_at-map : (k : ℕ) (y : X) (xs : List X) → AllByRecursion (λ x. key x ≡ key' (f x)) xs → map f (with_row_at key k y xs) ≡ with_row_at key' k (f y) (map f xs)
    with_row_at-map k y [] same = refl
    with_row_at-map k y (x ∷ xs) same = grind (arith, nat_tests, with_row_at-map k y xs)

    pub with_row-map : (y : X) (xs : List X) → key y ≡ key' (f y) → AllByRecursion (λ x. key x ≡ key' (f x)) xs → map f (with_row key y xs) ≡ with_row key' (f y) (map f xs)
    with_row-map y [] at same = refl
    with_row-map y (x ∷ xs) at same = grind (arith, nat_tests, with_row-map y xs)

    pub without_row-map : (k : ℕ) (xs : List X) → AllByRecursion (λ x. key x ≡ key' (f x)) xs → map f (without_row key k xs) ≡ without_row key' k (map f xs)
    without_row-map k [] same = refl
    without_row-map k (x ∷ xs) same = grind (arith, nat_tests, without_row-map k xs)

-- pairs of a key and a row, each with its row's key
module _ {X : Type 0} (key : X → ℕ) where
  pub row_at-pairs : (k : ℕ) (pairs : List (ℕ × X)) → AllByRecursion (λ (p : ℕ × X). p.0 ≡ key p.1) pairs → row_at key k (map (λ (p : ℕ × X). p.1) pairs) ≡ option_map (λ (p : ℕ × X). p.1) (row_at (λ (p : ℕ × X). p.0) k pairs)
  row_at-pairs k pairs same = row_at-map (λ (p : ℕ × X). p.1) (λ (p : ℕ × X). p.0) key k pairs same

  pub with_row_at-pairs : (k : ℕ) (y : X) (pairs : List (ℕ × X)) → AllByRecursion (λ (p : ℕ × X). p.0 ≡ key p.1) pairs → map (λ (p : ℕ × X). p.1) (with_row_at (λ (p : ℕ × X). p.0) k (k, y) pairs) ≡ with_row_at key k y (map (λ (p : ℕ × X). p.1) pairs)
  with_row_at-pairs k y pairs same = with_row_at-map (λ (p : ℕ × X). p.1) (λ (p : ℕ × X). p.0) key k (k, y) pairs same

  pub with_row-pairs : (k : ℕ) (y : X) (pairs : List (ℕ × X)) → k ≡ key y → AllByRecursion (λ (p : ℕ × X). p.0 ≡ key p.1) pairs → map (λ (p : ℕ × X). p.1) (with_row (λ (p : ℕ × X). p.0) (k, y) pairs) ≡ with_row key y (map (λ (p : ℕ × X). p.1) pairs)
  with_row-pairs k y pairs at same = with_row-map (λ (p : ℕ × X). p.1) (λ (p : ℕ × X). p.0) key (k, y) pairs at same

  pub without_row-pairs : (k : ℕ) (pairs : List (ℕ × X)) → AllByRecursion (λ (p : ℕ × X). p.0 ≡ key p.1) pairs → map (λ (p : ℕ × X). p.1) (without_row (λ (p : ℕ × X). p.0) k pairs) ≡ without_row key k (map (λ (p : ℕ × X). p.1) pairs)
  without_row-pairs k pairs same = without_row-map (λ (p : ℕ × X). p.1) (λ (p : ℕ × X). p.0) key k pairs same
