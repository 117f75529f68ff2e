-- Ordered lists joined at a border: an edit at a key falls into the list on the key's side.
use Rattle.tatp_rows.proofs.Common.{◌≡◌, refl, ℕ, ◌<◌, ◌≤◌, List, [], ◌∷◌, ◌++◌, arith, AllByRecursion, nat_tests, IsOrderedBy, row_at, with_row_at, with_row, without_row}
use Rattle.tatp_rows.proofs.OrderedLemmas.{each-weaker}

-- what holds of each element of both lists holds of each of their join, and the other way
pub each-append : {X : Type 0} (P : X → Type 0) (xs ys : List X) → AllByRecursion P xs → AllByRecursion P ys → AllByRecursion P (xs ++ ys)
each-append P [] ys left right = right
each-append P (x ∷ xs) ys left right = (left.0, each-append P xs ys left.1 right)

pub each-left : {X : Type 0} (P : X → Type 0) (xs ys : List X) → AllByRecursion P (xs ++ ys) → AllByRecursion P xs
each-left P [] ys each = tt
each-left P (x ∷ xs) ys each = (each.0, each-left P xs ys each.1)

pub each-right : {X : Type 0} (P : X → Type 0) (xs ys : List X) → AllByRecursion P (xs ++ ys) → AllByRecursion P ys
each-right P [] ys each = each
each-right P (x ∷ xs) ys each = each-right P xs ys each.1

module _ {X : Type 0} (key : X → ℕ) where
  -- two ordered lists with a border between them are ordered as one, and the other way
  pub ordered-append : (m : ℕ) (xs ys : List X) → IsOrderedBy key xs → IsOrderedBy key ys → AllByRecursion (λ x. key x < m) xs → AllByRecursion (λ x. m ≤ key x) ys → IsOrderedBy key (xs ++ ys)
  ordered-append m [] ys left right below from = right
  ordered-append m (x ∷ xs) ys left right below from = (
    each-append (λ z. key x < key z) xs ys left.0 (each-weaker {P = λ z. m ≤ key z} {Q = λ z. key x < key z} (λ z above. omega arith) ys from),
    ordered-append m xs ys left.1 right below.1 from,
  )

  pub ordered-left : (xs ys : List X) → IsOrderedBy key (xs ++ ys) → IsOrderedBy key xs
  ordered-left [] ys ordered = tt
  ordered-left (x ∷ xs) ys ordered = (each-left (λ z. key x < key z) xs ys ordered.0, ordered-left xs ys ordered.1)

  pub ordered-right : (xs ys : List X) → IsOrderedBy key (xs ++ ys) → IsOrderedBy key ys
  ordered-right [] ys ordered = ordered
  ordered-right (x ∷ xs) ys ordered = ordered-right xs ys ordered.1

  -- every key of the left list is below each key of the right one
  pub ordered-between : (xs ys : List X) (y : X) → IsOrderedBy key (xs ++ y ∷ ys) → AllByRecursion (λ x. key x < key y) xs
  ordered-between [] ys y ordered = tt
  ordered-between (x ∷ xs) ys y ordered = ((each-right (λ z. key x < key z) xs (y ∷ ys) ordered.0).0, ordered-between xs ys y ordered.1)

  -- a key below the border: the right list stays as it is
  pub row_at-low : (m k : ℕ) (xs ys : List X) → AllByRecursion (λ x. m ≤ key x) ys → k < m → row_at key k (xs ++ ys) ≡ row_at key k xs
  row_at-low m k [] [] from under = refl
  row_at-low m k [] (y ∷ ys) from under = grind (arith, nat_tests, row_at-low m k [] ys)
  row_at-low m k (x ∷ xs) ys from under = grind (arith, nat_tests, row_at-low m k xs ys)

  pub with_row_at-low : (m k : ℕ) (y : X) (xs ys : List X) → AllByRecursion (λ x. m ≤ key x) ys → k < m → with_row_at key k y (xs ++ ys) ≡ with_row_at key k y xs ++ ys
  with_row_at-low m k y [] [] from under = refl
  with_row_at-low m k y [] (z ∷ ys) from under = grind (arith, nat_tests, with_row_at-low m k y [] ys)
  with_row_at-low m k y (x ∷ xs) ys from under = grind (arith, nat_tests, with_row_at-low m k y xs ys)

  pub with_row-low : (m : ℕ) (y : X) (xs ys : List X) → AllByRecursion (λ x. m ≤ key x) ys → key y < m → with_row key y (xs ++ ys) ≡ with_row key y xs ++ ys
  with_row-low m y [] [] from under = refl
  with_row-low m y [] (z ∷ ys) from under = grind (arith, nat_tests)
  with_row-low m y (x ∷ xs) ys from under = grind (arith, nat_tests, with_row-low m y xs ys)

  pub without_row-low : (m k : ℕ) (xs ys : List X) → AllByRecursion (λ x. m ≤ key x) ys → k < m → without_row key k (xs ++ ys) ≡ without_row key k xs ++ ys
  without_row-low m k [] [] from under = refl
  without_row-low m k [] (z ∷ ys) from under = grind (arith, nat_tests, without_row-low m k [] ys)
  without_row-low m k (x ∷ xs) ys from under = grind (arith, nat_tests, without_row-low m k xs ys)

  -- a key from the border on: the left list stays as it is
  pub row_at-high : (m k : ℕ) (xs ys : List X) → AllByRecursion (λ x. key x < m) xs → m ≤ k → row_at key k (xs ++ ys) ≡ row_at key k ys
  row_at-high m k [] ys below over = refl
  row_at-high m k (x ∷ xs) ys below over = grind (arith, nat_tests, row_at-high m k xs ys)

  pub with_row_at-high : (m k : ℕ) (y : X) (xs ys : List X) → AllByRecursion (λ x. key x < m) xs → m ≤ k → with_row_at key k y (xs ++ ys) ≡ xs ++ with_row_at key k y ys
  with_row_at-high m k y [] ys below over = refl
  with_row_at-high m k y (x ∷ xs) ys below over = grind (arith, nat_tests, with_row_at-high m k y xs ys)

  pub with_row-high : (m : ℕ) (y : X) (xs ys : List X) → AllByRecursion (λ x. key x < m) xs → m ≤ key y → with_row key y (xs ++ ys) ≡ xs ++ with_row key y ys
  with_row-high m y [] ys below over = refl
  with_row-high m y (x ∷ xs) ys below over = grind (arith, nat_tests, with_row-high m y xs ys)

  pub without_row-high : (m k : ℕ) (xs ys : List X) → AllByRecursion (λ x. key x < m) xs → m ≤ k → without_row key k (xs ++ ys) ≡ xs ++ without_row key k ys
  without_row-high m k [] ys below over = refl
  without_row-high m k (x ∷ xs) ys below over = grind (arith, nat_tests, without_row-high m k xs ys)
