-- Lists cut at a key: the half below it and the half from it on.
use Rattle.tatp_rows.proofs.Common.{◌≡◌, refl, ap, ℕ, ◌<◌, ◌≤◌, arith, true, false, List, [], ◌∷◌, ◌++◌, nat_lt, nat_le, nat_tests, IsOrderedBy, AllBelow, AllFrom, keys_below, keys_from}
use Rattle.tatp_rows.proofs.OrderedLemmas.{by_test, each-weaker}

module _ {X : Type 0} (key : X → ℕ) where
  -- each key of the lower half is below the border, and each of the upper one from it on
  pub below_each : (k : ℕ) (xs : List X) → AllBelow key k (keys_below key k xs)
  below_each k [] = tt
  below_each k (x ∷ xs) = by_test (nat_lt (key x) k)
      (λ e. let under : key x < k = grind (arith, nat_tests) in rw e (under, below_each k xs))
      (λ e. rw e (below_each k xs))

  pub from_each : (k : ℕ) (xs : List X) → AllFrom key k (keys_from key k xs)
  from_each k [] = tt
  from_each k (x ∷ xs) = by_test (nat_le k (key x))
      (λ e. let over : k ≤ key x = grind (arith, nat_tests) in rw e (over, from_each k xs))
      (λ e. rw e (from_each k xs))

  -- a list whose keys are all from the border on has none below it
  pub below_none : (k : ℕ) (xs : List X) → AllFrom key k xs → keys_below key k xs ≡ []
  below_none k [] over = refl
  below_none k (x ∷ xs) over = let e : nat_lt (key x) k ≡ false = grind (arith, nat_tests) in rw e (below_none k xs over.1)

  pub from_all : (k : ℕ) (xs : List X) → AllFrom key k xs → keys_from key k xs ≡ xs
  from_all k [] over = refl
  from_all k (x ∷ xs) over = let e : nat_le k (key x) ≡ true = grind (arith, nat_tests) in rw e (ap (λ (rest : List X). x ∷ rest) (from_all k xs over.1))

  pub from_none : (k : ℕ) (xs : List X) → AllBelow key k xs → keys_from key k xs ≡ []
  from_none k [] under = refl
  from_none k (x ∷ xs) under = let e : nat_le k (key x) ≡ false = grind (arith, nat_tests) in rw e (from_none k xs under.1)

  -- the halves of an ordered list make the list
  pub halves_joined : (k : ℕ) (xs : List X) → IsOrderedBy key xs → keys_below key k xs ++ keys_from key k xs ≡ xs
  halves_joined k [] ordered = refl
  halves_joined k (x ∷ xs) ordered = by_test (nat_lt (key x) k)
      (λ e. let f : nat_le k (key x) ≡ false = grind (arith, nat_tests) in rw (e, f) (ap (λ (rest : List X). x ∷ rest) (halves_joined k xs ordered.1)))
      (λ e. let f : nat_le k (key x) ≡ true = grind (arith, nat_tests) in
      let over : k ≤ key x = grind (arith, nat_tests) in
      let above = each-weaker {P = λ z. key x < key z} {Q = λ z. k ≤ key z} (λ z up. omega arith) xs ordered.0 in
      rw (e, f, below_none k xs above, from_all k xs above) refl)
