-- The first element of a list that passes a test.
use Rattle.part_table.proofs.Common.{◌≡◌, refl, ℕ, zero, suc, ◌+◌, ◌<◌, List, [], ◌∷◌, Bool, true, false, length, get_or, arith, Some, None, nat_lt, position, find, list_any, position_or_len, nat_tests, position-Some, by_test}

module _ {X : Type 0} (test : X → Bool) where
  -- there is none where there is no place of one
  pub find_none : (xs : List X) → position test xs ≡ None → find test xs ≡ None
  find_none [] none = refl
  find_none (x ∷ xs) none =
      by_test (test x)
      (λ e. let some : nat_lt 0 (suc (length xs)) ≡ true = grind (arith, nat_tests) in
      let found : Some 0 ≡ None = rw (e, some) at none in absurd cc)
      (λ e. rw e (find_none xs (by_test (nat_lt (position_or_len test xs) (length xs))
      (λ w. let more : nat_lt (1 + position_or_len test xs) (suc (length xs)) ≡ true = grind (arith, nat_tests) in
      let found : Some (1 + position_or_len test xs) ≡ None = rw (e, more) at none in absurd cc)
      (λ w. rw w refl))))

  -- so none passes
  none_any : (xs : List X) → find test xs ≡ None → list_any test xs ≡ false
  none_any [] none = refl
  none_any (x ∷ xs) none = by_test (test x) (λ e. let found : Some x ≡ None = rw e at none in absurd cc) (λ e. rw e (none_any xs (rw e at none)))

  pub none_passes : (xs : List X) → position test xs ≡ None → list_any test xs ≡ false
  none_passes xs none = none_any xs (find_none xs none)

  -- what is found stands there
  find_at : (xs : List X) (i : ℕ) (d : X) → i < length xs → test (get_or xs i d) ≡ true → ((k : ℕ) → k < i → test (get_or xs k d) ≡ false) → find test xs ≡ Some (get_or xs i d)
  find_at [] i d within here before = absurd (omega arith)
  find_at (x ∷ xs) zero d within here before = rw here refl
  find_at (x ∷ xs) (suc i) d within here before =
      let e : test x ≡ false = before 0 (omega arith) in
      rw e (find_at xs i d (omega arith) here (λ k below. before (suc k) (omega arith)))

  pub find_index : (xs : List X) (i : ℕ) (d : X) → position test xs ≡ Some i → find test xs ≡ Some (get_or xs i d)
  find_index xs i d index = let here = position-Some test xs i d index in find_at xs i d here.0 here.1 here.2
