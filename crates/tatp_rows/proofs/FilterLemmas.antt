-- What a filter keeps of an ordered list, where all that passes has one of three keys.
use Rattle.tatp_rows.proofs.Common.{◌≡◌, ◌≢◌, refl, sym, ap, ℕ, ◌<◌, List, [], ◌∷◌, ◌++◌, Bool, true, false, Option, ◌⊎◌, inl, inr, arith, ◌==◌, Some, None, if◌then◌else◌, AllByRecursion, filter, nat_tests, IsOrderedBy, row_at}
use Rattle.tatp_rows.proofs.OrderedLemmas.{by_test, each-weaker, absent_below}

-- the element that is found, where it passes
abbrev pub kept : {X : Type 0} → (X → Bool) → Option X → List X
kept passes None = []
kept passes (Some x) = if passes x then x ∷ [] else []

module _ {X : Type 0} (key : X → ℕ) (passes : X → Bool) where
  -- what passes of the element at a key
  abbrev pub kept_at : ℕ → List X → List X
  kept_at k xs = kept passes (row_at key k xs)

  -- at the head's key, at another key, and below all keys
  kept_here : (k : ℕ) (x : X) (xs : List X) → key x ≡ k → passes x ≡ true → kept_at k (x ∷ xs) ≡ x ∷ []
  kept_here k x xs same passing = let e : (key x == k) ≡ true = grind (arith, nat_tests) in rw (e, passing) refl

  kept_later : (k : ℕ) (x : X) (xs : List X) → key x ≢ k → kept_at k (x ∷ xs) ≡ kept_at k xs
  kept_later k x xs other = let e : (key x == k) ≡ false = grind (arith, nat_tests) in rw e refl

  kept_below : (k : ℕ) (x : X) (xs : List X) → k < key x ⊎ (k ≡ key x) → AllByRecursion (λ z. key x < key z) xs → kept_at k xs ≡ []
  kept_below k x xs under above =
      let absent = absent_below key k xs (each-weaker {P = λ z. key x < key z} {Q = λ z. k < key z} (λ z below. elim under [ inl less ↦ omega arith | inr same ↦ omega arith ]) xs above) in
      rw absent refl

  -- a head that doesn't pass
  kept_failing : (k : ℕ) (x : X) (xs : List X) → passes x ≡ false → AllByRecursion (λ z. key x < key z) xs → kept_at k (x ∷ xs) ≡ kept_at k xs
  kept_failing k x xs fails above = by_test (key x == k)
      (λ e. let same : k ≡ key x = grind (arith, nat_tests) in rw (e, fails) (sym (kept_below k x xs (inr same) above)))
      (λ e. rw e refl)

  -- what passes is what passes at the three keys, in their order
  pub kept_of_three : (a b c : ℕ) (xs : List X) → a < b → b < c → IsOrderedBy key xs
      → AllByRecursion (λ x. passes x ≡ true → (key x ≡ a) ⊎ ((key x ≡ b) ⊎ (key x ≡ c))) xs
      → filter passes xs ≡ (kept_at a xs ++ kept_at b xs) ++ kept_at c xs
  kept_of_three a b c [] ab bc ordered each = refl
  kept_of_three a b c (x ∷ xs) ab bc ordered each =
      by_test (passes x)
      (λ e. rw e (head (each.0 e) e (kept_of_three a b c xs ab bc ordered.1 each.1)))
      (λ e. rw (e, kept_failing a x xs e ordered.0, kept_failing b x xs e ordered.0, kept_failing c x xs e ordered.0) (kept_of_three a b c xs ab bc ordered.1 each.1))
    where
      head : (key x ≡ a) ⊎ ((key x ≡ b) ⊎ (key x ≡ c)) → passes x ≡ true → filter passes xs ≡ (kept_at a xs ++ kept_at b xs) ++ kept_at c xs
          → x ∷ filter passes xs ≡ (kept_at a (x ∷ xs) ++ kept_at b (x ∷ xs)) ++ kept_at c (x ∷ xs)
      head (inl same) e rest =
          let none = kept_below a x xs (inr (sym same)) ordered.0 in
          let rest' = rw none at rest in
          rw (kept_here a x xs same e, kept_later b x xs (λ h. omega arith), kept_later c x xs (λ h. omega arith)) (ap (λ (l : List X). x ∷ l) rest')
      head (inr (inl same)) e rest =
          let none = kept_below a x xs (inl (omega arith)) ordered.0 in
          let none' = kept_below b x xs (inr (sym same)) ordered.0 in
          let rest' = rw (none, none') at rest in
          rw (kept_later a x xs (λ h. omega arith), none, kept_here b x xs same e, kept_later c x xs (λ h. omega arith)) (ap (λ (l : List X). x ∷ l) rest')
      head (inr (inr same)) e rest =
          let none = kept_below a x xs (inl (omega arith)) ordered.0 in
          let none' = kept_below b x xs (inl (omega arith)) ordered.0 in
          let none'' = kept_below c x xs (inr (sym same)) ordered.0 in
          let rest' = rw (none, none', none'') at rest in
          rw (kept_later a x xs (λ h. omega arith), none, kept_later b x xs (λ h. omega arith), none', kept_here c x xs same e) (ap (λ (l : List X). x ∷ l) rest')
