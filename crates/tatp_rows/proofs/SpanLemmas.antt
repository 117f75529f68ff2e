-- Laws of ordered lists that are cut by their keys into a front, a middle and a back.
use Rattle.tatp_rows.proofs.Common.{◌≡◌, ℕ, ◌+◌, ◌-◌, ◌<◌, ◌≤◌, List, [], ◌∷◌, ◌++◌, length, min, suc, Some, None, eqb, ltb, leb, refl, sym, ap, subst, ◌∙◌, arith, Bool, AllByRecursion, find, eqb-true, nat_tests, IsOrderedBy, row_at, with_row_at, with_row, without_row, AllBelow, AllFrom, StartsAt}
use Rattle.tatp_rows.proofs.AppendLemmas.{ordered-right, ordered-between, row_at-low, row_at-high, with_row_at-low, with_row_at-high, with_row-low, with_row-high, without_row-low, without_row-high}
use Rattle.tatp_rows.proofs.OrderedLemmas.{by_test, each-weaker, absent_below, with_row_at_absent, without_row_absent, length-ordered}

module _ {X : Type 0} (key : X → ℕ) where
  pub below-weaker : (k l : ℕ) (xs : List X) → k ≤ l → AllBelow key k xs → AllBelow key l xs
  below-weaker k l xs le = each-weaker {P = λ x. key x < k} {Q = λ x. key x < l} (λ x h. omega arith) xs

  pub from-weaker : (k l : ℕ) (xs : List X) → k ≤ l → AllFrom key l xs → AllFrom key k xs
  from-weaker k l xs le = each-weaker {P = λ x. l ≤ key x} {Q = λ x. k ≤ key x} (λ x h. omega arith) xs

  -- what comes after the first element has greater keys
  pub ordered_rest : (x : X) (xs : List X) → IsOrderedBy key (x ∷ xs) → AllFrom key (key x + 1) xs
  ordered_rest x xs h = each-weaker {P = λ y. key x < key y} {Q = λ y. key x + 1 ≤ key y} (λ y i. omega arith) xs h.0

  -- what lies in front of an element has lesser keys
  pub ordered_front : (a : List X) (x : X) (b : List X) → IsOrderedBy key (a ++ (x ∷ b)) → AllBelow key (key x) a
  ordered_front a x b h = ordered-between key a b x h

  -- what lies behind an element has greater keys
  pub ordered_back : (a : List X) (x : X) (b : List X) → IsOrderedBy key (a ++ (x ∷ b)) → AllFrom key (key x + 1) b
  ordered_back a x b h = ordered_rest x b (ordered-right key a (x ∷ b) h)

  -- the element at a key, over parts
  pub row_at-skip : (k : ℕ) (a b : List X) → AllBelow key k a → row_at key k (a ++ b) ≡ row_at key k b
  row_at-skip k a b h = row_at-high key k k a b h (omega arith)

  pub row_at-absent : (k : ℕ) (b : List X) → AllFrom key (k + 1) b → row_at key k b ≡ None
  row_at-absent k b h = absent_below key k b (each-weaker {P = λ x. k + 1 ≤ key x} {Q = λ x. k < key x} (λ x above. omega arith) b h)

  pub row_at-stop : (k : ℕ) (m b : List X) → AllFrom key (k + 1) b → row_at key k (m ++ b) ≡ row_at key k m
  row_at-stop k m b h = row_at-low key (k + 1) k m b h (omega arith)

  pub row_at-part : (k : ℕ) (a m b : List X) → AllBelow key k a → AllFrom key (k + 1) b → row_at key k (a ++ (m ++ b)) ≡ row_at key k m
  row_at-part k a m b h i = row_at-skip k a (m ++ b) h ∙ row_at-stop k m b i

  -- a replacement, over parts
  pub with_row_at-skip : (k : ℕ) (y : X) (a b : List X) → AllBelow key k a → with_row_at key k y (a ++ b) ≡ a ++ with_row_at key k y b
  with_row_at-skip k y a b h = with_row_at-high key k k y a b h (omega arith)

  pub with_row_at-absent : (k : ℕ) (y : X) (b : List X) → AllFrom key (k + 1) b → with_row_at key k y b ≡ b
  with_row_at-absent k y b h = with_row_at_absent key k y b (row_at-absent k b h)

  pub with_row_at-stop : (k : ℕ) (y : X) (m b : List X) → AllFrom key (k + 1) b → with_row_at key k y (m ++ b) ≡ with_row_at key k y m ++ b
  with_row_at-stop k y m b h = with_row_at-low key (k + 1) k y m b h (omega arith)

  pub with_row_at-part : (k : ℕ) (y : X) (a m b : List X) → AllBelow key k a → AllFrom key (k + 1) b → with_row_at key k y (a ++ (m ++ b)) ≡ a ++ (with_row_at key k y m ++ b)
  with_row_at-part k y a m b h i = with_row_at-skip k y a (m ++ b) h ∙ ap (λ r. a ++ r) (with_row_at-stop k y m b i)

  -- a removal, over parts
  pub without_row-skip : (k : ℕ) (a b : List X) → AllBelow key k a → without_row key k (a ++ b) ≡ a ++ without_row key k b
  without_row-skip k a b h = without_row-high key k k a b h (omega arith)

  pub without_row-absent : (k : ℕ) (b : List X) → AllFrom key (k + 1) b → without_row key k b ≡ b
  without_row-absent k b h = without_row_absent key k b (row_at-absent k b h)

  pub without_row-stop : (k : ℕ) (m b : List X) → AllFrom key (k + 1) b → without_row key k (m ++ b) ≡ without_row key k m ++ b
  without_row-stop k m b h = without_row-low key (k + 1) k m b h (omega arith)

  pub without_row-part : (k : ℕ) (a m b : List X) → AllBelow key k a → AllFrom key (k + 1) b → without_row key k (a ++ (m ++ b)) ≡ a ++ (without_row key k m ++ b)
  without_row-part k a m b h i = without_row-skip k a (m ++ b) h ∙ ap (λ r. a ++ r) (without_row-stop k m b i)

  -- an insertion, over parts
  pub with_row-skip : (y : X) (a b : List X) → AllBelow key (key y) a → with_row key y (a ++ b) ≡ a ++ with_row key y b
  with_row-skip y a b h = with_row-high key (key y) y a b h (omega arith)

  pub with_row-front : (y : X) (b : List X) → AllFrom key (key y + 1) b → with_row key y b ≡ y ∷ b
  with_row-front y [] h = refl
  with_row-front y (x ∷ b) h = grind (arith, nat_tests)

  pub with_row-stop : (y : X) (m b : List X) → AllFrom key (key y + 1) b → with_row key y (m ++ b) ≡ with_row key y m ++ b
  with_row-stop y m b h = with_row-low key (key y + 1) y m b h (omega arith)

  pub with_row-part : (y : X) (a m b : List X) → AllBelow key (key y) a → AllFrom key (key y + 1) b → with_row key y (a ++ (m ++ b)) ≡ a ++ (with_row key y m ++ b)
  with_row-part y a m b h i = with_row-skip y a (m ++ b) h ∙ ap (λ r. a ++ r) (with_row-stop y m b i)

  -- the first element from a key on, over parts
  pub find-skip : (k : ℕ) (a b : List X) → AllBelow key k a → find (λ x. leb k (key x)) (a ++ b) ≡ find (λ x. leb k (key x)) b
  find-skip k [] b h = refl
  find-skip k (x ∷ a) b h = grind (arith, nat_tests, find-skip k a b h.1)

  pub find-head : (k : ℕ) (x : X) (b : List X) → k ≤ key x → find (λ x. leb k (key x)) (x ∷ b) ≡ Some x
  find-head k x b h = grind (arith, nat_tests)

  -- what edits at a key keep of the keys
  pub every-with_row_at-same : (P : ℕ → Type 0) (k : ℕ) (y : X) (xs : List X) → key y ≡ k → AllByRecursion (λ z. P (key z)) xs → AllByRecursion (λ z. P (key z)) (with_row_at key k y xs)
  every-with_row_at-same P k y [] e h = tt
  every-with_row_at-same P k y (x ∷ xs) e h =
      by_test (eqb (key x) k)
      (λ t. rw t (subst P (sym (e ∙ sym (eqb-true (key x) k t))) h.0, h.1))
      (λ t. rw t (h.0, every-with_row_at-same P k y xs e h.1))

  -- the lengths of edited lists
  pub length-with_row_at : (k : ℕ) (y : X) (xs : List X) → length (with_row_at key k y xs) ≡ length xs
  length-with_row_at k y [] = refl
  length-with_row_at k y (x ∷ xs) = by_test (eqb (key x) k) (λ t. rw t refl) (λ t. rw t (ap suc (length-with_row_at k y xs)))

  pub length-with_row : (y : X) (xs : List X) → length (with_row key y xs) ≡ length xs + 1
  length-with_row y [] = refl
  length-with_row y (x ∷ xs) = by_test (ltb (key y) (key x)) (λ t. rw t (omega arith)) (λ t. rw t (omega (arith, length-with_row y xs)))

  -- keys from j on and below n, in order, are at most as many as there are such numbers
  pub few_between : (j n : ℕ) (xs : List X) → AllFrom key j xs → IsOrderedBy key xs → AllBelow key n xs → length xs ≤ n - j
  few_between j n xs from ordered below = length-ordered key j n xs ordered from below

  -- the first key after an insertion is the lesser of the two
  pub starts_with_row : (k : ℕ) (y : X) (xs : List X) → StartsAt key k xs → StartsAt key (min k (key y)) (with_row key y xs)
  starts_with_row k y [] h = absurd h
  starts_with_row k y (x ∷ xs) h = by_test (ltb (key y) (key x)) (λ t. rw t (grind (arith, nat_tests))) (λ t. rw t (grind (arith, nat_tests)))

  pub starts_with_row_at : (k j : ℕ) (y : X) (xs : List X) → key y ≡ j → StartsAt key k xs → StartsAt key k (with_row_at key j y xs)
  starts_with_row_at k j y [] e h = absurd h
  starts_with_row_at k j y (x ∷ xs) e h = by_test (eqb (key x) j) (λ t. rw t (grind (arith, nat_tests))) (λ t. rw t h)

  -- all of an ordered list lies from its first key on
  pub from_start : (k : ℕ) (xs : List X) → StartsAt key k xs → IsOrderedBy key xs → AllFrom key k xs
  from_start k [] h o = absurd h
  from_start k (x ∷ xs) h o = (omega (arith, h), from-weaker k (key x + 1) xs (omega (arith, h)) (ordered_rest x xs o))

  -- what is in front of a part that starts at k lies below k
  pub below_start : (k : ℕ) (a m b : List X) → StartsAt key k m → IsOrderedBy key (a ++ (m ++ b)) → AllBelow key k a
  below_start k a [] b h o = absurd h
  below_start k a (x ∷ m) b h o = subst (λ n. AllBelow key n a) h (ordered_front a x (m ++ b) o)

  pub starts_left : (k : ℕ) (m b : List X) → StartsAt key k m → StartsAt key k (m ++ b)
  starts_left k [] b h = absurd h
  starts_left k (x ∷ m) b h = h

  -- an ordered list cut at a place: what stands there decides about the key
  pub row_at-here : (k : ℕ) (a : List X) (x : X) (b : List X) → AllBelow key k a → key x ≡ k → row_at key k (a ++ (x ∷ b)) ≡ Some x
  row_at-here k a x b h e = row_at-skip k a (x ∷ b) h ∙ grind (arith, nat_tests)

  pub with_row_at-here : (k : ℕ) (y : X) (a : List X) (x : X) (b : List X) → AllBelow key k a → key x ≡ k → with_row_at key k y (a ++ (x ∷ b)) ≡ a ++ (y ∷ b)
  with_row_at-here k y a x b h e = with_row_at-skip k y a (x ∷ b) h ∙ grind (arith, nat_tests)

  pub without_row-here : (k : ℕ) (a : List X) (x : X) (b : List X) → AllBelow key k a → key x ≡ k → without_row key k (a ++ (x ∷ b)) ≡ a ++ b
  without_row-here k a x b h e = without_row-skip k a (x ∷ b) h ∙ grind (arith, nat_tests)

module _ {X : Type 0} (test : X → Bool) where
  -- the first element that passes, of two lists
  pub find-left : (x : X) (a b : List X) → find test a ≡ Some x → find test (a ++ b) ≡ Some x
  find-left x [] b h = let wrong : ⊥ = cc in absurd wrong
  find-left x (y ∷ a) b h = by_test (test y) (λ t. rw t (rw t at h)) (λ t. rw t (find-left x a b (rw t at h)))

  pub find-right : (a b : List X) → find test a ≡ None → find test (a ++ b) ≡ find test b
  find-right [] b h = refl
  find-right (y ∷ a) b h = by_test (test y) (λ t. let found : Some y ≡ None = rw t at h in absurd cc) (λ t. rw t (find-right a b (rw t at h)))

  -- what holds of each element holds of the first that passes
  pub each-first : (P : X → Type 0) (xs : List X) (x : X) → AllByRecursion P xs → find test xs ≡ Some x → P x
  each-first P [] x all h = let wrong : ⊥ = cc in absurd wrong
  each-first P (y ∷ xs) x all h =
      by_test (test y) (λ t. let found : Some y ≡ Some x = rw t at h in let same : y ≡ x = cc in subst P same all.0) (λ t. each-first P xs x all.1 (rw t at h))
