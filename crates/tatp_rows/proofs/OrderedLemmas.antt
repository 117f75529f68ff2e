-- Lists that are ordered by a key: what is found, what an edit keeps, and what it does to sums.
use Rattle.tatp_rows.proofs.Common.{◌≡◌, ◌∙◌, refl, sym, ap, subst, ℕ, suc, ◌+◌, ◌<◌, ◌≤◌, ◌≢◌, ◌-◌, List, [], ◌∷◌, Bool, true, false, length, Option, IsSome, arith, ◌==◌, nat_lt, Some, None, if◌then◌else◌, AllByRecursion, filter, sum_by, count_by, is_some, nat_tests, sum_by-cons, IsOrderedBy, row_at, with_row_at, with_row, without_row}

-- a fact, from each answer of a test
pub by_test : {A : Type 0} (test : Bool) → (test ≡ true → A) → (test ≡ false → A) → A
by_test true if_true if_false = if_true refl
by_test false if_true if_false = if_false refl

-- what holds of each element holds of a weaker fact too
pub each-weaker : {X : Type 0} {P Q : X → Type 0} → ((x : X) → P x → Q x) → (xs : List X) → AllByRecursion P xs → AllByRecursion Q xs
each-weaker weaker [] each = tt
each-weaker weaker (x ∷ xs) each = (weaker x each.0, each-weaker weaker xs each.1)

-- a fact of each element from two others
pub each_from_two : {X : Type 0} {P Q R : X → Type 0} → ((x : X) → P x → Q x → R x) → (xs : List X) → AllByRecursion P xs → AllByRecursion Q xs → AllByRecursion R xs
each_from_two both [] ps qs = tt
each_from_two both (x ∷ xs) ps qs = (both x ps.0 qs.0, each_from_two both xs ps.1 qs.1)

-- both of two facts, of each element
pub each_both : {X : Type 0} (P Q : X → Type 0) (xs : List X) → AllByRecursion P xs → AllByRecursion Q xs → AllByRecursion (λ x. P x × Q x) xs
each_both P Q xs ps qs = each_from_two {P = P} {Q = Q} {R = λ x. P x × Q x} (λ x p q. (p, q)) xs ps qs

-- a filter keeps a list whose elements all pass
pub filter_all : {X : Type 0} (p : X → Bool) (xs : List X) → AllByRecursion (λ x. p x ≡ true) xs → filter p xs ≡ xs
filter_all p [] each = refl
filter_all p (x ∷ xs) each = rw each.0 (ap (λ rest. x ∷ rest) (filter_all p xs each.1))

-- a filter leaves nothing of a list whose elements all fail
pub filter_none : {X : Type 0} (p : X → Bool) (xs : List X) → AllByRecursion (λ x. p x ≡ false) xs → filter p xs ≡ []
filter_none p [] each = refl
filter_none p (x ∷ xs) each = rw each.0 (filter_none p xs each.1)

-- a test that never holds counts nothing
pub count_of_none : {X : Type 0} (xs : List X) → count_by (λ (x : X). false) xs ≡ 0
count_of_none [] = refl
count_of_none {X} (x ∷ xs) = grind (arith, sum_by-cons, count_of_none xs)

module _ {X : Type 0} (key : X → ℕ) where
  -- the element that is found has the key
  pub key_found : (k : ℕ) (xs : List X) (x : X) → row_at key k xs ≡ Some x → key x ≡ k
  key_found k [] x found = cc
  key_found k (y ∷ ys) x found = grind (arith, nat_tests, key_found k ys x)

  -- what holds of each element holds of the one that is found
  pub each_found : (P : X → Type 0) (k : ℕ) (xs : List X) (x : X) → AllByRecursion P xs → row_at key k xs ≡ Some x → P x
  each_found P k [] x each found = absurd cc
  each_found P k (y ∷ ys) x each found =
      by_test (key y == k)
      (λ e. let same : Some y ≡ Some x = rw e at found in let is : y ≡ x = cc in rw (← is) each.0)
      (λ e. each_found P k ys x each.1 (rw e at found))

  -- an edit at a key keeps what holds of each element
  pub each-with_row_at : (P : X → Type 0) (k : ℕ) (y : X) (xs : List X) → P y → AllByRecursion P xs → AllByRecursion P (with_row_at key k y xs)
  each-with_row_at P k y [] new each = tt
  each-with_row_at P k y (x ∷ xs) new each =
      by_test (key x == k) (λ e. rw e (new, each.1)) (λ e. rw e (each.0, each-with_row_at P k y xs new each.1))

  -- one more element
  pub each-with_row : (P : X → Type 0) (y : X) (xs : List X) → P y → AllByRecursion P xs → AllByRecursion P (with_row key y xs)
  each-with_row P y [] new each = (new, tt)
  each-with_row P y (x ∷ xs) new each =
      by_test (nat_lt (key y) (key x)) (λ e. rw e (new, each)) (λ e. rw e (each.0, each-with_row P y xs new each.1))

  -- one element less
  pub each-without_row : (P : X → Type 0) (k : ℕ) (xs : List X) → AllByRecursion P xs → AllByRecursion P (without_row key k xs)
  each-without_row P k [] each = tt
  each-without_row P k (x ∷ xs) each =
      by_test (key x == k) (λ e. rw e each.1) (λ e. rw e (each.0, each-without_row P k xs each.1))

  -- an element that is absent from a list is neither its head nor in its tail
  pub absent_cons : (k : ℕ) (x : X) (xs : List X) → row_at key k (x ∷ xs) ≡ None → (key x ≢ k) × (row_at key k xs ≡ None)
  absent_cons k x xs absent =
      by_test (key x == k)
      (λ e. let no : Some x ≡ None = rw e at absent in absurd cc)
      (λ e. (grind (arith, nat_tests), rw e at absent))

  -- no element has a key below all keys
  pub absent_below : (k : ℕ) (xs : List X) → AllByRecursion (λ x. k < key x) xs → row_at key k xs ≡ None
  absent_below k [] above = refl
  absent_below k (x ∷ xs) above =
      let e : (key x == k) ≡ false = grind (arith, nat_tests) in rw e (absent_below k xs above.1)

  -- no element has a key above all keys
  pub absent_above : (k : ℕ) (xs : List X) → AllByRecursion (λ x. key x < k) xs → row_at key k xs ≡ None
  absent_above k [] below = refl
  absent_above k (x ∷ xs) below =
      let e : (key x == k) ≡ false = grind (arith, nat_tests) in rw e (absent_above k xs below.1)

  -- an edit at a key keeps what the new element has from each element of that key
  pub each-with_row_at_same : (P : X → Type 0) (k : ℕ) (y : X) (xs : List X) → ((x : X) → key x ≡ k → P x → P y) → AllByRecursion P xs → AllByRecursion P (with_row_at key k y xs)
  each-with_row_at_same P k y [] new each = tt
  each-with_row_at_same P k y (x ∷ xs) new each =
      by_test (key x == k)
      (λ e. let same : key x ≡ k = grind (arith, nat_tests) in rw e (new x same each.0, each.1))
      (λ e. rw e (each.0, each-with_row_at_same P k y xs new each.1))

  -- another element of the same key keeps the order
  pub ordered-with_row_at : (k : ℕ) (y : X) (xs : List X) → key y ≡ k → IsOrderedBy key xs → IsOrderedBy key (with_row_at key k y xs)
  ordered-with_row_at k y [] at ordered = tt
  ordered-with_row_at k y (x ∷ xs) at ordered =
      by_test (key x == k)
      (λ e. let same : key x ≡ k = grind (arith, nat_tests) in
      rw e (each-weaker {P = λ z. key x < key z} {Q = λ z. key y < key z} (λ z below. omega arith) xs ordered.0, ordered.1))
      (λ e. rw e (each-with_row_at_same (λ z. key x < key z) k y xs (λ z same below. omega arith) ordered.0, ordered-with_row_at k y xs at ordered.1))

  -- an element of an absent key keeps the order
  pub ordered-with_row : (y : X) (xs : List X) → row_at key (key y) xs ≡ None → IsOrderedBy key xs → IsOrderedBy key (with_row key y xs)
  ordered-with_row y [] absent ordered = (tt, tt)
  ordered-with_row y (x ∷ xs) absent ordered =
      let rest = absent_cons (key y) x xs absent in
      by_test (nat_lt (key y) (key x))
      (λ e. let below : key y < key x = grind (arith, nat_tests) in
      rw e ((below, each-weaker {P = λ z. key x < key z} {Q = λ z. key y < key z} (λ z above. omega arith) xs ordered.0), ordered))
      (λ e. let differ : key x ≢ key y = rest.0 in let above : key x < key y = grind (arith, nat_tests) in
      rw e (each-with_row (λ z. key x < key z) y xs above ordered.0, ordered-with_row y xs rest.1 ordered.1))

  -- one element less keeps the order
  pub ordered-without_row : (k : ℕ) (xs : List X) → IsOrderedBy key xs → IsOrderedBy key (without_row key k xs)
  ordered-without_row k [] ordered = tt
  ordered-without_row k (x ∷ xs) ordered =
      by_test (key x == k) (λ e. rw e ordered.1) (λ e. rw e (each-without_row (λ z. key x < key z) k xs ordered.0, ordered-without_row k xs ordered.1))

  -- what is found after an edit: at the key, and at another key
  pub row_at-with_row_at_same : (k : ℕ) (y : X) (xs : List X) (x : X) → key y ≡ k → row_at key k xs ≡ Some x → row_at key k (with_row_at key k y xs) ≡ Some y
  row_at-with_row_at_same k y [] x at found = absurd cc
  row_at-with_row_at_same k y (z ∷ xs) x at found = grind (arith, nat_tests, row_at-with_row_at_same k y xs x)

  pub row_at-with_row_at_other : (j k : ℕ) (y : X) (xs : List X) → key y ≡ k → j ≢ k → row_at key j (with_row_at key k y xs) ≡ row_at key j xs
  row_at-with_row_at_other j k y [] at other = refl
  row_at-with_row_at_other j k y (z ∷ xs) at other = grind (arith, nat_tests, row_at-with_row_at_other j k y xs)

  pub row_at-with_row_same : (k : ℕ) (y : X) (xs : List X) → key y ≡ k → row_at key k xs ≡ None → row_at key k (with_row key y xs) ≡ Some y
  row_at-with_row_same k y [] at absent = grind (arith, nat_tests)
  row_at-with_row_same k y (z ∷ xs) at absent = grind (arith, nat_tests, row_at-with_row_same k y xs)

  pub row_at-with_row_other : (j k : ℕ) (y : X) (xs : List X) → key y ≡ k → j ≢ k → row_at key j (with_row key y xs) ≡ row_at key j xs
  row_at-with_row_other j k y [] at other = grind (arith, nat_tests)
  row_at-with_row_other j k y (z ∷ xs) at other = grind (arith, nat_tests, row_at-with_row_other j k y xs)

  pub row_at-without_row_same : (k : ℕ) (xs : List X) → IsOrderedBy key xs → row_at key k (without_row key k xs) ≡ None
  row_at-without_row_same k [] ordered = refl
  row_at-without_row_same k (x ∷ xs) ordered =
      by_test (key x == k)
      (λ e. let same : key x ≡ k = grind (arith, nat_tests) in
      rw e (absent_below k xs (each-weaker {P = λ z. key x < key z} {Q = λ z. k < key z} (λ z below. omega arith) xs ordered.0)))
      (λ e. rw (e, e) (row_at-without_row_same k xs ordered.1))

  -- an edit at a key that is absent changes nothing
  pub with_row_at_absent : (k : ℕ) (y : X) (xs : List X) → row_at key k xs ≡ None → with_row_at key k y xs ≡ xs
  with_row_at_absent k y [] absent = refl
  with_row_at_absent k y (x ∷ xs) absent = grind (arith, nat_tests, with_row_at_absent k y xs)

  pub without_row_absent : (k : ℕ) (xs : List X) → row_at key k xs ≡ None → without_row key k xs ≡ xs
  without_row_absent k [] absent = refl
  without_row_absent k (x ∷ xs) absent = grind (arith, nat_tests, without_row_absent k xs)

  -- the element itself, put back, changes nothing
  pub with_row_at_same : (k : ℕ) (x : X) (xs : List X) → row_at key k xs ≡ Some x → with_row_at key k x xs ≡ xs
  with_row_at_same k x [] found = refl
  with_row_at_same k x (z ∷ xs) found = grind (arith, nat_tests, with_row_at_same k x xs)

  -- two elements of different keys go in in either order
  pub with_row-either : (y z : X) (xs : List X) → key y ≢ key z → with_row key y (with_row key z xs) ≡ with_row key z (with_row key y xs)
  with_row-either y z [] other =
      by_test (nat_lt (key y) (key z))
      (λ e. let f : nat_lt (key z) (key y) ≡ false = grind (arith, nat_tests) in rw (e, f) refl)
      (λ e. let f : nat_lt (key z) (key y) ≡ true = grind (arith, nat_tests) in rw (e, f) refl)
  with_row-either y z (x ∷ xs) other =
      by_test (nat_lt (key y) (key x))
      (λ e. by_test (nat_lt (key z) (key x)) (λ f. both e f) (λ f. let g : nat_lt (key z) (key y) ≡ false = grind (arith, nat_tests) in rw (e, f, g, e) refl))
      (λ e. by_test (nat_lt (key z) (key x)) (λ f. let g : nat_lt (key y) (key z) ≡ false = grind (arith, nat_tests) in rw (e, f, g, e) refl) (λ f. rw (e, f, e) (ap (λ l. x ∷ l) (with_row-either y z xs other))))
    where
      both : nat_lt (key y) (key x) ≡ true → nat_lt (key z) (key x) ≡ true → with_row key y (with_row key z (x ∷ xs)) ≡ with_row key z (with_row key y (x ∷ xs))
      both e f =
          by_test (nat_lt (key y) (key z))
          (λ g. let h : nat_lt (key z) (key y) ≡ false = grind (arith, nat_tests) in rw (e, f, g, h) refl)
          (λ g. let h : nat_lt (key z) (key y) ≡ true = grind (arith, nat_tests) in rw (e, f, g, h, e) refl)

  pub without_row-with_row : (k : ℕ) (y : X) (xs : List X) → key y ≡ k → row_at key k xs ≡ None → without_row key k (with_row key y xs) ≡ xs
  without_row-with_row k y [] at absent = grind (arith, nat_tests)
  without_row-with_row k y (x ∷ xs) at absent = grind (arith, nat_tests, without_row-with_row k y xs)

  -- sums after an edit
  pub sum_by-with_row_at : (f : X → ℕ) (k : ℕ) (x y : X) (xs : List X) → row_at key k xs ≡ Some x → sum_by f (with_row_at key k y xs) + f x ≡ sum_by f xs + f y
  sum_by-with_row_at f k x y [] found = absurd cc
  sum_by-with_row_at f k x y (z ∷ xs) found = grind (arith, nat_tests, sum_by-cons, sum_by-with_row_at f k x y xs)

  pub sum_by-with_row : (f : X → ℕ) (y : X) (xs : List X) → sum_by f (with_row key y xs) ≡ f y + sum_by f xs
  sum_by-with_row f y [] = grind (arith, sum_by-cons)
  sum_by-with_row f y (x ∷ xs) =
      by_test (nat_lt (key y) (key x))
      (λ e. rw e (sum_by-cons f y (x ∷ xs)))
      (λ e. rw (e, sum_by-cons f x (with_row key y xs), sum_by-cons f x xs) (omega (arith, sum_by-with_row f y xs)))

  pub sum_by-without_row : (f : X → ℕ) (k : ℕ) (x : X) (xs : List X) → row_at key k xs ≡ Some x → sum_by f (without_row key k xs) + f x ≡ sum_by f xs
  sum_by-without_row f k x [] found = absurd cc
  sum_by-without_row f k x (z ∷ xs) found = grind (arith, nat_tests, sum_by-cons, sum_by-without_row f k x xs)

  -- a key that is absent counts 0, and in an ordered list a key counts 1 or 0
  pub count_of_absent : (k : ℕ) (xs : List X) → row_at key k xs ≡ None → count_by (λ x. key x == k) xs ≡ 0
  count_of_absent k [] absent = refl
  count_of_absent k (x ∷ xs) absent = grind (arith, nat_tests, sum_by-cons, count_of_absent k xs)

  pub count_of_key : (k : ℕ) (xs : List X) → IsOrderedBy key xs → count_by (λ x. key x == k) xs ≡ (if is_some (row_at key k xs) then 1 else 0)
  count_of_key k [] ordered = refl
  count_of_key k (x ∷ xs) ordered =
      by_test (key x == k)
      (λ e. let same : key x ≡ k = grind (arith, nat_tests) in
      let rest = count_of_absent k xs (absent_below k xs (each-weaker {P = λ z. key x < key z} {Q = λ z. k < key z} (λ z below. omega arith) xs ordered.0)) in
      rw (sum_by-cons, e) (omega (arith, rest)))
      (λ e. rw (sum_by-cons, e) (omega (arith, count_of_key k xs ordered.1)))

  -- an ordered list has no more elements than there are keys for it
  pub length-ordered : (low high : ℕ) (xs : List X) → IsOrderedBy key xs → AllByRecursion (λ x. low ≤ key x) xs → AllByRecursion (λ x. key x < high) xs → length xs ≤ high - low
  length-ordered low high [] ordered from below = omega arith
  length-ordered low high (x ∷ xs) ordered from below =
      let rest = length-ordered (suc (key x)) high xs ordered.1 (each-weaker {P = λ z. key x < key z} {Q = λ z. suc (key x) ≤ key z} (λ z above. omega arith) xs ordered.0) below.1 in
      omega arith

-- pointwise equal numbers give equal sums
pub sum_by-same : {X : Type 0} (f g : X → ℕ) (xs : List X) → AllByRecursion (λ x. f x ≡ g x) xs → sum_by f xs ≡ sum_by g xs
sum_by-same f g [] same = refl
sum_by-same f g (x ∷ xs) same = grind (arith, sum_by-cons, sum_by-same f g xs)

-- pointwise equal sums of two numbers give equal sums of two sums, where the elements are as the fact asks
pub sums_agree : {X : Type 0} (P : X → Type 0) (f g h i : X → ℕ) → ((x : X) → P x → f x + g x ≡ h x + i x) → (xs : List X) → AllByRecursion P xs → sum_by f xs + sum_by g xs ≡ sum_by h xs + sum_by i xs
sums_agree P f g h i agree [] each = refl
sums_agree P f g h i agree (x ∷ xs) each =
    let here = agree x each.0 in
    let rest = sums_agree P f g h i agree xs each.1 in
    rw (sum_by-cons f x xs, sum_by-cons g x xs, sum_by-cons h x xs, sum_by-cons i x xs) (omega arith)

-- a found option is some
some_is : {X : Type 0} (o : Option X) (x : X) → o ≡ Some x → IsSome o
some_is o x e = rw e refl

-- what is some is not none
none_is_not : {X : Type 0} (o : Option X) → o ≡ None → IsSome o → ⊥
none_is_not o e some = let no : false ≡ true = rw e at some in absurd cc

-- what is found before an edit is found after it
pub still_found-with_row_at : {X : Type 0} (key : X → ℕ) (j k : ℕ) (y : X) (xs : List X) → key y ≡ k → IsSome (row_at key j xs) → IsSome (row_at key j (with_row_at key k y xs))
still_found-with_row_at key j k y xs at found =
    by_test (j == k)
    (λ e. let same : j ≡ k = grind (arith, nat_tests) in
    let found' : IsSome (row_at key k xs) = subst (λ (i : ℕ). IsSome (row_at key i xs)) same found in
    subst (λ (i : ℕ). IsSome (row_at key i (with_row_at key k y xs))) (sym same) (still key k y xs (row_at key k xs) refl at found'))
    (λ e. let other : j ≢ k = grind (arith, nat_tests) in rw row_at-with_row_at_other found)
  where
    still : {X : Type 0} (key : X → ℕ) (k : ℕ) (y : X) (xs : List X) (o : Option X) → row_at key k xs ≡ o → key y ≡ k → IsSome o → IsSome (row_at key k (with_row_at key k y xs))
    still key k y xs None e at some = absurd cc
    still key k y xs (Some x) e at some = some_is _ y (row_at-with_row_at_same key k y xs x at e)

pub still_found-with_row : {X : Type 0} (key : X → ℕ) (j : ℕ) (y : X) (xs : List X) → row_at key (key y) xs ≡ None → IsSome (row_at key j xs) → IsSome (row_at key j (with_row key y xs))
still_found-with_row key j y xs absent found =
    by_test (j == key y)
    (λ e. let same : j ≡ key y = grind (arith, nat_tests) in
    absurd (none_is_not (row_at key j xs) (ap (λ (i : ℕ). row_at key i xs) same ∙ absent) found))
    (λ e. let other : j ≢ key y = grind (arith, nat_tests) in
    subst IsSome (sym (row_at-with_row_other key j (key y) y xs refl other)) found)
