-- The place of a key in an ordered list, how many elements have a smaller key, and the edits at that place.
use Rattle.tatp_rows.proofs.Common.{◌≡◌, ◌≢◌, refl, sym, ap, ◌∙◌, ℕ, zero, suc, ◌+◌, ◌-◌, ◌<◌, ◌≤◌, List, [], ◌∷◌, length, get_or, set, drop, true, false, arith, ◌==◌, nat_lt, Some, None, AllByRecursion, prefix_len, insert, remove, IsPartitionedBy, IsPartitionPoint, drop-cons, nat_tests, IsOrderedBy, row_at, with_row_at, with_row, without_row}
use Rattle.tatp_rows.proofs.OrderedLemmas.{each-weaker, by_test, absent_below, absent_cons}

one_more : (n : ℕ) → 1 + n ≡ suc n
one_more n = omega arith

-- what holds of each element holds of the one at an index
pub each_at : {X : Type 0} (P : X → Type 0) (xs : List X) (i : ℕ) (d : X) → AllByRecursion P xs → i < length xs → P (get_or xs i d)
each_at P [] i d each within = absurd (omega arith)
each_at P (x ∷ xs) zero d each within = each.0
each_at P (x ∷ xs) (suc i) d each within = each_at P xs i d each.1 (omega arith)

-- the elements from a place on are that one and those behind it
pub from_here : {X : Type 0} (xs : List X) (left : ℕ) (x : X) → 0 < left → left ≤ length xs → x ≡ get_or xs (left - 1) x → drop (left - 1) xs ≡ x ∷ drop left xs
from_here xs left x some within is =
    let next : suc (left - 1) ≡ left = omega arith in
    drop-cons xs (left - 1) x (omega arith) ∙ rw (← is, next) refl

module _ {X : Type 0} (key : X → ℕ) where
  -- how many elements at the front have a smaller key
  abbrev pub place_in : ℕ → List X → ℕ
  place_in k xs = prefix_len (λ x. nat_lt (key x) k) xs

  -- the place in a list whose head has a smaller key, and in one whose head has none
  pub place-later : (k : ℕ) (x : X) (xs : List X) → key x < k → place_in k (x ∷ xs) ≡ suc (place_in k xs)
  place-later k x xs under = let e : nat_lt (key x) k ≡ true = grind (arith, nat_tests) in rw e (omega arith)

  pub place-here : (k : ℕ) (x : X) (xs : List X) → k ≤ key x → place_in k (x ∷ xs) ≡ 0
  place-here k x xs over = let e : nat_lt (key x) k ≡ false = grind (arith, nat_tests) in rw e refl

  -- a key is at the head, later, or, where the head's key is greater, absent
  pub by_order : {A : Type 0} (k n : ℕ) → (n < k → A) → (n ≡ k → A) → (k < n → A) → A
  by_order k n if_less if_equal if_greater =
      by_test (nat_lt n k)
      (λ e. if_less (grind (arith, nat_tests)))
      (λ e. by_test (n == k) (λ f. if_equal (grind (arith, nat_tests))) (λ f. if_greater (grind (arith, nat_tests))))

  -- the elements after the head of an ordered list have keys above those up to the head's
  absent_after : (k : ℕ) (x : X) (xs : List X) → k ≤ key x → AllByRecursion (λ z. key x < key z) xs → row_at key k xs ≡ None
  absent_after k x xs over above = absent_below key k xs (each-weaker {P = λ z. key x < key z} {Q = λ z. k < key z} (λ z below. omega arith) xs above)

  -- what the place of a key holds, where the key is found
  pub record FoundAtPlace (k : ℕ) (xs : List X) (x : X) : Type 0 where
    pub within : place_in k xs < length xs
    pub there : (d : X) → get_or xs (place_in k xs) d ≡ x
    pub sets : (y : X) → with_row_at key k y xs ≡ set xs (place_in k xs) y
    pub removes : without_row key k xs ≡ remove xs (place_in k xs)

  pub at_place : (k : ℕ) (xs : List X) (x : X) → IsOrderedBy key xs → row_at key k xs ≡ Some x → FoundAtPlace k xs x
  at_place k [] x ordered found = absurd cc
  at_place k (z ∷ zs) x ordered found = by_order k (key z)
      (λ less. let e : (key z == k) ≡ false = grind (arith, nat_tests) in
      let rest = at_place k zs x ordered.1 (rw e at found) in
      let p = place-later k z zs less in
      record {
        within = rw p (let w = rest.within in omega arith);
        there = λ d. rw p (rest.there d);
        sets = λ y. rw (e, p) (ap (λ l. z ∷ l) (rest.sets y));
        removes = rw (e, p) (ap (λ l. z ∷ l) rest.removes);
      })
      (λ same. let e : (key z == k) ≡ true = grind (arith, nat_tests) in
      let p = place-here k z zs (omega arith) in
      let is : Some z ≡ Some x = rw e at found in
      record {
        within = rw p (omega arith);
        there = λ d. rw p cc;
        sets = λ y. rw (e, p) refl;
        removes = rw (e, p) refl;
      })
      (λ greater. let e : (key z == k) ≡ false = grind (arith, nat_tests) in
      let none = absent_after k z zs (omega arith) ordered.0 in
      let some : row_at key k zs ≡ Some x = rw e at found in
      absurd cc)

  -- an absent key is put in at its place
  pub insert_at_place : (y : X) (xs : List X) → row_at key (key y) xs ≡ None → with_row key y xs ≡ insert xs (place_in (key y) xs) y
  insert_at_place y [] absent = refl
  insert_at_place y (z ∷ zs) absent = by_order (key y) (key z)
      (λ less. let e : nat_lt (key y) (key z) ≡ false = grind (arith, nat_tests) in
      rw (e, place-later (key y) z zs less) (ap (λ l. z ∷ l) (insert_at_place y zs (absent_cons key (key y) z zs absent).1)))
      (λ same. absurd ((absent_cons key (key y) z zs absent).0 same))
      (λ greater. let e : nat_lt (key y) (key z) ≡ true = grind (arith, nat_tests) in
      rw (e, place-here (key y) z zs (omega arith)) refl)

  -- the element at the place is the one that is found if its key is the key, and otherwise none is found
  pub found_at_place : (k : ℕ) (xs : List X) (d : X) → IsOrderedBy key xs → place_in k xs < length xs → key (get_or xs (place_in k xs) d) ≡ k → row_at key k xs ≡ Some (get_or xs (place_in k xs) d)
  found_at_place k [] d ordered within at = absurd (omega arith)
  found_at_place k (z ∷ zs) d ordered within at = by_order k (key z)
      (λ less. let e : (key z == k) ≡ false = grind (arith, nat_tests) in
      let p = place-later k z zs less in
      let more = rw p at within in
      rw (e, p) (found_at_place k zs d ordered.1 (omega arith) (rw p at at)))
      (λ same. let e : (key z == k) ≡ true = grind (arith, nat_tests) in rw (e, place-here k z zs (omega arith)) refl)
      (λ greater. absurd (let here : key z ≡ k = rw (place-here k z zs (omega arith)) at at in omega arith))

  pub absent_at_place : (k : ℕ) (xs : List X) (d : X) → IsOrderedBy key xs → (place_in k xs < length xs → key (get_or xs (place_in k xs) d) ≢ k) → row_at key k xs ≡ None
  absent_at_place k [] d ordered other = refl
  absent_at_place k (z ∷ zs) d ordered other = by_order k (key z)
      (λ less. let e : (key z == k) ≡ false = grind (arith, nat_tests) in
      let p = place-later k z zs less in
      rw e (absent_at_place k zs d ordered.1 (rw p at (λ (w : place_in k zs < length zs). let more : place_in k (z ∷ zs) < length (z ∷ zs) = rw p (omega arith) in other more))))
      (λ same. let p = place-here k z zs (omega arith) in
      let within : place_in k (z ∷ zs) < length (z ∷ zs) = rw p (omega arith) in
      absurd ((rw p at (other within)) same))
      (λ greater. let e : (key z == k) ≡ false = grind (arith, nat_tests) in rw e (absent_after k z zs (omega arith) ordered.0))

  -- the number of elements with smaller keys, by what a search finds of the elements around it
  pub place_is : (k p : ℕ) (xs : List X) → p ≤ length xs → ((i : ℕ) (d : X) → i < p → key (get_or xs i d) < k) → ((d : X) → p < length xs → k ≤ key (get_or xs p d)) → place_in k xs ≡ p
  place_is k p [] within below from = omega arith
  place_is k zero (z ∷ zs) within below from = place-here k z zs (from z (omega arith))
  place_is k (suc p) (z ∷ zs) within below from =
      place-later k z zs (below 0 z (omega arith)) ∙ ap suc (place_is k p zs (omega arith) (λ i d h. below (suc i) d (omega arith)) (λ d h. from d (omega arith)))

  -- keys rise from index to index
  pub rises : (xs : List X) (i j : ℕ) (d : X) → IsOrderedBy key xs → i ≤ j → j < length xs → key (get_or xs i d) ≤ key (get_or xs j d)
  rises [] i j d ordered up within = absurd (omega arith)
  rises (x ∷ xs) zero zero d ordered up within = omega arith
  rises (x ∷ xs) zero (suc j) d ordered up within =
      let above = each_at (λ y. key x < key y) xs j d ordered.0 (omega arith) in omega arith
  rises (x ∷ xs) (suc i) zero d ordered up within = absurd (omega arith)
  rises (x ∷ xs) (suc i) (suc j) d ordered up within = rises xs i j d ordered.1 (omega arith) (omega arith)

  -- the elements with smaller keys stand in front
  pub partitioned : (k : ℕ) (xs : List X) → IsOrderedBy key xs → IsPartitionedBy (λ x. nat_lt (key x) k) xs
  partitioned k xs ordered = λ i j d up within test.
      let below = rises xs i j d ordered up within in grind (arith, nat_tests)

  -- what a search by halves finds is the place of the key
  pub place_from_point : (k p : ℕ) (xs : List X) → p ≤ length xs → IsPartitionPoint (λ x. nat_lt (key x) k ≡ true) (λ x. nat_lt (key x) k ≡ false) xs p → p ≡ place_in k xs
  place_from_point k p xs bound point = sym (place_is k p xs bound
      (λ i d under. let test : nat_lt (key (get_or xs i d)) k ≡ true = point.0 i d (omega arith) under in grind (arith, nat_tests))
      (λ d within. let test : nat_lt (key (get_or xs p d)) k ≡ false = point.1 p d (omega arith) within in grind (arith, nat_tests)))

  -- no element has the key, where its place is the end
  pub absent_past : (k p : ℕ) (xs : List X) → IsOrderedBy key xs → p ≡ place_in k xs → length xs ≤ p → row_at key k xs ≡ None
  absent_past k p [] ordered at past = refl
  absent_past k p (x ∷ xs) ordered at past = absent_at_place k (x ∷ xs) x ordered (λ within. absurd (omega arith))

  -- nor where the element at its place has another
  pub absent_here : (k p : ℕ) (xs : List X) (x : X) → IsOrderedBy key xs → p ≡ place_in k xs → x ≡ get_or xs p x → key x ≢ k → row_at key k xs ≡ None
  absent_here k p xs x ordered at is other =
      absent_at_place k xs x ordered (λ within. λ same. other (ap key (is ∙ ap (λ i. get_or xs i x) at) ∙ same))

  -- the element at the place, where it has the key
  pub found_here : (k p : ℕ) (xs : List X) (x : X) → IsOrderedBy key xs → p ≡ place_in k xs → p < length xs → x ≡ get_or xs p x → key x ≡ k → row_at key k xs ≡ Some x
  found_here k p xs x ordered at within is same =
      let here : x ≡ get_or xs (place_in k xs) x = is ∙ ap (λ i. get_or xs i x) at in
      found_at_place k xs x ordered (omega arith) (ap key (sym here) ∙ same) ∙ ap Some (sym here)

  -- the edits at the place of an element that has the key
  pub sets_here : (k p : ℕ) (xs : List X) (x y : X) → IsOrderedBy key xs → p ≡ place_in k xs → p < length xs → x ≡ get_or xs p x → key x ≡ k → set xs p y ≡ with_row_at key k y xs
  sets_here k p xs x y ordered at within is same =
      ap (λ i. set xs i y) at ∙ sym ((at_place k xs x ordered (found_here k p xs x ordered at within is same)).sets y)

  pub removes_here : (k p : ℕ) (xs : List X) (x : X) → IsOrderedBy key xs → p ≡ place_in k xs → p < length xs → x ≡ get_or xs p x → key x ≡ k → remove xs p ≡ without_row key k xs
  removes_here k p xs x ordered at within is same =
      ap (λ i. remove xs i) at ∙ sym ((at_place k xs x ordered (found_here k p xs x ordered at within is same)).removes)

  pub inserts_here : (y : X) (p : ℕ) (xs : List X) → p ≡ place_in (key y) xs → row_at key (key y) xs ≡ None → insert xs p y ≡ with_row key y xs
  inserts_here y p xs at absent = ap (λ i. insert xs i y) at ∙ sym (insert_at_place y xs absent)
