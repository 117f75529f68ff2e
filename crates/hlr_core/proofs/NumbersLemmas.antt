-- Who has which number: no number stands twice, and each leads to its subscriber.
use Rattle.hlr_core.proofs.Common.{◌≡◌, ◌≢◌, refl, sym, subst, ℕ, ◌<◌, List, [], ◌∷◌, true, false, inl, inr, arith, ◌==◌, nat_lt, is_some, AllByRecursion, cases_eq, nat_tests, by_test, key_found, each_found, each-with_row_at, each-with_row, absent_cons, key_of, subscriber_key, IsOrderedBy, row_at, with_row_at, with_row, without_row, SubscriberRow, bearer_of, HasNoTwin, is_anothers, Option, Some, None}

-- the number of a row
abbrev number : SubscriberRow → ℕ
number row = row.sub_nbr

-- each row has another number than this one
abbrev pub AllDiffer : ℕ → List SubscriberRow → Type 0
AllDiffer n rows = AllByRecursion (λ other. n ≢ other.sub_nbr) rows

-- where no row has a number, each has another
pub other_numbers : (rows : List SubscriberRow) (n : ℕ) → bearer_of rows n ≡ None → AllDiffer n rows
other_numbers [] n none = tt
other_numbers (row ∷ rows) n none =
    let rest = absent_cons number n row rows none in
    (λ same. rest.0 (sym same), other_numbers rows n rest.1)

-- the rows beside one have other numbers
pub others_differ : (k : ℕ) (row : SubscriberRow) (rows : List SubscriberRow) → HasNoTwin rows → row_at subscriber_key k rows ≡ Some row
    → AllDiffer row.sub_nbr (without_row subscriber_key k rows)
others_differ k row [] single found = tt
others_differ k row (x ∷ xs) single found =
    by_test (subscriber_key x == k)
    (λ e.
    let is : Some x ≡ Some row = rw e at found in
    let at : row ≡ x = cc in
    rw (e, at) single.0)
    (λ e.
    let rest : row_at subscriber_key k xs ≡ Some row = rw e at found in
    let differ : x.sub_nbr ≢ row.sub_nbr = each_found subscriber_key (λ other. x.sub_nbr ≢ other.sub_nbr) k xs row single.0 rest in
    rw e (λ twin. differ (sym twin), others_differ k row xs single.1 rest))

-- a row with a new number
pub no_twin-with_row : (row : SubscriberRow) (rows : List SubscriberRow) → HasNoTwin rows → bearer_of rows row.sub_nbr ≡ None → HasNoTwin (with_row subscriber_key row rows)
no_twin-with_row row [] single none = (tt, tt)
no_twin-with_row row (x ∷ xs) single none =
    let rest = absent_cons number row.sub_nbr x xs none in
    by_test (nat_lt (subscriber_key row) (subscriber_key x))
    (λ e. rw e (other_numbers (x ∷ xs) row.sub_nbr none, single))
    (λ e. rw e (each-with_row subscriber_key (λ other. x.sub_nbr ≢ other.sub_nbr) row xs rest.0 single.0, no_twin-with_row row xs single.1 rest.1))

-- a row replaced by one whose number the others don't have
pub no_twin-with_row_at : (k : ℕ) (new : SubscriberRow) (rows : List SubscriberRow) → HasNoTwin rows → AllDiffer new.sub_nbr (without_row subscriber_key k rows)
    → HasNoTwin (with_row_at subscriber_key k new rows)
no_twin-with_row_at k new [] single differ = tt
no_twin-with_row_at k new (x ∷ xs) single differ =
    by_test (subscriber_key x == k)
    (λ e.
    let rest : AllDiffer new.sub_nbr xs = rw e at differ in
    rw e (rest, single.1))
    (λ e.
    let rest : AllDiffer new.sub_nbr (x ∷ without_row subscriber_key k xs) = rw e at differ in
    rw e (
      each-with_row_at subscriber_key (λ other. x.sub_nbr ≢ other.sub_nbr) k new xs (λ twin. rest.0 (sym twin)) single.0,
      no_twin-with_row_at k new xs single.1 rest.1,
    ))

-- a row that a subscriber has is the owner of its number
pub bearer_found : (k : ℕ) (row : SubscriberRow) (rows : List SubscriberRow) → HasNoTwin rows → row_at subscriber_key k rows ≡ Some row → bearer_of rows row.sub_nbr ≡ Some row
bearer_found k row [] single found = absurd cc
bearer_found k row (x ∷ xs) single found =
    by_test (subscriber_key x == k)
    (λ e.
    let is : Some x ≡ Some row = rw e at found in
    let at : row ≡ x = cc in
    let own : (x.sub_nbr == x.sub_nbr) ≡ true = grind (arith, nat_tests) in
    rw (at, own) refl)
    (λ e.
    let rest : row_at subscriber_key k xs ≡ Some row = rw e at found in
    let differ : x.sub_nbr ≢ row.sub_nbr = each_found subscriber_key (λ other. x.sub_nbr ≢ other.sub_nbr) k xs row single.0 rest in
    let test : (x.sub_nbr == row.sub_nbr) ≡ false = grind (arith, nat_tests) in
    rw test (bearer_found k row xs single.1 rest))

-- the owner of a number is the row of its subscriber
pub bearer_at : (n : ℕ) (row : SubscriberRow) (rows : List SubscriberRow) → IsOrderedBy subscriber_key rows → bearer_of rows n ≡ Some row → row_at subscriber_key (subscriber_key row) rows ≡ Some row
bearer_at n row [] ordered found = absurd cc
bearer_at n row (x ∷ xs) ordered found =
    by_test (x.sub_nbr == n)
    (λ e.
    let is : Some x ≡ Some row = rw e at found in
    let at : row ≡ x = cc in
    let own : (subscriber_key x == subscriber_key x) ≡ true = grind (arith, nat_tests) in
    rw (at, own) refl)
    (λ e.
    let rest : bearer_of xs n ≡ Some row = rw e at found in
    let below : subscriber_key x < subscriber_key row = each_found number (λ y. subscriber_key x < subscriber_key y) n xs row ordered.0 rest in
    let test : (subscriber_key x == subscriber_key row) ≡ false = grind (arith, nat_tests) in
    rw test (bearer_at n row xs ordered.1 rest))

-- where the row of a subscriber has another number, or there is none, the owner of the number is another one
pub bearer_is_another : (rows : List SubscriberRow) (s n : ℕ) → IsOrderedBy subscriber_key rows → ((row : SubscriberRow) → row_at subscriber_key (key_of s 0 0) rows ≡ Some row → row.sub_nbr ≢ n)
    → is_anothers s (bearer_of rows n) ≡ is_some (bearer_of rows n)
bearer_is_another rows s n ordered differ = cases (bearer_of rows n) refl
  where
    cases : (o : Option SubscriberRow) → bearer_of rows n ≡ o → is_anothers s o ≡ is_some o
    cases None e = refl
    cases (Some row) e = elim (cases_eq row.s_id s) [
      | inl same ↦ (let found = subst (λ (k : ℕ). row_at subscriber_key (key_of k 0 0) rows ≡ Some row) same (bearer_at n row rows ordered e) in absurd (differ row found (key_found number n rows row e)))
      | inr other ↦ grind (arith, nat_tests)
    ]
