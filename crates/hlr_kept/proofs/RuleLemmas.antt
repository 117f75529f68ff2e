-- The rules of a register's rows, as its owners and its index keep them, and what they say of each row of a table.
use Rattle.std.proofs.Common.{◌≡◌, ◌≢◌, ◌∙◌, refl, sym, subst, ℕ, ◌<◌, ◌==◌, nat_le, nat_lt, true, false, List, [], ◌∷◌, arith, Option, Some, None}
use Rattle.std.specs.List.{AllByRecursion}
use Rattle.std.specs.Prelude.{IsSome}
use Rattle.mr_node.specs.Rows.{key_of_pair}
use Rattle.tatp_rows.proofs.Common.{nat_tests}
use Rattle.tatp_rows.proofs.OrderedLemmas.{absent_below, absent_cons, by_test, each_found, each_from_two, each-weaker, key_found}
use Rattle.tatp_rows.proofs.RowLemmas.{access_s_id, access_type, facility_s_id, facility_type, forwarding_ranges, forwarding_s_id, forwarding_type, subscriber_ranges}
use Rattle.tatp_rows.specs.Keys.{key_of, subscriber_key}
use Rattle.tatp_rows.specs.Ordered.{IsOrderedBy, row_at, with_row}
use Rattle.tatp_rows.specs.Rows.{SubscriberRow, subscriber_in_range, access_in_range, facility_in_range, forwarding_in_range}
use Rattle.tatp_actions.specs.Book.{Book, IsBook, facility_at, first_subscriber, subscriber_at}
use Rattle.tatp_actions.specs.Listed.{IsListed, subscriber_fields, access_fields, facility_fields, forwarding_fields}
use Rattle.hlr_core.specs.Index.{index_of, number_pair}
use Rattle.hlr_core.specs.Numbers.{HasNoTwin}
use Rattle.hlr_kept.specs.Draft.{AreKeyed, packed_key}
use Rattle.hlr_kept.specs.Snapshot.{number_of}
use Rattle.hlr_kept.proofs.SnapshotLemmas.{facility_bearer}

module _ {X : Type 0} (key : X → ℕ) where
  -- a key that is absent beside one more element is another one, and absent without it
  absent_more : (k : ℕ) (x : X) (ys : List X) → row_at key k (with_row key x ys) ≡ None → (key x ≢ k) × (row_at key k ys ≡ None)
  absent_more k x [] none = ((absent_cons key k x [] none).0, refl)
  absent_more k x (y ∷ ys) none =
      by_test (nat_lt (key x) (key y))
      (λ e. absent_cons key k x (y ∷ ys) (rw e at none))
      (λ e. let cut = absent_cons key k y (with_row key x ys) (rw e at none) in
      let rest = absent_more k x ys cut.1 in
      let test : (key y == k) ≡ false = (let differ = cut.0 in grind (arith, nat_tests)) in
      (rest.0, rw test rest.1))

  -- what holds of each element holds of the one that was put among them, and of the others
  each_put : (P : X → Type 0) (x : X) (ys : List X) → AllByRecursion P (with_row key x ys) → P x × AllByRecursion P ys
  each_put P x [] each = (each.0, tt)
  each_put P x (y ∷ ys) each =
      by_test (nat_lt (key x) (key y))
      (λ e. rw e at each)
      (λ e. let cut : AllByRecursion P (y ∷ with_row key x ys) = rw e at each in
      let rest = each_put P x ys cut.1 in (rest.0, (cut.0, rest.1)))

  -- an element that was put into an ordered list has a key of its own
  own_key : (x : X) (ys : List X) → IsOrderedBy key (with_row key x ys) → IsOrderedBy key ys × (row_at key (key x) ys ≡ None)
  own_key x [] ordered = (tt, refl)
  own_key x (y ∷ ys) ordered =
      by_test (nat_lt (key x) (key y))
      (λ e. let cut : IsOrderedBy key (x ∷ (y ∷ ys)) = rw e at ordered in (cut.1, absent_below key (key x) (y ∷ ys) cut.0))
      (λ e. let cut : IsOrderedBy key (y ∷ with_row key x ys) = rw e at ordered in
      let rest = own_key x ys cut.1 in
      let each = each_put (λ z. key y < key z) x ys cut.0 in
      let test : (key y == key x) ≡ false = (let below = each.0 in grind (arith, nat_tests)) in
      ((each.1, rest.0), rw test rest.1))

  -- an element of an ordered list is found by its key
  each_there : (xs : List X) → IsOrderedBy key xs → AllByRecursion (λ x. IsSome (row_at key (key x) xs)) xs
  each_there [] ordered = tt
  each_there (x ∷ xs) ordered =
      let own : (key x == key x) ≡ true = grind (arith, nat_tests) in (
        rw own refl,
        each_from_two {P = λ y. key x < key y} {Q = λ y. IsSome (row_at key (key y) xs)} {R = λ y. IsSome (row_at key (key y) (x ∷ xs))}
            (λ y above there. let test : (key x == key y) ≡ false = grind (arith, nat_tests) in rw test there) xs ordered.0 (each_there xs ordered.1),
      )

-- who isn't in the index has a number that no row has
absent_numbers : (n : ℕ) (rows : List SubscriberRow) → row_at key_of_pair n (index_of rows) ≡ None → AllByRecursion (λ other. n ≢ other.sub_nbr) rows
absent_numbers n [] none = tt
absent_numbers n (row ∷ rows) none =
    let parts = absent_more key_of_pair n (number_pair row) (index_of rows) none in
    (λ same. parts.0 (sym same), absent_numbers n rows parts.1)

-- where the numbers of the index rise, no number comes twice
pub single_rows : (rows : List SubscriberRow) → IsOrderedBy key_of_pair (index_of rows) → HasNoTwin rows
single_rows [] ordered = tt
single_rows (row ∷ rows) ordered =
    let parts = own_key key_of_pair (number_pair row) (index_of rows) ordered in
    (absent_numbers row.sub_nbr rows parts.1, single_rows rows parts.0)

-- the first subscriber from one on is that one
first_is : (s : ℕ) (rows : List SubscriberRow) (row : SubscriberRow) → IsOrderedBy subscriber_key rows → row_at subscriber_key (key_of s 0 0) rows ≡ Some row
    → first_subscriber s rows ≡ Some row
first_is s [] row ordered there = absurd cc
first_is s (x ∷ xs) row ordered there =
    by_test (subscriber_key x == key_of s 0 0)
    (λ e.
    let same : x.s_id ≡ s = (let key : subscriber_key x ≡ key_of s 0 0 = grind (arith, nat_tests) in omega (arith, key)) in
    let is : Some x ≡ Some row = rw e at there in
    let test : nat_le s x.s_id ≡ true = grind (arith, nat_tests) in
    rw test is)
    (λ e.
    let rest : row_at subscriber_key (key_of s 0 0) xs ≡ Some row = rw e at there in
    let above = each_found subscriber_key (λ y. subscriber_key x < subscriber_key y) (key_of s 0 0) xs row ordered.0 rest in
    let own = key_found subscriber_key (key_of s 0 0) xs row rest in
    let below : x.s_id < s = omega (arith, above, own) in
    let test : nat_le s x.s_id ≡ false = grind (arith, nat_tests) in
    rw test (first_is s xs row ordered.1 rest))

-- so it has the number of the subscriber
pub first_number : (s : ℕ) (rows : List SubscriberRow) (first : Option SubscriberRow) → IsOrderedBy subscriber_key rows → IsSome (row_at subscriber_key (key_of s 0 0) rows)
    → first ≡ first_subscriber s rows → (there : SubscriberRow) × (first ≡ Some there) × (there.sub_nbr ≡ number_of rows s)
first_number s rows first ordered some is = cases (row_at subscriber_key (key_of s 0 0) rows) refl
  where
    cases : (o : Option SubscriberRow) → row_at subscriber_key (key_of s 0 0) rows ≡ o → (there : SubscriberRow) × (first ≡ Some there) × (there.sub_nbr ≡ number_of rows s)
    cases None e = absurd (let clash : IsSome {T = SubscriberRow} None = subst IsSome e some in cc)
    cases (Some there) e = (there, is ∙ first_is s rows there ordered e, rw e refl)

-- the keys of the rows, table by table
module _ (book : Book) (rules : IsBook book) where
  pub subscribers_keyed : AreKeyed subscriber_fields book.subscribers
  subscribers_keyed = record {
    ordered = rules.subscribers_ordered;
    listed = each-weaker {P = λ row. subscriber_in_range row ≡ true} {Q = λ row. IsListed (subscriber_fields row) (packed_key subscriber_fields row)}
        (λ row holds. let s_id = (subscriber_ranges row holds).s_id_below in
        record { key_is = refl; s_id_small = omega (arith, s_id); kind_small = omega arith; start_time_small = omega arith })
        book.subscribers rules.subscribers_in_range;
  }

  pub access_keyed : AreKeyed access_fields book.access
  access_keyed = record {
    ordered = rules.access_ordered;
    listed = each-weaker {P = λ row. access_in_range row ≡ true} {Q = λ row. IsListed (access_fields row) (packed_key access_fields row)}
        (λ row holds. let s_id = (access_s_id row holds).below in let kind = (access_type row holds).below in
        record { key_is = refl; s_id_small = omega (arith, s_id); kind_small = omega (arith, kind); start_time_small = omega arith })
        book.access rules.access_in_range;
  }

  pub facilities_keyed : AreKeyed facility_fields book.facilities
  facilities_keyed = record {
    ordered = rules.facilities_ordered;
    listed = each-weaker {P = λ row. facility_in_range row ≡ true} {Q = λ row. IsListed (facility_fields row) (packed_key facility_fields row)}
        (λ row holds. let s_id = (facility_s_id row holds).below in let kind = (facility_type row holds).below in
        record { key_is = refl; s_id_small = omega (arith, s_id); kind_small = omega (arith, kind); start_time_small = omega arith })
        book.facilities rules.facilities_in_range;
  }

  pub forwardings_keyed : AreKeyed forwarding_fields book.forwardings
  forwardings_keyed = record {
    ordered = rules.forwardings_ordered;
    listed = each-weaker {P = λ row. forwarding_in_range row ≡ true} {Q = λ row. IsListed (forwarding_fields row) (packed_key forwarding_fields row)}
        (λ row holds. let s_id = (forwarding_s_id row holds).below in let kind = (forwarding_type row holds).below in
        let start = (forwarding_ranges row holds).start_time_below in
        record { key_is = refl; s_id_small = omega (arith, s_id); kind_small = omega (arith, kind); start_time_small = omega (arith, start) })
        book.forwardings rules.forwardings_in_range;
  }

  -- the subscriber of each row is there
  pub subscribers_known : AllByRecursion (λ row. IsSome (subscriber_at book row.s_id)) book.subscribers
  subscribers_known = each_there subscriber_key book.subscribers rules.subscribers_ordered

  pub forwardings_known : AllByRecursion (λ row. IsSome (subscriber_at book row.s_id)) book.forwardings
  forwardings_known =
      each_from_two {P = λ row. forwarding_in_range row ≡ true} {Q = λ row. IsSome (facility_at book row.s_id row.sf_type)} {R = λ row. IsSome (subscriber_at book row.s_id)}
      (λ row holds some. facility_bearer book rules row holds some) book.forwardings rules.forwardings_in_range rules.forwardings_have_facility
