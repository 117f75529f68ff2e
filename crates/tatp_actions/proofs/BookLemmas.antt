-- The rules of a book after a change of one of its tables.
use Rattle.tatp_actions.proofs.Common.{◌≡◌, ℕ, ◌<◌, refl, arith, true, List, Option, Some, None, IsSome, subst, AllByRecursion, key_found, each_found, each-weaker, each-with_row_at, each-with_row_at_same, each-with_row, each-without_row, each_both, ordered-with_row_at, ordered-with_row, ordered-without_row, still_found-with_row_at, still_found-with_row, key_parts, facility_type, forwarding_type, forwarding_ranges, key_of, subscriber_key, access_key, facility_key, forwarding_key, IsOrderedBy, row_at, with_row, SubscriberRow, AccessInfoRow, SpecialFacilityRow, CallForwardingRow, subscriber_in_range, access_in_range, facility_in_range, forwarding_in_range, Book, IsBook, IsRowsOf, IsWithin, subscriber_at, access_at, facility_at, forwarding_at, put_subscriber, put_facility, more_access, more_facilities, more_forwardings, without_forwarding}

-- a book with other subscribers keeps the rules, where those of the subscribers hold and each that was found is found
pub rules_of_subscribers : (lo hi : ℕ) (book : Book) (rows : List SubscriberRow) → IsRowsOf lo hi book
    → IsOrderedBy subscriber_key rows → AllByRecursion (λ (row : SubscriberRow). subscriber_in_range row ≡ true) rows
    → AllByRecursion (λ (row : SubscriberRow). IsWithin lo hi row.s_id) rows
    → ((s : ℕ) → IsSome (subscriber_at book s) → IsSome (row_at subscriber_key (key_of s 0 0) rows))
    → IsRowsOf lo hi (record book { subscribers = rows })
rules_of_subscribers lo hi book rows old ordered in_range within still = record {
  rules = record {
    subscribers_ordered = ordered;
    access_ordered = old.rules.access_ordered;
    facilities_ordered = old.rules.facilities_ordered;
    forwardings_ordered = old.rules.forwardings_ordered;
    subscribers_in_range = in_range;
    access_in_range = old.rules.access_in_range;
    facilities_in_range = old.rules.facilities_in_range;
    forwardings_in_range = old.rules.forwardings_in_range;
    access_have_subscriber = each-weaker (λ (row : AccessInfoRow) found. still row.s_id found) book.access old.rules.access_have_subscriber;
    facilities_have_subscriber = each-weaker (λ (row : SpecialFacilityRow) found. still row.s_id found) book.facilities old.rules.facilities_have_subscriber;
    forwardings_have_facility = old.rules.forwardings_have_facility;
  };
  subscribers = within;
  access = old.access;
  facilities = old.facilities;
  forwardings = old.forwardings;
}

-- the key of the row that is found is that of its subscriber
pub s_id_found : (book : Book) (s : ℕ) (row : SubscriberRow) → subscriber_at book s ≡ Some row → row.s_id ≡ s
s_id_found book s row found = let at = key_found subscriber_key (key_of s 0 0) book.subscribers row found in omega (arith, at)

-- one more subscriber keeps the rules
pub rules_of_addition : (lo hi : ℕ) (book : Book) (row : SubscriberRow) → IsRowsOf lo hi book → subscriber_at book row.s_id ≡ None
    → IsWithin lo hi row.s_id → subscriber_in_range row ≡ true
    → IsRowsOf lo hi (record book { subscribers = with_row subscriber_key row book.subscribers })
rules_of_addition lo hi book row old absent within in_range =
    rules_of_subscribers lo hi book _ old
    (ordered-with_row subscriber_key row book.subscribers absent old.rules.subscribers_ordered)
    (each-with_row subscriber_key (λ (r : SubscriberRow). subscriber_in_range r ≡ true) row book.subscribers in_range old.rules.subscribers_in_range)
    (each-with_row subscriber_key (λ (r : SubscriberRow). IsWithin lo hi r.s_id) row book.subscribers within old.subscribers)
    (λ j some. still_found-with_row subscriber_key (key_of j 0 0) row book.subscribers absent some)

-- a row that is put in the place of the one with its key, where there is one
pub rules_of_put_subscriber : (lo hi : ℕ) (book : Book) (new : SubscriberRow) → IsRowsOf lo hi book → subscriber_in_range new ≡ true → IsRowsOf lo hi (put_subscriber book new.s_id new)
rules_of_put_subscriber lo hi book new old in_range =
    rules_of_subscribers lo hi book _ old
    (ordered-with_row_at subscriber_key (subscriber_key new) new book.subscribers refl old.rules.subscribers_ordered)
    (each-with_row_at subscriber_key (λ (r : SubscriberRow). subscriber_in_range r ≡ true) (subscriber_key new) new book.subscribers in_range old.rules.subscribers_in_range)
    (each-with_row_at_same subscriber_key (λ (r : SubscriberRow). IsWithin lo hi r.s_id) (subscriber_key new) new book.subscribers
    (λ x same within. let is : x.s_id ≡ new.s_id = omega arith in subst (λ (n : ℕ). IsWithin lo hi n) is within) old.subscribers)
    (λ j some. still_found-with_row_at subscriber_key (key_of j 0 0) (subscriber_key new) new book.subscribers refl some)

-- the subscribers that are found are those of the range
pub within_found : (lo hi : ℕ) (book : Book) (s : ℕ) → IsRowsOf lo hi book → IsSome (subscriber_at book s) → IsWithin lo hi s
within_found lo hi book s old some = cases (subscriber_at book s) refl some
  where
    cases : (o : Option SubscriberRow) → subscriber_at book s ≡ o → IsSome o → IsWithin lo hi s
    cases None e some = absurd cc
    cases (Some row) e some =
        subst (λ (n : ℕ). IsWithin lo hi n) (s_id_found book s row e)
        (each_found subscriber_key (λ (r : SubscriberRow). IsWithin lo hi r.s_id) (key_of s 0 0) book.subscribers row old.subscribers e)

-- a book with other access rows keeps the rules, where theirs hold
pub rules_of_access : (lo hi : ℕ) (book : Book) (row : AccessInfoRow) → IsRowsOf lo hi book → IsSome (subscriber_at book row.s_id) → access_at book row.s_id row.ai_type ≡ None
    → access_in_range row ≡ true → IsRowsOf lo hi (more_access book row)
rules_of_access lo hi book row old some absent in_range = record {
  rules = record {
    subscribers_ordered = old.rules.subscribers_ordered;
    access_ordered = ordered-with_row access_key row book.access absent old.rules.access_ordered;
    facilities_ordered = old.rules.facilities_ordered;
    forwardings_ordered = old.rules.forwardings_ordered;
    subscribers_in_range = old.rules.subscribers_in_range;
    access_in_range = each-with_row access_key (λ (r : AccessInfoRow). access_in_range r ≡ true) row book.access in_range old.rules.access_in_range;
    facilities_in_range = old.rules.facilities_in_range;
    forwardings_in_range = old.rules.forwardings_in_range;
    access_have_subscriber = each-with_row access_key (λ (r : AccessInfoRow). IsSome (subscriber_at book r.s_id)) row book.access some old.rules.access_have_subscriber;
    facilities_have_subscriber = old.rules.facilities_have_subscriber;
    forwardings_have_facility = old.rules.forwardings_have_facility;
  };
  subscribers = old.subscribers;
  access = each-with_row access_key (λ (r : AccessInfoRow). IsWithin lo hi r.s_id) row book.access (within_found lo hi book row.s_id old some) old.access;
  facilities = old.facilities;
  forwardings = old.forwardings;
}

-- a book with other facilities keeps the rules, where theirs hold and each that was found is found
rules_of_facilities : (lo hi : ℕ) (book : Book) (rows : List SpecialFacilityRow) → IsRowsOf lo hi book
    → IsOrderedBy facility_key rows → AllByRecursion (λ (r : SpecialFacilityRow). facility_in_range r ≡ true) rows
    → AllByRecursion (λ (r : SpecialFacilityRow). IsSome (subscriber_at book r.s_id)) rows
    → AllByRecursion (λ (r : SpecialFacilityRow). IsWithin lo hi r.s_id) rows
    → ((k : ℕ) → IsSome (row_at facility_key k book.facilities) → IsSome (row_at facility_key k rows))
    → IsRowsOf lo hi (record book { facilities = rows })
rules_of_facilities lo hi book rows old ordered in_range have within still = record {
  rules = record {
    subscribers_ordered = old.rules.subscribers_ordered;
    access_ordered = old.rules.access_ordered;
    facilities_ordered = ordered;
    forwardings_ordered = old.rules.forwardings_ordered;
    subscribers_in_range = old.rules.subscribers_in_range;
    access_in_range = old.rules.access_in_range;
    facilities_in_range = in_range;
    forwardings_in_range = old.rules.forwardings_in_range;
    access_have_subscriber = old.rules.access_have_subscriber;
    facilities_have_subscriber = have;
    forwardings_have_facility = each-weaker (λ (r : CallForwardingRow) found. still (key_of r.s_id r.sf_type 0) found) book.forwardings old.rules.forwardings_have_facility;
  };
  subscribers = old.subscribers;
  access = old.access;
  facilities = within;
  forwardings = old.forwardings;
}

pub rules_of_put_facility : (lo hi : ℕ) (book : Book) (new : SpecialFacilityRow) → IsRowsOf lo hi book → facility_in_range new ≡ true → IsRowsOf lo hi (put_facility book new.s_id new.sf_type new)
rules_of_put_facility lo hi book new old in_range =
    rules_of_facilities lo hi book _ old
    (ordered-with_row_at facility_key (facility_key new) new book.facilities refl old.rules.facilities_ordered)
    (each-with_row_at facility_key (λ (r : SpecialFacilityRow). facility_in_range r ≡ true) (facility_key new) new book.facilities in_range old.rules.facilities_in_range)
    (each-weaker {P = λ (r : SpecialFacilityRow). (facility_in_range r ≡ true) × IsSome (subscriber_at book r.s_id)} (λ r both. both.1) _
    (each-with_row_at_same facility_key (λ (r : SpecialFacilityRow). (facility_in_range r ≡ true) × IsSome (subscriber_at book r.s_id)) (facility_key new) new book.facilities
    (λ x same both. (in_range, subst (λ (n : ℕ). IsSome (subscriber_at book n)) (same_s_id x new both.0 in_range same) both.1))
    (each_both (λ (r : SpecialFacilityRow). facility_in_range r ≡ true) (λ (r : SpecialFacilityRow). IsSome (subscriber_at book r.s_id)) book.facilities old.rules.facilities_in_range old.rules.facilities_have_subscriber)))
    (each-weaker {P = λ (r : SpecialFacilityRow). (facility_in_range r ≡ true) × IsWithin lo hi r.s_id} (λ r both. both.1) _
    (each-with_row_at_same facility_key (λ (r : SpecialFacilityRow). (facility_in_range r ≡ true) × IsWithin lo hi r.s_id) (facility_key new) new book.facilities
    (λ x same both. (in_range, subst (λ (n : ℕ). IsWithin lo hi n) (same_s_id x new both.0 in_range same) both.1))
    (each_both (λ (r : SpecialFacilityRow). facility_in_range r ≡ true) (λ (r : SpecialFacilityRow). IsWithin lo hi r.s_id) book.facilities old.rules.facilities_in_range old.facilities)))
    (λ k some. still_found-with_row_at facility_key k (facility_key new) new book.facilities refl some)
  where
    same_s_id : (x y : SpecialFacilityRow) → facility_in_range x ≡ true → facility_in_range y ≡ true → facility_key x ≡ facility_key y → x.s_id ≡ y.s_id
    same_s_id x y first second same =
        let kind = (facility_type x first).below in
        let kind' = (facility_type y second).below in omega arith

pub rules_of_facility : (lo hi : ℕ) (book : Book) (row : SpecialFacilityRow) → IsRowsOf lo hi book → IsSome (subscriber_at book row.s_id) → facility_at book row.s_id row.sf_type ≡ None
    → facility_in_range row ≡ true → IsRowsOf lo hi (more_facilities book row)
rules_of_facility lo hi book row old some absent in_range =
    rules_of_facilities lo hi book _ old
    (ordered-with_row facility_key row book.facilities absent old.rules.facilities_ordered)
    (each-with_row facility_key (λ (r : SpecialFacilityRow). facility_in_range r ≡ true) row book.facilities in_range old.rules.facilities_in_range)
    (each-with_row facility_key (λ (r : SpecialFacilityRow). IsSome (subscriber_at book r.s_id)) row book.facilities some old.rules.facilities_have_subscriber)
    (each-with_row facility_key (λ (r : SpecialFacilityRow). IsWithin lo hi r.s_id) row book.facilities (within_found lo hi book row.s_id old some) old.facilities)
    (λ k found. still_found-with_row facility_key k row book.facilities absent found)

-- the facility that is found is that of its subscriber and type
pub facility_found : (book : Book) (s t : ℕ) (row : SpecialFacilityRow) → IsBook book → t < 256 → facility_at book s t ≡ Some row → (row.s_id ≡ s) × (row.sf_type ≡ t)
facility_found book s t row rules small found =
    let at = key_found facility_key (key_of s t 0) book.facilities row found in
    let kind = (facility_type row (each_found facility_key (λ (r : SpecialFacilityRow). facility_in_range r ≡ true) (key_of s t 0) book.facilities row rules.facilities_in_range found)).below in
    let parts = key_parts row.s_id row.sf_type 0 s t 0 (omega arith) (omega arith) small (omega arith) at in
    (parts.0, parts.1)

-- a book with other forwardings keeps the rules, where theirs hold
rules_of_forwardings : (lo hi : ℕ) (book : Book) (rows : List CallForwardingRow) → IsRowsOf lo hi book
    → IsOrderedBy forwarding_key rows → AllByRecursion (λ (r : CallForwardingRow). forwarding_in_range r ≡ true) rows
    → AllByRecursion (λ (r : CallForwardingRow). IsSome (facility_at book r.s_id r.sf_type)) rows
    → AllByRecursion (λ (r : CallForwardingRow). IsWithin lo hi r.s_id) rows
    → IsRowsOf lo hi (record book { forwardings = rows })
rules_of_forwardings lo hi book rows old ordered in_range have within = record {
  rules = record {
    subscribers_ordered = old.rules.subscribers_ordered;
    access_ordered = old.rules.access_ordered;
    facilities_ordered = old.rules.facilities_ordered;
    forwardings_ordered = ordered;
    subscribers_in_range = old.rules.subscribers_in_range;
    access_in_range = old.rules.access_in_range;
    facilities_in_range = old.rules.facilities_in_range;
    forwardings_in_range = in_range;
    access_have_subscriber = old.rules.access_have_subscriber;
    facilities_have_subscriber = old.rules.facilities_have_subscriber;
    forwardings_have_facility = have;
  };
  subscribers = old.subscribers;
  access = old.access;
  facilities = old.facilities;
  forwardings = within;
}

pub rules_of_insertion : (lo hi : ℕ) (book : Book) (row : CallForwardingRow) → IsRowsOf lo hi book → IsSome (facility_at book row.s_id row.sf_type) → forwarding_at book row.s_id row.sf_type row.start_time ≡ None
    → forwarding_in_range row ≡ true → IsRowsOf lo hi (more_forwardings book row)
rules_of_insertion lo hi book row old some absent in_range =
    rules_of_forwardings lo hi book _ old
    (ordered-with_row forwarding_key row book.forwardings absent old.rules.forwardings_ordered)
    (each-with_row forwarding_key (λ (r : CallForwardingRow). forwarding_in_range r ≡ true) row book.forwardings in_range old.rules.forwardings_in_range)
    (each-with_row forwarding_key (λ (r : CallForwardingRow). IsSome (facility_at book r.s_id r.sf_type)) row book.forwardings some old.rules.forwardings_have_facility)
    (each-with_row forwarding_key (λ (r : CallForwardingRow). IsWithin lo hi r.s_id) row book.forwardings (cases (facility_at book row.s_id row.sf_type) refl some) old.forwardings)
  where
    cases : (o : Option SpecialFacilityRow) → facility_at book row.s_id row.sf_type ≡ o → IsSome o → IsWithin lo hi row.s_id
    cases None e some = absurd cc
    cases (Some facility) e some =
        let kind = (forwarding_type row in_range).below in
        subst (λ (n : ℕ). IsWithin lo hi n) (facility_found book row.s_id row.sf_type facility old.rules (omega arith) e).0
        (each_found facility_key (λ (r : SpecialFacilityRow). IsWithin lo hi r.s_id) (key_of row.s_id row.sf_type 0) book.facilities facility old.facilities e)

pub rules_of_deletion : (lo hi : ℕ) (book : Book) (s t u : ℕ) → IsRowsOf lo hi book → IsRowsOf lo hi (without_forwarding book s t u)
rules_of_deletion lo hi book s t u old =
    rules_of_forwardings lo hi book _ old
    (ordered-without_row forwarding_key (key_of s t u) book.forwardings old.rules.forwardings_ordered)
    (each-without_row forwarding_key (λ (r : CallForwardingRow). forwarding_in_range r ≡ true) (key_of s t u) book.forwardings old.rules.forwardings_in_range)
    (each-without_row forwarding_key (λ (r : CallForwardingRow). IsSome (facility_at book r.s_id r.sf_type)) (key_of s t u) book.forwardings old.rules.forwardings_have_facility)
    (each-without_row forwarding_key (λ (r : CallForwardingRow). IsWithin lo hi r.s_id) (key_of s t u) book.forwardings old.forwardings)

-- the forwarding that is found is that of its facility and start time
pub forwarding_found : (book : Book) (s t u : ℕ) (row : CallForwardingRow) → IsBook book → t < 256 → u < 256 → forwarding_at book s t u ≡ Some row → (row.s_id ≡ s) × (row.sf_type ≡ t) × (row.start_time ≡ u)
forwarding_found book s t u row rules small small' found =
    let at = key_found forwarding_key (key_of s t u) book.forwardings row found in
    let in_range = each_found forwarding_key (λ (r : CallForwardingRow). forwarding_in_range r ≡ true) (key_of s t u) book.forwardings row rules.forwardings_in_range found in
    let kind = (forwarding_type row in_range).below in
    let start = (forwarding_ranges row in_range).start_time_below in
    key_parts row.s_id row.sf_type row.start_time s t u (omega arith) (omega arith) small small' at
