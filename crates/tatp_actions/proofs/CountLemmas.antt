-- A subscriber has at most 21 rows, so no cell counts more than a weight can be.
use Rattle.tatp_actions.proofs.Common.{◌≡◌, ℕ, ◌+◌, ◌-◌, ◌*◌, ◌/◌, ◌^◌, ◌<◌, ◌≤◌, ◌==◌, ◌&&◌, arith, true, List, [], ◌∷◌, length, nat_lt, ◌⊎◌, AllByRecursion, count_by-le-length, by_test, each-weaker, each_from_two, length-ordered, subscriber_ranges, access_s_id, access_type, facility_s_id, facility_type, forwarding_s_id, forwarding_type, forwarding_ranges, subscriber_key, access_key, facility_key, forwarding_key, IsOrderedBy, SubscriberRow, AccessInfoRow, SpecialFacilityRow, CallForwardingRow, subscriber_in_range, access_in_range, facility_in_range, forwarding_in_range, zone_of, area_of, Book, IsBook, IsRowsOf, cell, covers, has_active_facility, FIRST_AREA, FIRST_ZONE, LAST_SUBSCRIBER, GREATEST_WEIGHT}
use Rattle.tatp_actions.specs.Cell.{active_forwardings, in_area, in_zone}

-- a list that is ordered by key is ordered by each number that rises with the key
ordered_by_other : {X : Type 0} (P : X → Type 0) (key other : X → ℕ) → ((x y : X) → P x → P y → key x < key y → other x < other y) → (xs : List X) → AllByRecursion P xs → IsOrderedBy key xs → IsOrderedBy other xs
ordered_by_other P key other rises [] each ordered = tt
ordered_by_other P key other rises (x ∷ xs) each ordered = (
  each_from_two {P = P} {Q = λ y. key x < key y} {R = λ y. other x < other y} (λ y is over. rises x y each.0 is over) xs each.1 ordered.0,
  ordered_by_other P key other rises xs each.1 ordered.1,
)

-- so where that number lies below a bound, there are few elements
few_below : {X : Type 0} (P : X → Type 0) (key other : X → ℕ) (low high : ℕ) → ((x y : X) → P x → P y → key x < key y → other x < other y) → ((x : X) → P x → low ≤ other x) → ((x : X) → P x → other x < high)
    → (xs : List X) → AllByRecursion P xs → IsOrderedBy key xs → length xs ≤ high - low
few_below P key other low high rises from below xs each ordered =
    length-ordered other low high xs (ordered_by_other P key other rises xs each ordered)
    (each-weaker {P = P} {Q = λ x. low ≤ other x} from xs each) (each-weaker {P = P} {Q = λ x. other x < high} below xs each)

-- what the rows of a subscriber are numbered by: an access or a facility by its type, a forwarding by its type and
-- start time
typed_rises : (s t s' t' : ℕ) → 1 ≤ t → t < 5 → 1 ≤ t' → t' < 5 → s * 65536 + t * 256 + 0 < s' * 65536 + t' * 256 + 0 → s * 4 + t < s' * 4 + t'
typed_rises s t s' t' from below from' below' rises = omega arith

started_rises : (s t u s' t' u' : ℕ) → 1 ≤ t → t < 5 → 1 ≤ t' → t' < 5 → (u ≡ 0) ⊎ ((u ≡ 8) ⊎ (u ≡ 16)) → (u' ≡ 0) ⊎ ((u' ≡ 8) ⊎ (u' ≡ 16))
    → s * 65536 + t * 256 + u < s' * 65536 + t' * 256 + u' → s * 12 + t * 3 + u / 8 < s' * 12 + t' * 3 + u' / 8
started_rises s t u s' t' u' from below from' below' start start' rises = omega arith

started_small : (u : ℕ) → (u ≡ 0) ⊎ ((u ≡ 8) ⊎ (u ≡ 16)) → u / 8 < 3
started_small u start = omega arith

-- so a subscriber has one row, four accesses, four facilities and twelve forwardings at most
pub few_subscribers : (book : Book) → IsBook book → length book.subscribers ≤ 16777216
few_subscribers book rules =
    few_below (λ (row : SubscriberRow). subscriber_in_range row ≡ true) subscriber_key (λ (row : SubscriberRow). row.s_id) 1 16777217
    (λ x y is_x is_y rises. omega arith)
    (λ x is. (subscriber_ranges x is).s_id_from)
    (λ x is. (subscriber_ranges x is).s_id_below)
    book.subscribers rules.subscribers_in_range rules.subscribers_ordered

pub few_access : (book : Book) → IsBook book → length book.access ≤ 67108864
few_access book rules =
    few_below (λ (row : AccessInfoRow). access_in_range row ≡ true) access_key (λ (row : AccessInfoRow). row.s_id * 4 + row.ai_type) 5 67108869
    (λ x y is_x is_y rises. (let t = access_type x is_x in let t' = access_type y is_y in typed_rises x.s_id x.ai_type y.s_id y.ai_type t.from t.below t'.from t'.below rises))
    (λ x is. (let s = access_s_id x is in let t = access_type x is in omega arith))
    (λ x is. (let s = access_s_id x is in let t = access_type x is in omega arith))
    book.access rules.access_in_range rules.access_ordered

pub few_facilities : (book : Book) → IsBook book → length book.facilities ≤ 67108864
few_facilities book rules =
    few_below (λ (row : SpecialFacilityRow). facility_in_range row ≡ true) facility_key (λ (row : SpecialFacilityRow). row.s_id * 4 + row.sf_type) 5 67108869
    (λ x y is_x is_y rises. (let t = facility_type x is_x in let t' = facility_type y is_y in typed_rises x.s_id x.sf_type y.s_id y.sf_type t.from t.below t'.from t'.below rises))
    (λ x is. (let s = facility_s_id x is in let t = facility_type x is in omega arith))
    (λ x is. (let s = facility_s_id x is in let t = facility_type x is in omega arith))
    book.facilities rules.facilities_in_range rules.facilities_ordered

pub few_forwardings : (book : Book) → IsBook book → length book.forwardings ≤ 201326592
few_forwardings book rules =
    few_below (λ (row : CallForwardingRow). forwarding_in_range row ≡ true) forwarding_key (λ (row : CallForwardingRow). row.s_id * 12 + row.sf_type * 3 + row.start_time / 8) 15 201326607
    (λ x y is_x is_y rises. (let t = forwarding_type x is_x in let t' = forwarding_type y is_y in
    started_rises x.s_id x.sf_type x.start_time y.s_id y.sf_type y.start_time t.from t.below t'.from t'.below (forwarding_ranges x is_x).start_time_is (forwarding_ranges y is_y).start_time_is rises))
    (λ x is. (let s = forwarding_s_id x is in let t = forwarding_type x is in omega arith))
    (λ x is. (let s = forwarding_s_id x is in let t = forwarding_type x is in let u = started_small x.start_time (forwarding_ranges x is).start_time_is in omega arith))
    book.forwardings rules.forwardings_in_range rules.forwardings_ordered

-- the counts of each kind
few_active : (hour : ℕ) (book : Book) → IsBook book → active_forwardings hour book ≤ GREATEST_WEIGHT
unfolding active_forwardings
few_active hour book rules =
    omega (arith, few_forwardings book rules, count_by-le-length (λ (row : CallForwardingRow). covers row hour && has_active_facility book row) book.forwardings)

few_in_area : (area : ℕ) (book : Book) → IsBook book → in_area area book ≤ GREATEST_WEIGHT
unfolding in_area
few_in_area area book rules =
    omega (arith, few_subscribers book rules, count_by-le-length (λ (row : SubscriberRow). area_of row.vlr_location == area) book.subscribers)

few_in_zone : (width zone : ℕ) (book : Book) → IsBook book → in_zone width zone book ≤ GREATEST_WEIGHT
unfolding in_zone
few_in_zone width zone book rules =
    let s = count_by-le-length (λ (row : SubscriberRow). zone_of width row.s_id == zone) book.subscribers in
    let a = count_by-le-length (λ (row : AccessInfoRow). zone_of width row.s_id == zone) book.access in
    let f = count_by-le-length (λ (row : SpecialFacilityRow). zone_of width row.s_id == zone) book.facilities in
    let c = count_by-le-length (λ (row : CallForwardingRow). zone_of width row.s_id == zone) book.forwardings in
    omega (arith, few_subscribers book rules, few_access book rules, few_facilities book rules, few_forwardings book rules)

-- no count of a cell passes the greatest weight
pub few_in_weight : (width c : ℕ) (book : Book) → IsBook book → cell width c book ≤ GREATEST_WEIGHT
few_in_weight width c book rules = by_test (nat_lt c FIRST_AREA)
    (λ e. rw e (few_active c book rules))
    (λ e. by_test (nat_lt c FIRST_ZONE)
    (λ f. rw (e, f) (few_in_area (c - FIRST_AREA) book rules))
    (λ f. rw (e, f) (few_in_zone width (c - FIRST_ZONE) book rules)))

-- so no count of a cell over the rows of a range passes 2^40
pub few_cells : (lo hi width c : ℕ) (book : Book) → IsRowsOf lo hi book → hi ≤ LAST_SUBSCRIBER + 1 → cell width c book ≤ 2 ^ 40
few_cells lo hi width c book rows bound = omega (arith, few_in_weight width c book rows.rules)
