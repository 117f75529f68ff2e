-- The rules and the counts of a book that is joined of two.
use Rattle.tatp_actions.proofs.Common.{◌≡◌, ◌∙◌, refl, sym, ap, subst, ℕ, ◌+◌, ◌-◌, ◌*◌, ◌≤◌, ◌==◌, ◌&&◌, arith, true, ◌++◌, IsSome, nat_lt, if◌then◌else◌, AllByRecursion, sum_by, sum_by-append, each-append, ordered-append, by_test, each-weaker, each_from_two, each_both, sum_by-same, forwarding_type, subscriber_key, access_key, facility_key, forwarding_key, SubscriberRow, AccessInfoRow, SpecialFacilityRow, CallForwardingRow, subscriber_in_range, access_in_range, facility_in_range, forwarding_in_range, zone_of, area_of, Book, IsBook, IsRowsOf, IsWithin, subscriber_at, facility_at, cell, covers, has_active_facility, join_books, FIRST_AREA, FIRST_ZONE}
use Rattle.tatp_actions.specs.Cell.{active_forwardings, in_area, in_zone}
use Rattle.tatp_actions.proofs.LocalLemmas.{Apart, apart, subscriber-low, subscriber-high, facility-low, facility-high}

-- a wider range
wider : (lo hi lo' hi' s : ℕ) → lo' ≤ lo → hi ≤ hi' → IsWithin lo hi s → IsWithin lo' hi' s
wider lo hi lo' hi' s down up within = let from = within.0 in let below = within.1 in (omega arith, omega arith)

-- whether a forwarding counts as active in an hour, 1 or 0
abbrev counts : Book → ℕ → CallForwardingRow → ℕ
counts book hour row = if covers row hour && has_active_facility book row then 1 else 0

-- the rows of two ranges that meet keep the rules of a book together
module _ (lo n hi : ℕ) (low high : Book) (of_low : IsRowsOf lo n low) (of_high : IsRowsOf n hi high) where
  -- the two books are apart
  parts : Apart n low high
  parts = apart lo n hi low high of_low of_high

  access_joined : AllByRecursion (λ (row : AccessInfoRow). IsSome (subscriber_at (join_books low high) row.s_id)) (low.access ++ high.access)
  access_joined = each-append (λ (row : AccessInfoRow). IsSome (subscriber_at (join_books low high) row.s_id)) low.access high.access
      (each_from_two {P = λ (row : AccessInfoRow). IsWithin lo n row.s_id} {Q = λ (row : AccessInfoRow). IsSome (subscriber_at low row.s_id)} (λ row within found. subst IsSome (sym (subscriber-low n low high row.s_id parts within.1)) found) low.access of_low.access of_low.rules.access_have_subscriber)
      (each_from_two {P = λ (row : AccessInfoRow). IsWithin n hi row.s_id} {Q = λ (row : AccessInfoRow). IsSome (subscriber_at high row.s_id)} (λ row within found. subst IsSome (sym (subscriber-high n low high row.s_id parts within.0)) found) high.access of_high.access of_high.rules.access_have_subscriber)

  facilities_joined : AllByRecursion (λ (row : SpecialFacilityRow). IsSome (subscriber_at (join_books low high) row.s_id)) (low.facilities ++ high.facilities)
  facilities_joined = each-append (λ (row : SpecialFacilityRow). IsSome (subscriber_at (join_books low high) row.s_id)) low.facilities high.facilities
      (each_from_two {P = λ (row : SpecialFacilityRow). IsWithin lo n row.s_id} {Q = λ (row : SpecialFacilityRow). IsSome (subscriber_at low row.s_id)} (λ row within found. subst IsSome (sym (subscriber-low n low high row.s_id parts within.1)) found) low.facilities of_low.facilities of_low.rules.facilities_have_subscriber)
      (each_from_two {P = λ (row : SpecialFacilityRow). IsWithin n hi row.s_id} {Q = λ (row : SpecialFacilityRow). IsSome (subscriber_at high row.s_id)} (λ row within found. subst IsSome (sym (subscriber-high n low high row.s_id parts within.0)) found) high.facilities of_high.facilities of_high.rules.facilities_have_subscriber)

  forwardings_joined : AllByRecursion (λ (row : CallForwardingRow). IsSome (facility_at (join_books low high) row.s_id row.sf_type)) (low.forwardings ++ high.forwardings)
  forwardings_joined = each-append (λ (row : CallForwardingRow). IsSome (facility_at (join_books low high) row.s_id row.sf_type)) low.forwardings high.forwardings
      (each_from_two {P = λ (row : CallForwardingRow). IsWithin lo n row.s_id × (forwarding_in_range row ≡ true)} {Q = λ (row : CallForwardingRow). IsSome (facility_at low row.s_id row.sf_type)}
      (λ row known found. let kind = (forwarding_type row known.1).below in subst IsSome (sym (facility-low n low high row.s_id row.sf_type parts known.0.1 (omega arith))) found) low.forwardings
      (each_both (λ (row : CallForwardingRow). IsWithin lo n row.s_id) (λ (row : CallForwardingRow). forwarding_in_range row ≡ true) low.forwardings of_low.forwardings of_low.rules.forwardings_in_range) of_low.rules.forwardings_have_facility)
      (each_from_two {P = λ (row : CallForwardingRow). IsWithin n hi row.s_id} {Q = λ (row : CallForwardingRow). IsSome (facility_at high row.s_id row.sf_type)} (λ row within found. subst IsSome (sym (facility-high n low high row.s_id row.sf_type parts within.0)) found) high.forwardings of_high.forwardings of_high.rules.forwardings_have_facility)

  pub rules_joined : IsBook (join_books low high)
  rules_joined = record {
    subscribers_ordered = ordered-append subscriber_key (n * 65536) low.subscribers high.subscribers of_low.rules.subscribers_ordered of_high.rules.subscribers_ordered parts.subscribers_below parts.subscribers_from;
    access_ordered = ordered-append access_key (n * 65536) low.access high.access of_low.rules.access_ordered of_high.rules.access_ordered parts.access_below parts.access_from;
    facilities_ordered = ordered-append facility_key (n * 65536) low.facilities high.facilities of_low.rules.facilities_ordered of_high.rules.facilities_ordered parts.facilities_below parts.facilities_from;
    forwardings_ordered = ordered-append forwarding_key (n * 65536) low.forwardings high.forwardings of_low.rules.forwardings_ordered of_high.rules.forwardings_ordered parts.forwardings_below parts.forwardings_from;
    subscribers_in_range = each-append (λ (row : SubscriberRow). subscriber_in_range row ≡ true) low.subscribers high.subscribers of_low.rules.subscribers_in_range of_high.rules.subscribers_in_range;
    access_in_range = each-append (λ (row : AccessInfoRow). access_in_range row ≡ true) low.access high.access of_low.rules.access_in_range of_high.rules.access_in_range;
    facilities_in_range = each-append (λ (row : SpecialFacilityRow). facility_in_range row ≡ true) low.facilities high.facilities of_low.rules.facilities_in_range of_high.rules.facilities_in_range;
    forwardings_in_range = each-append (λ (row : CallForwardingRow). forwarding_in_range row ≡ true) low.forwardings high.forwardings of_low.rules.forwardings_in_range of_high.rules.forwardings_in_range;
    access_have_subscriber = access_joined;
    facilities_have_subscriber = facilities_joined;
    forwardings_have_facility = forwardings_joined;
  }

  pub rows_joined : lo ≤ n → n ≤ hi → IsRowsOf lo hi (join_books low high)
  rows_joined from to = record {
    rules = rules_joined;
    subscribers = each-append (λ (row : SubscriberRow). IsWithin lo hi row.s_id) low.subscribers high.subscribers (each-weaker {P = λ (row : SubscriberRow). IsWithin lo n row.s_id} (λ row within. wider lo n lo hi row.s_id (omega arith) to within) low.subscribers of_low.subscribers) (each-weaker {P = λ (row : SubscriberRow). IsWithin n hi row.s_id} (λ row within. wider n hi lo hi row.s_id from (omega arith) within) high.subscribers of_high.subscribers);
    access = each-append (λ (row : AccessInfoRow). IsWithin lo hi row.s_id) low.access high.access (each-weaker {P = λ (row : AccessInfoRow). IsWithin lo n row.s_id} (λ row within. wider lo n lo hi row.s_id (omega arith) to within) low.access of_low.access) (each-weaker {P = λ (row : AccessInfoRow). IsWithin n hi row.s_id} (λ row within. wider n hi lo hi row.s_id from (omega arith) within) high.access of_high.access);
    facilities = each-append (λ (row : SpecialFacilityRow). IsWithin lo hi row.s_id) low.facilities high.facilities (each-weaker {P = λ (row : SpecialFacilityRow). IsWithin lo n row.s_id} (λ row within. wider lo n lo hi row.s_id (omega arith) to within) low.facilities of_low.facilities) (each-weaker {P = λ (row : SpecialFacilityRow). IsWithin n hi row.s_id} (λ row within. wider n hi lo hi row.s_id from (omega arith) within) high.facilities of_high.facilities);
    forwardings = each-append (λ (row : CallForwardingRow). IsWithin lo hi row.s_id) low.forwardings high.forwardings (each-weaker {P = λ (row : CallForwardingRow). IsWithin lo n row.s_id} (λ row within. wider lo n lo hi row.s_id (omega arith) to within) low.forwardings of_low.forwardings) (each-weaker {P = λ (row : CallForwardingRow). IsWithin n hi row.s_id} (λ row within. wider n hi lo hi row.s_id from (omega arith) within) high.forwardings of_high.forwardings);
  }

  -- and the counts add up
  active_joined : (hour : ℕ) → active_forwardings hour (join_books low high) ≡ active_forwardings hour low + active_forwardings hour high
  unfolding active_forwardings
  active_joined hour =
      let both = sum_by-append (counts (join_books low high) hour) low.forwardings high.forwardings in
      let of_lows = sum_by-same (counts (join_books low high) hour) (counts low hour) low.forwardings
      (each_from_two {P = λ (row : CallForwardingRow). IsWithin lo n row.s_id} {Q = λ (row : CallForwardingRow). forwarding_in_range row ≡ true}
      (λ row within holds. let kind = (forwarding_type row holds).below in rw (facility-low n low high row.s_id row.sf_type parts within.1 (omega arith)) refl) low.forwardings of_low.forwardings of_low.rules.forwardings_in_range) in
      let of_highs = sum_by-same (counts (join_books low high) hour) (counts high hour) high.forwardings
      (each-weaker {P = λ (row : CallForwardingRow). IsWithin n hi row.s_id}
      (λ row within. rw (facility-high n low high row.s_id row.sf_type parts within.0) refl) high.forwardings of_high.forwardings) in
      both ∙ ap (λ (c : ℕ). c + sum_by (counts (join_books low high) hour) high.forwardings) of_lows ∙ ap (λ (c : ℕ). sum_by (counts low hour) low.forwardings + c) of_highs

  area_joined : (area : ℕ) → in_area area (join_books low high) ≡ in_area area low + in_area area high
  unfolding in_area
  area_joined area = sum_by-append (λ (row : SubscriberRow). if area_of row.vlr_location == area then 1 else 0) low.subscribers high.subscribers

  zone_joined : (width zone : ℕ) → in_zone width zone (join_books low high) ≡ in_zone width zone low + in_zone width zone high
  unfolding in_zone
  zone_joined width zone =
      let s = sum_by-append (λ (row : SubscriberRow). if zone_of width row.s_id == zone then 1 else 0) low.subscribers high.subscribers in
      let a = sum_by-append (λ (row : AccessInfoRow). if zone_of width row.s_id == zone then 1 else 0) low.access high.access in
      let f = sum_by-append (λ (row : SpecialFacilityRow). if zone_of width row.s_id == zone then 1 else 0) low.facilities high.facilities in
      let c = sum_by-append (λ (row : CallForwardingRow). if zone_of width row.s_id == zone then 1 else 0) low.forwardings high.forwardings in
      omega arith

  pub cell_joined : (width c : ℕ) → cell width c (join_books low high) ≡ cell width c low + cell width c high
  cell_joined width c = by_test (nat_lt c FIRST_AREA)
      (λ e. rw e (active_joined c))
      (λ e. by_test (nat_lt c FIRST_ZONE)
      (λ f. rw (e, f) (area_joined (c - FIRST_AREA)))
      (λ f. rw (e, f) (zone_joined width (c - FIRST_ZONE))))
