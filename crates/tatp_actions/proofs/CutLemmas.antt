-- A book cut between two subscribers: its two halves, and the counts of each.
use Rattle.tatp_actions.proofs.Common.{◌≡◌, ◌∙◌, sym, ap, subst, ℕ, ◌+◌, ◌*◌, ◌<◌, ◌≤◌, arith, true, List, IsSome, AllByRecursion, each-left, each-right, ordered-left, ordered-right, below_each, from_each, halves_joined, key_below_is, key_from_is, each-weaker, each_from_two, each_both, access_type, facility_type, forwarding_type, forwarding_ranges, subscriber_key, access_key, facility_key, forwarding_key, SubscriberRow, AccessInfoRow, SpecialFacilityRow, CallForwardingRow, subscriber_in_range, access_in_range, facility_in_range, forwarding_in_range, Book, IsBook, IsRowsOf, IsWithin, subscriber_at, facility_at, cell, join_books, cut_low, cut_high}
use Rattle.tatp_actions.proofs.JoinedLemmas.{cell_joined}
use Rattle.tatp_actions.proofs.LocalLemmas.{Apart, subscriber-low, subscriber-high, facility-low, facility-high}

-- a book is known by its four tables
pub same_tables : {s s' : List SubscriberRow} {a a' : List AccessInfoRow} {f f' : List SpecialFacilityRow} {c c' : List CallForwardingRow} → s ≡ s' → a ≡ a' → f ≡ f' → c ≡ c'
    → ◌≡◌ {A = Book} (record { subscribers = s; access = a; facilities = f; forwardings = c }) (record { subscribers = s'; access = a'; facilities = f'; forwardings = c' })
same_tables es ea ef ec = cc

-- the two halves of a book are apart, and joined they are the book
pub cut_apart : (n : ℕ) (book : Book) → Apart n (cut_low n book) (cut_high n book)
cut_apart n book = record {
  subscribers_below = below_each subscriber_key (n * 65536) book.subscribers;
  access_below = below_each access_key (n * 65536) book.access;
  facilities_below = below_each facility_key (n * 65536) book.facilities;
  forwardings_below = below_each forwarding_key (n * 65536) book.forwardings;
  subscribers_from = from_each subscriber_key (n * 65536) book.subscribers;
  access_from = from_each access_key (n * 65536) book.access;
  facilities_from = from_each facility_key (n * 65536) book.facilities;
  forwardings_from = from_each forwarding_key (n * 65536) book.forwardings;
}

pub cut_joined : (n : ℕ) (book : Book) → IsBook book → join_books (cut_low n book) (cut_high n book) ≡ book
cut_joined n book rules = same_tables
    (halves_joined subscriber_key (n * 65536) book.subscribers rules.subscribers_ordered)
    (halves_joined access_key (n * 65536) book.access rules.access_ordered)
    (halves_joined facility_key (n * 65536) book.facilities rules.facilities_ordered)
    (halves_joined forwarding_key (n * 65536) book.forwardings rules.forwardings_ordered)

-- each of two books that are apart keeps the rules that their join keeps, in its part of the range
module _ (lo n hi : ℕ) (low high : Book) (parts : Apart n low high) (rows : IsRowsOf lo hi (join_books low high)) where
  pub low_rows : IsRowsOf lo n low
  low_rows = record {
    rules = record {
      subscribers_ordered = ordered-left subscriber_key low.subscribers high.subscribers rows.rules.subscribers_ordered;
      access_ordered = ordered-left access_key low.access high.access rows.rules.access_ordered;
      facilities_ordered = ordered-left facility_key low.facilities high.facilities rows.rules.facilities_ordered;
      forwardings_ordered = ordered-left forwarding_key low.forwardings high.forwardings rows.rules.forwardings_ordered;
      subscribers_in_range = each-left (λ (row : SubscriberRow). subscriber_in_range row ≡ true) low.subscribers high.subscribers rows.rules.subscribers_in_range;
      access_in_range = each-left (λ (row : AccessInfoRow). access_in_range row ≡ true) low.access high.access rows.rules.access_in_range;
      facilities_in_range = each-left (λ (row : SpecialFacilityRow). facility_in_range row ≡ true) low.facilities high.facilities rows.rules.facilities_in_range;
      forwardings_in_range = in_range;
      access_have_subscriber = each_from_two {P = λ (row : AccessInfoRow). access_key row < n * 65536} {Q = λ (row : AccessInfoRow). IsSome (subscriber_at (join_books low high) row.s_id)}
          (λ row below found. subst IsSome (subscriber-low n low high row.s_id parts (key_below_is n row.s_id row.ai_type 0 below)) found) low.access parts.access_below
          (each-left (λ (row : AccessInfoRow). IsSome (subscriber_at (join_books low high) row.s_id)) low.access high.access rows.rules.access_have_subscriber);
      facilities_have_subscriber = each_from_two {P = λ (row : SpecialFacilityRow). facility_key row < n * 65536} {Q = λ (row : SpecialFacilityRow). IsSome (subscriber_at (join_books low high) row.s_id)}
          (λ row below found. subst IsSome (subscriber-low n low high row.s_id parts (key_below_is n row.s_id row.sf_type 0 below)) found) low.facilities parts.facilities_below
          (each-left (λ (row : SpecialFacilityRow). IsSome (subscriber_at (join_books low high) row.s_id)) low.facilities high.facilities rows.rules.facilities_have_subscriber);
      forwardings_have_facility = each_from_two {P = λ (row : CallForwardingRow). (forwarding_key row < n * 65536) × (forwarding_in_range row ≡ true)} {Q = λ (row : CallForwardingRow). IsSome (facility_at (join_books low high) row.s_id row.sf_type)}
          (λ row known found. let kind = (forwarding_type row known.1).below in subst IsSome (facility-low n low high row.s_id row.sf_type parts (key_below_is n row.s_id row.sf_type row.start_time known.0) (omega arith)) found) low.forwardings
          (each_both (λ (row : CallForwardingRow). forwarding_key row < n * 65536) (λ (row : CallForwardingRow). forwarding_in_range row ≡ true) low.forwardings parts.forwardings_below in_range)
          (each-left (λ (row : CallForwardingRow). IsSome (facility_at (join_books low high) row.s_id row.sf_type)) low.forwardings high.forwardings rows.rules.forwardings_have_facility);
    };
    subscribers = each_from_two {P = λ (row : SubscriberRow). subscriber_key row < n * 65536} {Q = λ (row : SubscriberRow). IsWithin lo hi row.s_id} (λ row below within. (within.0, key_below_is n row.s_id 0 0 below)) low.subscribers parts.subscribers_below (each-left (λ (row : SubscriberRow). IsWithin lo hi row.s_id) low.subscribers high.subscribers rows.subscribers);
    access = each_from_two {P = λ (row : AccessInfoRow). access_key row < n * 65536} {Q = λ (row : AccessInfoRow). IsWithin lo hi row.s_id} (λ row below within. (within.0, key_below_is n row.s_id row.ai_type 0 below)) low.access parts.access_below (each-left (λ (row : AccessInfoRow). IsWithin lo hi row.s_id) low.access high.access rows.access);
    facilities = each_from_two {P = λ (row : SpecialFacilityRow). facility_key row < n * 65536} {Q = λ (row : SpecialFacilityRow). IsWithin lo hi row.s_id} (λ row below within. (within.0, key_below_is n row.s_id row.sf_type 0 below)) low.facilities parts.facilities_below (each-left (λ (row : SpecialFacilityRow). IsWithin lo hi row.s_id) low.facilities high.facilities rows.facilities);
    forwardings = each_from_two {P = λ (row : CallForwardingRow). forwarding_key row < n * 65536} {Q = λ (row : CallForwardingRow). IsWithin lo hi row.s_id} (λ row below within. (within.0, key_below_is n row.s_id row.sf_type row.start_time below)) low.forwardings parts.forwardings_below (each-left (λ (row : CallForwardingRow). IsWithin lo hi row.s_id) low.forwardings high.forwardings rows.forwardings);
  }
    where
      in_range : AllByRecursion (λ (row : CallForwardingRow). forwarding_in_range row ≡ true) low.forwardings
      in_range = each-left (λ (row : CallForwardingRow). forwarding_in_range row ≡ true) low.forwardings high.forwardings rows.rules.forwardings_in_range

  -- the ranges of the rows of the high book
  access_in : AllByRecursion (λ (row : AccessInfoRow). access_in_range row ≡ true) high.access
  access_in = each-right (λ (row : AccessInfoRow). access_in_range row ≡ true) low.access high.access rows.rules.access_in_range

  facilities_in : AllByRecursion (λ (row : SpecialFacilityRow). facility_in_range row ≡ true) high.facilities
  facilities_in = each-right (λ (row : SpecialFacilityRow). facility_in_range row ≡ true) low.facilities high.facilities rows.rules.facilities_in_range

  forwardings_in : AllByRecursion (λ (row : CallForwardingRow). forwarding_in_range row ≡ true) high.forwardings
  forwardings_in = each-right (λ (row : CallForwardingRow). forwarding_in_range row ≡ true) low.forwardings high.forwardings rows.rules.forwardings_in_range

  -- so its subscribers lie from n on
  subscribers_over : AllByRecursion (λ (row : SubscriberRow). n ≤ row.s_id) high.subscribers
  subscribers_over = each-weaker {P = λ (row : SubscriberRow). n * 65536 ≤ subscriber_key row} (λ row from. key_from_is n row.s_id 0 0 (omega arith) (omega arith) from) high.subscribers parts.subscribers_from

  access_over : AllByRecursion (λ (row : AccessInfoRow). n ≤ row.s_id) high.access
  access_over = each_from_two {P = λ (row : AccessInfoRow). n * 65536 ≤ access_key row} {Q = λ (row : AccessInfoRow). access_in_range row ≡ true}
      (λ row from holds. let kind = (access_type row holds).below in key_from_is n row.s_id row.ai_type 0 (omega arith) (omega arith) from) high.access parts.access_from access_in

  facilities_over : AllByRecursion (λ (row : SpecialFacilityRow). n ≤ row.s_id) high.facilities
  facilities_over = each_from_two {P = λ (row : SpecialFacilityRow). n * 65536 ≤ facility_key row} {Q = λ (row : SpecialFacilityRow). facility_in_range row ≡ true}
      (λ row from holds. let kind = (facility_type row holds).below in key_from_is n row.s_id row.sf_type 0 (omega arith) (omega arith) from) high.facilities parts.facilities_from facilities_in

  forwardings_over : AllByRecursion (λ (row : CallForwardingRow). n ≤ row.s_id) high.forwardings
  forwardings_over = each_from_two {P = λ (row : CallForwardingRow). n * 65536 ≤ forwarding_key row} {Q = λ (row : CallForwardingRow). forwarding_in_range row ≡ true}
      (λ row from holds. let kind = (forwarding_type row holds).below in let start = (forwarding_ranges row holds).start_time_below in key_from_is n row.s_id row.sf_type row.start_time (omega arith) (omega arith) from) high.forwardings parts.forwardings_from forwardings_in

  pub high_rows : IsRowsOf n hi high
  high_rows = record {
    rules = record {
      subscribers_ordered = ordered-right subscriber_key low.subscribers high.subscribers rows.rules.subscribers_ordered;
      access_ordered = ordered-right access_key low.access high.access rows.rules.access_ordered;
      facilities_ordered = ordered-right facility_key low.facilities high.facilities rows.rules.facilities_ordered;
      forwardings_ordered = ordered-right forwarding_key low.forwardings high.forwardings rows.rules.forwardings_ordered;
      subscribers_in_range = each-right (λ (row : SubscriberRow). subscriber_in_range row ≡ true) low.subscribers high.subscribers rows.rules.subscribers_in_range;
      access_in_range = access_in;
      facilities_in_range = facilities_in;
      forwardings_in_range = forwardings_in;
      access_have_subscriber = each_from_two {P = λ (row : AccessInfoRow). n ≤ row.s_id} {Q = λ (row : AccessInfoRow). IsSome (subscriber_at (join_books low high) row.s_id)}
          (λ row over found. subst IsSome (subscriber-high n low high row.s_id parts over) found) high.access access_over
          (each-right (λ (row : AccessInfoRow). IsSome (subscriber_at (join_books low high) row.s_id)) low.access high.access rows.rules.access_have_subscriber);
      facilities_have_subscriber = each_from_two {P = λ (row : SpecialFacilityRow). n ≤ row.s_id} {Q = λ (row : SpecialFacilityRow). IsSome (subscriber_at (join_books low high) row.s_id)}
          (λ row over found. subst IsSome (subscriber-high n low high row.s_id parts over) found) high.facilities facilities_over
          (each-right (λ (row : SpecialFacilityRow). IsSome (subscriber_at (join_books low high) row.s_id)) low.facilities high.facilities rows.rules.facilities_have_subscriber);
      forwardings_have_facility = each_from_two {P = λ (row : CallForwardingRow). n ≤ row.s_id} {Q = λ (row : CallForwardingRow). IsSome (facility_at (join_books low high) row.s_id row.sf_type)}
          (λ row over found. subst IsSome (facility-high n low high row.s_id row.sf_type parts over) found) high.forwardings forwardings_over
          (each-right (λ (row : CallForwardingRow). IsSome (facility_at (join_books low high) row.s_id row.sf_type)) low.forwardings high.forwardings rows.rules.forwardings_have_facility);
    };
    subscribers = each_from_two {P = λ (row : SubscriberRow). n ≤ row.s_id} {Q = λ (row : SubscriberRow). IsWithin lo hi row.s_id} (λ row over within. (over, within.1)) high.subscribers subscribers_over (each-right (λ (row : SubscriberRow). IsWithin lo hi row.s_id) low.subscribers high.subscribers rows.subscribers);
    access = each_from_two {P = λ (row : AccessInfoRow). n ≤ row.s_id} {Q = λ (row : AccessInfoRow). IsWithin lo hi row.s_id} (λ row over within. (over, within.1)) high.access access_over (each-right (λ (row : AccessInfoRow). IsWithin lo hi row.s_id) low.access high.access rows.access);
    facilities = each_from_two {P = λ (row : SpecialFacilityRow). n ≤ row.s_id} {Q = λ (row : SpecialFacilityRow). IsWithin lo hi row.s_id} (λ row over within. (over, within.1)) high.facilities facilities_over (each-right (λ (row : SpecialFacilityRow). IsWithin lo hi row.s_id) low.facilities high.facilities rows.facilities);
    forwardings = each_from_two {P = λ (row : CallForwardingRow). n ≤ row.s_id} {Q = λ (row : CallForwardingRow). IsWithin lo hi row.s_id} (λ row over within. (over, within.1)) high.forwardings forwardings_over (each-right (λ (row : CallForwardingRow). IsWithin lo hi row.s_id) low.forwardings high.forwardings rows.forwardings);
  }

-- the halves of a book keep the rules, each in its part of the range
pub cut_low_rows : (lo n hi : ℕ) (book : Book) → IsRowsOf lo hi book → IsRowsOf lo n (cut_low n book)
cut_low_rows lo n hi book rows = low_rows lo n hi (cut_low n book) (cut_high n book) (cut_apart n book) (subst (IsRowsOf lo hi) (sym (cut_joined n book rows.rules)) rows)

pub cut_high_rows : (lo n hi : ℕ) (book : Book) → IsRowsOf lo hi book → IsRowsOf n hi (cut_high n book)
cut_high_rows lo n hi book rows = high_rows lo n hi (cut_low n book) (cut_high n book) (cut_apart n book) (subst (IsRowsOf lo hi) (sym (cut_joined n book rows.rules)) rows)

-- and the count of each cell is divided between them
pub cell_cut : (lo n hi width c : ℕ) (book : Book) → IsRowsOf lo hi book → cell width c book ≡ cell width c (cut_low n book) + cell width c (cut_high n book)
cell_cut lo n hi width c book rows =
    ap (λ (b : Book). cell width c b) (sym (cut_joined n book rows.rules))
    ∙ cell_joined lo n hi (cut_low n book) (cut_high n book) (cut_low_rows lo n hi book rows) (cut_high_rows lo n hi book rows) width c
