-- Stored tables that are cut or joined: which books they are, and the rules of their parts.
use Rattle.tatp_actions.proofs.Common.{◌≡◌, ◌∙◌, refl, sym, ap, subst, ℕ, ◌*◌, ◌<◌, ◌≤◌, ◌==◌, arith, Bool, true, false, List, [], ◌∷◌, ◌++◌, length, nat_lt, nat_le, AllByRecursion, filter, nat_tests, length-map, map-append, rows_below, rows_from, AreApart, AreGroupsApart, IsBase, facility_span, subscriber_span, IsHeightOf, IsHeightOfGroups, Low, High, each-append, each-unmap, by_test, each_from_two, key_of, subscriber_key, access_key, facility_key, forwarding_key, SubscriberRow, AccessInfoRow, SpecialFacilityRow, CallForwardingRow, AllBelow, AllFrom, keys_below, keys_from, IsRowsOf, empty_book, AreHeightsOf, low_part, high_part, melded, TablesApartAt, tables_of, heights_of, Heights, zero_heights, join_books, cut_low, cut_high, PartState, IsWidth, Tables, AreKeyed, IsKeyed, empty_tables, stored_book, values_of, Trees}
use Rattle.tatp_actions.proofs.CutLemmas.{same_tables, cut_low_rows, cut_high_rows}
use Rattle.tatp_actions.proofs.JoinedLemmas.{rows_joined}
use Rattle.tatp_actions.proofs.LocalLemmas.{apart}
use Rattle.tatp_actions.proofs.StoredLemmas.{part_of, Holds}

-- the pairs of the four tables with keys below the key
abbrev pub tables_below : ℕ → Tables → Tables
tables_below key tables = record {
  subscribers = rows_below key tables.subscribers;
  access = rows_below key tables.access;
  facilities = rows_below key tables.facilities;
  forwardings = rows_below key tables.forwardings;
}

-- and those with keys from the key on
abbrev pub tables_from : ℕ → Tables → Tables
tables_from key tables = record {
  subscribers = rows_from key tables.subscribers;
  access = rows_from key tables.access;
  facilities = rows_from key tables.facilities;
  forwardings = rows_from key tables.forwardings;
}

-- there is a key in each table that parts the low pairs from the high ones
pub record TablesApart (low high : Tables) : Type 0 where
  pub subscribers : AreApart low.subscribers high.subscribers
  pub access : AreGroupsApart subscriber_span low.access high.access
  pub facilities : AreGroupsApart subscriber_span low.facilities high.facilities
  pub forwardings : AreGroupsApart facility_span low.forwardings high.forwardings

-- the pairs of both, table by table
abbrev pub join_tables : Tables → Tables → Tables
join_tables low high = record {
  subscribers = low.subscribers ++ high.subscribers;
  access = low.access ++ high.access;
  facilities = low.facilities ++ high.facilities;
  forwardings = low.forwardings ++ high.forwardings;
}

-- what holds of each element holds of each that a filter keeps
each-filter : {X : Type 0} (P : X → Type 0) (test : X → Bool) (xs : List X) → AllByRecursion P xs → AllByRecursion P (filter test xs)
each-filter P test [] each = tt
each-filter P test (x ∷ xs) each = by_test (test x)
    (λ e. rw e (each.0, each-filter P test xs each.1))
    (λ e. rw e (each-filter P test xs each.1))

module _ {X : Type 0} (key : X → ℕ) where
  -- the rows of the pairs on one side of a key are the rows on that side of it
  values_below : (k : ℕ) (pairs : List (ℕ × X)) → IsKeyed key pairs → values_of (rows_below k pairs) ≡ keys_below key k (values_of pairs)
  values_below k [] keyed = refl
  values_below k (pair ∷ pairs) keyed = by_test (nat_lt pair.0 k)
      (λ e. let f = rw keyed.0 at e in rw (e, f) (ap (λ (rows : List X). pair.1 ∷ rows) (values_below k pairs keyed.1)))
      (λ e. let f = rw keyed.0 at e in rw (e, f) (values_below k pairs keyed.1))

  values_from : (k : ℕ) (pairs : List (ℕ × X)) → IsKeyed key pairs → values_of (rows_from k pairs) ≡ keys_from key k (values_of pairs)
  values_from k [] keyed = refl
  values_from k (pair ∷ pairs) keyed = by_test (nat_le k pair.0)
      (λ e. let f = rw keyed.0 at e in rw (e, f) (ap (λ (rows : List X). pair.1 ∷ rows) (values_from k pairs keyed.1)))
      (λ e. let f = rw keyed.0 at e in rw (e, f) (values_from k pairs keyed.1))

  -- pairs whose rows a key parts
  pairs_apart : (k : ℕ) (low high : List (ℕ × X)) → IsKeyed key low → IsKeyed key high → AllBelow key k (values_of low) → AllFrom key k (values_of high) → AreApart low high
  pairs_apart k low high low_keyed high_keyed below from = (
    k,
    each_from_two {P = λ (p : ℕ × X). p.0 ≡ key p.1} {Q = λ (p : ℕ × X). key p.1 < k} (λ p same under. omega arith) low low_keyed (each-unmap (λ (p : ℕ × X). p.1) (λ (row : X). key row < k) low below),
    each_from_two {P = λ (p : ℕ × X). p.0 ≡ key p.1} {Q = λ (p : ℕ × X). k ≤ key p.1} (λ p same over. omega arith) high high_keyed (each-unmap (λ (p : ℕ × X). p.1) (λ (row : X). k ≤ key row) high from),
  )

  -- or a key at which a group may begin
  groups_apart : (span k : ℕ) (low high : List (ℕ × X)) → IsBase span k → IsKeyed key low → IsKeyed key high → AllBelow key k (values_of low) → AllFrom key k (values_of high) → AreGroupsApart span low high
  unfolding pairs_apart
  groups_apart span k low high base low_keyed high_keyed below from = let apart = pairs_apart k low high low_keyed high_keyed below from in (k, base, apart.1, apart.2)

-- the rows of a subscriber begin at a key at which groups of each kind may begin
subscriber_base : (n : ℕ) → IsBase subscriber_span (n * 65536)
subscriber_base n = omega arith

facility_base : (n : ℕ) → IsBase facility_span (n * 65536)
facility_base n = omega arith

-- a subscriber's key lies between two subscribers
pub base_of_subscriber : (key s : ℕ) → key ≡ key_of s 0 0 → IsBase subscriber_span key
base_of_subscriber key s is = omega arith

-- the books of the halves of tables
below_book : (n : ℕ) (tables : Tables) → AreKeyed tables → stored_book (tables_below (n * 65536) tables) ≡ cut_low n (stored_book tables)
below_book n tables keyed = same_tables
    (values_below subscriber_key (n * 65536) tables.subscribers keyed.subscribers)
    (values_below access_key (n * 65536) tables.access keyed.access)
    (values_below facility_key (n * 65536) tables.facilities keyed.facilities)
    (values_below forwarding_key (n * 65536) tables.forwardings keyed.forwardings)

from_book : (n : ℕ) (tables : Tables) → AreKeyed tables → stored_book (tables_from (n * 65536) tables) ≡ cut_high n (stored_book tables)
from_book n tables keyed = same_tables
    (values_from subscriber_key (n * 65536) tables.subscribers keyed.subscribers)
    (values_from access_key (n * 65536) tables.access keyed.access)
    (values_from facility_key (n * 65536) tables.facilities keyed.facilities)
    (values_from forwarding_key (n * 65536) tables.forwardings keyed.forwardings)

-- and their rows stand at their keys
below_keyed : (k : ℕ) (tables : Tables) → AreKeyed tables → AreKeyed (tables_below k tables)
below_keyed k tables keyed = record {
  subscribers = each-filter (λ (p : ℕ × SubscriberRow). p.0 ≡ subscriber_key p.1) (λ p. nat_lt p.0 k) tables.subscribers keyed.subscribers;
  access = each-filter (λ (p : ℕ × AccessInfoRow). p.0 ≡ access_key p.1) (λ p. nat_lt p.0 k) tables.access keyed.access;
  facilities = each-filter (λ (p : ℕ × SpecialFacilityRow). p.0 ≡ facility_key p.1) (λ p. nat_lt p.0 k) tables.facilities keyed.facilities;
  forwardings = each-filter (λ (p : ℕ × CallForwardingRow). p.0 ≡ forwarding_key p.1) (λ p. nat_lt p.0 k) tables.forwardings keyed.forwardings;
}

from_keyed : (k : ℕ) (tables : Tables) → AreKeyed tables → AreKeyed (tables_from k tables)
from_keyed k tables keyed = record {
  subscribers = each-filter (λ (p : ℕ × SubscriberRow). p.0 ≡ subscriber_key p.1) (λ p. nat_le k p.0) tables.subscribers keyed.subscribers;
  access = each-filter (λ (p : ℕ × AccessInfoRow). p.0 ≡ access_key p.1) (λ p. nat_le k p.0) tables.access keyed.access;
  facilities = each-filter (λ (p : ℕ × SpecialFacilityRow). p.0 ≡ facility_key p.1) (λ p. nat_le k p.0) tables.facilities keyed.facilities;
  forwardings = each-filter (λ (p : ℕ × CallForwardingRow). p.0 ≡ forwarding_key p.1) (λ p. nat_le k p.0) tables.forwardings keyed.forwardings;
}

-- a part that is cut at a subscriber of its range
module _ {h : Heights} (tables half : Tables) (asked lo hi width steps at key : ℕ) (part : PartState)
    (is : part_of tables asked lo hi width steps h ≡ part) (holds : Holds tables asked lo hi width steps h)
    (inside : (part.lo < at) × (at < part.hi)) (border : key ≡ key_of at 0 0) where
  border_is : key ≡ at * 65536
  border_is = omega arith

  inside_is : (lo < at) × (at < hi)
  inside_is = rw (← is) at inside

  -- its low half
  module _ (low : half ≡ tables_below key tables) where
    low_book : stored_book half ≡ cut_low at (stored_book tables)
    low_book = ap stored_book (low ∙ ap (λ (k : ℕ). tables_below k tables) border_is) ∙ below_book at tables holds.1

    pub low_is : {k : Heights} (n n' s : ℕ) → n ≡ n'
        → part_of half n lo at width s k ≡ record (low_part at part) { asked = n'; steps = s; heights = k }
    low_is n n' s same = rw (← is, low_book, same) refl

    pub low_holds : {k : Heights} (n s : ℕ) → Holds half n lo at width s k
    low_holds n s =
        let from = inside_is.0 in
        let under = inside_is.1 in
        let end = holds.0.range.2 in (
          record {
            range = (holds.0.range.0, from, omega arith);
            width = holds.0.width;
            rows = subst (IsRowsOf lo at) (sym low_book) (cut_low_rows lo at hi (stored_book tables) holds.0.rows);
          },
          subst AreKeyed (sym low) (below_keyed key tables holds.1),
        )

  -- its high half
  module _ (high : half ≡ tables_from key tables) where
    high_book : stored_book half ≡ cut_high at (stored_book tables)
    high_book = ap stored_book (high ∙ ap (λ (k : ℕ). tables_from k tables) border_is) ∙ from_book at tables holds.1

    pub high_is : {k : Heights} (n n' s : ℕ) → n ≡ n'
        → part_of half n at hi width s k ≡ record (high_part at part) { asked = n'; steps = s; heights = k }
    high_is n n' s same = rw (← is, high_book, same) refl

    pub high_holds : {k : Heights} (n s : ℕ) → Holds half n at hi width s k
    high_holds n s =
        let from = inside_is.0 in
        let under = inside_is.1 in
        let start = holds.0.range.0 in (
          record {
            range = (omega arith, under, holds.0.range.2);
            width = holds.0.width;
            rows = subst (IsRowsOf at hi) (sym high_book) (cut_high_rows lo at hi (stored_book tables) holds.0.rows);
          },
          subst AreKeyed (sym high) (from_keyed key tables holds.1),
        )

-- joined tables: the book, and that each row stands at its key
join_book : (low high : Tables) → stored_book (join_tables low high) ≡ join_books (stored_book low) (stored_book high)
join_book low high = same_tables
    (map-append (λ (p : ℕ × SubscriberRow). p.1) low.subscribers high.subscribers)
    (map-append (λ (p : ℕ × AccessInfoRow). p.1) low.access high.access)
    (map-append (λ (p : ℕ × SpecialFacilityRow). p.1) low.facilities high.facilities)
    (map-append (λ (p : ℕ × CallForwardingRow). p.1) low.forwardings high.forwardings)

join_keyed : (low high : Tables) → AreKeyed low → AreKeyed high → AreKeyed (join_tables low high)
join_keyed low high of_low of_high = record {
  subscribers = each-append (λ (p : ℕ × SubscriberRow). p.0 ≡ subscriber_key p.1) low.subscribers high.subscribers of_low.subscribers of_high.subscribers;
  access = each-append (λ (p : ℕ × AccessInfoRow). p.0 ≡ access_key p.1) low.access high.access of_low.access of_high.access;
  facilities = each-append (λ (p : ℕ × SpecialFacilityRow). p.0 ≡ facility_key p.1) low.facilities high.facilities of_low.facilities of_high.facilities;
  forwardings = each-append (λ (p : ℕ × CallForwardingRow). p.0 ≡ forwarding_key p.1) low.forwardings high.forwardings of_low.forwardings of_high.forwardings;
}

-- two parts of which the high one begins where the low one ends
module _ {h h' : Heights} (low high : Tables) (asked lo n width steps asked' n' hi width' steps' : ℕ)
    (of_low : Holds low asked lo n width steps h) (of_high : Holds high asked' n' hi width' steps' h')
    (touch : n ≡ n') where
  high_rows : IsRowsOf n hi (stored_book high)
  high_rows = subst (λ (border : ℕ). IsRowsOf border hi (stored_book high)) (sym touch) of_high.0.rows

  -- a key parts their tables
  pub tables_apart : TablesApart low high
  tables_apart =
      let parts = apart lo n hi (stored_book low) (stored_book high) of_low.0.rows high_rows in
      record {
        subscribers = pairs_apart subscriber_key (n * 65536) low.subscribers high.subscribers of_low.1.subscribers of_high.1.subscribers parts.subscribers_below parts.subscribers_from;
        access = groups_apart access_key subscriber_span (n * 65536) low.access high.access (subscriber_base n) of_low.1.access of_high.1.access parts.access_below parts.access_from;
        facilities = groups_apart facility_key subscriber_span (n * 65536) low.facilities high.facilities (subscriber_base n) of_low.1.facilities of_high.1.facilities parts.facilities_below parts.facilities_from;
        forwardings = groups_apart forwarding_key facility_span (n * 65536) low.forwardings high.forwardings (facility_base n) of_low.1.forwardings of_high.1.forwardings parts.forwardings_below parts.forwardings_from;
      }

  -- and joined they keep the rules of a part
  pub joined_holds : {k : Heights} (whole : Tables) (m w s : ℕ) → whole ≡ join_tables low high → IsWidth w
      → Holds whole m lo hi w s k
  joined_holds whole m w s is wide =
      let book = ap stored_book is ∙ join_book low high in
      let under = of_low.0.range.1 in
      let over = of_high.0.range.1 in (
        record {
          range = (of_low.0.range.0, omega arith, of_high.0.range.2);
          width = wide;
          rows = subst (IsRowsOf lo hi) (sym book) (rows_joined lo n hi (stored_book low) (stored_book high) of_low.0.rows high_rows (omega arith) (omega arith));
        },
        subst AreKeyed (sym is) (join_keyed low high of_low.1 of_high.1),
      )

-- two parts that touch, whose tables were joined: the one that is kept is the low one, or the high one
module _ {h h' : Heights} (mine other whole : Tables) (asked lo hi width steps asked' lo' hi' width' steps' : ℕ)
    (part given : PartState) (is : part_of mine asked lo hi width steps h ≡ part)
    (given_is : part_of other asked' lo' hi' width' steps' h' ≡ given) where
  pub melded_low : {k : Heights} → whole ≡ join_tables mine other → hi ≡ lo' → (n s : ℕ) → n ≡ asked
      → part_of whole n lo hi' width s k ≡ record (melded part given) { steps = s; heights = k }
  melded_low joined touch n s same =
      let ends : (hi == lo') ≡ true = grind (arith, nat_tests) in
      rw (← is, ← given_is, ap stored_book joined ∙ join_book mine other, same, ends) refl

  pub melded_high : {k : Heights} → whole ≡ join_tables other mine → (hi ≡ lo' → ⊥) → (n s : ℕ) → n ≡ asked
      → part_of whole n lo' hi width s k ≡ record (melded part given) { steps = s; heights = k }
  melded_high joined other_way n s same =
      let begins : (hi == lo') ≡ false = grind (arith, nat_tests) in
      rw (← is, ← given_is, ap stored_book joined ∙ join_book other mine, same, begins) refl

-- tables that a key parts, seen from either side
pub apart_behind : (low high : Tables) → TablesApart low high → TablesApartAt High low high
apart_behind low high apart = record { subscribers = apart.subscribers; access = apart.access; facilities = apart.facilities; forwardings = apart.forwardings }

pub apart_before : (low high : Tables) → TablesApart low high → TablesApartAt Low high low
apart_before low high apart = record { subscribers = apart.subscribers; access = apart.access; facilities = apart.facilities; forwardings = apart.forwardings }

-- no rows are rows of any range
no_rows : (lo hi : ℕ) → IsRowsOf lo hi empty_book
no_rows lo hi = record {
  rules = record {
    subscribers_ordered = tt;
    access_ordered = tt;
    facilities_ordered = tt;
    forwardings_ordered = tt;
    subscribers_in_range = tt;
    access_in_range = tt;
    facilities_in_range = tt;
    forwardings_in_range = tt;
    access_have_subscriber = tt;
    facilities_have_subscriber = tt;
    forwardings_have_facility = tt;
  };
  subscribers = tt;
  access = tt;
  facilities = tt;
  forwardings = tt;
}

-- a part whose rows went to another one
module _ {h : Heights} (tables none : Tables) (asked lo hi width steps : ℕ) where
  pub emptied_is : (part : PartState) → part_of tables asked lo hi width steps h ≡ part → {k : Heights} → none ≡ empty_tables → k ≡ zero_heights → {n : ℕ} → n ≡ asked
      → part_of none n lo hi width steps k ≡ record part { book = empty_book; heights = zero_heights }
  emptied_is part is empty low same = rw (← is, empty, low, same) refl

  pub emptied_holds : Holds tables asked lo hi width steps h → none ≡ empty_tables → {k : Heights} (n s : ℕ) → Holds none n lo hi width s k
  emptied_holds holds empty n s = rw empty (
    record { range = holds.0.range; width = holds.0.width; rows = no_rows lo hi },
    record { subscribers = tt; access = tt; facilities = tt; forwardings = tt },
  )

-- the heights of trees, as those of their tables' book
pub heights_are : (trees : Trees) → IsHeightOf trees.subscribers.height (length trees.subscribers.rows) → IsHeightOfGroups trees.access.height (length trees.access.rows)
    → IsHeightOfGroups trees.facilities.height (length trees.facilities.rows) → IsHeightOfGroups trees.forwardings.height (length trees.forwardings.rows)
    → AreHeightsOf (heights_of trees) (stored_book (tables_of trees))
heights_are trees subscribers access facilities forwardings = record {
  subscribers = rw (length-map trees.subscribers.rows (λ (p : ℕ × SubscriberRow). p.1)) subscribers;
  access = rw (length-map trees.access.rows (λ (p : ℕ × AccessInfoRow). p.1)) access;
  facilities = rw (length-map trees.facilities.rows (λ (p : ℕ × SpecialFacilityRow). p.1)) facilities;
  forwardings = rw (length-map trees.forwardings.rows (λ (p : ℕ × CallForwardingRow). p.1)) forwardings;
}
