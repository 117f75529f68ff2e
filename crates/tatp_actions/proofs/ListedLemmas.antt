-- Rows from a key on, and how they are written into a list.
use Rattle.tatp_actions.proofs.Common.{◌≡◌, refl, sym, ap, subst, ◌∙◌, ℕ, zero, suc, ◌+◌, ◌-◌, ◌<◌, ◌≤◌, arith, List, [], ◌∷◌, ◌++◌, length, map, set, get_or, take, map-append, length-append, length-map, Bool, true, false, nat_le, nat_lt, ◌==◌, AllByRecursion, filter, nat_tests, by_test, key_of_pair, subscriber_key, access_key, facility_key, forwarding_key, access_type, facility_type, forwarding_type, forwarding_ranges, access_s_id, facility_s_id, subscriber_ranges, SubscriberRow, AccessInfoRow, SpecialFacilityRow, CallForwardingRow, subscriber_in_range, access_in_range, facility_in_range, forwarding_in_range, IsBook, AreKeyed, IsKeyed, Tables, stored_book, each-left, keys_from, each-weaker, filter_all, IsOrderedBy, values_of}
use Rattle.tatp_actions.specs.Listed.{AreListed, AreWritten, IsListed, is_from, packed_from, rows_listed, subscriber_fields, access_fields, facility_fields, forwarding_fields, written_over, written_at, AreFilled}
use Rattle.tatp_actions.specs.declared.listed.KeyFields.{KeyFields}
use Rattle.std.proofs.Common.{min, drop, inl, inr}
use Rattle.std.proofs.lemmas.Bool.{cases_lt}
use Rattle.std.proofs.lemmas.List.{drop_all, length-take, take-append-drop, take_more}
use Rattle.tatp_rows.proofs.RowLemmas.{forwarding_s_id}
use Rattle.mr_node.specs.Rows.{KeysBelow, key_limit}
use Rattle.mr_node.specs.Pages.{IsPage}

-- pairs of a key and a row lie in the order of their rows
module _ {X : Type 0} (key : X → ℕ) where
  pairs_behind : (k : ℕ) (pairs : List (ℕ × X)) → AllByRecursion (λ row. k < key row) (values_of pairs) → IsKeyed key pairs → AllByRecursion (λ pair. k < key_of_pair pair) pairs
  pairs_behind k [] above keyed = tt
  pairs_behind k (pair ∷ pairs) above keyed = (rw keyed.0 above.0, pairs_behind k pairs above.1 keyed.1)

  pairs_ordered : (pairs : List (ℕ × X)) → IsOrderedBy key (values_of pairs) → IsKeyed key pairs → IsOrderedBy key_of_pair pairs
  pairs_ordered [] ordered keyed = tt
  pairs_ordered (pair ∷ pairs) ordered keyed = (pairs_behind pair.0 pairs (rw keyed.0 ordered.0) keyed.1, pairs_ordered pairs ordered.1 keyed.1)

  -- and have what is true of the rows
  pairs_listed : (fields : X → KeyFields) (P : X → Type 0) → ((row : X) → P row → IsListed (fields row) (key row)) → (pairs : List (ℕ × X)) → AllByRecursion P (values_of pairs) → IsKeyed key pairs
      → AllByRecursion (λ pair. IsListed (fields pair.1) pair.0) pairs
  pairs_listed fields P fit [] each keyed = tt
  pairs_listed fields P fit (pair ∷ pairs) each keyed = (rw keyed.0 (fit pair.1 each.0), pairs_listed fields P fit pairs each.1 keyed.1)

-- the keys of the rows of a book, table by table
subscriber_fits : (row : SubscriberRow) → subscriber_in_range row ≡ true → IsListed (subscriber_fields row) (subscriber_key row)
subscriber_fits row holds =
    let s_id = (subscriber_ranges row holds).s_id_below in
    record { key_is = refl; s_id_small = omega (arith, s_id); kind_small = omega arith; start_time_small = omega arith }

access_fits : (row : AccessInfoRow) → access_in_range row ≡ true → IsListed (access_fields row) (access_key row)
access_fits row holds =
    let s_id = (access_s_id row holds).below in
    let kind = (access_type row holds).below in
    record { key_is = refl; s_id_small = omega (arith, s_id); kind_small = omega (arith, kind); start_time_small = omega arith }

facility_fits : (row : SpecialFacilityRow) → facility_in_range row ≡ true → IsListed (facility_fields row) (facility_key row)
facility_fits row holds =
    let s_id = (facility_s_id row holds).below in
    let kind = (facility_type row holds).below in
    record { key_is = refl; s_id_small = omega (arith, s_id); kind_small = omega (arith, kind); start_time_small = omega arith }

forwarding_fits : (row : CallForwardingRow) → forwarding_in_range row ≡ true → IsListed (forwarding_fields row) (forwarding_key row)
forwarding_fits row holds =
    let s_id = (forwarding_s_id row holds).below in
    let kind = (forwarding_type row holds).below in
    let start = (forwarding_ranges row holds).start_time_below in
    record { key_is = refl; s_id_small = omega (arith, s_id); kind_small = omega (arith, kind); start_time_small = omega (arith, start) }

pub subscribers_listed : (tables : Tables) → IsBook (stored_book tables) → AreKeyed tables → AreListed subscriber_fields tables.subscribers
subscribers_listed tables book keyed = record {
  ordered = pairs_ordered subscriber_key tables.subscribers book.subscribers_ordered keyed.subscribers;
  each = pairs_listed subscriber_key subscriber_fields (λ row. subscriber_in_range row ≡ true) subscriber_fits tables.subscribers book.subscribers_in_range keyed.subscribers;
}

pub access_listed : (tables : Tables) → IsBook (stored_book tables) → AreKeyed tables → AreListed access_fields tables.access
access_listed tables book keyed = record {
  ordered = pairs_ordered access_key tables.access book.access_ordered keyed.access;
  each = pairs_listed access_key access_fields (λ row. access_in_range row ≡ true) access_fits tables.access book.access_in_range keyed.access;
}

pub facilities_listed : (tables : Tables) → IsBook (stored_book tables) → AreKeyed tables → AreListed facility_fields tables.facilities
facilities_listed tables book keyed = record {
  ordered = pairs_ordered facility_key tables.facilities book.facilities_ordered keyed.facilities;
  each = pairs_listed facility_key facility_fields (λ row. facility_in_range row ≡ true) facility_fits tables.facilities book.facilities_in_range keyed.facilities;
}

pub forwardings_listed : (tables : Tables) → IsBook (stored_book tables) → AreKeyed tables → AreListed forwarding_fields tables.forwardings
forwardings_listed tables book keyed = record {
  ordered = pairs_ordered forwarding_key tables.forwardings book.forwardings_ordered keyed.forwardings;
  each = pairs_listed forwarding_key forwarding_fields (λ row. forwarding_in_range row ≡ true) forwarding_fits tables.forwardings book.forwardings_in_range keyed.forwardings;
}

-- keys as one number are compared as their fields are
same_order : (from fields : KeyFields) (k : ℕ) → IsListed fields k → nat_le (packed_from from) k ≡ is_from from fields
same_order from fields k is =
    let key_is = is.key_is in
    let s_id_small = is.s_id_small in
    let kind_small = is.kind_small in
    let start_small = is.start_time_small in
    by_test (nat_lt from.s_id fields.s_id)
    (λ a. let less : from.s_id < fields.s_id = grind (arith, nat_tests) in rw (a, reaches (packed_from from) k (omega arith)) refl)
    (λ a.
    let least : fields.s_id ≤ from.s_id = grind (arith, nat_tests) in
    by_test (from.s_id == fields.s_id)
    (λ b.
    let same : from.s_id ≡ fields.s_id = grind (arith, nat_tests) in
    by_test (nat_lt from.kind fields.kind)
    (λ c. let less : from.kind < fields.kind = grind (arith, nat_tests) in rw (a, b, c, reaches (packed_from from) k (omega arith)) refl)
    (λ c.
    let least_kind : fields.kind ≤ from.kind = grind (arith, nat_tests) in
    by_test (from.kind == fields.kind)
    (λ d.
    let same_kind : from.kind ≡ fields.kind = grind (arith, nat_tests) in
    by_test (nat_le from.start_time fields.start_time)
    (λ e. let less : from.start_time ≤ fields.start_time = grind (arith, nat_tests) in rw (a, b, c, d, e, reaches (packed_from from) k (omega arith)) refl)
    (λ e. let more : fields.start_time < from.start_time = grind (arith, nat_tests) in rw (a, b, c, d, e, passes (packed_from from) k (omega arith)) refl))
    (λ d. let more : fields.kind < from.kind = grind (arith, nat_tests) in rw (a, b, c, d, passes (packed_from from) k (omega arith)) refl)))
    (λ b. let more : fields.s_id < from.s_id = grind (arith, nat_tests) in rw (a, b, passes (packed_from from) k (omega arith)) refl))
  where
    reaches : (m n : ℕ) → m ≤ n → nat_le m n ≡ true
    reaches m n low = grind (arith, nat_tests)

    passes : (m n : ℕ) → n < m → nat_le m n ≡ false
    passes m n high = grind (arith, nat_tests)

module _ {X Y : Type 0} (fields : X → KeyFields) (f : X → Y) where
  -- so the pairs from a packed key on are of the rows from its fields on
  pub listed_pairs : (from : KeyFields) (key : ℕ) (pairs : List (ℕ × X)) → key ≡ packed_from from → AllByRecursion (λ pair. IsListed (fields pair.1) pair.0) pairs
      → map (λ (pair : ℕ × X). f pair.1) (keys_from key_of_pair key pairs) ≡ map f (rows_listed fields from (values_of pairs))
  listed_pairs from key [] is each = refl
  listed_pairs from key (pair ∷ pairs) is each =
      let same : nat_le key pair.0 ≡ is_from from (fields pair.1) = ap (λ k. nat_le k pair.0) is ∙ same_order from (fields pair.1) pair.0 each.0 in
      by_test (is_from from (fields pair.1))
      (λ e. let passed : nat_le key pair.0 ≡ true = same ∙ e in rw (e, passed) (ap (λ rest. f pair.1 ∷ rest) (listed_pairs from key pairs is each.1)))
      (λ e. let failed : nat_le key pair.0 ≡ false = same ∙ e in rw (e, failed) (listed_pairs from key pairs is each.1))

  -- what was written of the pairs was written of the rows
  pub table_written : (from : KeyFields) (key : ℕ) (pairs : List (ℕ × X)) (place : ℕ) (before : List Y) (behind : ℕ) (after : List Y) → AreListed fields pairs → key ≡ packed_from from
      → AreWritten (map (λ (pair : ℕ × X). f pair.1) (keys_from key_of_pair key pairs)) place before behind after → AreWritten (map f (rows_listed fields from (values_of pairs))) place before behind after
  table_written from key pairs place before behind after are is written = rw (← listed_pairs from key pairs is are.each) written

-- the keys of rows in range are below the limit
pub listed_small : {X : Type 0} (fields : X → KeyFields) (pairs : List (ℕ × X)) → AreListed fields pairs → KeysBelow key_limit pairs
listed_small {X} fields pairs are =
    each-weaker {P = λ (pair : ℕ × X). IsListed (fields pair.1) pair.0} {Q = λ (pair : ℕ × X). pair.0 < key_limit}
    (λ pair is. let key = is.key_is in let s_id = is.s_id_small in let kind = is.kind_small in let start = is.start_time_small in omega arith) pairs are.each

-- what is left behind some first pairs from a key on is the pairs from behind their last key on
module _ {V : Type 0} where
  -- behind the first pair
  one_behind : (key : ℕ) (pairs : List (ℕ × V)) (pair : ℕ × V) (left : List (ℕ × V)) → IsOrderedBy key_of_pair pairs → keys_from key_of_pair key pairs ≡ pair ∷ left
      → (key ≤ pair.0) × (left ≡ keys_from key_of_pair (pair.0 + 1) pairs)
  one_behind key [] pair left ordered first = absurd cc
  one_behind key (x ∷ xs) pair left ordered first =
      by_test (nat_le key x.0)
      (λ e.
      let least : key ≤ x.0 = grind (arith, nat_tests) in
      let kept : (k : ℕ) → k ≤ x.0 + 1 → keys_from key_of_pair k xs ≡ xs = λ k low. filter_all _ xs (each-weaker (λ y above. grind (arith, nat_tests)) xs ordered.0) in
      let whole : x ∷ xs ≡ pair ∷ left = ap (λ ys. x ∷ ys) (sym (kept key (omega arith))) ∙ (rw e at first) in
      let same : x ≡ pair = cc in
      let rest : left ≡ xs = cc in
      let own : nat_le (x.0 + 1) x.0 ≡ false = grind (arith, nat_tests) in
      subst (λ (p : ℕ × V). (key ≤ p.0) × (left ≡ keys_from key_of_pair (p.0 + 1) (x ∷ xs))) same (least, rest ∙ rw own (sym (kept (x.0 + 1) (omega arith)))))
      (λ e.
      let next = one_behind key xs pair left ordered.1 (rw e at first) in
      let low = next.0 in
      let passed : nat_le (pair.0 + 1) x.0 ≡ false = grind (arith, nat_tests) in
      (low, rw passed next.1))

  -- behind all of a page
  page_behind : (key : ℕ) (pairs : List (ℕ × V)) (page left : List (ℕ × V)) (at : ℕ) (d : ℕ × V) → IsOrderedBy key_of_pair pairs → keys_from key_of_pair key pairs ≡ page ++ left
      → length page ≡ at + 1 → left ≡ keys_from key_of_pair ((get_or page at d).0 + 1) pairs
  page_behind key pairs [] left at d ordered front long = absurd (omega arith)
  page_behind key pairs (x ∷ []) left at d ordered front long =
      let only : at ≡ 0 = omega arith in
      rw only (one_behind key pairs x left ordered front).1
  page_behind key pairs (x ∷ (y ∷ page)) left zero d ordered front long = absurd (omega arith)
  page_behind key pairs (x ∷ (y ∷ page)) left (suc at) d ordered front long =
      page_behind (x.0 + 1) pairs (y ∷ page) left at d ordered (sym (one_behind key pairs x ((y ∷ page) ++ left) ordered front).1) (omega arith)

  -- what each pair has, those of a page have, and its last one
  filter_each : (P : ℕ × V → Type 0) (test : ℕ × V → Bool) (pairs : List (ℕ × V)) → AllByRecursion P pairs → AllByRecursion P (filter test pairs)
  filter_each P test [] each = tt
  filter_each P test (x ∷ pairs) each = by_test (test x) (λ e. rw e (each.0, filter_each P test pairs each.1)) (λ e. rw e (filter_each P test pairs each.1))

  each_at : (P : ℕ × V → Type 0) (pairs : List (ℕ × V)) (at : ℕ) (d : ℕ × V) → AllByRecursion P pairs → at < length pairs → P (get_or pairs at d)
  each_at P [] at d each within = absurd (omega arith)
  each_at P (x ∷ pairs) zero d each within = each.0
  each_at P (x ∷ pairs) (suc at) d each within = each_at P pairs at d each.1 (omega arith)

  module _ (key : ℕ) (pairs page : List (ℕ × V)) (is : IsPage key pairs page) where
    -- a page's last key is below the limit
    pub last_small : (own : List (ℕ × V)) (d : ℕ × V) → KeysBelow key_limit pairs → own ≡ page → 0 < length own → (get_or own (length own - 1) d).0 < key_limit
    last_small own d small same some =
        let below : KeysBelow key_limit own =
        rw same (each-left (λ (pair : ℕ × V). pair.0 < key_limit) page is.rest (subst (KeysBelow key_limit) is.front (filter_each (λ (pair : ℕ × V). pair.0 < key_limit) _ pairs small))) in
        each_at (λ (pair : ℕ × V). pair.0 < key_limit) own (length own - 1) d below (omega arith)

    -- its rows come first, and then those from behind its last key on
    pub page_parts : {Y : Type 0} (f : ℕ × V → Y) (own : List (ℕ × V)) (d : ℕ × V) → IsOrderedBy key_of_pair pairs → own ≡ page → 0 < length own
        → map f (keys_from key_of_pair key pairs) ≡ map f own ++ map f (keys_from key_of_pair ((get_or own (length own - 1) d).0 + 1) pairs)
    page_parts f own d ordered same some =
        let front : keys_from key_of_pair key pairs ≡ own ++ is.rest = rw same is.front in
        ap (map f) (front ∙ ap (λ rest. own ++ rest) (page_behind key pairs own is.rest (length own - 1) d ordered front (omega arith)))
        ∙ map-append f own (keys_from key_of_pair ((get_or own (length own - 1) d).0 + 1) pairs)

    -- where it is empty there are none
    pub page_none : {Y : Type 0} (f : ℕ × V → Y) (own : List (ℕ × V)) (test : Bool) → own ≡ page → test ≡ (length own == 0) → test ≡ true → map f (keys_from key_of_pair key pairs) ≡ []
    page_none f own test same is_test e =
        let none : page ≡ [] = sym same ∙ empty own (sym is_test ∙ e) in
        ap (map f) (is.front ∙ ap (λ front. front ++ is.rest) none ∙ is.some none)
      where
        empty : (xs : List (ℕ × V)) → (length xs == 0) ≡ true → xs ≡ []
        empty [] e = refl
        empty (x ∷ xs) e = absurd (let more : length (x ∷ xs) ≡ 0 = grind (arith, nat_tests) in omega arith)

  -- a test for an empty page
  pub page_some : (own : List (ℕ × V)) (test : Bool) → test ≡ (length own == 0) → test ≡ false → 0 < length own
  page_some [] test is e = absurd (let wrong : test ≡ true = is in cc)
  page_some (x ∷ own) test is e = omega arith

-- what is written into a list
module _ {Y : Type 0} where
  -- no value changes nothing, and no room takes none
  written_none : (place : ℕ) (before : List Y) → written_at place [] before ≡ before
  written_none zero [] = refl
  written_none zero (old ∷ before) = refl
  written_none (suc place) [] = refl
  written_none (suc place) (old ∷ before) = ap (λ rest. old ∷ rest) (written_none place before)

  written_past : (place : ℕ) (values before : List Y) → length before ≤ place → written_at place values before ≡ before
  written_past zero values [] past = refl
  written_past zero values (old ∷ before) past = absurd (omega arith)
  written_past (suc place) values [] past = refl
  written_past (suc place) values (old ∷ before) past = ap (λ rest. old ∷ rest) (written_past place values before (omega arith))

  -- the list stays as long as it was
  length-written_over : (values before : List Y) → length (written_over values before) ≡ length before
  length-written_over values [] = refl
  length-written_over [] (old ∷ before) = refl
  length-written_over (value ∷ values) (old ∷ before) = ap suc (length-written_over values before)

  pub length-written_at : (place : ℕ) (values before : List Y) → length (written_at place values before) ≡ length before
  length-written_at zero values before = length-written_over values before
  length-written_at (suc place) values [] = refl
  length-written_at (suc place) values (old ∷ before) = ap suc (length-written_at place values before)

  -- one value in its place
  written_one : (place : ℕ) (value : Y) (before : List Y) → place < length before → written_at place (value ∷ []) before ≡ set before place value
  written_one zero value [] within = absurd (omega arith)
  written_one zero value (old ∷ before) within = ap (λ rest. value ∷ rest) (written_none 0 before)
  written_one (suc place) value [] within = absurd (omega arith)
  written_one (suc place) value (old ∷ before) within = ap (λ rest. old ∷ rest) (written_one place value before (omega arith))

  -- values one after another
  over_append : (behind : ℕ) (xs ys before : List Y) → behind ≡ min (length xs) (length before) → written_over (xs ++ ys) before ≡ written_at behind ys (written_over xs before)
  over_append zero [] ys [] is = refl
  over_append zero [] ys (old ∷ before) is = refl
  over_append (suc behind) [] ys before is = absurd (omega arith)
  over_append zero (x ∷ xs) ys [] is = refl
  over_append (suc behind) (x ∷ xs) ys [] is = absurd (omega arith)
  over_append zero (x ∷ xs) ys (old ∷ before) is = absurd (omega arith)
  over_append (suc behind) (x ∷ xs) ys (old ∷ before) is = ap (λ rest. x ∷ rest) (over_append behind xs ys before (omega arith))

  written_append : (place behind : ℕ) (xs ys before : List Y) → place ≤ length before → behind ≡ min (place + length xs) (length before)
      → written_at place (xs ++ ys) before ≡ written_at behind ys (written_at place xs before)
  written_append zero behind xs ys before room is = over_append behind xs ys before (omega arith)
  written_append (suc place) behind xs ys [] room is = absurd (omega arith)
  written_append (suc place) zero xs ys (old ∷ before) room is = absurd (omega arith)
  written_append (suc place) (suc behind) xs ys (old ∷ before) room is = ap (λ rest. old ∷ rest) (written_append place behind xs ys before (omega arith) (omega arith))

  -- values from the start on are the first of them, and the rest of the list
  written_first : (values before : List Y) → written_at 0 values before ≡ take (length before) values ++ drop (length values) before
  written_first [] [] = refl
  written_first (value ∷ values) [] = refl
  written_first [] (old ∷ before) = refl
  written_first (value ∷ values) (old ∷ before) = ap (λ rest. value ∷ rest) (written_first values before)

  pub filled : (values before : List Y) (many : ℕ) (after : List Y) → AreWritten values 0 before many after → AreFilled values before many after
  filled values before many after written = let end = written.end in record { count = omega arith; rows = written.rows ∙ written_first values before }

  -- values that are written as they are
  pub filled_same : (values before : List Y) (many : ℕ) (after : List Y) → AreFilled (map (λ row. row) values) before many after → AreFilled values before many after
  filled_same values before many after is = rw (← same values) is
    where
      same : (xs : List Y) → map (λ row. row) xs ≡ xs
      same [] = refl
      same (x ∷ xs) = ap (λ rest. x ∷ rest) (same xs)

-- the rows of a page so far, one after another
module _ {X Y : Type 0} (f : X → Y) (page : List X) (place : ℕ) (before : List Y) where
  pub page_starts : before ≡ written_at place (map f (take 0 page)) before
  page_starts = sym (written_none place before)

  pub page_more : (at : ℕ) (x : X) (value : Y) → at < length page → place + at < length before → x ≡ get_or page at x → value ≡ f x
      → set (written_at place (map f (take at page)) before) (place + at) value ≡ written_at place (map f (take (at + 1) page)) before
  page_more at x value below room is of =
      let so_far = map f (take at page) in
      let long : length so_far ≡ at = omega (arith, length-map (take at page) f, length-take at page) in
      let next : map f (take (at + 1) page) ≡ so_far ++ value ∷ [] =
      ap (map f) (take_more page at x below ∙ ap (λ y. take at page ++ y ∷ []) (sym is)) ∙ map-append f (take at page) (x ∷ []) ∙ ap (λ y. so_far ++ y ∷ []) (sym of) in
      let there : place + at < length (written_at place so_far before) = omega (arith, length-written_at place so_far before) in
      sym (written_one (place + at) value (written_at place so_far before) there)
      ∙ sym (written_append place (place + at) so_far (value ∷ []) before (omega arith) (omega (arith, long)))
      ∙ ap (λ values. written_at place values before) (sym next)

  pub page_ends : (at : ℕ) (after : List Y) → place ≤ length before → at ≡ min (length page) (length before - place) → after ≡ written_at place (map f (take at page)) before → AreWritten (map f page) place before (place + at) after
  page_ends at after room is so_far =
      let front = map f (take at page) in
      let back = map f (drop at page) in
      let parts : map f page ≡ front ++ back = ap (map f) (sym (take-append-drop at page)) ∙ map-append f (take at page) (drop at page) in
      let long : length front ≡ at = omega (arith, length-map (take at page) f, length-take at page) in
      let same : length after ≡ length before = ap length so_far ∙ length-written_at place front before in
      let rest : written_at (place + at) back after ≡ after = elim (cases_lt at (length page)) [
        | inl less ↦ written_past (place + at) back after (omega arith)
        | inr all ↦ rw (drop_all at page all) (written_none (place + at) after)
      ] in
      record {
        end = omega (arith, length-map page f);
        rows = sym (ap (λ values. written_at place values before) parts ∙ written_append place (place + at) front back before room (omega (arith, long)) ∙ ap (λ rows. written_at (place + at) back rows) (sym so_far) ∙ rest);
      }

-- a page that has some rows is written further, where there is room
pub page_grows : {X Y : Type 0} (f : X → Y) (page : List X) (place : ℕ) (before : List Y) (behind : ℕ) (after : List Y) → 0 < length page → place < length before → AreWritten (map f page) place before behind after → place < behind
page_grows f page place before behind after some room written = let end = written.end in omega (arith, length-map page f, end)

-- values are being written: what is left of them, from a place on, makes the list that all of them make
pub record IsWriting {Y : Type 0} (values : List Y) (place : ℕ) (before left : List Y) (behind : ℕ) (now : List Y) : Type 0 where
  pub room : behind ≤ length now
  pub end : min (behind + length left) (length now) ≡ min (place + length values) (length before)
  pub rows : written_at behind left now ≡ written_at place values before

module _ {Y : Type 0} (values : List Y) (place : ℕ) (before : List Y) where
  pub writing_starts : (left : List Y) → place ≤ length before → left ≡ values → IsWriting values place before left place before
  writing_starts left room all = record { room = room; end = ap (λ vs. min (place + length vs) (length before)) all; rows = ap (λ vs. written_at place vs before) all }

  -- the next of them are written
  pub writing_next : (now_left next left : List Y) (behind end : ℕ) (now after : List Y) → IsWriting values place before now_left behind now → now_left ≡ next ++ left → AreWritten next behind now end after → IsWriting values place before left end after
  writing_next now_left next left behind end now after writing parts written =
      let same : length after ≡ length now = ap length written.rows ∙ length-written_at behind next now in
      let long : length now_left ≡ length next + length left = ap length parts ∙ length-append next left in
      let at = written.end in
      let whole = writing.end in
      record {
        room = omega (arith, same, at);
        end = omega (arith, same, long, at, whole);
        rows = ap (λ rows. written_at end left rows) written.rows ∙ sym (written_append behind end next left now writing.room written.end) ∙ ap (λ vs. written_at behind vs now) (sym parts) ∙ writing.rows;
      }

  -- the list is full, or no value is left
  pub writing_full : (left : List Y) (behind : ℕ) (now : List Y) → IsWriting values place before left behind now → length now ≤ behind → AreWritten values place before behind now
  writing_full left behind now writing full =
      let room = writing.room in
      let end = writing.end in
      record { end = omega arith; rows = sym (written_past behind left now full) ∙ writing.rows }

  pub writing_done : (left : List Y) (behind : ℕ) (now : List Y) → IsWriting values place before left behind now → left ≡ [] → AreWritten values place before behind now
  writing_done left behind now writing none =
      let room = writing.room in
      let end = writing.end in
      let nothing : length left ≡ 0 = ap length none in
      record { end = omega arith; rows = sym (written_none behind now) ∙ ap (λ vs. written_at behind vs now) (sym none) ∙ writing.rows }
