-- What a walk over all rows of a part counts.
use Rattle.tatp_actions.proofs.Common.{◌≡◌, refl, sym, ◌∙◌, ap, ℕ, ◌+◌, ◌-◌, ◌<◌, ◌==◌, ◌&&◌, arith, true, false, Bool, List, [], ◌∷◌, length, get_or, replicate, nat_lt, Bor, MutBor, if◌then◌else◌, count_by, sum_by, option_map_or, get_or-replicate, length-replicate, length-map, sum_by-cons, nat_tests, WalksRows, key_of, facility_key, SubscriberRow, AccessInfoRow, SpecialFacilityRow, CallForwardingRow, forwarding_in_range, zone_of, area_of, row_at-pairs, by_test, IsRowsOf, cell, covers, has_active_facility, Tallied, with_row_of, with_subscriber, is_active_in, with_forwarding, Tables, AreKeyed, stored_book, values_of, CELLS, FIRST_AREA, FIRST_ZONE}
use Rattle.tatp_actions.specs.Cell.{active_forwardings, in_area, in_zone}
use Rattle.tatp_actions.proofs.CountLemmas.{few_subscribers, few_access, few_facilities, few_forwardings}
use Rattle.tatp_actions.proofs.CounterLemmas.{zone_in, subscriber_in, forwarding_in, tallied, counted_by_walk, still_over, row_counter, subscriber_counter, forwarding_counter}

-- sums over pairs
sum-zero : {X : Type 0} (xs : List X) → sum_by (λ (x : X). 0) xs ≡ 0
sum-zero [] = refl
sum-zero {X} (x ∷ xs) = let rest = sum-zero xs in rw (sum_by-cons (λ (y : X). 0) x xs) (omega arith)

count_of_values : {Y : Type 0} (p : Y → Bool) (pairs : List (ℕ × Y)) → sum_by (λ (pair : ℕ × Y). if p pair.1 then 1 else 0) pairs ≡ count_by p (values_of pairs)
count_of_values p [] = refl
count_of_values {Y} p (pair ∷ pairs) =
    sum_by-cons (λ (pair : ℕ × Y). if p pair.1 then 1 else 0) pair pairs
    ∙ ap (λ n. (if p pair.1 then 1 else 0) + n) (count_of_values p pairs)
    ∙ sym (sum_by-cons (λ (y : Y). if p y then 1 else 0) pair.1 (values_of pairs))

-- the stored facility of a forwarding is that of the book
active_stored : (tables : Tables) → AreKeyed tables → (row : CallForwardingRow) → is_active_in tables.facilities row ≡ has_active_facility (stored_book tables) row
active_stored tables keyed row = ap (λ facility. option_map_or (λ f. f.is_active == 1) facility false) (sym (row_at-pairs facility_key (key_of row.s_id row.sf_type 0) tables.facilities keyed.facilities))

active_sum : (tables : Tables) → AreKeyed tables → (hour : ℕ) (pairs : List (ℕ × CallForwardingRow))
    → sum_by (λ (pair : ℕ × CallForwardingRow). if covers pair.1 hour && is_active_in tables.facilities pair.1 then 1 else 0) pairs
    ≡ count_by (λ (row : CallForwardingRow). covers row hour && has_active_facility (stored_book tables) row) (values_of pairs)
active_sum tables keyed hour [] = refl
active_sum tables keyed hour (pair ∷ pairs) =
    sum_by-cons (λ (p : ℕ × CallForwardingRow). if covers p.1 hour && is_active_in tables.facilities p.1 then 1 else 0) pair pairs
    ∙ ap (λ active. (if covers pair.1 hour && active then 1 else 0) + sum_by (λ (p : ℕ × CallForwardingRow). if covers p.1 hour && is_active_in tables.facilities p.1 then 1 else 0) pairs) (active_stored tables keyed pair.1)
    ∙ ap (λ n. (if covers pair.1 hour && has_active_facility (stored_book tables) pair.1 then 1 else 0) + n) (active_sum tables keyed hour pairs)
    ∙ sym (sum_by-cons (λ (row : CallForwardingRow). if covers row hour && has_active_facility (stored_book tables) row then 1 else 0) pair.1 (values_of pairs))

-- what the sums over the four tables are, for each kind of cell
hourly : (tables : Tables) → AreKeyed tables → (hour : ℕ)
    → sum_by (λ (pair : ℕ × SubscriberRow). 0) tables.subscribers + sum_by (λ (pair : ℕ × AccessInfoRow). 0) tables.access + sum_by (λ (pair : ℕ × SpecialFacilityRow). 0) tables.facilities
    + sum_by (λ (pair : ℕ × CallForwardingRow). if covers pair.1 hour && is_active_in tables.facilities pair.1 then 1 else 0) tables.forwardings
    ≡ active_forwardings hour (stored_book tables)
unfolding active_forwardings
hourly tables keyed hour =
    let s = sum-zero tables.subscribers in
    let a = sum-zero tables.access in
    let f = sum-zero tables.facilities in
    let c = active_sum tables keyed hour tables.forwardings in
    omega arith

placed : (tables : Tables) (area : ℕ)
    → sum_by (λ (pair : ℕ × SubscriberRow). if area_of pair.1.vlr_location == area then 1 else 0) tables.subscribers + sum_by (λ (pair : ℕ × AccessInfoRow). 0) tables.access
    + sum_by (λ (pair : ℕ × SpecialFacilityRow). 0) tables.facilities + sum_by (λ (pair : ℕ × CallForwardingRow). 0) tables.forwardings
    ≡ in_area area (stored_book tables)
unfolding in_area
placed tables area =
    let s = count_of_values (λ (row : SubscriberRow). area_of row.vlr_location == area) tables.subscribers in
    let a = sum-zero tables.access in
    let f = sum-zero tables.facilities in
    let c = sum-zero tables.forwardings in
    omega arith

zoned : (tables : Tables) (width zone : ℕ)
    → sum_by (λ (pair : ℕ × SubscriberRow). if zone_of width pair.1.s_id == zone then 1 else 0) tables.subscribers + sum_by (λ (pair : ℕ × AccessInfoRow). if zone_of width pair.1.s_id == zone then 1 else 0) tables.access
    + sum_by (λ (pair : ℕ × SpecialFacilityRow). if zone_of width pair.1.s_id == zone then 1 else 0) tables.facilities + sum_by (λ (pair : ℕ × CallForwardingRow). if zone_of width pair.1.s_id == zone then 1 else 0) tables.forwardings
    ≡ in_zone width zone (stored_book tables)
unfolding in_zone
zoned tables width zone =
    let s = count_of_values (λ (row : SubscriberRow). zone_of width row.s_id == zone) tables.subscribers in
    let a = count_of_values (λ (row : AccessInfoRow). zone_of width row.s_id == zone) tables.access in
    let f = count_of_values (λ (row : SpecialFacilityRow). zone_of width row.s_id == zone) tables.facilities in
    let c = count_of_values (λ (row : CallForwardingRow). zone_of width row.s_id == zone) tables.forwardings in
    omega arith

-- together they are the count of the cell
cell_of_sums : (width c : ℕ) (tables : Tables) → AreKeyed tables
    → sum_by (λ (pair : ℕ × SubscriberRow). subscriber_in width c pair.1) tables.subscribers + sum_by (λ (pair : ℕ × AccessInfoRow). zone_in width c pair.1.s_id) tables.access
    + sum_by (λ (pair : ℕ × SpecialFacilityRow). zone_in width c pair.1.s_id) tables.facilities + sum_by (λ (pair : ℕ × CallForwardingRow). forwarding_in width c (is_active_in tables.facilities pair.1) pair.1) tables.forwardings
    ≡ cell width c (stored_book tables)
cell_of_sums width c tables keyed = by_test (nat_lt c FIRST_AREA)
    (λ e. let f : nat_lt c FIRST_ZONE ≡ true = grind (arith, nat_tests) in simp (e, f) (hourly tables keyed c))
    (λ e. by_test (nat_lt c FIRST_ZONE)
    (λ f. simp (e, f) (placed tables (c - FIRST_AREA)))
    (λ f. simp (e, f) (zoned tables width (c - FIRST_ZONE))))

-- the walk over the four tables from all counts at 0
pub recounted : (width c low high : ℕ) (tables : Tables) (t0 t1 t2 t3 t4 : Tallied)
    (gives1 : MutBor Tallied → ℕ → Bor SubscriberRow → MutBor Tallied → Type 0) (gives2 : MutBor Tallied → ℕ → Bor AccessInfoRow → MutBor Tallied → Type 0)
    (gives3 : MutBor Tallied → ℕ → Bor SpecialFacilityRow → MutBor Tallied → Type 0) (gives4 : MutBor Tallied → ℕ → Bor CallForwardingRow → MutBor Tallied → Type 0)
    → ((a : MutBor Tallied) (key : ℕ) (row : Bor SubscriberRow) (b : MutBor Tallied) → gives1 a key row b → (area_of row.now.vlr_location < 16) × (b.now ≡ record a.now { cells = with_subscriber a.now.width row.now a.now.cells }))
    → ((a : MutBor Tallied) (key : ℕ) (row : Bor AccessInfoRow) (b : MutBor Tallied) → gives2 a key row b → b.now ≡ record a.now { cells = with_row_of a.now.width row.now.s_id a.now.cells })
    → ((a : MutBor Tallied) (key : ℕ) (row : Bor SpecialFacilityRow) (b : MutBor Tallied) → gives3 a key row b → b.now ≡ record a.now { cells = with_row_of a.now.width row.now.s_id a.now.cells })
    → ((a : MutBor Tallied) (key : ℕ) (row : Bor CallForwardingRow) (b : MutBor Tallied) → gives4 a key row b → (forwarding_in_range row.now ≡ true) × (b.now ≡ record a.now { cells = with_forwarding a.now.width (is_active_in a.now.facilities row.now) row.now a.now.cells }))
    → t0 ≡ tallied tables.facilities width (replicate CELLS 0) → WalksRows gives1 t0 tables.subscribers t1 → WalksRows gives2 t1 tables.access t2 → WalksRows gives3 t2 tables.facilities t3 → WalksRows gives4 t3 tables.forwardings t4
    → c < CELLS → AreKeyed tables → IsRowsOf low high (stored_book tables) → get_or t4.cells c 0 ≡ cell width c (stored_book tables)
recounted width c low high tables t0 t1 t2 t3 t4 gives1 gives2 gives3 gives4 each1 each2 each3 each4 none walks1 walks2 walks3 walks4 within keyed rows =
    let f = tables.facilities in
    let cells : t0.cells ≡ replicate CELLS 0 = ap (λ (t : Tallied). t.cells) none in
    let len : length t0.cells ≡ CELLS = ap length cells ∙ length-replicate {A = ℕ} CELLS 0 in
    let at : get_or t0.cells c 0 ≡ 0 = ap (λ (counts : List ℕ). get_or counts c 0) cells ∙ get_or-replicate CELLS c 0 0 within in
    let book = stored_book tables in
    let few1 = few_subscribers book rows.rules in
    let few2 = few_access book rows.rules in
    let few3 = few_facilities book rows.rules in
    let few4 = few_forwardings book rows.rules in
    let len1 = length-map tables.subscribers (λ (pair : ℕ × SubscriberRow). pair.1) in
    let len2 = length-map tables.access (λ (pair : ℕ × AccessInfoRow). pair.1) in
    let len3 = length-map tables.facilities (λ (pair : ℕ × SpecialFacilityRow). pair.1) in
    let len4 = length-map tables.forwardings (λ (pair : ℕ × CallForwardingRow). pair.1) in
    let o0 : t0 ≡ tallied f width t0.cells = none ∙ ap (tallied f width) (sym cells) in
    let c1 = counted_by_walk f width c _ _ (λ (t : Tallied) row. with_subscriber t.width row t.cells) (subscriber_counter width c) gives1 each1 t0 tables.subscribers t1 o0 walks1 (omega arith) (omega arith) in
    let k1 = c1.keeps in let i1 = c1.counts_in in let l1 = c1.little in
    let o1 = still_over f width c _ t0 tables.subscribers t1 o0 c1 in
    let c2 = counted_by_walk f width c _ _ (λ (t : Tallied) (row : AccessInfoRow). with_row_of t.width row.s_id t.cells) (row_counter width c (λ (row : AccessInfoRow). row.s_id)) gives2 (λ a key row b step. (tt, each2 a key row b step)) t1 tables.access t2 o1 walks2 (omega arith) (omega arith) in
    let k2 = c2.keeps in let i2 = c2.counts_in in let l2 = c2.little in
    let o2 = still_over f width c _ t1 tables.access t2 o1 c2 in
    let c3 = counted_by_walk f width c _ _ (λ (t : Tallied) (row : SpecialFacilityRow). with_row_of t.width row.s_id t.cells) (row_counter width c (λ (row : SpecialFacilityRow). row.s_id)) gives3 (λ a key row b step. (tt, each3 a key row b step)) t2 tables.facilities t3 o2 walks3 (omega arith) (omega arith) in
    let k3 = c3.keeps in let i3 = c3.counts_in in let l3 = c3.little in
    let o3 = still_over f width c _ t2 tables.facilities t3 o2 c3 in
    let c4 = counted_by_walk f width c _ _ (λ (t : Tallied) row. with_forwarding t.width (is_active_in t.facilities row) row t.cells) (forwarding_counter width c (is_active_in f)) gives4 each4 t3 tables.forwardings t4 o3 walks4 (omega arith) (omega arith) in
    let i4 = c4.counts_in in
    let sum = cell_of_sums width c tables keyed in
    omega arith
