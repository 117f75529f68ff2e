-- How a walk over rows counts them in a cell.
use Rattle.tatp_actions.proofs.Common.{◌≡◌, ◌≢◌, refl, sym, ◌∙◌, ap, subst, ℕ, zero, suc, ◌+◌, ◌-◌, ◌<◌, ◌≤◌, ◌==◌, ◌&&◌, arith, true, false, Bool, List, [], ◌∷◌, length, get_or, nat_le, nat_lt, Bor, MutBor, if◌then◌else◌, ⊤, sum_by, get_or-set_same, get_or-set_other, length-set, sum_by-cons, nat_tests, WalksRows, SubscriberRow, SpecialFacilityRow, CallForwardingRow, forwarding_in_range, zone_of, area_of, by_test, forwarding_ranges, covers, Tallied, one_more_in, one_more_from, with_row_of, with_subscriber, with_forwarding, FIRST_AREA, FIRST_ZONE}

-- what a row of a subscriber counts in a cell by its zone
abbrev pub zone_in : ℕ → ℕ → ℕ → ℕ
zone_in width c s_id = if nat_lt c FIRST_ZONE then 0 else (if zone_of width s_id == c - FIRST_ZONE then 1 else 0)

-- what a Subscriber row counts in a cell
abbrev pub subscriber_in : ℕ → ℕ → SubscriberRow → ℕ
subscriber_in width c row =
    if nat_lt c FIRST_AREA then 0
    else (if nat_lt c FIRST_ZONE then (if area_of row.vlr_location == c - FIRST_AREA then 1 else 0) else zone_in width c row.s_id)

-- what a Call_Forwarding row counts in a cell
abbrev pub forwarding_in : ℕ → ℕ → Bool → CallForwardingRow → ℕ
forwarding_in width c active row = if nat_lt c FIRST_AREA then (if covers row c && active then 1 else 0) else zone_in width c row.s_id

-- one more in a cell keeps how many cells there are, and counts in that cell alone
pub one_more-length : (i : ℕ) (counts : List ℕ) → length (one_more_in i counts) ≡ length counts
one_more-length i counts = by_test (nat_lt (get_or counts i 0) 18446744073709551615)
    (λ e. rw e (length-set counts i (get_or counts i 0 + 1)))
    (λ e. rw e refl)

pub one_more-at : (i c : ℕ) (counts : List ℕ) → c < length counts → get_or counts c 0 < 18446744073709551615 → get_or (one_more_in i counts) c 0 ≡ get_or counts c 0 + (if c == i then 1 else 0)
one_more-at i c counts within room = by_test (c == i)
    (λ e. let same : c ≡ i = grind (arith, nat_tests) in
    let room' = subst (λ k. get_or counts k 0 < 18446744073709551615) same room in
    let f : nat_lt (get_or counts i 0) 18446744073709551615 ≡ true = grind (arith, nat_tests) in
    rw (e, f, same) (get_or-set_same counts i (get_or counts i 0 + 1) 0 (omega arith)))
    (λ e. let other : c ≢ i = grind (arith, nat_tests) in
    by_test (nat_lt (get_or counts i 0) 18446744073709551615)
    (λ f. rw (e, f) (let same = get_or-set_other counts i c (get_or counts i 0 + 1) 0 other in omega arith))
    (λ f. rw (e, f) (omega arith)))

-- a test counts at most one
tick-le : (test : Bool) → (if test then 1 else 0) ≤ 1
tick-le true = omega arith
tick-le false = omega arith

plus_zero : (n : ℕ) → n ≡ n + 0
plus_zero n = omega arith

-- a way to count rows: it keeps how many cells there are, and counts a row's amount, at most one, in a cell
pub record IsCounter {X : Type 0} (c : ℕ) (Good : X → Type 0) (amount : X → ℕ) (more : X → List ℕ → List ℕ) : Type 0 where
  pub keeps : (row : X) (counts : List ℕ) → length (more row counts) ≡ length counts
  pub counts_in : (row : X) (counts : List ℕ) → Good row → c < length counts → get_or counts c 0 + 2 < 18446744073709551616 → get_or (more row counts) c 0 ≡ get_or counts c 0 + amount row
  pub little : (row : X) → amount row ≤ 1

-- counts by zones of a width, beside facilities
abbrev pub tallied : List (ℕ × SpecialFacilityRow) → ℕ → List ℕ → Tallied
tallied facilities width counts = record { cells = counts; facilities = facilities; width = width }

-- what a walk over pairs has counted: each of them once, in the counts alone
pub record IsCounted {X : Type 0} (c : ℕ) (amount : X → ℕ) (before : Tallied) (pairs : List (ℕ × X)) (after : Tallied) : Type 0 where
  pub same : after ≡ record before { cells = after.cells }
  pub keeps : length after.cells ≡ length before.cells
  pub counts_in : get_or after.cells c 0 ≡ get_or before.cells c 0 + sum_by (λ (pair : ℕ × X). amount pair.1) pairs
  pub little : sum_by (λ (pair : ℕ × X). amount pair.1) pairs ≤ length pairs

pub counted_by_walk : {X : Type 0} (facilities : List (ℕ × SpecialFacilityRow)) (width c : ℕ) (Good : X → Type 0) (amount : X → ℕ) (more : Tallied → X → List ℕ)
    → IsCounter c Good amount (λ row counts. more (tallied facilities width counts) row) → (gives : MutBor Tallied → ℕ → Bor X → MutBor Tallied → Type 0)
    → ((a : MutBor Tallied) (key : ℕ) (row : Bor X) (b : MutBor Tallied) → gives a key row b → Good row.now × (b.now ≡ record a.now { cells = more a.now row.now }))
    → (a : Tallied) (pairs : List (ℕ × X)) (b : Tallied) → a ≡ tallied facilities width a.cells → WalksRows gives a pairs b → c < length a.cells → get_or a.cells c 0 + length pairs + 1 < 18446744073709551616
    → IsCounted c amount a pairs b
counted_by_walk facilities width c Good amount more counter gives each a [] b over walks within room = record {
  same = subst (λ (t : Tallied). t ≡ record a { cells = t.cells }) walks refl;
  keeps = sym (ap (λ (t : Tallied). length t.cells) walks);
  counts_in = ap (λ (t : Tallied). get_or t.cells c 0) (sym walks) ∙ plus_zero (get_or a.cells c 0);
  little = omega arith;
}
counted_by_walk {X} facilities width c Good amount more counter gives each a (pair ∷ pairs) b over walks within room =
    let next = walks.0 in
    let row = walks.1.now in
    let step = walks.3 in
    let here = each step.0 pair.0 walks.1 step.1 step.3 in
    let is : next ≡ record a { cells = more a row } = sym step.4 ∙ here.1 ∙ ap (λ (t : Tallied). record t { cells = more t row }) step.2 in
    let cells : next.cells ≡ more (tallied facilities width a.cells) row = ap (λ (t : Tallied). t.cells) is ∙ ap (λ (t : Tallied). more t row) over in
    let next_over : next ≡ tallied facilities width next.cells =
    is ∙ ap (λ (t : Tallied). record t { cells = more a row }) over ∙ ap (tallied facilities width) (sym (ap (λ (t : Tallied). t.cells) is)) in
    let counted = counter.counts_in row a.cells here.0 within (omega arith) in
    let at : get_or next.cells c 0 ≡ get_or a.cells c 0 + amount pair.1 =
    ap (λ (counts : List ℕ). get_or counts c 0) cells ∙ counted ∙ ap (λ (r : X). get_or a.cells c 0 + amount r) walks.2 in
    let len : length next.cells ≡ length a.cells = ap length cells ∙ counter.keeps row a.cells in
    let le = counter.little pair.1 in
    let rest = counted_by_walk facilities width c Good amount more counter gives each next pairs b next_over walks.4 (omega arith) (omega arith) in
    let sum = sum_by-cons (λ (p : ℕ × X). amount p.1) pair pairs in
    record {
      same = rest.same ∙ ap (λ (t : Tallied). record t { cells = b.cells }) is;
      keeps = rest.keeps ∙ len;
      counts_in = rw sum (let more_in = rest.counts_in in omega arith);
      little = rw sum (let few = rest.little in omega arith);
    }

-- the counts of a walk are beside the same facilities, by the same width
pub still_over : {X : Type 0} (facilities : List (ℕ × SpecialFacilityRow)) (width c : ℕ) (amount : X → ℕ) (a : Tallied) (pairs : List (ℕ × X)) (b : Tallied)
    → a ≡ tallied facilities width a.cells → IsCounted c amount a pairs b → b ≡ tallied facilities width b.cells
still_over facilities width c amount a pairs b over counted = counted.same ∙ ap (λ (t : Tallied). record t { cells = b.cells }) over

-- a row of a subscriber
row_of-length : (width s_id : ℕ) (counts : List ℕ) → length (with_row_of width s_id counts) ≡ length counts
row_of-length width s_id counts = one_more-length (FIRST_ZONE + zone_of width s_id) counts

in_zone_cell : (z c : ℕ) → ◌≡◌ {A = ℕ} (if c == FIRST_ZONE + z then 1 else 0) (if nat_lt c FIRST_ZONE then 0 else (if z == c - FIRST_ZONE then 1 else 0))
in_zone_cell z c = grind (arith, nat_tests)

row_of-at : (width s_id c : ℕ) (counts : List ℕ) → c < length counts → get_or counts c 0 + 1 < 18446744073709551616
    → get_or (with_row_of width s_id counts) c 0 ≡ get_or counts c 0 + zone_in width c s_id
row_of-at width s_id c counts within room = one_more-at (FIRST_ZONE + zone_of width s_id) c counts within (omega arith) ∙ ap (λ n. get_or counts c 0 + n) (in_zone_cell (zone_of width s_id) c)

zone_in-le : (width c s_id : ℕ) → zone_in width c s_id ≤ 1
zone_in-le width c s_id = by_test (nat_lt c FIRST_ZONE) (λ e. rw e (omega arith)) (λ e. rw e (tick-le (zone_of width s_id == c - FIRST_ZONE)))

pub row_counter : {X : Type 0} (width c : ℕ) (owner : X → ℕ) → IsCounter {X = X} c (λ row. ⊤) (λ row. zone_in width c (owner row)) (λ row counts. with_row_of width (owner row) counts)
row_counter width c owner = record {
  keeps = λ row counts. row_of-length width (owner row) counts;
  counts_in = λ row counts good within room. row_of-at width (owner row) c counts within (omega arith);
  little = λ row. zone_in-le width c (owner row);
}

-- a Subscriber row
in_area_cell : (a c n : ℕ) → a < 16 → (if c == FIRST_AREA + a then 1 else 0) + (if nat_lt c FIRST_ZONE then 0 else n) ≡ (if nat_lt c FIRST_AREA then 0 else (if nat_lt c FIRST_ZONE then (if a == c - FIRST_AREA then 1 else 0) else n))
in_area_cell a c n small = grind (arith, nat_tests)

in_area_cell-twice : (a c n : ℕ) → a < 16 → (if c == FIRST_AREA + a then 1 else 0) + (if nat_lt c FIRST_ZONE then 0 else n) ≡ (if nat_lt c FIRST_AREA then 0 else (if nat_lt c FIRST_ZONE then (if a == c - FIRST_AREA then 1 else 0) else (if nat_lt c FIRST_ZONE then 0 else n)))
in_area_cell-twice a c n small = by_test (nat_lt c FIRST_ZONE)
    (λ e. let same = in_area_cell a c n small in simp e (rw e at same))
    (λ e. let same = in_area_cell a c n small in simp e (rw e at same))

subscriber-at : (width c : ℕ) (row : SubscriberRow) (counts : List ℕ) → area_of row.vlr_location < 16 → c < length counts → get_or counts c 0 + 2 < 18446744073709551616
    → get_or (with_subscriber width row counts) c 0 ≡ get_or counts c 0 + subscriber_in width c row
subscriber-at width c row counts small within room =
    let a = area_of row.vlr_location in
    let n : ℕ = if zone_of width row.s_id == c - FIRST_ZONE then 1 else 0 in
    let first = one_more-at (FIRST_AREA + a) c counts within (omega arith) in
    let len = one_more-length (FIRST_AREA + a) counts in
    let tick = tick-le (c == FIRST_AREA + a) in
    let second = row_of-at width row.s_id c (one_more_in (FIRST_AREA + a) counts) (omega arith) (omega arith) in
    let both = in_area_cell-twice a c n small in
    omega arith

subscriber_in-le : (width c : ℕ) (row : SubscriberRow) → subscriber_in width c row ≤ 1
subscriber_in-le width c row = by_test (nat_lt c FIRST_AREA)
    (λ e. rw e (omega arith))
    (λ e. by_test (nat_lt c FIRST_ZONE) (λ f. rw (e, f) (tick-le (area_of row.vlr_location == c - FIRST_AREA))) (λ f. rw (e, f) (let le = zone_in-le width c row.s_id in rw f at le)))

pub subscriber_counter : (width c : ℕ) → IsCounter c (λ (row : SubscriberRow). area_of row.vlr_location < 16) (subscriber_in width c) (with_subscriber width)
subscriber_counter width c = record {
  keeps = λ row counts. row_of-length width row.s_id (one_more_in (FIRST_AREA + area_of row.vlr_location) counts) ∙ one_more-length (FIRST_AREA + area_of row.vlr_location) counts;
  counts_in = λ row counts small within room. subscriber-at width c row counts small within room;
  little = λ row. subscriber_in-le width c row;
}

-- one more in each of some hours: in those alone, and one each
one_more-other : (i c : ℕ) (counts : List ℕ) → c ≢ i → get_or (one_more_in i counts) c 0 ≡ get_or counts c 0
one_more-other i c counts other = by_test (nat_lt (get_or counts i 0) 18446744073709551615)
    (λ e. rw e (get_or-set_other counts i c (get_or counts i 0 + 1) 0 other))
    (λ e. rw e refl)

one_more_from-length : (hour n : ℕ) (counts : List ℕ) → length (one_more_from hour n counts) ≡ length counts
one_more_from-length hour zero counts = refl
one_more_from-length hour (suc n) counts = one_more_from-length (hour + 1) n (one_more_in hour counts) ∙ one_more-length hour counts

one_more_from-before : (hour n c : ℕ) (counts : List ℕ) → c < hour → get_or (one_more_from hour n counts) c 0 ≡ get_or counts c 0
one_more_from-before hour zero c counts before = refl
one_more_from-before hour (suc n) c counts before =
    one_more_from-before (hour + 1) n c (one_more_in hour counts) (omega arith) ∙ one_more-other hour c counts (λ h. omega arith)

one_more_from-at : (hour n c : ℕ) (counts : List ℕ) → c < length counts → get_or counts c 0 < 18446744073709551615
    → get_or (one_more_from hour n counts) c 0 ≡ get_or counts c 0 + (if nat_le hour c && nat_lt c (hour + n) then 1 else 0)
one_more_from-at hour zero c counts within room =
    let e : (nat_le hour c && nat_lt c (hour + 0)) ≡ false = grind (arith, nat_tests) in rw e (plus_zero (get_or counts c 0))
one_more_from-at hour (suc n) c counts within room = by_test (c == hour)
    (λ e. let here : c ≡ hour = grind (arith, nat_tests) in
    let f : (nat_le hour c && nat_lt c (hour + suc n)) ≡ true = grind (arith, nat_tests) in
    let rest = one_more_from-before (hour + 1) n c (one_more_in hour counts) (omega arith) in
    let first = one_more-at hour c counts within room in
    rw f (rest ∙ (rw e at first)))
    (λ e. let other : c ≢ hour = grind (arith, nat_tests) in
    let first = one_more-other hour c counts other in
    let rest = one_more_from-at (hour + 1) n c (one_more_in hour counts) (rw one_more-length within) (rw first room) in
    let f : (nat_le (hour + 1) c && nat_lt c (hour + 1 + n)) ≡ (nat_le hour c && nat_lt c (hour + suc n)) = grind (arith, nat_tests) in
    rest ∙ rw (first, f) refl)

-- where a walk over hours stands: it goes on, and it ends
pub hours_go_on : (hour to : ℕ) (counts : List ℕ) → hour < to → one_more_from hour (to - hour) counts ≡ one_more_from (hour + 1) (to - (hour + 1)) (one_more_in hour counts)
hours_go_on hour to counts before = let e : to - hour ≡ suc (to - (hour + 1)) = omega arith in rw e refl

pub hours_end : (hour to : ℕ) (counts : List ℕ) → to ≤ hour → one_more_from hour (to - hour) counts ≡ counts
hours_end hour to counts behind = let e : to - hour ≡ 0 = omega arith in rw e refl

-- a Call_Forwarding row
in_hours : (from to c : ℕ) → ◌≡◌ {A = ℕ} (if nat_le from c && nat_lt c (from + (to - from)) then 1 else 0) (if nat_le from c && nat_lt c to then 1 else 0)
in_hours from to c = grind (arith, nat_tests)

in_hour_cell : (from to c n : ℕ) → to ≤ FIRST_AREA → (if nat_le from c && nat_lt c to then 1 else 0) + (if nat_lt c FIRST_ZONE then 0 else n) ≡ (if nat_lt c FIRST_AREA then (if nat_le from c && nat_lt c to then 1 else 0) else (if nat_lt c FIRST_ZONE then 0 else n))
in_hour_cell from to c n small = grind (arith, nat_tests)

and-true : (b : Bool) → (b && true) ≡ b
and-true true = refl
and-true false = refl

no_hour_cell : (t : Bool) (c n : ℕ) → (if nat_lt c FIRST_ZONE then 0 else n) ≡ (if nat_lt c FIRST_AREA then (if t && false then 1 else 0) else (if nat_lt c FIRST_ZONE then 0 else n))
no_hour_cell true c n = grind (arith, nat_tests)
no_hour_cell false c n = grind (arith, nat_tests)

forwarding-at : (width c : ℕ) (active : Bool) (row : CallForwardingRow) (counts : List ℕ) → forwarding_in_range row ≡ true → c < length counts → get_or counts c 0 + 2 < 18446744073709551616
    → get_or (with_forwarding width active row counts) c 0 ≡ get_or counts c 0 + forwarding_in width c active row
forwarding-at width c true row counts holds within room =
    let span = row.end_time - row.start_time in
    let n : ℕ = if zone_of width row.s_id == c - FIRST_ZONE then 1 else 0 in
    let end : row.end_time ≤ FIRST_AREA = let below = (forwarding_ranges row holds).end_time_below in omega arith in
    let first = one_more_from-at row.start_time span c counts within (omega arith) in
    let hours = in_hours row.start_time row.end_time c in
    let len = one_more_from-length row.start_time span counts in
    let tick = tick-le (nat_le row.start_time c && nat_lt c (row.start_time + span)) in
    let second = row_of-at width row.s_id c (one_more_from row.start_time span counts) (omega arith) (omega arith) in
    let both = in_hour_cell row.start_time row.end_time c n end in
    rw (and-true (covers row c)) (omega arith)
forwarding-at width c false row counts holds within room =
    row_of-at width row.s_id c counts within (omega arith)
    ∙ ap (λ n. get_or counts c 0 + n) (no_hour_cell (covers row c) c (if zone_of width row.s_id == c - FIRST_ZONE then 1 else 0))

forwarding_in-le : (width c : ℕ) (active : Bool) (row : CallForwardingRow) → forwarding_in width c active row ≤ 1
forwarding_in-le width c active row = by_test (nat_lt c FIRST_AREA)
    (λ e. rw e (tick-le (covers row c && active)))
    (λ e. rw e (zone_in-le width c row.s_id))

forwarding-length : (width : ℕ) (active : Bool) (row : CallForwardingRow) (counts : List ℕ) → length (with_forwarding width active row counts) ≡ length counts
forwarding-length width true row counts = row_of-length width row.s_id (one_more_from row.start_time (row.end_time - row.start_time) counts) ∙ one_more_from-length row.start_time (row.end_time - row.start_time) counts
forwarding-length width false row counts = row_of-length width row.s_id counts

pub forwarding_counter : (width c : ℕ) (active : CallForwardingRow → Bool) → IsCounter c (λ (row : CallForwardingRow). forwarding_in_range row ≡ true) (λ row. forwarding_in width c (active row) row) (λ row. with_forwarding width (active row) row)
forwarding_counter width c active = record {
  keeps = λ row counts. forwarding-length width (active row) row counts;
  counts_in = λ row counts holds within room. forwarding-at width c (active row) row counts holds within room;
  little = λ row. forwarding_in-le width c (active row) row;
}
