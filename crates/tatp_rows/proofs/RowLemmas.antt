-- What the ranges of a row's fields say, one by one.
use Rattle.tatp_rows.proofs.Common.{◌≡◌, refl, subst, sym, ℕ, zero, suc, ◌+◌, ◌<◌, ◌≤◌, Bool, true, false, List, [], ◌∷◌, length, replicate, get_or, set, ◌↔◌, ◌⊎◌, inl, inr, IsTrue, arith, ◌==◌, ◌&&◌, ◌||◌, nat_lt, nat_le, Ok, Err, EachIndex, list_all, nat_tests, IsUtf8-from_ascii, cases_lt, get_or_past, length-replicate, IsUtf8, LAST_SUBSCRIBER, Field, between, subscriber_of, SubscriberRow, AccessInfoRow, SpecialFacilityRow, CallForwardingRow, is_between, are_between, subscriber_in_range, access_in_range, facility_in_range, forwarding_in_range}
use Rattle.tatp_rows.proofs.OrderedLemmas.{by_test}

-- a first test, and the tests after it, from the test of all
pub both : (a b : Bool) → (a && b) ≡ true → (a ≡ true) × (b ≡ true)
both true b holds = (refl, holds)
both false b holds = absurd cc

pub both_from : (a b : Bool) → a ≡ true → b ≡ true → (a && b) ≡ true
both_from a b first rest = rw first rest

-- a number that lies in a range
pub between_is : (low high n : ℕ) → is_between low high n ≡ true → (low ≤ n) × (n ≤ high)
between_is low high n holds = let parts = both (nat_le low n) (nat_le n high) holds in (grind (arith, nat_tests), grind (arith, nat_tests))

pub between_from : (low high n : ℕ) → low ≤ n → n ≤ high → is_between low high n ≡ true
between_from low high n from to = both_from (nat_le low n) (nat_le n high) (grind (arith, nat_tests)) (grind (arith, nat_tests))

-- a number of a subscriber
pub number_below : (n : ℕ) → nat_lt n 1000000000000000 ≡ true → n < 1000000000000000
number_below n holds = grind (arith, nat_tests)

pub number_test : (n : ℕ) → n < 1000000000000000 → nat_lt n 1000000000000000 ≡ true
number_test n below = grind (arith, nat_tests)

-- numbers that lie in a range, so many
pub length-are_between : (size low high : ℕ) (ns : List ℕ) → are_between size low high ns ≡ true → length ns ≡ size
length-are_between size low high ns holds = let parts = both (length ns == size) (list_all (is_between low high) ns) holds in grind (arith, nat_tests)

-- the least number of a range, so many times
least_each : (low high size : ℕ) → low ≤ high → list_all (is_between low high) (replicate size low) ≡ true
least_each low high zero le = refl
least_each low high (suc size) le = both_from (is_between low high low) (list_all (is_between low high) (replicate size low)) (between_from low high low (omega arith) le) (least_each low high size le)

pub least_between : (low high size : ℕ) → low ≤ high → are_between size low high (replicate size low) ≡ true
least_between low high size le =
    let long = length-replicate size low in
    both_from (length (replicate size low) == size) (list_all (is_between low high) (replicate size low)) (grind (arith, nat_tests)) (least_each low high size le)

-- the ranges of a Subscriber row's fields, one by one
pub record SubscriberRanges (row : SubscriberRow) : Type 0 where
  pub s_id_from : 1 ≤ row.s_id
  pub s_id_below : row.s_id < LAST_SUBSCRIBER + 1
  pub sub_nbr_below : row.sub_nbr < 1000000000000000
  pub bits_between : are_between 10 0 1 row.bits ≡ true
  pub hexes_between : are_between 10 0 15 row.hexes ≡ true
  pub bytes_between : are_between 10 0 255 row.bytes ≡ true
  pub msc_location_from : 1 ≤ row.msc_location
  pub msc_location_below : row.msc_location < 4294967296
  pub vlr_location_from : 1 ≤ row.vlr_location
  pub vlr_location_below : row.vlr_location < 4294967296

-- the seven tests of a Subscriber row
seven : (a b c d e f g : Bool) → (a && (b && (c && (d && (e && (f && g)))))) ≡ true → (a ≡ true) × (b ≡ true) × (c ≡ true) × (d ≡ true) × (e ≡ true) × (f ≡ true) × (g ≡ true)
seven true true true true true true g all = (refl, refl, refl, refl, refl, refl, all)
seven true true true true true false g all = absurd cc
seven true true true true false f g all = absurd cc
seven true true true false e f g all = absurd cc
seven true true false d e f g all = absurd cc
seven true false c d e f g all = absurd cc
seven false b c d e f g all = absurd cc

pub subscriber_ranges : (row : SubscriberRow) → subscriber_in_range row ≡ true → SubscriberRanges row
subscriber_ranges row holds =
    let tests = seven (is_between 1 LAST_SUBSCRIBER row.s_id) (nat_lt row.sub_nbr 1000000000000000) (are_between 10 0 1 row.bits) (are_between 10 0 15 row.hexes) (are_between 10 0 255 row.bytes)
    (is_between 1 4294967295 row.msc_location) (is_between 1 4294967295 row.vlr_location) holds in
    let s_id = between_is 1 LAST_SUBSCRIBER row.s_id tests.0 in
    let msc = between_is 1 4294967295 row.msc_location tests.5 in
    let vlr = between_is 1 4294967295 row.vlr_location tests.6 in
    record {
      s_id_from = s_id.0;
      s_id_below = let to = s_id.1 in omega arith;
      sub_nbr_below = number_below row.sub_nbr tests.1;
      bits_between = tests.2;
      hexes_between = tests.3;
      bytes_between = tests.4;
      msc_location_from = msc.0;
      msc_location_below = let to = msc.1 in omega arith;
      vlr_location_from = vlr.0;
      vlr_location_below = let to = vlr.1 in omega arith;
    }

-- and all of them make the row's test
pub subscriber_from_ranges : (row : SubscriberRow) → SubscriberRanges row → subscriber_in_range row ≡ true
subscriber_from_ranges row ranges =
    let s_id = between_from 1 LAST_SUBSCRIBER row.s_id ranges.s_id_from (let to = ranges.s_id_below in omega arith) in
    let number = number_test row.sub_nbr ranges.sub_nbr_below in
    let msc = between_from 1 4294967295 row.msc_location ranges.msc_location_from (let to = ranges.msc_location_below in omega arith) in
    let vlr = between_from 1 4294967295 row.vlr_location ranges.vlr_location_from (let to = ranges.vlr_location_below in omega arith) in
    both_from _ _ s_id (both_from _ _ number (both_from _ _ ranges.bits_between (both_from _ _ ranges.hexes_between (both_from _ _ ranges.bytes_between (both_from _ _ msc vlr)))))

-- numbers in a range, with another one in front
front_between : (size low high b : ℕ) (ns : List ℕ) → low ≤ b → b ≤ high → 0 < size → are_between size low high ns ≡ true → are_between size low high (set ns 0 b) ≡ true
front_between size low high b [] from to some holds = absurd (let none = length-are_between size low high [] holds in omega arith)
front_between size low high b (n ∷ ns) from to some holds =
    let parts = both (length (n ∷ ns) == size) (list_all (is_between low high) (n ∷ ns)) holds in
    let rest = (both (is_between low high n) (list_all (is_between low high) ns) parts.1).1 in
    both_from (length (b ∷ ns) == size) (list_all (is_between low high) (b ∷ ns)) parts.0
    (both_from (is_between low high b) (list_all (is_between low high) ns) (between_from low high b from to) rest)

-- the row with another bit_1
pub bit_1_in_range : (row : SubscriberRow) (b : ℕ) → b ≤ 1 → subscriber_in_range row ≡ true → subscriber_in_range (record row { bits = set row.bits 0 b }) ≡ true
bit_1_in_range row b small holds =
    let ranges = subscriber_ranges row holds in
    subscriber_from_ranges (record row { bits = set row.bits 0 b }) (record {
      s_id_from = ranges.s_id_from;
      s_id_below = ranges.s_id_below;
      sub_nbr_below = ranges.sub_nbr_below;
      bits_between = front_between 10 0 1 b row.bits (omega arith) small (omega arith) ranges.bits_between;
      hexes_between = ranges.hexes_between;
      bytes_between = ranges.bytes_between;
      msc_location_from = ranges.msc_location_from;
      msc_location_below = ranges.msc_location_below;
      vlr_location_from = ranges.vlr_location_from;
      vlr_location_below = ranges.vlr_location_below;
    })

-- the subscriber of a row in the other tables
pub record IsSubscriberId (s_id : ℕ) : Type 0 where
  pub from : 1 ≤ s_id
  pub below : s_id < LAST_SUBSCRIBER + 1

subscriber_id : (s_id : ℕ) (rest : Bool) → (is_between 1 LAST_SUBSCRIBER s_id && rest) ≡ true → IsSubscriberId s_id
subscriber_id s_id rest holds =
    let s_id = between_is 1 LAST_SUBSCRIBER s_id (both (is_between 1 LAST_SUBSCRIBER s_id) rest holds).0 in
    record { from = s_id.0; below = let to = s_id.1 in omega arith }

pub access_s_id : (row : AccessInfoRow) → access_in_range row ≡ true → IsSubscriberId row.s_id
access_s_id row holds = subscriber_id row.s_id _ holds

pub facility_s_id : (row : SpecialFacilityRow) → facility_in_range row ≡ true → IsSubscriberId row.s_id
facility_s_id row holds = subscriber_id row.s_id _ holds

pub forwarding_s_id : (row : CallForwardingRow) → forwarding_in_range row ≡ true → IsSubscriberId row.s_id
forwarding_s_id row holds = subscriber_id row.s_id _ holds

-- the type of a row in the other tables, 1 to 4
pub record IsKind (kind : ℕ) : Type 0 where
  pub from : 1 ≤ kind
  pub below : kind < 5

second_kind : (first : Bool) (kind : ℕ) (rest : Bool) → (first && (is_between 1 4 kind && rest)) ≡ true → IsKind kind
second_kind first kind rest holds =
    let later = (both first (is_between 1 4 kind && rest) holds).1 in
    let range = between_is 1 4 kind (both (is_between 1 4 kind) rest later).0 in
    record { from = range.0; below = let to = range.1 in omega arith }

pub access_type : (row : AccessInfoRow) → access_in_range row ≡ true → IsKind row.ai_type
access_type row holds = second_kind (is_between 1 LAST_SUBSCRIBER row.s_id) row.ai_type _ holds

pub facility_type : (row : SpecialFacilityRow) → facility_in_range row ≡ true → IsKind row.sf_type
facility_type row holds = second_kind (is_between 1 LAST_SUBSCRIBER row.s_id) row.sf_type _ holds

pub forwarding_type : (row : CallForwardingRow) → forwarding_in_range row ≡ true → IsKind row.sf_type
forwarding_type row holds = second_kind (is_between 1 LAST_SUBSCRIBER row.s_id) row.sf_type _ holds

-- the ranges of a Special_Facility row's fields, one by one
pub record FacilityRanges (row : SpecialFacilityRow) : Type 0 where
  pub s_id_between : is_between 1 LAST_SUBSCRIBER row.s_id ≡ true
  pub sf_type_between : is_between 1 4 row.sf_type ≡ true
  pub is_active_between : is_between 0 1 row.is_active ≡ true
  pub error_cntrl_between : is_between 0 255 row.error_cntrl ≡ true
  pub data_a_between : is_between 0 255 row.data_a ≡ true
  pub data_b_between : are_between 5 65 90 row.data_b ≡ true

pub facility_ranges : (row : SpecialFacilityRow) → facility_in_range row ≡ true → FacilityRanges row
facility_ranges row holds =
    let kind = is_between 1 4 row.sf_type in
    let active = is_between 0 1 row.is_active in
    let error = is_between 0 255 row.error_cntrl in
    let data_a = is_between 0 255 row.data_a in
    let letters = are_between 5 65 90 row.data_b in
    let on_s_id = both (is_between 1 LAST_SUBSCRIBER row.s_id) (kind && (active && (error && (data_a && letters)))) holds in
    let on_kind = both kind (active && (error && (data_a && letters))) on_s_id.1 in
    let on_active = both active (error && (data_a && letters)) on_kind.1 in
    let on_error = both error (data_a && letters) on_active.1 in
    let on_data = both data_a letters on_error.1 in
    record {
      s_id_between = on_s_id.0;
      sf_type_between = on_kind.0;
      is_active_between = on_active.0;
      error_cntrl_between = on_error.0;
      data_a_between = on_data.0;
      data_b_between = on_data.1;
    }

-- the times and the number of a Call_Forwarding row
pub record ForwardingRanges (row : CallForwardingRow) : Type 0 where
  pub start_time_is : (row.start_time ≡ 0) ⊎ ((row.start_time ≡ 8) ⊎ (row.start_time ≡ 16))
  pub start_time_below : row.start_time < 17
  pub end_time_from : 1 ≤ row.end_time
  pub end_time_below : row.end_time < 25
  pub numberx_below : row.numberx < 1000000000000000

pub forwarding_ranges : (row : CallForwardingRow) → forwarding_in_range row ≡ true → ForwardingRanges row
forwarding_ranges row holds =
    let kind = is_between 1 4 row.sf_type in
    let start = row.start_time == 0 || (row.start_time == 8 || row.start_time == 16) in
    let end = is_between 1 24 row.end_time in
    let number = nat_lt row.numberx 1000000000000000 in
    let after_s_id = (both (is_between 1 LAST_SUBSCRIBER row.s_id) (kind && (start && (end && number))) holds).1 in
    let after_kind = (both kind (start && (end && number)) after_s_id).1 in
    let on_start = both start (end && number) after_kind in
    let on_end = both end number on_start.1 in
    let start_time = start_is row.start_time on_start.0 in
    let end_time = between_is 1 24 row.end_time on_end.0 in
    record {
      start_time_is = start_time;
      start_time_below = omega arith;
      end_time_from = end_time.0;
      end_time_below = let to = end_time.1 in omega arith;
      numberx_below = number_below row.numberx on_end.1;
    }
  where
    start_is : (n : ℕ) → (n == 0 || (n == 8 || n == 16)) ≡ true → (n ≡ 0) ⊎ ((n ≡ 8) ⊎ (n ≡ 16))
    start_is n holds = grind (arith, nat_tests)

-- the numbers lie in a range exactly where each does
each_between : (low high : ℕ) (ns : List ℕ) → EachIndex ns (λ k. (low ≤ get_or ns k 0) × (get_or ns k 0 ≤ high)) → list_all (is_between low high) ns ≡ true
each_between low high [] each = refl
each_between low high (n ∷ ns) each =
    let first = each 0 (omega arith) in
    both_from (is_between low high n) (list_all (is_between low high) ns) (between_from low high n first.0 first.1)
    (each_between low high ns (λ k within. each (suc k) (omega arith)))

pub between_each : (low high : ℕ) (ns : List ℕ) → list_all (is_between low high) ns ≡ true → EachIndex ns (λ k. (low ≤ get_or ns k 0) × (get_or ns k 0 ≤ high))
between_each low high [] all k within = absurd (omega arith)
between_each low high (n ∷ ns) all zero within = between_is low high n (both (is_between low high n) (list_all (is_between low high) ns) all).0
between_each low high (n ∷ ns) all (suc k) within = between_each low high ns (both (is_between low high n) (list_all (is_between low high) ns) all).1 k (omega arith)

-- a test of each number's bounds is the test of the range
pub are_from_each : (size low high : ℕ) (ns : List ℕ) (result : Bool) → (IsTrue result ↔ EachIndex ns (λ k. (low ≤ get_or ns k 0) × (get_or ns k 0 ≤ high))) → length ns ≡ size → result ≡ are_between size low high ns
are_from_each size low high ns result each long =
    let sized : (length ns == size) ≡ true = grind (arith, nat_tests) in
    rw sized (alike result (list_all (is_between low high) ns) (λ holds. each_between low high ns (each.0 holds)) (λ all. each.1 (between_each low high ns all)))
  where
    alike : (a b : Bool) → (a ≡ true → b ≡ true) → (b ≡ true → a ≡ true) → a ≡ b
    alike true b to from = sym (to refl)
    alike false true to from = from refl
    alike false false to from = refl

-- letters are ASCII, so a text
pub letters_utf8 : (size : ℕ) (text : List ℕ) → are_between size 65 90 text ≡ true → IsUtf8 text
letters_utf8 size text letters = IsUtf8-from_ascii text (λ k. elim (cases_lt k (length text)) [
  | inl inside ↦ let high = (between_each 65 90 text (both (length text == size) (list_all (is_between 65 90) text) letters).1 k inside).1 in omega arith
  | inr past ↦ let none : get_or text k 0 ≡ 0 = get_or_past text k 0 past in omega arith
])

-- what a range's answer says of the number
pub between_ok : (low high n m : ℕ) → Ok m ≡ between low high n → (m ≡ n) × (is_between low high n ≡ true)
between_ok low high n m answered =
    by_test (is_between low high n)
    (λ e. let same : Ok m ≡ Ok n = rw e at answered in (cc, e))
    (λ e. let differ : Ok m ≡ Err Field = rw e at answered in absurd cc)

-- a row in range is made as it is
pub subscriber_of_ok : (row : SubscriberRow) → subscriber_in_range row ≡ true → subscriber_of row ≡ Ok row
subscriber_of_ok row holds = rw holds refl

-- what is known of the fields of a row that is made
pub record AreChecked (s_id s sub_nbr : ℕ) (bits hexes bytes : List ℕ) (msc_location m vlr_location v : ℕ) : Type 0 where
  pub s_id_is : Ok s ≡ between 1 LAST_SUBSCRIBER s_id
  pub sub_nbr_below : sub_nbr < 1000000000000000
  pub bits_between : are_between 10 0 1 bits ≡ true
  pub hexes_between : are_between 10 0 15 hexes ≡ true
  pub bytes_between : are_between 10 0 255 bytes ≡ true
  pub msc_location_is : Ok m ≡ between 1 4294967295 msc_location
  pub vlr_location_is : Ok v ≡ between 1 4294967295 vlr_location

module _ (s_id s sub_nbr : ℕ) (bits hexes bytes : List ℕ) (msc_location m vlr_location v : ℕ) (checked : AreChecked s_id s sub_nbr bits hexes bytes msc_location m vlr_location v) where
  -- the fields given are in range
  given_in_range : subscriber_in_range (record { s_id = s_id; sub_nbr = sub_nbr; bits = bits; hexes = hexes; bytes = bytes; msc_location = msc_location; vlr_location = vlr_location }) ≡ true
  given_in_range =
      both_from _ _ (between_ok 1 LAST_SUBSCRIBER s_id s checked.s_id_is).1 (both_from _ _ (number_test sub_nbr checked.sub_nbr_below)
      (both_from _ _ checked.bits_between (both_from _ _ checked.hexes_between (both_from _ _ checked.bytes_between
      (both_from _ _ (between_ok 1 4294967295 msc_location m checked.msc_location_is).1 (between_ok 1 4294967295 vlr_location v checked.vlr_location_is).1)))))

  -- they are those of the row that is made
  made_same : ◌≡◌ {A = SubscriberRow} (record { s_id = s; sub_nbr = sub_nbr; bits = bits; hexes = hexes; bytes = bytes; msc_location = m; vlr_location = v })
      (record { s_id = s_id; sub_nbr = sub_nbr; bits = bits; hexes = hexes; bytes = bytes; msc_location = msc_location; vlr_location = vlr_location })
  made_same =
      let s_id_is = (between_ok 1 LAST_SUBSCRIBER s_id s checked.s_id_is).0 in
      let msc_is = (between_ok 1 4294967295 msc_location m checked.msc_location_is).0 in
      let vlr_is = (between_ok 1 4294967295 vlr_location v checked.vlr_location_is).0 in
      rw (s_id_is, msc_is, vlr_is) refl

  -- the row that is made is the one asked for
  pub made_is : Ok (record { s_id = s; sub_nbr = sub_nbr; bits = bits; hexes = hexes; bytes = bytes; msc_location = m; vlr_location = v })
      ≡ subscriber_of (record { s_id = s_id; sub_nbr = sub_nbr; bits = bits; hexes = hexes; bytes = bytes; msc_location = msc_location; vlr_location = vlr_location })
  made_is = rw made_same (sym (subscriber_of_ok _ given_in_range))

  -- and it is in range
  pub made_in_range : subscriber_in_range (record { s_id = s; sub_nbr = sub_nbr; bits = bits; hexes = hexes; bytes = bytes; msc_location = m; vlr_location = v }) ≡ true
  made_in_range = subst (λ (row : SubscriberRow). subscriber_in_range row ≡ true) (sym made_same) given_in_range
