-- The laws of the groups of the three tables.
use Rattle.std.specs.Prelude.{◌≡◌, ℕ, ◌+◌, ◌-◌, ◌*◌, ◌/◌, ◌<◌, ◌≤◌, ◌==◌, true, List, [], ◌∷◌, IsTrue}
use Rattle.std.specs.List.{AllByRecursion}
use Rattle.std.proofs.Common.{arith}
use Rattle.std.proofs.lemmas.Bool.Decides.{nat_tests}
use Rattle.tatp_rows.specs.Ordered.{IsOrderedBy}
use Rattle.tatp_rows.specs.Rows.{is_between, is_start_time}
use Rattle.tatp_rows.specs.declared.ranges.TheConstants.{LAST_SUBSCRIBER}
use Rattle.tatp_rows.proofs.MapLemmas.{each-map}
use Rattle.tatp_rows.proofs.OrderedLemmas.{by_test, each-weaker}
use Rattle.tatp_rows.proofs.RowLemmas.{between_is}
use Rattle.row_groups.specs.Groups.{access_type, access_with, facility_type, facility_with, forwarding_start}
use Rattle.mr_node.specs.Rows.{key_limit, key_of_pair}
use Rattle.group_tree.specs.Groups.{HaveLaws, IsBase, IsGroupAt}
use Rattle.group_tree.specs.Tables.{HoldsAccesses, HoldsFacilities, HoldsForwardings, HoldsTyped, accesses_listed, facilities_listed, facility_span, forwardings_listed, listed_by, s_id_in, started_key_in, subscriber_span, typed_key_at, typed_key_in, typed_listed}

-- keys that rise with the numbers of rows keep their order
listed-ordered : {R : Type 0} (key_at : ℕ → ℕ) (number : R → ℕ) (with : R → R) → ((low high : ℕ) → low < high → key_at low < key_at high) → (rows : List R) → IsOrderedBy number rows → IsOrderedBy key_of_pair (listed_by key_at number with rows)
listed-ordered key_at number with rising [] ordered = tt
listed-ordered key_at number with rising (row ∷ rows) ordered = (
  each-map (λ x. (key_at (number x), with x)) (λ p. key_at (number row) < p.0) rows (each-weaker {P = λ x. number row < number x} {Q = λ x. key_at (number row) < key_at (number x)} (λ x above. rising (number row) (number x) above) rows ordered.0),
  listed-ordered key_at number with rising rows ordered.1,
)

-- rows that are in the order of their numbers, and whose keys are those of four places, are a group
listed_rules : {R : Type 0} (key_at key_in : ℕ → ℕ) (number : R → ℕ) (with : R → R) (span base : ℕ) (rows : List R) → ((low high : ℕ) → low < high → key_at low < key_at high) → IsBase span base → base + span ≤ key_limit
    → IsOrderedBy number rows → AllByRecursion (λ row. (place : ℕ) × (place < 4) × (key_at (number row) ≡ key_in place)) rows → IsGroupAt span base key_in (listed_by key_at number with rows)
listed_rules key_at key_in number with span base rows rising at small ordered each = record {
  at = at;
  ordered = listed-ordered key_at number with rising rows ordered;
  each = each-map (λ x. (key_at (number x), with x)) (λ p. (place : ℕ) × (place < 4) × (p.0 ≡ key_in place)) rows each;
  small = small;
}

-- the span of a subscriber ends below the limit of keys
base_small : (base : ℕ) → IsTrue (is_between 1 LAST_SUBSCRIBER (s_id_in base)) → base + subscriber_span ≤ key_limit
base_small base s_id = let range = between_is 1 LAST_SUBSCRIBER (s_id_in base) s_id in let most = range.1 in omega arith

-- the span of a facility ends below the limit of keys
facility_small : (base : ℕ) → IsBase facility_span base → IsTrue (is_between 1 LAST_SUBSCRIBER (s_id_in base)) → base + facility_span ≤ key_limit
facility_small base at s_id = let range = between_is 1 LAST_SUBSCRIBER (s_id_in base) s_id in let most = range.1 in omega arith

-- an eighth of a start time is 0, 1 or 2
pub start_eighth : (n : ℕ) → is_start_time n ≡ true → (8 * (n / 8) ≡ n) × (n / 8 < 3)
start_eighth n is =
    by_test (n == 0)
    (λ t. let zero : n ≡ 0 = grind (arith, nat_tests) in (omega arith, omega arith))
    (λ t. by_test (n == 8)
    (λ u. let eight : n ≡ 8 = grind (arith, nat_tests) in (omega arith, omega arith))
    (λ u. let last : (n == 16) ≡ true = rw (t, u) at is in let sixteen : n ≡ 16 = grind (arith, nat_tests) in (omega arith, omega arith)))

-- keys rise with types
pub types_rise : (base low high : ℕ) → low < high → typed_key_at base low < typed_key_at base high
types_rise base low high less = omega arith

-- the laws of groups whose rows have types
typed_laws : {R : Type 0} (s_id type_of : R → ℕ) (with : ℕ → R → R) → HaveLaws (typed_listed type_of with) (HoldsTyped s_id type_of) subscriber_span typed_key_in
typed_laws s_id type_of with = record {
  positive = omega arith;
  rising = λ base place. omega arith;
  from = λ base. omega arith;
  below = λ base. omega arith;
  rules = λ base rows holds.
      listed_rules (typed_key_at base) (typed_key_in base) type_of _ subscriber_span base rows (types_rise base) holds.at (base_small base holds.s_id) holds.rules.ordered
      (each-weaker (λ row h. (type_of row - 1, omega (arith, h.1, h.2), omega (arith, h.1))) rows holds.rules.each);
}

-- the laws of groups of accesses
pub access_laws : HaveLaws accesses_listed HoldsAccesses subscriber_span typed_key_in
access_laws = typed_laws (λ row. row.s_id) access_type access_with

-- the laws of groups of facilities
pub facility_laws : HaveLaws facilities_listed HoldsFacilities subscriber_span typed_key_in
facility_laws = typed_laws (λ row. row.s_id) facility_type facility_with

-- the laws of groups of forwardings
pub forwarding_laws : HaveLaws forwardings_listed HoldsForwardings facility_span started_key_in
forwarding_laws = record {
  positive = omega arith;
  rising = λ base place. omega arith;
  from = λ base. omega arith;
  below = λ base. omega arith;
  rules = λ base rows holds.
      listed_rules (λ hour. base + hour) (started_key_in base) forwarding_start _ facility_span base rows (λ low high less. omega arith) holds.at (facility_small base holds.at holds.s_id) holds.rules.ordered
      (each-weaker (λ row h. let eighth = start_eighth row.start_time h.2 in (row.start_time / 8, omega (arith, eighth.1), omega (arith, eighth.0))) rows holds.rules.each);
}
