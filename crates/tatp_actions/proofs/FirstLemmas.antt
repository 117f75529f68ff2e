-- The first subscriber of a part from one on.
use Rattle.tatp_actions.proofs.Common.{◌≡◌, refl, ◌∙◌, ap, ℕ, ◌<◌, ◌≤◌, arith, true, false, List, [], ◌∷◌, nat_le, Option, None, option_map, AllByRecursion, find, nat_tests, key_of, subscriber_key, SubscriberRow, by_test, first_subscriber, IsWithin, IsKeyed, values_of}

-- the first pair from a subscriber's key on is of the first row from the subscriber on
pub first_of_keyed : (s_id : ℕ) (pairs : List (ℕ × SubscriberRow)) → IsKeyed subscriber_key pairs
    → option_map (λ (pair : ℕ × SubscriberRow). pair.1) (find (λ (pair : ℕ × SubscriberRow). nat_le (key_of s_id 0 0) pair.0) pairs) ≡ first_subscriber s_id (values_of pairs)
first_of_keyed s_id [] keyed = refl
first_of_keyed s_id (pair ∷ pairs) keyed = by_test (nat_le s_id pair.1.s_id)
    (λ e. let f : nat_le (key_of s_id 0 0) pair.0 ≡ true = grind (arith, nat_tests) in rw (e, f) refl)
    (λ e. let f : nat_le (key_of s_id 0 0) pair.0 ≡ false = grind (arith, nat_tests) in rw (e, f) (first_of_keyed s_id pairs keyed.1))

-- the same from what the tree answers
pub first_answered : (s_id key : ℕ) (pairs : List (ℕ × SubscriberRow)) (answer : Option (ℕ × SubscriberRow)) → IsKeyed subscriber_key pairs → key ≡ key_of s_id 0 0
    → answer ≡ find (λ (pair : ℕ × SubscriberRow). nat_le key pair.0) pairs → option_map (λ (pair : ℕ × SubscriberRow). pair.1) answer ≡ first_subscriber s_id (values_of pairs)
first_answered s_id key pairs answer keyed is answers =
    ap (λ (o : Option (ℕ × SubscriberRow)). option_map (λ (pair : ℕ × SubscriberRow). pair.1) o) answers
    ∙ ap (λ (k : ℕ). option_map (λ (pair : ℕ × SubscriberRow). pair.1) (find (λ (pair : ℕ × SubscriberRow). nat_le k pair.0) pairs)) is
    ∙ first_of_keyed s_id pairs keyed

-- and past the end of the range there is none
pub none_past : (s_id low high : ℕ) (rows : List SubscriberRow) → high ≤ s_id → AllByRecursion (λ row. IsWithin low high row.s_id) rows → first_subscriber s_id rows ≡ None
none_past s_id low high [] past within = refl
none_past s_id low high (row ∷ rows) past within =
    let under : row.s_id < high = within.0.1 in
    let e : nat_le s_id row.s_id ≡ false = grind (arith, nat_tests) in rw e (none_past s_id low high rows past within.1)
