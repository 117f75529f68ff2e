-- The parts on which an event works: where these are at home, so is whoever the event needs.
use Rattle.hlr_core.proofs.Common.{◌≡◌, refl, ℕ, zero, suc, ◌<◌, ◌≤◌, arith, List, [], ◌∷◌, drop, get_or, length, Bool, true, false, None, inl, inr, ◌↔◌, ◌⊎◌, AllByRecursion, cases_lt, nat_tests, get_or_past, by_test, between, is_between, LAST_SUBSCRIBER, Refusal, lies_in, IsConsecutive, parts_of, place_of, Region, END, PartOwnerState, AreOwners, IsHomeFor, IsHomeFrom, IsPartHome, OwnersState, homes_in, lies_within, count_parts, AreHome, Parts, Ok, Err}

-- none are at home in any case
pub none_home : (parts : Parts) (h : OwnersState) → parts.end ≤ parts.first → AreHome parts h
none_home parts h none = λ part from low. absurd (omega arith)

-- a part that isn't there counts as at home
pub past_home : (h : OwnersState) (are : AreOwners h) (p : ℕ) → length (parts_of h.regions) ≤ p → IsPartHome p h
past_home h are p past =
    let count = count_parts (λ (o : PartOwnerState). o.home) h.width h.regions h.owners are.each in
    get_or_past (homes_in h.owners) p true (omega arith)

-- the trues of a list from one on
pub trues_to : (homes : List Bool) (first : ℕ) → ((q : ℕ) → first ≤ q → q < length homes → get_or homes q true ≡ true) → AllByRecursion (λ (home : Bool). home ≡ true) (drop first homes)
trues_to [] zero each = tt
trues_to [] (suc first) each = tt
trues_to (home ∷ homes) zero each = (each 0 (omega arith) (omega arith), trues_to homes zero (λ q from low. each (suc q) (omega arith) (omega arith)))
trues_to (home ∷ homes) (suc first) each = trues_to homes first (λ q from low. each (suc q) (omega arith) (omega arith))

pub trues_each : (homes : List Bool) (first q : ℕ) → AllByRecursion (λ (home : Bool). home ≡ true) (drop first homes) → first ≤ q → get_or homes q true ≡ true
trues_each [] first q all from = get_or_past [] q true (omega arith)
trues_each (home ∷ homes) zero zero all from = all.0
trues_each (home ∷ homes) zero (suc q) all from = trues_each homes zero q all.1 (omega arith)
trues_each (home ∷ homes) (suc first) zero all from = absurd (omega arith)
trues_each (home ∷ homes) (suc first) (suc q) all from = trues_each homes first q all (omega arith)

-- all from one on are at home, if they are
pub all_from : (parts : Parts) (h : OwnersState) (are : AreOwners h) → parts.end ≡ length (parts_of h.regions) → AreHome parts h ↔ IsHomeFrom parts.first h
all_from parts h are end =
    let count = count_parts (λ (o : PartOwnerState). o.home) h.width h.regions h.owners are.each in (
      λ all. trues_to (homes_in h.owners) parts.first (λ q from low. all q from (omega arith)),
      λ all part from low. trues_each (homes_in h.owners) parts.first part all from,
    )

-- behind the last there are none
pub none_from : (h : OwnersState) (are : AreOwners h) (p : ℕ) → length (parts_of h.regions) ≤ p → IsHomeFrom p h
none_from h are p past =
    let count = count_parts (λ (o : PartOwnerState). o.home) h.width h.regions h.owners are.each in
    trues_to (homes_in h.owners) p (λ q from low. absurd (omega arith))

-- a number out of range lies in no region
nowhere : (from s_id : ℕ) (regions : List Region) → IsConsecutive from regions → (s_id < from) ⊎ (END ≤ s_id) → place_of s_id regions ≡ None
nowhere from s_id [] consecutive out = refl
nowhere from s_id (r ∷ regions) consecutive out =
    let rest : place_of s_id regions ≡ None = nowhere r.hi s_id regions consecutive.2 (elim out [
      | inl below ↦ inl (let lo = consecutive.0 in let some = consecutive.1 in omega arith)
      | inr above ↦ inr above
    ]) in
    by_test (lies_in s_id r)
    (λ e.
    let within = lies_within s_id r e in
    let end = consecutive_end r.hi regions consecutive.2 in
    absurd (elim out [
      | inl below ↦ (let lo = consecutive.0 in let from_lo = within.0 in omega arith)
      | inr above ↦ (let under = within.1 in omega arith)
    ]))
    (λ e. rw e rest)
  where
    consecutive_end : (from : ℕ) (regions : List Region) → IsConsecutive from regions → from ≤ END
    consecutive_end from [] is = let e : from ≡ END = is in omega arith
    consecutive_end from (r ∷ regions) is = let lo = is.0 in let some = is.1 in let rest = consecutive_end r.hi regions is.2 in omega arith

-- whoever has it is at home
nobody : (h : OwnersState) (are : AreOwners h) (s_id : ℕ) → is_between 1 LAST_SUBSCRIBER s_id ≡ false → IsHomeFor s_id h
nobody h are s_id out = rw (nowhere 1 s_id h.regions are.are.consecutive sides) tt
  where
    sides : (s_id < 1) ⊎ (END ≤ s_id)
    sides = elim (cases_lt s_id 1) [
      | inl below ↦ inl below
      | inr from ↦ elim (cases_lt s_id END) [
        | inl to ↦ absurd (let is : is_between 1 LAST_SUBSCRIBER s_id ≡ true = grind (arith, nat_tests, from, to) in cc)
        | inr above ↦ inr above
      ]
    ]

pub nobody_home : (h : OwnersState) (are : AreOwners h) (s_id : ℕ) (why : Refusal) → Err why ≡ between 1 LAST_SUBSCRIBER s_id → IsHomeFor s_id h
nobody_home h are s_id why is =
    nobody h are s_id
    (by_test (is_between 1 LAST_SUBSCRIBER s_id) (λ e. let ok : Err why ≡ Ok s_id = rw e at is in absurd cc) (λ e. e))
