-- Two desks that become one.
use Rattle.view_board.proofs.Common.{◌≡◌, ◌≢◌, ◌⊎◌, ℕ, ◌/◌, ◌<◌, ◌≤◌, max, List, get_or, set, Bool, true, false, ◌||◌, if◌then◌else◌, refl, sym, ap, subst, ◌∙◌, inl, inr, arith, cases_lt, false≢true, get_or_past, by_test, Me, Joins, at_set, View, SLOTS, SLOT_WORDS, WORDS, owned_at, Owns, OwnsWord, IsWide, both, nobody, slots_of_both, numbers_of_both, AreApart, AreSmall, Fits, IsRuled, Agrees}
use mathlib.Core.Option.{some}
use lib.ListN.{get_elem?}
use Rattle.view_board.proofs.ListLemmas.{each_word_at, length-each_word, each_slot_at, length-each_slot, set_within, apart_at, apart_by_slots}
use Rattle.view_board.proofs.RuleLemmas.{HaveOneOwner, fit_after}

-- a number of both
abbrev number_of : List ℕ → List ℕ → List Bool → ℕ → ℕ
number_of numbers others flags w = if get_or flags (w / SLOT_WORDS) false then get_or others w 0 else get_or numbers w 0

-- one of two flags is set
either_set : (a b : Bool) → (a || b) ≡ true → (a ≡ true) ⊎ (b ≡ true)
either_set true b e = inl refl
either_set false b e = inr e

set_left : (a b : Bool) → a ≡ true → (a || b) ≡ true
set_left true b e = refl
set_left false b e = absurd (false≢true e)

set_right : (a b : Bool) → b ≡ true → (a || b) ≡ true
set_right true b e = refl
set_right false b e = e

-- the slots of both are those of the one and those of the other
pub owned_by_one : (v other : View) (slot : ℕ) → Owns (both v other) slot → Owns v slot ⊎ Owns other slot
owned_by_one v other slot own =
    let below : slot < SLOTS = let within = set_within (slots_of_both v.owned other.owned) slot own in omega (arith, length-each_slot (λ s. owned_at v s || owned_at other s)) in
    either_set (owned_at v slot) (owned_at other slot) (sym (each_slot_at (λ s. owned_at v s || owned_at other s) slot below) ∙ own)

pub owned_by_both : (v other : View) (slot : ℕ) → slot < SLOTS → Owns v slot ⊎ Owns other slot → Owns (both v other) slot
owned_by_both v other slot below own = each_slot_at (λ s. owned_at v s || owned_at other s) slot below ∙ elim own [
  | inl mine ↦ set_left (owned_at v slot) (owned_at other slot) mine
  | inr theirs ↦ set_right (owned_at v slot) (owned_at other slot) theirs
]

-- a number of both, at a word of the other's, and at one that isn't
pub number_theirs : (v other : View) (w : ℕ) → w < WORDS → OwnsWord other w → get_or (both v other).numbers w 0 ≡ get_or other.numbers w 0
number_theirs v other w below own = each_word_at (λ w. if owned_at other (w / SLOT_WORDS) then get_or other.numbers w 0 else get_or v.numbers w 0) w below ∙ rw own refl

pub number_ours : (v other : View) (w : ℕ) → w < WORDS → owned_at other (w / SLOT_WORDS) ≡ false → get_or (both v other).numbers w 0 ≡ get_or v.numbers w 0
number_ours v other w below not_theirs = each_word_at (λ w. if owned_at other (w / SLOT_WORDS) then get_or other.numbers w 0 else get_or v.numbers w 0) w below ∙ rw not_theirs refl

pub seen_both : (v other : View) (w : ℕ) → w < WORDS → get_or (both v other).seen w 0 ≡ max (get_or v.seen w 0) (get_or other.seen w 0)
seen_both v other w below = each_word_at (λ w. max (get_or v.seen w 0) (get_or other.seen w 0)) w below

word_below : (v other : View) (w : ℕ) → OwnsWord (both v other) w → w < WORDS
word_below v other w own =
    let within = set_within (slots_of_both v.owned other.owned) (w / SLOT_WORDS) own in
    omega (arith, length-each_slot (λ s. owned_at v s || owned_at other s))

-- a slot isn't the other's where it is the desk's
pub not_theirs : (v other : View) (slot : ℕ) → (Owns v slot → Owns other slot → ⊥) → Owns v slot → owned_at other slot ≡ false
not_theirs v other slot apart mine = by_test (owned_at other slot) (λ theirs. absurd (apart mine theirs)) (λ e. e)

-- both fit where each does and no slot is in both
pub both_fit : (words : List ℕ) (v other : View) → Fits words v → Fits words other → ((slot : ℕ) → Owns v slot → Owns other slot → ⊥) → Fits words (both v other)
both_fit words v other fits others apart = record {
  own = own;
  seen = seen;
  was_apart = apart_by_slots v.owned other.owned apart;
}
  where
    own : (w : ℕ) → OwnsWord (both v other) w → get_or (both v other).numbers w 0 ≡ get_or words w 0
    own w mine =
        let below = word_below v other w mine in
        by_test (owned_at other (w / SLOT_WORDS))
        (λ theirs. number_theirs v other w below theirs ∙ others.own w theirs)
        (λ free. number_ours v other w below free ∙ elim (owned_by_one v other (w / SLOT_WORDS) mine) [
          | inl ours ↦ fits.own w ours
          | inr theirs ↦ absurd (false≢true (sym free ∙ theirs))
        ])

    seen : (w : ℕ) → get_or (both v other).seen w 0 ≤ get_or words w 0
    seen w = elim (cases_lt w WORDS) [
      | inl below ↦ (let a = fits.seen w in let b = others.seen w in rw (seen_both v other w below) (omega arith))
      | inr past ↦ rw (get_or_past (both v other).seen w 0 (rw (length-each_word (λ w. max (get_or v.seen w 0) (get_or other.seen w 0))) past)) (omega arith)
    ]

-- the desk takes in another one
pub joins : (id at : ℕ) (v other : View) → Joins IsRuled id v at other (both v other) nobody
joins id at v other s rule there else_where here = record {
  wide = rule.wide;
  small = rule.small;
  fits = fit_after s.words first at nobody spent first_fit;
  apart = one;
}
  where
    first : List View
    first = set s.views id (both v other)

    was : get_elem? s.views at ≡ some other
    was = elim (at_set s.views id at (both v other) other here) [
      | inl same ↦ absurd (else_where same.0)
      | inr old ↦ old.1
    ]

    apart : (slot : ℕ) → Owns v slot → Owns other slot → ⊥
    apart slot mine theirs = else_where (sym (rule.apart id at v other slot there was mine theirs))

    spent : Fits s.words nobody
    spent = record { own = λ w own. absurd (false≢true own); seen = λ w. omega arith; was_apart = refl }

    first_fit : (by : ℕ) (u : View) → by ≢ at → get_elem? first by ≡ some u → Fits s.words u
    first_fit by u differs found = fit_after s.words s.views id (both v other) (both_fit s.words v other (rule.fits id v there) (rule.fits at other was) apart) (λ b w differs found. rule.fits b w found) by u found

    -- who owns a slot now owned it before, or it is the keeping desk's
    before : (by : ℕ) (u : View) (slot : ℕ) → get_elem? (set first at nobody) by ≡ some u → Owns u slot → ((by ≡ id) × Owns (both v other) slot) ⊎ ((by ≢ id) × (by ≢ at) × (get_elem? s.views by ≡ some u))
    before by u slot found own = elim (at_set first at by nobody u found) [
      | inl gone ↦ absurd (false≢true (subst (λ w. Owns w slot) (sym gone.1) own))
      | inr left ↦ (elim (at_set s.views id by (both v other) u left.1) [
        | inl kept ↦ inl (kept.0, subst (λ w. Owns w slot) (sym kept.1) own)
        | inr old ↦ inr (old.0, left.0, old.1)
      ])
    ]

    -- a slot of the keeping desk is no third one's
    third : (by : ℕ) (u : View) (slot : ℕ) → by ≢ id → by ≢ at → get_elem? s.views by ≡ some u → Owns u slot → Owns (both v other) slot → ⊥
    third by u slot not_id not_at found own joined = elim (owned_by_one v other slot joined) [
      | inl mine ↦ not_id (rule.apart by id u v slot found there own mine)
      | inr theirs ↦ not_at (rule.apart by at u other slot found was own theirs)
    ]

    one : HaveOneOwner (set first at nobody)
    one a b u w slot at_a at_b mine theirs = elim (before a u slot at_a mine) [
      | inl kept ↦ (elim (before b w slot at_b theirs) [
        | inl same ↦ kept.0 ∙ sym same.0
        | inr old ↦ absurd (third b w slot old.0 old.1 old.2 theirs kept.1)
      ])
      | inr old ↦ (elim (before b w slot at_b theirs) [
        | inl kept ↦ absurd (third a u slot old.0 old.1 old.2 mine kept.1)
        | inr other_old ↦ rule.apart a b u w slot old.2 other_old.2 mine theirs
      ])
    ]

-- what a look right after tells of the two
told_of_both : (v other : View) → IsWide v → IsWide other → ((w : ℕ) → OwnsWord (both v other) w → get_or (both v other).seen w 0 ≤ get_or (both v other).numbers w 0) → (both v other).was_apart ≡ true → AreApart v other
told_of_both v other wide other_wide within was_apart = record {
  slots = λ slot. apart_at v.owned other.owned slot was_apart;
  theirs = λ w theirs.
      let below : w < WORDS = let inside = set_within other.owned (w / SLOT_WORDS) theirs in omega (arith, other_wide.slots) in
      let most = within w (owned_by_both v other (w / SLOT_WORDS) (omega arith) (inr theirs)) in
      let number = number_theirs v other w below theirs in
      let seen = seen_both v other w below in
      omega arith;
  ours = λ w ours.
      let below : w < WORDS = let inside = set_within v.owned (w / SLOT_WORDS) ours in omega (arith, wide.slots) in
      let most = within w (owned_by_both v other (w / SLOT_WORDS) (omega arith) (inl ours)) in
      let free = not_theirs v other (w / SLOT_WORDS) (apart_at v.owned other.owned (w / SLOT_WORDS) was_apart) ours in
      let number = number_ours v other w below free in
      let seen = seen_both v other w below in
      omega arith;
}

pub told : (v other joined : View) → IsWide v → IsWide other → joined ≡ both v other → ((w : ℕ) → OwnsWord joined w → get_or joined.seen w 0 ≤ get_or joined.numbers w 0) → joined.was_apart ≡ true → AreApart v other
told v other joined wide other_wide is within was_apart =
    told_of_both v other wide other_wide (subst (λ (j : View). (w : ℕ) → OwnsWord j w → get_or j.seen w 0 ≤ get_or j.numbers w 0) is within) (subst (λ (j : View). j.was_apart ≡ true) is was_apart)

-- no number of both passes the limit
numbers_small : (numbers others : List ℕ) (flags : List Bool) → AreSmall numbers → AreSmall others → AreSmall (numbers_of_both numbers others flags)
numbers_small numbers others flags small others_small w = elim (cases_lt w WORDS) [
  | inl below ↦ by_test (get_or flags (w / SLOT_WORDS) false)
      (λ theirs. let is : get_or (numbers_of_both numbers others flags) w 0 ≡ get_or others w 0 = each_word_at (number_of numbers others flags) w below ∙ rw theirs refl in rw is (others_small w))
      (λ ours. let is : get_or (numbers_of_both numbers others flags) w 0 ≡ get_or numbers w 0 = each_word_at (number_of numbers others flags) w below ∙ rw ours refl in rw is (small w))
  | inr past ↦ rw (get_or_past (numbers_of_both numbers others flags) w 0 (rw (length-each_word (number_of numbers others flags)) past)) (omega arith)
]

-- a desk that took in another one stores what it now knows
pub joined_agrees : (me other after : Me (Unit {0}) View) (flags other_flags slots : List Bool) (stored other_stored numbers : List ℕ) → Agrees me flags stored → Agrees other other_flags other_stored
    → after ≡ (both me.0 other.0, me.1) → after.0.was_apart ≡ true → slots ≡ slots_of_both flags other_flags → numbers ≡ numbers_of_both stored other_stored other_flags → Agrees after slots numbers
joined_agrees me other after flags other_flags slots stored other_stored numbers agrees others is was_apart slots_are numbers_are = record {
  owned = ap (λ (m : Me (Unit {0}) View). m.0.owned) is ∙ rw (slots_are, agrees.owned, others.owned) refl;
  numbers = ap (λ (m : Me (Unit {0}) View). m.0.numbers) is ∙ rw (numbers_are, agrees.numbers, others.numbers, others.owned) refl;
  hand = ap (λ (m : Me (Unit {0}) View). m.1) is ∙ agrees.hand;
  wide = rw is (record {
    slots = length-each_slot (λ s. owned_at me.0 s || owned_at other.0 s);
    numbers = length-each_word (λ w. if owned_at other.0 (w / SLOT_WORDS) then get_or other.0.numbers w 0 else get_or me.0.numbers w 0);
    seen = length-each_word (λ w. max (get_or me.0.seen w 0) (get_or other.0.seen w 0));
  });
  small = rw numbers_are (numbers_small stored other_stored other_flags agrees.small others.small);
  was_apart = was_apart;
}
