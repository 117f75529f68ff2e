-- The rule after a view is put in another's place, and one more is there.
use Rattle.view_board.proofs.Common.{◌≡◌, ◌≢◌, ◌⊎◌, ℕ, ◌≤◌, List, get_or, set, sym, subst, ◌∙◌, inl, inr, arith, cases_eq, length-set, set-get_or, get_or-set_other, State, at_set, View, LIMIT, Owns, OwnsWord, Fits, IsRuled}
use mathlib.Core.Option.{some}
use lib.ListN.{get_elem?}
use Rattle.view_board.proofs.ListLemmas.{after_set}

-- each desk fits the words; a slot is of one desk at most
abbrev pub AreFit : List ℕ → List View → Type 0
AreFit words views = (by : ℕ) (v : View) → get_elem? views by ≡ some v → Fits words v

abbrev pub HaveOneOwner : List View → Type 0
HaveOneOwner views = (a b : ℕ) (u v : View) (slot : ℕ) → get_elem? views a ≡ some u → get_elem? views b ≡ some v → Owns u slot → Owns v slot → a ≡ b

-- each desk fits, where the one that is put in does and the others do
pub fit_after : (words : List ℕ) (views : List View) (id : ℕ) (new : View) → Fits words new → ((by : ℕ) (v : View) → by ≢ id → get_elem? views by ≡ some v → Fits words v) → AreFit words (set views id new)
fit_after words views id new fits others by v there = elim (at_set views id by new v there) [
  | inl here ↦ subst (Fits words) here.1 fits
  | inr else ↦ others by v else.0 else.1
]

-- a slot has one owner, where the desk that is put in owns none but those of the desk before
pub one_owner_after : (views : List View) (id : ℕ) (old new : View) → HaveOneOwner views → get_elem? views id ≡ some old → ((slot : ℕ) → Owns new slot → Owns old slot) → HaveOneOwner (set views id new)
one_owner_after views id old new one there fewer a b u v slot at_a at_b mine theirs =
    elim (at_set views id a new u at_a) [
      | inl first ↦ (elim (at_set views id b new v at_b) [
        | inl second ↦ first.0 ∙ sym second.0
        | inr second ↦ first.0 ∙ one id b old v slot there second.1 (fewer slot (subst (λ w. Owns w slot) (sym first.1) mine)) theirs
      ])
      | inr first ↦ (elim (at_set views id b new v at_b) [
        | inl second ↦ one a id u old slot first.1 there mine (fewer slot (subst (λ w. Owns w slot) (sym second.1) theirs)) ∙ sym second.0
        | inr second ↦ one a b u v slot first.1 second.1 mine theirs
      ])
    ]

-- a word that grew, which the desk that steps owns or which stayed
pub stepped_rule : (s : State (Unit {0}) View) (i n id : ℕ) (old new : View) → IsRuled s → get_elem? s.views id ≡ some old → get_or s.words i 0 ≤ n → n ≤ LIMIT
    → (n ≡ get_or s.words i 0) ⊎ OwnsWord old i → Fits (set s.words i n) new → ((slot : ℕ) → Owns new slot → Owns old slot)
    → IsRuled record { words = set s.words i n; homes = s.homes; views = set s.views id new }
stepped_rule s i n id old new rule there grown small whose fits fewer = record {
  wide = length-set s.words i n ∙ rule.wide;
  small = λ w. after_set (λ word. word ≤ LIMIT) s.words i n w (λ same. small) (rule.small w);
  fits = fit_after (set s.words i n) s.views id new fits others;
  apart = one_owner_after s.views id old new rule.apart there fewer;
}
  where
    seen_after : (w k : ℕ) → k ≤ get_or s.words w 0 → k ≤ get_or (set s.words i n) w 0
    seen_after w k within = after_set (λ word. k ≤ word) s.words i n w (λ same. let was : k ≤ get_or s.words i 0 = subst (λ (j : ℕ). k ≤ get_or s.words j 0) same within in omega arith) within

    own_after : (by : ℕ) (v : View) → by ≢ id → get_elem? s.views by ≡ some v → (w : ℕ) → OwnsWord v w → get_or v.numbers w 0 ≡ get_or (set s.words i n) w 0
    own_after by v other at w own = elim whose [
      | inl same ↦ rw (same, set-get_or s.words i 0) ((rule.fits by v at).own w own)
      | inr mine ↦ (elim (cases_eq w i) [
        | inl here ↦ absurd (other (rule.apart by id v old _ at there (subst (OwnsWord v) here own) mine))
        | inr else ↦ (rule.fits by v at).own w own ∙ sym (get_or-set_other s.words i w n 0 else)
      ])
    ]

    others : (by : ℕ) (v : View) → by ≢ id → get_elem? s.views by ≡ some v → Fits (set s.words i n) v
    others by v other at = record {
      own = own_after by v other at;
      seen = λ w. seen_after w (get_or v.seen w 0) ((rule.fits by v at).seen w);
      was_apart = (rule.fits by v at).was_apart;
    }
