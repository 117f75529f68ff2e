-- A slot that is split off.
use Rattle.view_board.proofs.Common.{◌≡◌, ℕ, List, [], ◌∷◌, ◌++◌, length, set, replicate, true, false, sym, subst, ◌∙◌, inl, inr, cases_eq, cases_lt, false≢true, length-set, get_or-set_same, get_or-set_other, get_or_past, blank_at, Splits, at_set, View, SLOTS, Owns, without, alone, Fits, IsRuled}
use mathlib.Core.Option.{some}
use lib.ListN.{get_elem?}
use Rattle.view_board.proofs.ListLemmas.{at_end}
use Rattle.view_board.proofs.RuleLemmas.{AreFit, HaveOneOwner, fit_after, one_owner_after}

-- the desk that gives a slot up doesn't own it, and owns no other one than before
pub gone : (v : View) (slot : ℕ) → Owns (without v slot) slot → ⊥
gone v slot own = elim (cases_lt slot (length v.owned)) [
  | inl within ↦ false≢true (sym (get_or-set_same v.owned slot false false within) ∙ own)
  | inr past ↦ false≢true (sym (get_or_past (set v.owned slot false) slot false (rw length-set past)) ∙ own)
]

pub was_owned : (v : View) (slot s : ℕ) → Owns (without v slot) s → Owns v s
was_owned v slot s own = elim (cases_eq s slot) [
  | inl same ↦ absurd (gone v slot (subst (Owns (without v slot)) same own))
  | inr other ↦ sym (get_or-set_other v.owned slot s false false other) ∙ own
]

-- the new desk owns the slot alone
pub only_slot : (v : View) (slot s : ℕ) → Owns (alone v slot) s → s ≡ slot
only_slot v slot s own = elim (cases_eq s slot) [
  | inl same ↦ same
  | inr other ↦ absurd (false≢true (sym (get_or-set_other (replicate SLOTS false) slot s true false other ∙ blank_at SLOTS s false) ∙ own))
]

-- one more desk
fit_and : (words : List ℕ) (views : List View) (new : View) → AreFit words views → Fits words new → AreFit words (views ++ new ∷ [])
fit_and words views new fit fits by v there = elim (at_end views new v by there) [
  | inl old ↦ fit by v old
  | inr last ↦ subst (Fits words) last.1 fits
]

one_owner_and : (views : List View) (new : View) → HaveOneOwner views → ((by : ℕ) (v : View) (slot : ℕ) → get_elem? views by ≡ some v → Owns v slot → Owns new slot → ⊥) → HaveOneOwner (views ++ new ∷ [])
one_owner_and views new one free a b u v slot at_a at_b mine theirs =
    elim (at_end views new u a at_a) [
      | inl first ↦ (elim (at_end views new v b at_b) [
        | inl second ↦ one a b u v slot first second mine theirs
        | inr second ↦ absurd (free a u slot first mine (subst (λ w. Owns w slot) (sym second.1) theirs))
      ])
      | inr first ↦ (elim (at_end views new v b at_b) [
        | inl second ↦ absurd (free b v slot second theirs (subst (λ w. Owns w slot) (sym first.1) mine))
        | inr second ↦ first.0 ∙ sym second.0
      ])
    ]

-- a slot of a desk's own is split off
pub splits : (id slot : ℕ) (v : View) → Owns v slot → Splits IsRuled id v (without v slot) (alone v slot)
splits id slot v own s rule there = record {
  wide = rule.wide;
  small = rule.small;
  fits = fit_and s.words views (alone v slot) (fit_after s.words s.views id (without v slot) kept (λ by u other at. rule.fits by u at)) handed;
  apart = one_owner_and views (alone v slot) (one_owner_after s.views id v (without v slot) rule.apart there (was_owned v slot)) free;
}
  where
    views : List View
    views = set s.views id (without v slot)

    kept : Fits s.words (without v slot)
    kept = record {
      own = λ w mine. (rule.fits id v there).own w (was_owned v slot _ mine);
      seen = (rule.fits id v there).seen;
      was_apart = (rule.fits id v there).was_apart;
    }

    handed : Fits s.words (alone v slot)
    handed = record {
      own = λ w mine. (rule.fits id v there).own w (subst (Owns v) (sym (only_slot v slot _ mine)) own);
      seen = (rule.fits id v there).seen;
      was_apart = (rule.fits id v there).was_apart;
    }

    free : (by : ℕ) (u : View) (s' : ℕ) → get_elem? views by ≡ some u → Owns u s' → Owns (alone v slot) s' → ⊥
    free by u s' at theirs mine =
        let same : s' ≡ slot = only_slot v slot s' mine in
        elim (at_set s.views id by (without v slot) u at) [
          | inl here ↦ gone v slot (subst (Owns (without v slot)) same (subst (λ w. Owns w s') (sym here.1) theirs))
          | inr else ↦ else.0 (rule.apart by id u v slot else.1 there (subst (Owns u) same theirs) own)
        ]
