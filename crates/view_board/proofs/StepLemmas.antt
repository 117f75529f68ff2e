-- What each step asks: whatever the words and desks are, the rule is kept, and the desk is told what its step tells.
use Rattle.view_board.proofs.Common.{◌≡◌, ℕ, ◌+◌, ◌%◌, ◌^◌, ◌<◌, ◌≤◌, List, length, get_or, set, Bool, refl, sym, subst, ◌∙◌, inl, inr, arith, cases_eq, get_or-set_same, get_or-set_other, set-get_or, Me, Allows, step, keeps, View, WORDS, LIMIT, OwnsWord, raised, saw, Fits, IsRuled, IsRaiseStep, IsLookStep, IsCheckStep, Agrees}
use mathlib.Core.Option.{none}
use Rattle.view_board.proofs.ListLemmas.{after_set}
use Rattle.view_board.proofs.RuleLemmas.{stepped_rule}

-- a desk that raises a word of its own fits
raised_fits : (words : List ℕ) (v : View) (i k : ℕ) → Fits words v → i < length words → i < length v.numbers → OwnsWord v i → Fits (set words i (get_or words i 0 + k)) (raised v i k)
raised_fits words v i k fits within wide own = record {
  own = own_after;
  seen = λ w. after_set (λ word. get_or v.seen w 0 ≤ word) words i (get_or words i 0 + k) w (λ same. let was : get_or v.seen w 0 ≤ get_or words i 0 = subst (λ (j : ℕ). get_or v.seen w 0 ≤ get_or words j 0) same (fits.seen w) in omega arith) (fits.seen w);
  was_apart = fits.was_apart;
}
  where
    own_after : (w : ℕ) → OwnsWord v w → get_or (set v.numbers i (get_or v.numbers i 0 + k)) w 0 ≡ get_or (set words i (get_or words i 0 + k)) w 0
    own_after w mine = elim (cases_eq w i) [
      | inl here ↦ rw (here, get_or-set_same v.numbers i (get_or v.numbers i 0 + k) 0 wide, get_or-set_same words i (get_or words i 0 + k) 0 within, fits.own i own) refl
      | inr else ↦ get_or-set_other v.numbers i w (get_or v.numbers i 0 + k) 0 else ∙ (fits.own w mine ∙ sym (get_or-set_other words i w (get_or words i 0 + k) 0 else))
    ]

-- an own word is raised
pub raises : (slots id i k : ℕ) (me : Me (Unit {0}) View) (flags : List Bool) (stored : List ℕ) → Agrees me flags stored → OwnsWord me.0 i → i < WORDS → get_or me.0.numbers i 0 + k ≤ LIMIT
    → Allows IsRuled slots id me i (λ n. (n + k) % 2 ^ 64) (IsRaiseStep (step slots i k 0 none) me)
raises slots id i k me flags stored agrees own within fits_word s rule homes there word =
    let fits = rule.fits id me.0 there in
    let is : get_or me.0.numbers i 0 ≡ get_or s.words i 0 = fits.own i own in
    let sum : (get_or s.words i 0 + k) % 2 ^ 64 ≡ get_or s.words i 0 + k = omega arith in
    let fits' = raised_fits s.words me.0 i k fits (omega (arith, rule.wide)) (omega (arith, agrees.wide.numbers)) own in
    (raised me.0 i k, keeps, tt, rw sum (stepped_rule s i (get_or s.words i 0 + k) id me.0 (raised me.0 i k) rule there (omega arith) (omega arith) (inr own) fits' (λ slot mine. mine)), record { view = refl; hand = refl })

-- any word is looked at
pub looks : (slots id i : ℕ) (me : Me (Unit {0}) View) → Allows IsRuled slots id me i (λ n. n) (IsLookStep (step slots i 0 0 none) me)
looks slots id i me s rule homes there word =
    let fits = rule.fits id me.0 there in
    let n : ℕ = get_or s.words i 0 in
    let fits' : Fits (set s.words i n) (saw me.0 i n) = rw (set-get_or s.words i 0) (record {
      own = fits.own;
      seen = λ w. after_set (λ seen. seen ≤ get_or s.words w 0) me.0.seen i n w (λ same. rw same (omega arith)) (fits.seen w);
      was_apart = fits.was_apart;
    }) in (
      saw me.0 i n,
      keeps,
      tt,
      stepped_rule s i n id me.0 (saw me.0 i n) rule there (omega arith) (rule.small i) (inl refl) fits' (λ slot mine. mine),
      record {
        view = refl;
        hand = refl;
        own = λ own. sym (fits.own i own);
        later = fits.seen i;
        small = rule.small i;
      },
    )

-- the desk is told what the rule says of it
pub checks : (slots id i : ℕ) (me : Me (Unit {0}) View) → Allows IsRuled slots id me i (λ n. n) (IsCheckStep (step slots i 0 0 none) me)
checks slots id i me s rule homes there word =
    let fits = rule.fits id me.0 there in
    let n : ℕ = get_or s.words i 0 in
    let fits' : Fits (set s.words i n) me.0 = rw (set-get_or s.words i 0) fits in (
      me.0,
      keeps,
      tt,
      stepped_rule s i n id me.0 me.0 rule there (omega arith) (rule.small i) (inl refl) fits' (λ slot mine. mine),
      record {
        same = refl;
        within = λ w own. let seen = fits.seen w in let is = fits.own w own in omega arith;
        was_apart = fits.was_apart;
      },
    )
