-- One content more joins those that a file in memory has had.
use Rattle.std.proofs.Common.{◌≡◌, ◌⊎◌, inl, inr, ⊎_elim, ℕ, zero, suc, ◌≤◌, List, [], ◌∷◌, ◌++◌, length, drop, Vec, refl, sym, ◌∙◌, subst, arith, length-append}
use Rattle.std.specs.declared.alloc.Global.{Global}
use Rattle.journal_file.specs.Device.{Elapses}
use Rattle.journal_file.specs.Memory.{HadBeen}

abbrev Contents : Type 0
Contents = List (Vec ℕ Global)

still_had : (past : Contents) (v : Vec ℕ Global) (c : List ℕ) → HadBeen past c → HadBeen (past ++ v ∷ []) c
still_had [] v c had = absurd had
still_had (content ∷ past) v c (inl here) = inl here
still_had (content ∷ past) v c (inr there) = inr (still_had past v c there)

had_or_new : (past : Contents) (v : Vec ℕ Global) (c : List ℕ) → HadBeen (past ++ v ∷ []) c → HadBeen past c ⊎ (c ≡ v.items)
had_or_new [] v c (inl here) = inr here
had_or_new [] v c (inr none) = absurd none
had_or_new (content ∷ past) v c (inl here) = inl (inl here)
had_or_new (content ∷ past) v c (inr there) = ⊎_elim (λ had. inl (inr had)) (λ new. inr new) (had_or_new past v c there)

newest_had : (past : Contents) (v : Vec ℕ Global) (c : List ℕ) → c ≡ v.items → HadBeen (past ++ v ∷ []) c
newest_had [] v c is = inl is
newest_had (content ∷ past) v c is = inr (newest_had past v c is)

drop_push : (t : ℕ) (past : Contents) (v : Vec ℕ Global) → t ≤ length past → drop t (past ++ v ∷ []) ≡ drop t past ++ v ∷ []
drop_push zero past v le = refl
drop_push (suc t) [] v le = absurd (omega arith)
drop_push (suc t) (content ∷ past) v le = drop_push t past v (omega arith)

-- what a crash since a moment might have left
abbrev Since : Contents → List ℕ → ℕ → List ℕ → Type 0
Since past bytes t c = (c ≡ bytes) ⊎ HadBeen (drop t past) c

pub elapses_same : (past : Contents) (bytes : List ℕ)
    → Elapses (length past) (length past) (Since past bytes) (Since past bytes) (λ c. c ≡ bytes)
elapses_same past bytes = record { later = omega arith; nothing_else = λ t c le left. inl left; keeps = λ t c le left. left }

module _ (past : Contents) (v : Vec ℕ Global) (old new : List ℕ) (is : v.items ≡ old) where
  was : (t : ℕ) (c : List ℕ) → HadBeen (drop t past) c ⊎ (c ≡ v.items) → Since past old t c
  was t c (inl had) = inr had
  was t c (inr newest) = inl (newest ∙ is)

  elapses_push : Elapses (length past) (length (past ++ v ∷ [])) (Since past old) (Since (past ++ v ∷ []) new) (λ c. c ≡ new)
  elapses_push = record {
    later = omega (arith, length-append past (v ∷ []));
    nothing_else = λ t c le left. ⊎_elim (λ now. inr now)
        (λ had. inl (was t c (had_or_new (drop t past) v c (subst (λ (l : Contents). HadBeen l c) (drop_push t past v le) had)))) left;
    keeps = λ t c le left. inr (subst (λ (l : Contents). HadBeen l c) (sym (drop_push t past v le))
        (⊎_elim (λ now. newest_had (drop t past) v c (now ∙ sym is)) (still_had (drop t past) v c) left));
  }

  pub elapses_to : (later : Contents) → later ≡ past ++ v ∷ []
      → Elapses (length past) (length later) (Since past old) (Since later new) (λ c. c ≡ new)
  elapses_to later same =
      subst (λ (l : Contents). Elapses (length past) (length l) (Since past old) (Since l new) (λ c. c ≡ new)) (sym same) elapses_push
