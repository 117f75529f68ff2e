-- How an array is filled from its front.
use Rattle.std.proofs.Common.{append_assoc, replicate}
use Rattle.std.proofs.Math.Seq.{set-append_seam}
use Rattle.std.proofs.lemmas.List.{take_all}
use Rattle.hlr_c.proofs.Common.{◌≡◌, ◌∙◌, ap, refl, sym, subst, ℕ, suc, ◌+◌, ◌-◌, ◌<◌, ◌≤◌, arith, List, [], ◌∷◌, ◌++◌, length, length-map, length-take-le, map, map-append, take, take-suc, get_or, set}

module _ {X Y : Type 0} (f : X → Y) (none : Y) (wide : ℕ) (list : List X) where
  -- so many of the first places have their values, and those behind them have nothing
  abbrev pub filled : ℕ → List Y
  filled at = map f (take at list) ++ replicate (wide - at) none

  -- one more place has its value
  pub one_filled : (at : ℕ) (d : X) → at < length list → length list ≤ wide → set (filled at) at (f (get_or list at d)) ≡ filled (at + 1)
  one_filled at d below within =
      let values = map f (take at list) in
      let value = f (get_or list at d) in
      let long : length values ≡ at = length-map (take at list) f ∙ length-take-le at list (omega arith) in
      let fewer : wide - at ≡ suc (wide - suc at) = omega arith in
      let split : filled at ≡ values ++ none ∷ replicate (wide - suc at) none = rw fewer refl in
      let written : set (values ++ none ∷ replicate (wide - suc at) none) (length values) value ≡ values ++ value ∷ replicate (wide - suc at) none = set-append_seam values none (replicate (wide - suc at) none) value in
      let more : map f (take (suc at) list) ≡ values ++ value ∷ [] = ap (map f) (take-suc list at d below) ∙ map-append f (take at list) (get_or list at d ∷ []) in
      let next : suc at ≡ at + 1 = omega arith in
      subst (λ n. set (filled at) at (f (get_or list at d)) ≡ filled n) next (rw (split, more) (subst (λ n. set (values ++ none ∷ replicate (wide - suc at) none) n value ≡ (values ++ value ∷ []) ++ replicate (wide - suc at) none) long (written ∙ sym (append_assoc values (value ∷ []) (replicate (wide - suc at) none)))))

  -- all values are in their places
  pub all_filled : filled (length list) ≡ map f list ++ replicate (wide - length list) none
  all_filled = rw (take_all (length list) list (omega arith)) refl
