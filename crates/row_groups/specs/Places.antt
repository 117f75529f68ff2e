-- The places of a group, and the rows that lie in them. The places can be worked out from the rows. The model of a
-- group needs that, because a type that is copied needs a model with an inverse.
use Rattle.std.specs.Prelude.{◌≡◌, refl, ℕ, zero, suc, ◌+◌, ◌<◌, ◌==◌, List, [], ◌∷◌, length, Option, Some, None, option_map, true, false}
use Rattle.std.specs.List.{AllByRecursion}
use Rattle.std.proofs.Common.{arith, drop, get_or, subst, sym}
use Rattle.std.proofs.Math.Seq.{drop-cons}
use Rattle.std.proofs.lemmas.Bool.Decides.{nat_tests}
use Rattle.std.proofs.lemmas.List.{drop_all}
use Rattle.tatp_rows.specs.Ordered.{IsOrderedBy, row_at}
use Rattle.tatp_rows.proofs.OrderedLemmas.{absent_below, each-weaker}

-- the rows in places, in their order: each is made of the number of its place and of what lies there
abbrev pub filled : {D R : Type 0} → (ℕ → D → R) → ℕ → List (Option D) → List R
filled row place [] = []
filled row place (None ∷ places) = filled row (suc place) places
filled row place (Some d ∷ places) = row place d ∷ filled row (suc place) places

-- `size` places from one on, each with what the row at its key has, or with nothing
abbrev pub placed : {D R : Type 0} → (R → D) → (R → ℕ) → (ℕ → ℕ) → ℕ → ℕ → List R → List (Option D)
placed data_of key at zero place rows = []
placed data_of key at (suc size) place rows = option_map data_of (row_at key (at place) rows) ∷ placed data_of key at size (suc place) rows

-- a row is made of a place and of what lies there; its key is that of the place, and keys rise with places
pub record HasKeys {D R : Type 0} (row : ℕ → D → R) (key : R → ℕ) (at : ℕ → ℕ) : Type 0 where
  pub keyed : (place : ℕ) (d : D) → key (row place d) ≡ at place
  pub rising : (low high : ℕ) → low < high → at low < at high

module _ {D R : Type 0} (row : ℕ → D → R) (key : R → ℕ) (at : ℕ → ℕ) (keys : HasKeys row key at) where
  -- all keys are those of a place or higher
  pub filled-above : (k place : ℕ) (ps : List (Option D)) → k < at place → AllByRecursion (λ r. k < key r) (filled row place ps)
  filled-above k place [] below = tt
  filled-above k place (None ∷ ps) below = filled-above k (suc place) ps (omega (arith, keys.rising place (suc place) (omega arith)))
  filled-above k place (Some d ∷ ps) below =
      (omega (arith, keys.keyed place d), filled-above k (suc place) ps (omega (arith, keys.rising place (suc place) (omega arith))))

  -- all keys behind a place are higher than its own
  pub filled-behind : (place : ℕ) (ps : List (Option D)) → AllByRecursion (λ r. at place < key r) (filled row (suc place) ps)
  filled-behind place ps = filled-above (at place) (suc place) ps (keys.rising place (suc place) (omega arith))

  -- the rows are ordered
  pub filled-ordered : (place : ℕ) (ps : List (Option D)) → IsOrderedBy key (filled row place ps)
  filled-ordered place [] = tt
  filled-ordered place (None ∷ ps) = filled-ordered (suc place) ps
  filled-ordered place (Some d ∷ ps) =
      (each-weaker {P = λ r. at place < key r} {Q = λ r. key (row place d) < key r} (λ r h. omega (arith, keys.keyed place d)) (filled row (suc place) ps) (filled-behind place ps), filled-ordered (suc place) ps)

  -- what is found at the key of a place
  pub filled-found : (i n place : ℕ) (ps : List (Option D)) → i + n ≡ place → row_at key (at place) (filled row i ps) ≡ option_map (row place) (get_or ps n None)
  filled-found i n place [] e = refl
  filled-found i zero place (None ∷ ps) e =
      let same : i ≡ place = omega arith in
      subst (λ (j : ℕ). row_at key (at j) (filled row (suc i) ps) ≡ None) same (absent_below key (at i) (filled row (suc i) ps) (filled-behind i ps))
  filled-found i zero place (Some d ∷ ps) e =
      let same : i ≡ place = omega arith in
      let here = keys.keyed i d in
      subst (λ (j : ℕ). row_at key (at j) (row i d ∷ filled row (suc i) ps) ≡ Some (row j d)) same
      (let e' : (key (row i d) == at i) ≡ true = grind (arith, nat_tests) in rw e' refl)
  filled-found i (suc n) place (None ∷ ps) e = filled-found (suc i) n place ps (omega arith)
  filled-found i (suc n) place (Some d ∷ ps) e =
      let here = keys.keyed i d in
      let other = keys.rising i place (omega arith) in
      let e' : (key (row i d) == at place) ≡ false = grind (arith, nat_tests) in
      rw e' (filled-found (suc i) n place ps (omega arith))

  -- the places from one on come back from the rows
  places_from : (data_of : R → D) → ((place : ℕ) (d : D) → data_of (row place d) ≡ d) → (i n place size : ℕ) (ps : List (Option D)) → i + n ≡ place → n + size ≡ length ps → placed data_of key at size place (filled row i ps) ≡ drop n ps
  places_from data_of gives i n place zero ps e l = sym (drop_all n ps (omega arith))
  places_from data_of gives i n place (suc size) ps e l =
      rw (filled-found i n place ps e, fields_back (get_or ps n None), places_from data_of gives i (suc n) (suc place) size ps (omega arith) (omega arith))
      (sym (drop-cons ps n None (omega arith)))
    where
      fields_back : (found : Option D) → option_map data_of (option_map (row place) found) ≡ found
      fields_back None = refl
      fields_back (Some d) = rw (gives place d) refl

  -- the places come back from the rows
  pub filled-back : (data_of : R → D) → ((place : ℕ) (d : D) → data_of (row place d) ≡ d) → (size i : ℕ) (ps : List (Option D)) → length ps ≡ size → placed data_of key at size i (filled row i ps) ≡ ps
  filled-back data_of gives size i ps e = places_from data_of gives i 0 i size ps (omega arith) (omega arith)
