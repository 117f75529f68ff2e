-- Laws of the rows in places: what an edit of a place does to the rows, and how many there are.
use Rattle.row_groups.proofs.Common.{Bool, ◌≡◌, ◌≢◌, refl, ap, subst, ℕ, zero, suc, ◌+◌, ◌<◌, ◌≤◌, List, [], ◌∷◌, ◌++◌, true, false, length, get_or, set, take, Option, Some, None, IsSome, arith, ◌==◌, nat_lt, nat_tests, is_some, option_map, option_to_list, AllByRecursion, count_by, sum_by-cons, row_at, with_row, with_row_at, without_row, absent_below, each-weaker, with_row-front, without_row_absent, HasKeys, filled, filled-behind, filled-found, map, filter, filter-append, map-append}

module _ {D R : Type 0} (row : ℕ → D → R) (key : R → ℕ) (at : ℕ → ℕ) (keys : HasKeys row key at) where
  -- a row put into a free place
  pub filled-put : (i n place : ℕ) (d : D) (ps : List (Option D)) → i + n ≡ place → n < length ps → get_or ps n None ≡ None → with_row key (row place d) (filled row i ps) ≡ filled row i (set ps n (Some d))
  filled-put i n place d [] e within free = absurd (omega arith)
  filled-put i zero place d (None ∷ ps) e within free =
      let same : i ≡ place = omega arith in
      let here = keys.keyed i d in
      subst (λ (j : ℕ). with_row key (row j d) (filled row (suc i) ps) ≡ row i d ∷ filled row (suc i) ps) same
      (with_row-front key (row i d) (filled row (suc i) ps)
      (each-weaker {P = λ r. at i < key r} {Q = λ r. key (row i d) + 1 ≤ key r} (λ r h. omega arith) (filled row (suc i) ps) (filled-behind row key at keys i ps)))
  filled-put i zero place d (Some f ∷ ps) e within free = absurd cc
  filled-put i (suc n) place d (None ∷ ps) e within free = filled-put (suc i) n place d ps (omega arith) (omega arith) free
  filled-put i (suc n) place d (Some f ∷ ps) e within free =
      let here = keys.keyed i f in
      let there = keys.keyed place d in
      let other = keys.rising i place (omega arith) in
      let e' : nat_lt (key (row place d)) (key (row i f)) ≡ false = grind (arith, nat_tests) in
      rw e' (ap (λ rest. row i f ∷ rest) (filled-put (suc i) n place d ps (omega arith) (omega arith) free))

  -- a place that is emptied
  pub filled-taken : (i n place : ℕ) (ps : List (Option D)) → i + n ≡ place → without_row key (at place) (filled row i ps) ≡ filled row i (set ps n None)
  filled-taken i n place [] e = refl
  filled-taken i zero place (None ∷ ps) e =
      let same : i ≡ place = omega arith in
      subst (λ (j : ℕ). without_row key (at j) (filled row (suc i) ps) ≡ filled row (suc i) ps) same
      (without_row_absent key (at i) (filled row (suc i) ps) (absent_below key (at i) (filled row (suc i) ps) (filled-behind row key at keys i ps)))
  filled-taken i zero place (Some d ∷ ps) e =
      let same : i ≡ place = omega arith in
      let here = keys.keyed i d in
      subst (λ (j : ℕ). without_row key (at j) (row i d ∷ filled row (suc i) ps) ≡ filled row (suc i) ps) same
      (let e' : (key (row i d) == at i) ≡ true = grind (arith, nat_tests) in rw e' refl)
  filled-taken i (suc n) place (None ∷ ps) e = filled-taken (suc i) n place ps (omega arith)
  filled-taken i (suc n) place (Some d ∷ ps) e =
      let here = keys.keyed i d in
      let other = keys.rising i place (omega arith) in
      let e' : (key (row i d) == at place) ≡ false = grind (arith, nat_tests) in
      rw e' (ap (λ rest. row i d ∷ rest) (filled-taken (suc i) n place ps (omega arith)))

  -- another row in a place that is taken
  pub filled-replaced : (i n place : ℕ) (d : D) (ps : List (Option D)) → i + n ≡ place → IsSome (get_or ps n None) → with_row_at key (at place) (row place d) (filled row i ps) ≡ filled row i (set ps n (Some d))
  filled-replaced i n place d [] e taken = absurd cc
  filled-replaced i zero place d (None ∷ ps) e taken = absurd cc
  filled-replaced i zero place d (Some f ∷ ps) e taken =
      let same : i ≡ place = omega arith in
      let here = keys.keyed i f in
      subst (λ (j : ℕ). with_row_at key (at j) (row j d) (row i f ∷ filled row (suc i) ps) ≡ row i d ∷ filled row (suc i) ps) same
      (let e' : (key (row i f) == at i) ≡ true = grind (arith, nat_tests) in rw e' refl)
  filled-replaced i (suc n) place d (None ∷ ps) e taken = filled-replaced (suc i) n place d ps (omega arith) taken
  filled-replaced i (suc n) place d (Some f ∷ ps) e taken =
      let here = keys.keyed i f in
      let other = keys.rising i place (omega arith) in
      let e' : (key (row i f) == at place) ≡ false = grind (arith, nat_tests) in
      rw e' (ap (λ rest. row i f ∷ rest) (filled-replaced (suc i) n place d ps (omega arith) taken))

-- as many rows as places that are taken
pub length-filled : {D R : Type 0} (row : ℕ → D → R) (i : ℕ) (ps : List (Option D)) → length (filled row i ps) ≡ count_by is_some ps
length-filled row i [] = refl
length-filled row i (None ∷ ps) = let rest = length-filled row (suc i) ps in rw (sum_by-cons) (omega (arith, rest))
length-filled row i (Some d ∷ ps) = let rest = length-filled row (suc i) ps in rw (sum_by-cons) (omega (arith, rest))

-- the rows in the places up to one more
pub filled-more : {D R : Type 0} (row : ℕ → D → R) (i n place : ℕ) (ps : List (Option D)) → i + n ≡ place → n < length ps → filled row i (take (suc n) ps) ≡ filled row i (take n ps) ++ option_to_list (option_map (row place) (get_or ps n None))
filled-more row i n place [] e within = absurd (omega arith)
filled-more row i zero place (None ∷ ps) e within = refl
filled-more row i zero place (Some d ∷ ps) e within = let same : i ≡ place = omega arith in subst (λ (j : ℕ). row i d ∷ [] ≡ row j d ∷ []) same refl
filled-more row i (suc n) place (None ∷ ps) e within = filled-more row (suc i) n place ps (omega arith) (omega arith)
filled-more row i (suc n) place (Some d ∷ ps) e within = ap (λ rest. row i d ∷ rest) (filled-more row (suc i) n place ps (omega arith) (omega arith))

-- what holds of the row of each place holds of each row
pub filled-each : {D R : Type 0} (row : ℕ → D → R) (P : R → Type 0) (i : ℕ) (ps : List (Option D)) → ((place : ℕ) (d : D) → i ≤ place → place < i + length ps → P (row place d)) → AllByRecursion P (filled row i ps)
filled-each row P i [] holds = tt
filled-each row P i (None ∷ ps) holds = filled-each row P (suc i) ps (λ place d from below. holds place d (omega arith) (omega arith))
filled-each row P i (Some d ∷ ps) holds =
    (holds i d (omega arith) (omega arith), filled-each row P (suc i) ps (λ place e from below. holds place e (omega arith) (omega arith)))

module _ {D R : Type 0} (row : ℕ → D → R) (key : R → ℕ) (at : ℕ → ℕ) (keys : HasKeys row key at) where
  -- a place that is taken has a row, and one that is free has none
  pub taken-found : (i n place : ℕ) (ps : List (Option D)) → i + n ≡ place → is_some (get_or ps n None) ≡ true → IsSome (row_at key (at place) (filled row i ps))
  taken-found i n place ps e taken = rw (filled-found row key at keys i n place ps e) (made (get_or ps n None) taken)
    where
      made : (found : Option D) → is_some found ≡ true → IsSome (option_map (row place) found)
      made None some = absurd cc
      made (Some d) some = refl

  pub free-found : (i n place : ℕ) (ps : List (Option D)) → i + n ≡ place → get_or ps n None ≡ None → row_at key (at place) (filled row i ps) ≡ None
  free-found i n place ps e free = rw (filled-found row key at keys i n place ps e, free) refl

  -- a place with a row is taken
  pub found-taken : (i n place : ℕ) (ps : List (Option D)) → i + n ≡ place → IsSome (row_at key (at place) (filled row i ps)) → IsSome (get_or ps n None)
  found-taken i n place ps e found = taken (get_or ps n None) (rw (← filled-found row key at keys i n place ps e) found)
    where
      taken : (found : Option D) → IsSome (option_map (row place) found) → IsSome found
      taken None some = absurd cc
      taken (Some d) some = refl

  -- the rows that a test chooses, of one place more
  pub chosen-more : {S : Type 0} (with : R → S) (test : R → Bool) (i n place : ℕ) (ps : List (Option D)) (items chosen new : List S) → i + n ≡ place → n < length ps
      → items ≡ map with (filter test (filled row i (take n ps))) → chosen ≡ map with (filter test (option_to_list (row_at key (at place) (filled row i ps)))) → new ≡ items ++ chosen
      → new ≡ map with (filter test (filled row i (take (n + 1) ps)))
  chosen-more with test i n place ps items chosen new e within so_far more step =
      let one : n + 1 ≡ suc n = omega arith in
      rw (one, step, so_far, more, filled-found row key at keys i n place ps e, filled-more row i n place ps e within, filter-append, map-append) refl

-- what was read from a place
pub read_place : {D : Type 0} (ps : List (Option D)) (n : ℕ) (found : Option D) → n < length ps → found ≡ get_or ps n found → found ≡ get_or ps n None
read_place [] n found within e = absurd (omega arith)
read_place (p ∷ ps) zero found within e = e
read_place (p ∷ ps) (suc n) found within e = read_place ps n found (omega arith) e

-- an option is None if it isn't Some, or if a function maps it to None
pub none_of : {X : Type 0} (found : Option X) → is_some found ≡ false → found ≡ None
none_of None none = refl
none_of (Some x) none = absurd cc

pub none_mapped : {X Y : Type 0} (f : X → Y) (found : Option X) → None ≡ option_map f found → found ≡ None
none_mapped f None none = refl
none_mapped f (Some x) none = absurd cc

pub some_mapped : {X Y : Type 0} (f : X → Y) (y : Y) (found : Option X) → Some y ≡ option_map f found → IsSome found
some_mapped f y None some = absurd cc
some_mapped f y (Some x) some = refl

-- a key of no place has no row
pub filled-missing : {D R : Type 0} (row : ℕ → D → R) (key : R → ℕ) (at : ℕ → ℕ) → HasKeys row key at → (k i : ℕ) (ps : List (Option D)) → ((place : ℕ) → i ≤ place → place < i + length ps → at place ≢ k) → row_at key k (filled row i ps) ≡ None
filled-missing row key at keys k i [] other = refl
filled-missing row key at keys k i (None ∷ ps) other = filled-missing row key at keys k (suc i) ps (λ place from below. other place (omega arith) (omega arith))
filled-missing row key at keys k i (Some d ∷ ps) other =
    let here = keys.keyed i d in
    let differ = other i (omega arith) (omega arith) in
    let e : (key (row i d) == k) ≡ false = grind (arith, nat_tests) in
    rw e (filled-missing row key at keys k (suc i) ps (λ place from below. other place (omega arith) (omega arith)))
