-- Lists whose elements from an index on are made anew, and edits at that index.
use Rattle.part_table.proofs.Common.{◌≡◌, ◌∙◌, refl, ap, ℕ, zero, suc, ◌+◌, ◌<◌, ◌≤◌, List, [], ◌∷◌, ◌++◌, length, get_or, set, take, drop, map, arith, insert, remove, AllZip, refill, append-nil, drop_all, take_all}

module _ {X : Type 0} (f : X → X) where
  -- the elements in front of an index as they were, and the others made anew
  abbrev pub anew_from : ℕ → List X → List X
  anew_from k xs = take k xs ++ map f (drop k xs)

  -- one element after another
  pub one_anew : (xs : List X) (i : ℕ) (d : X) → i < length xs → anew_from (i + 1) (set xs i (f (get_or xs i d))) ≡ anew_from i xs
  one_anew [] i d lt = absurd (omega arith)
  one_anew (x ∷ xs) zero d lt = refl
  one_anew (x ∷ xs) (suc i) d lt = let k : suc i + 1 ≡ suc (i + 1) = omega arith in rw k (ap (λ rest. x ∷ rest) (one_anew xs i d (omega arith)))

  -- and none behind the last
  pub none_anew : (xs : List X) (i : ℕ) → length xs ≤ i → anew_from i xs ≡ xs
  none_anew xs i past = rw (drop_all i xs past, take_all i xs past) (append-nil xs)

  -- one element exchanged and one put in behind it, those behind made anew
  pub insert_anew : (xs : List X) (i : ℕ) (a b : X) → i < length xs → insert (set (anew_from (i + 1) xs) i a) (i + 1) b ≡ take i xs ++ a ∷ (b ∷ map f (drop (i + 1) xs))
  insert_anew [] i a b lt = absurd (omega arith)
  insert_anew (x ∷ xs) zero a b lt = refl
  insert_anew (x ∷ xs) (suc i) a b lt = let k : suc i + 1 ≡ suc (i + 1) = omega arith in rw k (ap (λ rest. x ∷ rest) (insert_anew xs i a b (omega arith)))

  -- one element exchanged and the one behind it taken out
  pub remove_anew : (xs : List X) (i : ℕ) (a : X) → i + 1 < length xs → remove (set (anew_from (i + 2) xs) i a) (i + 1) ≡ take i xs ++ a ∷ map f (drop (i + 2) xs)
  remove_anew [] i a lt = absurd (omega arith)
  remove_anew (x ∷ []) i a lt = absurd (omega arith)
  remove_anew (x ∷ (y ∷ xs)) zero a lt = refl
  remove_anew (x ∷ (y ∷ xs)) (suc i) a lt =
      let k : suc i + 1 ≡ suc (i + 1) = omega arith in
      let m : suc i + 2 ≡ suc (i + 2) = omega arith in
      rw (k, m) (ap (λ rest. x ∷ rest) (remove_anew (y ∷ xs) i a (omega arith)))

  -- there are as many, so they take the places of all
  pub length_anew : (xs : List X) (k : ℕ) → length (anew_from k xs) ≡ length xs
  length_anew [] k = rw (none_anew [] k (omega arith)) refl
  length_anew (x ∷ xs) zero = ap suc (length_anew xs zero)
  length_anew (x ∷ xs) (suc k) = ap suc (length_anew xs k)

  pub refill_anew : (xs ys : List X) (k : ℕ) → ys ≡ anew_from k xs → refill (length xs) xs ys ≡ anew_from k xs
  refill_anew xs ys k are =
      let long : length ys ≡ length xs = ap length are ∙ length_anew xs k in
      rw (drop_all (length ys) xs (omega arith), append-nil ys, take_all (length xs) ys (omega arith)) are

  -- what stands beside another list still does, where what is made anew does
  pub zip_anew : {Y : Type 0} (P : X → Y → Type 0) (keeps : (x : X) (y : Y) → P x y → P (f x) y) (k : ℕ) (xs : List X) (ys : List Y) → AllZip P xs ys → AllZip P (anew_from k xs) ys
  zip_anew P keeps k [] [] each = rw (none_anew [] k (omega arith)) tt
  zip_anew P keeps k [] (y ∷ ys) each = absurd each
  zip_anew P keeps k (x ∷ xs) [] each = absurd each
  zip_anew P keeps zero (x ∷ xs) (y ∷ ys) each = (keeps x y each.0, zip_anew P keeps zero xs ys each.1)
  zip_anew P keeps (suc k) (x ∷ xs) (y ∷ ys) each = (each.0, zip_anew P keeps k xs ys each.1)
