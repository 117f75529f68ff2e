-- Lists with something for each part, when a part comes or goes.
use Rattle.hlr_workers.proofs.Common.{◌≡◌, ◌∙◌, refl, ap, subst, ℕ, zero, suc, ◌<◌, ◌≤◌, List, [], ◌∷◌, length, get_or, map, arith, Some, None, inl, inr, Option, insert, remove, slice_get, ◌⊎◌, AllByRecursion, AllZip, cases_lt, length-remove, none-some, same_Some, HoldingState, Job, zip_insert, zip_remove, Reply, Gone, IsBehind, IsPlace, New, PartChange, Same, with_part_change, InOrder, nothing, AreEnds, numbered, numbered_in}

-- two lists of one length
module _ {A B : Type 0} where
  insert_long : (xs : List A) (ys : List B) (i : ℕ) (x : A) (y : B) → length xs ≡ length ys → length (insert xs i x) ≡ length (insert ys i y)
  insert_long xs ys zero x y same = ap suc same
  insert_long [] [] (suc i) x y same = refl
  insert_long [] (b ∷ ys) (suc i) x y same = absurd (omega arith)
  insert_long (a ∷ xs) [] (suc i) x y same = absurd (omega arith)
  insert_long (a ∷ xs) (b ∷ ys) (suc i) x y same = ap suc (insert_long xs ys i x y (omega arith))

  remove_long : (xs : List A) (ys : List B) (i : ℕ) → length xs ≡ length ys → length (remove xs i) ≡ length (remove ys i)
  remove_long [] [] zero same = refl
  remove_long [] [] (suc i) same = refl
  remove_long [] (b ∷ ys) i same = absurd (omega arith)
  remove_long (a ∷ xs) [] i same = absurd (omega arith)
  remove_long (a ∷ xs) (b ∷ ys) zero same = omega arith
  remove_long (a ∷ xs) (b ∷ ys) (suc i) same = ap suc (remove_long xs ys i (omega arith))

  pub changed_long : (told : PartChange) (x : A) (y : B) (xs : List A) (ys : List B) → length xs ≡ length ys → length (with_part_change told x xs) ≡ length (with_part_change told y ys)
  changed_long Same x y xs ys same = same
  changed_long (New i) x y xs ys same = insert_long xs ys i x y same
  changed_long (Gone i) x y xs ys same = remove_long xs ys i same

  -- what is related place by place stays so
  pub changed_zip : (P : A → B → Type 0) (told : PartChange) (x : A) (y : B) (xs : List A) (ys : List B) → P x y → AllZip P xs ys → AllZip P (with_part_change told x xs) (with_part_change told y ys)
  changed_zip P Same x y xs ys one each = each
  changed_zip P (New i) x y xs ys one each = zip_insert P xs ys i x y each one
  changed_zip P (Gone i) x y xs ys one each = zip_remove P xs ys i each

-- what a function makes of each
module _ {A B : Type 0} (f : A → B) where
  map_insert : (xs : List A) (i : ℕ) (x : A) → map f (insert xs i x) ≡ insert (map f xs) i (f x)
  map_insert xs zero x = refl
  map_insert [] (suc i) x = refl
  map_insert (a ∷ xs) (suc i) x = ap (λ (rest : List B). f a ∷ rest) (map_insert xs i x)

  map_remove : (xs : List A) (i : ℕ) → map f (remove xs i) ≡ remove (map f xs) i
  map_remove [] zero = refl
  map_remove [] (suc i) = refl
  map_remove (a ∷ xs) zero = refl
  map_remove (a ∷ xs) (suc i) = ap (λ (rest : List B). f a ∷ rest) (map_remove xs i)

  pub map_changed : (told : PartChange) (x : A) (xs : List A) → map f (with_part_change told x xs) ≡ with_part_change told (f x) (map f xs)
  map_changed Same x xs = refl
  map_changed (New i) x xs = map_insert xs i x
  map_changed (Gone i) x xs = map_remove xs i

-- what each has
module _ {A : Type 0} (P : A → Type 0) where
  all_insert : (xs : List A) (i : ℕ) (x : A) → P x → AllByRecursion P xs → AllByRecursion P (insert xs i x)
  all_insert xs zero x one all = (one, all)
  all_insert [] (suc i) x one all = (one, tt)
  all_insert (a ∷ xs) (suc i) x one all = (all.0, all_insert xs i x one all.1)

  all_remove : (xs : List A) (i : ℕ) → AllByRecursion P xs → AllByRecursion P (remove xs i)
  all_remove [] zero all = tt
  all_remove [] (suc i) all = tt
  all_remove (a ∷ xs) zero all = all.1
  all_remove (a ∷ xs) (suc i) all = (all.0, all_remove xs i all.1)

  pub all_changed : (told : PartChange) (x : A) (xs : List A) → P x → AllByRecursion P xs → AllByRecursion P (with_part_change told x xs)
  all_changed Same x xs one all = all
  all_changed (New i) x xs one all = all_insert xs i x one all
  all_changed (Gone i) x xs one all = all_remove xs i all

  -- the same of whoever stands at a place
  each_insert : (xs : List A) (i : ℕ) (x : A) → P x → ((k : ℕ) (y : A) → slice_get xs k ≡ Some y → P y) → (k : ℕ) (y : A) → slice_get (insert xs i x) k ≡ Some y → P y
  each_insert xs zero x one each zero y is = subst P (same_Some x y is) one
  each_insert xs zero x one each (suc k) y is = each k y is
  each_insert [] (suc i) x one each zero y is = subst P (same_Some x y is) one
  each_insert [] (suc i) x one each (suc k) y is = absurd (none-some y is)
  each_insert (a ∷ xs) (suc i) x one each zero y is = each 0 y is
  each_insert (a ∷ xs) (suc i) x one each (suc k) y is = each_insert xs i x one (λ q z e. each (suc q) z e) k y is

  each_remove : (xs : List A) (i : ℕ) → ((k : ℕ) (y : A) → slice_get xs k ≡ Some y → P y) → (k : ℕ) (y : A) → slice_get (remove xs i) k ≡ Some y → P y
  each_remove [] zero each k y is = absurd (none-some y is)
  each_remove [] (suc i) each k y is = absurd (none-some y is)
  each_remove (a ∷ xs) zero each k y is = each (suc k) y is
  each_remove (a ∷ xs) (suc i) each zero y is = each 0 y is
  each_remove (a ∷ xs) (suc i) each (suc k) y is = each_remove xs i (λ q z e. each (suc q) z e) k y is

  pub each_changed : (told : PartChange) (x : A) (xs : List A) → P x → ((k : ℕ) (y : A) → slice_get xs k ≡ Some y → P y) → (k : ℕ) (y : A) → slice_get (with_part_change told x xs) k ≡ Some y → P y
  each_changed Same x xs one each = each
  each_changed (New i) x xs one each = each_insert xs i x one each
  each_changed (Gone i) x xs one each = each_remove xs i each

-- in front of a part that comes or goes the list is as it was
module _ {A : Type 0} where
  get_insert : (xs : List A) (i : ℕ) (x : A) (k : ℕ) → k < i → i ≤ length xs → slice_get (insert xs i x) k ≡ slice_get xs k
  get_insert xs zero x k low there = absurd (omega arith)
  get_insert [] (suc i) x k low there = absurd (omega arith)
  get_insert (a ∷ xs) (suc i) x zero low there = refl
  get_insert (a ∷ xs) (suc i) x (suc k) low there = get_insert xs i x k (omega arith) (omega arith)

  get_remove : (xs : List A) (i : ℕ) (k : ℕ) → k < i → slice_get (remove xs i) k ≡ slice_get xs k
  get_remove xs zero k low = absurd (omega arith)
  get_remove [] (suc i) k low = refl
  get_remove (a ∷ xs) (suc i) zero low = refl
  get_remove (a ∷ xs) (suc i) (suc k) low = get_remove xs i k (omega arith)

-- and where nothing stands from a place on, nothing does then
module _ {A : Type 0} (d : A) where
  blank_insert : (xs : List A) (i q : ℕ) → ((k : ℕ) → i ≤ k → get_or xs k d ≡ d) → i ≤ q → get_or (insert xs i d) q d ≡ d
  blank_insert xs zero zero blank from = refl
  blank_insert xs zero (suc q) blank from = blank q (omega arith)
  blank_insert [] (suc i) zero blank from = absurd (omega arith)
  blank_insert [] (suc i) (suc q) blank from = refl
  blank_insert (a ∷ xs) (suc i) zero blank from = absurd (omega arith)
  blank_insert (a ∷ xs) (suc i) (suc q) blank from = blank_insert xs i q (λ k behind. blank (suc k) (omega arith)) (omega arith)

  blank_remove : (xs : List A) (i q : ℕ) → ((k : ℕ) → i ≤ k → get_or xs k d ≡ d) → i ≤ q → get_or (remove xs i) q d ≡ d
  blank_remove [] zero q blank from = refl
  blank_remove [] (suc i) q blank from = refl
  blank_remove (a ∷ xs) zero q blank from = blank (suc q) (omega arith)
  blank_remove (a ∷ xs) (suc i) zero blank from = absurd (omega arith)
  blank_remove (a ∷ xs) (suc i) (suc q) blank from = blank_remove xs i q (λ k behind. blank (suc k) (omega arith)) (omega arith)

-- a part with no job comes or goes: each number is out as before
numbered_insert : (k : ℕ) (jobs : List (List (ℕ × Job))) (i : ℕ) → numbered_in k (insert jobs i []) ≡ numbered_in k jobs
numbered_insert k jobs zero = omega arith
numbered_insert k [] (suc i) = omega arith
numbered_insert k (own ∷ jobs) (suc i) = let rest = numbered_insert k jobs i in omega arith

numbered_remove : (k : ℕ) (jobs : List (List (ℕ × Job))) (i : ℕ) → get_or jobs i [] ≡ [] → numbered_in k (remove jobs i) ≡ numbered_in k jobs
numbered_remove k [] zero none = refl
numbered_remove k [] (suc i) none = refl
numbered_remove k (own ∷ jobs) zero none = let here = ap (numbered k) none in omega arith
numbered_remove k (own ∷ jobs) (suc i) none = let rest = numbered_remove k jobs i none in omega arith

pub numbered_changed : (k : ℕ) (told : PartChange) (jobs : List (List (ℕ × Job))) → ((q : ℕ) → IsBehind told q → get_or jobs q [] ≡ []) → numbered_in k (with_part_change told [] jobs) ≡ numbered_in k jobs
numbered_changed k Same jobs none = refl
numbered_changed k (New i) jobs none = numbered_insert k jobs i
numbered_changed k (Gone i) jobs none = numbered_remove k jobs i (none i (omega arith))

pub order_changed : (told : PartChange) (jobs : List (List (ℕ × Job))) (replies : List (ℕ × Reply)) → ((q : ℕ) → IsBehind told q → get_or jobs q [] ≡ []) → InOrder jobs replies → InOrder (with_part_change told [] jobs) replies
order_changed told jobs replies none order = record {
  places = order.places;
  once = λ k. let same = numbered_changed k told jobs none in let was = order.once k in omega arith;
  below = λ k high. numbered_changed k told jobs none ∙ order.below k high;
  few = each_changed (λ (own : List (ℕ × Job)). length own ≤ length replies) told [] jobs (omega arith) order.few;
}

-- the other way round
abbrev pub undone : PartChange → PartChange
undone Same = Same
undone (New i) = Gone i
undone (Gone i) = New i

-- ends of all parts as they are, and as they were
module _ (reply : ℕ → Reply) where
  ends_new : (outs : List (Option HoldingState)) (jobs : List (List (ℕ × Job))) (ends : List HoldingState) (i : ℕ) → length jobs ≡ length outs → i ≤ length outs
      → AreEnds reply (insert outs i None) (insert jobs i []) ends → AreEnds reply outs jobs (remove ends i)
  ends_new outs jobs [] zero paired low are = absurd are
  ends_new outs jobs (y ∷ ends) zero paired low are = are.1
  ends_new [] jobs ends (suc i) paired low are = absurd (omega arith)
  ends_new (o ∷ outs) [] ends (suc i) paired low are = absurd (omega arith)
  ends_new (o ∷ outs) (own ∷ jobs) [] (suc i) paired low are = absurd are
  ends_new (o ∷ outs) (own ∷ jobs) (y ∷ ends) (suc i) paired low are = (are.0, ends_new outs jobs ends i (omega arith) (omega arith) are.1)

  ends_gone : (outs : List (Option HoldingState)) (jobs : List (List (ℕ × Job))) (ends : List HoldingState) (i : ℕ) (x : HoldingState) → length jobs ≡ length outs → i < length outs
      → get_or outs i None ≡ None → AreEnds reply (remove outs i) (remove jobs i) ends → AreEnds reply outs jobs (insert ends i x)
  ends_gone [] jobs ends i x paired low none are = absurd (omega arith)
  ends_gone (o ∷ outs) [] ends i x paired low none are = absurd (omega arith)
  ends_gone (o ∷ outs) (own ∷ jobs) ends zero x paired low none are = (rw none tt, are)
  ends_gone (o ∷ outs) (own ∷ jobs) [] (suc i) x paired low none are = absurd are
  ends_gone (o ∷ outs) (own ∷ jobs) (y ∷ ends) (suc i) x paired low none are = (are.0, ends_gone outs jobs ends i x (omega arith) (omega arith) none are.1)

  pub ends_changed : (told : PartChange) (outs : List (Option HoldingState)) (jobs : List (List (ℕ × Job))) (ends : List HoldingState) → length jobs ≡ length outs → IsPlace told (length outs)
      → ((q : ℕ) → IsBehind told q → get_or outs q None ≡ None) → AreEnds reply (with_part_change told None outs) (with_part_change told [] jobs) ends → AreEnds reply outs jobs (with_part_change (undone told) nothing ends)
  ends_changed Same outs jobs ends paired place none are = are
  ends_changed (New i) outs jobs ends paired place none are = ends_new outs jobs ends i paired place.0 are
  ends_changed (Gone i) outs jobs ends paired place none are = ends_gone outs jobs ends i nothing paired place (none i (omega arith)) are

-- where a part is out, they are the same
pub ends_alike : (told : PartChange) (outs : List (Option HoldingState)) (ends : List HoldingState) → IsPlace told (length outs) → length ends ≡ length (with_part_change told None outs)
    → ((q : ℕ) → IsBehind told q → get_or outs q None ≡ None) → (q : ℕ) → (get_or (with_part_change told None outs) q None ≡ None) ⊎ (slice_get (with_part_change (undone told) nothing ends) q ≡ slice_get ends q)
ends_alike Same outs ends place long none q = inr refl
ends_alike (New i) outs ends place long none q = elim (cases_lt q i) [
  | inl front ↦ inr (get_remove ends i q front)
  | inr behind ↦ inl (blank_insert None outs i q none behind)
]
ends_alike (Gone i) outs ends place long none q = elim (cases_lt q i) [
  | inl front ↦ inr (let less = length-remove outs i place in get_insert ends i nothing q front (omega arith))
  | inr behind ↦ inl (blank_remove None outs i q none behind)
]
