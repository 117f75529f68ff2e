-- Lists whose elements stand beside one another, edited at an index.
use Rattle.hlr_owners.proofs.Common.{sum_by-cons, ℕ, zero, suc, ◌<◌, List, [], ◌∷◌, length, get_or, set, arith, ◌≡◌, ◌∙◌, refl, sym, insert, remove, sum_by, set-get_or, AllZip, AllByRecursion, map}

module _ {A B : Type 0} (P : A → B → Type 0) where
  pub zip_at : (xs : List A) (ys : List B) (i : ℕ) (d : A) (e : B) → AllZip P xs ys → i < length xs → P (get_or xs i d) (get_or ys i e)
  zip_at [] ys i d e each lt = absurd (omega arith)
  zip_at (x ∷ xs) [] i d e each lt = absurd each
  zip_at (x ∷ xs) (y ∷ ys) zero d e each lt = each.0
  zip_at (x ∷ xs) (y ∷ ys) (suc i) d e each lt = zip_at xs ys i d e each.1 (omega arith)

  pub zip_set : (xs : List A) (ys : List B) (i : ℕ) (x : A) (y : B) → AllZip P xs ys → P x y → AllZip P (set xs i x) (set ys i y)
  zip_set [] [] i x y each one = tt
  zip_set (a ∷ xs) (b ∷ ys) zero x y each one = (one, each.1)
  zip_set (a ∷ xs) (b ∷ ys) (suc i) x y each one = (each.0, zip_set xs ys i x y each.1 one)
  zip_set xs ys i x y each one = absurd each

  -- one of them alone
  pub zip_put : (xs : List A) (ys : List B) (i : ℕ) (d : A) (y : B) → AllZip P xs ys → P (get_or xs i d) y → AllZip P xs (set ys i y)
  zip_put xs ys i d y each one = rw (set-get_or xs i d) at (zip_set xs ys i (get_or xs i d) y each one)

  pub zip_insert : (xs : List A) (ys : List B) (i : ℕ) (x : A) (y : B) → AllZip P xs ys → P x y → AllZip P (insert xs i x) (insert ys i y)
  zip_insert xs ys zero x y each one = (one, each)
  zip_insert [] [] (suc i) x y each one = (one, tt)
  zip_insert (a ∷ xs) (b ∷ ys) (suc i) x y each one = (each.0, zip_insert xs ys i x y each.1 one)
  zip_insert xs ys i x y each one = absurd each

  pub zip_remove : (xs : List A) (ys : List B) (i : ℕ) → AllZip P xs ys → AllZip P (remove xs i) (remove ys i)
  zip_remove [] [] zero each = tt
  zip_remove [] [] (suc i) each = tt
  zip_remove (a ∷ xs) (b ∷ ys) zero each = each.1
  zip_remove (a ∷ xs) (b ∷ ys) (suc i) each = (each.0, zip_remove xs ys i each.1)
  zip_remove xs ys i each = absurd each

-- a fact of each pair from another one, and of each with what is made of the second from another one, or from both
pub zip_weaker : {A B : Type 0} {P Q : A → B → Type 0} → ((x : A) (y : B) → P x y → Q x y) → (xs : List A) (ys : List B) → AllZip P xs ys → AllZip Q xs ys
zip_weaker weaker [] [] each = tt
zip_weaker weaker (x ∷ xs) (y ∷ ys) each = (weaker x y each.0, zip_weaker weaker xs ys each.1)
zip_weaker weaker xs ys each = absurd each

module _ {A B C : Type 0} (f : B → C) (P : A → B → Type 0) (Q : A → C → Type 0) where
  pub zip_mapped : ((x : A) (y : B) → P x y → Q x (f y)) → (xs : List A) (ys : List B) → AllZip P xs ys → AllZip Q xs (map f ys)
  zip_mapped weaker [] [] each = tt
  zip_mapped weaker (x ∷ xs) (y ∷ ys) each = (weaker x y each.0, zip_mapped weaker xs ys each.1)
  zip_mapped weaker xs ys each = absurd each

  pub zip_from_two : {R : A → B → Type 0} → ((x : A) (y : B) → P x y → Q x (f y) → R x y) → (xs : List A) (ys : List B) → AllZip P xs ys → AllZip Q xs (map f ys) → AllZip R xs ys
  zip_from_two from [] [] one other = tt
  zip_from_two from (x ∷ xs) (y ∷ ys) one other = (from x y one.0 other.0, zip_from_two from xs ys one.1 other.1)
  zip_from_two from xs ys one other = absurd one

-- what holds of each of a list beside another one, from what holds of the pairs, and of each of the other one
module _ {A B : Type 0} (R : A → B → Type 0) (Q : B → Type 0) where
  pub each_zipped : ((x : A) (y : B) → R x y → Q y) → (xs : List A) (ys : List B) → AllZip R xs ys → AllByRecursion Q ys
  each_zipped from [] [] zipped = tt
  each_zipped from (x ∷ xs) (y ∷ ys) zipped = (from x y zipped.0, each_zipped from xs ys zipped.1)
  each_zipped from xs ys zipped = absurd zipped

  pub each_while_out : (P : A → Type 0) → ((x : A) (y : B) → R x y → P x → Q y) → (xs : List A) (ys : List B) → AllZip R xs ys → AllByRecursion P xs → AllByRecursion Q ys
  each_while_out P from [] [] zipped each = tt
  each_while_out P from (x ∷ xs) (y ∷ ys) zipped each = (from x y zipped.0 each.0, each_while_out P from xs ys zipped.1 each.1)
  each_while_out P from xs ys zipped each = absurd zipped

-- amounts that are the same of each pair have the same sum
pub sum_while_out : {A : Type 0} (R : A → A → Type 0) (f : A → ℕ) → ((x y : A) → R x y → f y ≡ f x) → (xs ys : List A) → AllZip R xs ys → sum_by f ys ≡ sum_by f xs
sum_while_out R f same [] [] zipped = refl
sum_while_out R f same (x ∷ xs) (y ∷ ys) zipped = sum_by-cons f y ys ∙ rw (same x y zipped.0, sum_while_out R f same xs ys zipped.1) (sym (sum_by-cons f x xs))
sum_while_out R f same xs ys zipped = absurd zipped
