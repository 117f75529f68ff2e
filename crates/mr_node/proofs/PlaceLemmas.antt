-- Places of which the first ones are used: what they hold after a write, an insertion and a removal.
use Rattle.mr_node.proofs.Common.{◌≡◌, ℕ, ◌+◌, ◌-◌, ◌<◌, ◌≤◌, suc, zero, List, [], ◌∷◌, ◌++◌, length, get_or, set, take, drop, slice_range, Option, Some, None, refl, sym, ap, subst, ◌∙◌, arith, append-nil, add-one, inl, inr, get_or_default, nil_from_length, set_split, set-get_or, drop_all, take-set, drop-set, drop-set-lt, take-take, take-append-le, drop-take, length-take-le, length-drop, length-append, cases_lt, insert, remove, remove_range, somes, IsPacked}
use lib.Seq.{paste, drop_at}

module _ {X : Type 0} where
  -- a write of the last of 32
  pub last_set : (x : X) (xs : List X) → length xs ≡ 32 → set xs 31 x ≡ take 31 xs ++ (x ∷ [])
  last_set x xs len = set_split xs 31 x (omega (arith, len)) ∙ ap (λ r. take 31 xs ++ (x ∷ r)) (drop_all 32 xs (omega (arith, len)))

  -- those from a place on moved up by one, and an element written there
  pub put_within : (p : ℕ) (y : X) (xs : List X) → p < 32 → length xs ≡ 32 → set (paste xs (p + 1) (drop p xs) (31 - p)) p y ≡ insert (take 31 xs) p y
  put_within p y xs lt len =
      let rest = take (31 - p) (drop p xs) in
      let begin = length-take-le (p + 1) xs (omega (arith, lt, len)) in
      let wide : length rest ≡ 31 - p = length-take-le (31 - p) (drop p xs) (omega (arith, length-drop p xs, len)) in
      let whole : paste xs (p + 1) (drop p xs) (31 - p) ≡ take (p + 1) xs ++ rest = ap (λ r. (take (p + 1) xs ++ rest) ++ r) (drop_all (p + 1 + (31 - p)) xs (omega (arith, lt, len))) ∙ append-nil (take (p + 1) xs ++ rest) in
      let tail : 31 ≡ p + (31 - p) = omega (arith, lt) in
      let front : take p (take (p + 1) xs ++ rest) ≡ take p (take 31 xs) = take-append-le p (take (p + 1) xs) rest (omega (arith, begin)) ∙ take-take p (p + 1) xs (omega arith) ∙ sym (take-take p 31 xs (omega (arith, lt))) in
      let back : drop (suc p) (take (p + 1) xs ++ rest) ≡ drop p (take 31 xs) = drop_at (take (p + 1) xs) rest (suc p) (omega (arith, begin)) ∙ sym (ap (λ j. drop p (take j xs)) tail ∙ drop-take p (31 - p) xs) in
      ap (λ l. set l p y) whole ∙ set_split (take (p + 1) xs ++ rest) p y (omega (arith, length-append (take (p + 1) xs) rest, begin)) ∙ ap (λ a. a ++ (y ∷ drop (suc p) (take (p + 1) xs ++ rest))) front ∙ ap (λ b. take p (take 31 xs) ++ (y ∷ b)) back

  -- an element written, and moved behind the others
  pub moved_behind : (p : ℕ) (y : X) (xs : List X) → p < length xs → remove_range (set xs p y) p (p + 1) ++ slice_range (set xs p y) p (p + 1) ≡ remove xs p ++ (y ∷ [])
  moved_behind p y xs lt =
      let one : p + 1 - p ≡ 1 = omega arith in
      let mid : slice_range (set xs p y) p (p + 1) ≡ y ∷ [] = ap (λ j. take j (drop p (set xs p y))) one ∙ ap (take 1) (drop-set xs p y lt) in
      ap (λ a. (a ++ drop (p + 1) (set xs p y)) ++ slice_range (set xs p y) p (p + 1)) (take-set xs p y)
      ∙ ap (λ b. (take p xs ++ b) ++ slice_range (set xs p y) p (p + 1)) (drop-set-lt (p + 1) xs p y (omega arith))
      ∙ ap (λ m. (take p xs ++ drop (p + 1) xs) ++ m) mid
      ∙ ap (λ j. (take p xs ++ drop j xs) ++ (y ∷ [])) (add-one p)

  pub somes_append : (a b : List (Option X)) → somes (a ++ b) ≡ somes a ++ somes b
  somes_append [] b = refl
  somes_append (None ∷ a) b = somes_append a b
  somes_append (Some x ∷ a) b = ap (λ r. x ∷ r) (somes_append a b)

  pub packed_length : (n : ℕ) (ks : List (Option X)) → IsPacked n ks → length (somes ks) ≡ n
  packed_length n [] h = sym h
  packed_length n (None ∷ ks) h = packed_length 0 ks h.1 ∙ sym h.0
  packed_length n (Some x ∷ ks) h = omega (arith, packed_length (n - 1) ks h.1, h.0)

  pub packed_fits : (n : ℕ) (ks : List (Option X)) → IsPacked n ks → n ≤ length ks
  packed_fits n [] h = omega arith
  packed_fits n (None ∷ ks) h = omega (arith, h.0)
  packed_fits n (Some x ∷ ks) h = omega (arith, packed_fits (n - 1) ks h.1, h.0)

  pub packed_get : (n i : ℕ) (d : X) (ks : List (Option X)) → IsPacked n ks → i < n → get_or ks i None ≡ Some (get_or (somes ks) i d)
  packed_get n i d [] h lt = absurd (omega arith)
  packed_get n i d (None ∷ ks) h lt = absurd (omega (arith, h.0))
  packed_get n zero d (Some x ∷ ks) h lt = refl
  packed_get n (suc i) d (Some x ∷ ks) h lt = packed_get (n - 1) i d ks h.1 (omega arith)

  no_more : (i : ℕ) (ks : List (Option X)) → IsPacked 0 ks → get_or ks i None ≡ None
  no_more i [] h = refl
  no_more zero (None ∷ ks) h = refl
  no_more (suc i) (None ∷ ks) h = no_more i ks h.1
  no_more i (Some x ∷ ks) h = absurd (omega (arith, h.0))

  pub packed_past : (n i : ℕ) (ks : List (Option X)) → IsPacked n ks → n ≤ i → get_or ks i None ≡ None
  packed_past n i [] h le = refl
  packed_past n i (None ∷ ks) h le = no_more i (None ∷ ks) (refl, h.1)
  packed_past n zero (Some x ∷ ks) h le = absurd (omega (arith, h.0))
  packed_past n (suc i) (Some x ∷ ks) h le = packed_past (n - 1) i ks h.1 (omega arith)

  pub packed_set : (n i : ℕ) (y : X) (ks : List (Option X)) → IsPacked n ks → i < n → IsPacked n (set ks i (Some y))
  packed_set n i y [] h lt = absurd (omega arith)
  packed_set n i y (None ∷ ks) h lt = absurd (omega (arith, h.0))
  packed_set n zero y (Some x ∷ ks) h lt = h
  packed_set n (suc i) y (Some x ∷ ks) h lt = (h.0, packed_set (n - 1) i y ks h.1 (omega arith))

  pub somes_set : (n i : ℕ) (y : X) (ks : List (Option X)) → IsPacked n ks → i < n → somes (set ks i (Some y)) ≡ set (somes ks) i y
  somes_set n i y [] h lt = absurd (omega arith)
  somes_set n i y (None ∷ ks) h lt = absurd (omega (arith, h.0))
  somes_set n zero y (Some x ∷ ks) h lt = refl
  somes_set n (suc i) y (Some x ∷ ks) h lt = ap (λ r. x ∷ r) (somes_set (n - 1) i y ks h.1 (omega arith))

  packed_same : (n m : ℕ) (ks : List (Option X)) → n ≡ m → IsPacked n ks → IsPacked m ks
  packed_same n m ks e = subst (λ j. IsPacked j ks) e

  pub packed_insert : (n i : ℕ) (y : X) (ks : List (Option X)) → IsPacked n ks → i ≤ n → IsPacked (n + 1) (insert ks i (Some y))
  packed_insert n zero y ks h le = (omega arith, packed_same n (n + 1 - 1) ks (omega arith) h)
  packed_insert n (suc i) y [] h le = absurd (omega arith)
  packed_insert n (suc i) y (None ∷ ks) h le = absurd (omega (arith, h.0))
  packed_insert n (suc i) y (Some x ∷ ks) h le =
      (omega arith, packed_same (n - 1 + 1) (n + 1 - 1) (insert ks i (Some y)) (omega (arith, h.0)) (packed_insert (n - 1) i y ks h.1 (omega arith)))

  pub somes_insert : (n i : ℕ) (y : X) (ks : List (Option X)) → IsPacked n ks → i ≤ n → somes (insert ks i (Some y)) ≡ insert (somes ks) i y
  somes_insert n zero y ks h le = refl
  somes_insert n (suc i) y [] h le = absurd (omega arith)
  somes_insert n (suc i) y (None ∷ ks) h le = absurd (omega (arith, h.0))
  somes_insert n (suc i) y (Some x ∷ ks) h le = ap (λ r. x ∷ r) (somes_insert (n - 1) i y ks h.1 (omega arith))

  pub packed_remove : (n i : ℕ) (ks : List (Option X)) → IsPacked n ks → i < n → IsPacked (n - 1) (remove ks i)
  packed_remove n i [] h lt = absurd (omega arith)
  packed_remove n i (None ∷ ks) h lt = absurd (omega (arith, h.0))
  packed_remove n zero (Some x ∷ ks) h lt = h.1
  packed_remove n (suc i) (Some x ∷ ks) h lt = (omega arith, packed_remove (n - 1) i ks h.1 (omega arith))

  pub somes_remove : (n i : ℕ) (ks : List (Option X)) → IsPacked n ks → i < n → somes (remove ks i) ≡ remove (somes ks) i
  somes_remove n i [] h lt = absurd (omega arith)
  somes_remove n i (None ∷ ks) h lt = absurd (omega (arith, h.0))
  somes_remove n zero (Some x ∷ ks) h lt = refl
  somes_remove n (suc i) (Some x ∷ ks) h lt = ap (λ r. x ∷ r) (somes_remove (n - 1) i ks h.1 (omega arith))

  pub packed_front : (n m : ℕ) (ks : List (Option X)) → IsPacked n ks → n ≤ m → IsPacked n (take m ks)
  packed_front n zero ks h le = omega arith
  packed_front n (suc m) [] h le = h
  packed_front n (suc m) (None ∷ ks) h le = (h.0, packed_front 0 m ks h.1 (omega arith))
  packed_front n (suc m) (Some x ∷ ks) h le = (h.0, packed_front (n - 1) m ks h.1 (omega arith))

  pub somes_front : (n m : ℕ) (ks : List (Option X)) → IsPacked n ks → n ≤ m → somes (take m ks) ≡ somes ks
  somes_front n zero ks h le = sym (nil_from_length (somes ks) (packed_length n ks h ∙ omega arith))
  somes_front n (suc m) [] h le = refl
  somes_front n (suc m) (None ∷ ks) h le = somes_front 0 m ks h.1 (omega arith)
  somes_front n (suc m) (Some x ∷ ks) h le = ap (λ r. x ∷ r) (somes_front (n - 1) m ks h.1 (omega arith))

  pub packed_pad : (n : ℕ) (ks : List (Option X)) → IsPacked n ks → IsPacked n (ks ++ (None ∷ []))
  packed_pad n [] h = (h, refl)
  packed_pad n (None ∷ ks) h = (h.0, packed_pad 0 ks h.1)
  packed_pad n (Some x ∷ ks) h = (h.0, packed_pad (n - 1) ks h.1)

  pub somes_pad : (ks : List (Option X)) → somes (ks ++ (None ∷ [])) ≡ somes ks
  somes_pad ks = somes_append ks (None ∷ []) ∙ append-nil (somes ks)

  -- places that are all used
  pub packed_join : (a b : List (Option X)) → IsPacked (length a) a → IsPacked (length b) b → IsPacked (length (a ++ b)) (a ++ b)
  packed_join [] b h i = i
  packed_join (None ∷ a) b h i = absurd (omega (arith, h.0))
  packed_join (Some x ∷ a) b h i = (omega arith, packed_same (length (a ++ b)) (suc (length (a ++ b)) - 1) (a ++ b) (omega arith) (packed_join a b (packed_same (suc (length a) - 1) (length a) a (omega arith) h.1) i))

  -- a read that gave Some is within the used places
  pub packed_within : (n i : ℕ) (p : X) (ks : List (Option X)) → IsPacked n ks → get_or ks i None ≡ Some p → i < n
  packed_within n i p ks h e = elim (cases_lt i n) [ inl lt ↦ lt | inr le ↦ let none = packed_past n i ks h le in let wrong : ⊥ = cc in absurd wrong ]

  -- a write of what stands there
  pub same_written : (i : ℕ) (p : X) (ks : List (Option X)) → get_or ks i None ≡ Some p → set ks i (Some p) ≡ ks
  same_written i p ks e = subst (λ x. set ks i x ≡ ks) e (set-get_or ks i None)

  pub packed_some : (n i : ℕ) (ks : List (Option X)) → IsPacked n ks → i < n → (x : X) × (get_or ks i None ≡ Some x)
  packed_some n i [] h lt = absurd (omega arith)
  packed_some n i (None ∷ ks) h lt = absurd (omega (arith, h.0))
  packed_some n zero (Some x ∷ ks) h lt = (x, refl)
  packed_some n (suc i) (Some x ∷ ks) h lt = packed_some (n - 1) i ks h.1 (omega arith)

  -- a read that gave Some is that of the used places
  pub packed_read : (n i : ℕ) (p : X) (ks : List (Option X)) → IsPacked n ks → get_or ks i None ≡ Some p → get_or (somes ks) i p ≡ p
  packed_read n i p ks h e =
      let got = packed_get n i p ks h (packed_within n i p ks h e) in cc

  -- a read of one of the used places, at any default
  pub got_used : (n i : ℕ) (r : Option X) (p : X) (ks : List (Option X)) → IsPacked n ks → i < n → get_or ks i r ≡ Some p → get_or ks i None ≡ Some p
  got_used n i r p ks h lt e = get_or_default ks i None r (omega (arith, packed_fits n ks h, lt)) ∙ e

  -- no used place is empty
  pub never_none : (n i : ℕ) (r : Option X) (ks : List (Option X)) → IsPacked n ks → i < n → get_or ks i r ≡ None → ⊥
  never_none n i r ks h lt e =
      let some = packed_some n i ks h lt in
      let here = get_or_default ks i None r (omega (arith, packed_fits n ks h, lt)) in
      cc (some.1, here, e)
