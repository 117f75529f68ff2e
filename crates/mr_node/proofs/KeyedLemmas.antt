-- Keys in an array, and beside them items, of which each has its key: what the pairs are after a write, an insertion
-- and a removal.
use Rattle.mr_node.proofs.Common.{◌≡◌, ℕ, ◌+◌, ◌-◌, ◌<◌, ◌≤◌, suc, zero, List, [], ◌∷◌, ◌++◌, length, reverse, replicate, get_or, set, take, drop, Some, IfSome, refl, sym, ap, subst, ◌∙◌, arith, add-one, inl, inr, length-append, length-take, length-drop, set_split, take-set, length-set, length-take-le, length-reverse, reverse-append, take_all, take_more, drop_more, slice_get_within, get_or_from_slice_get, slice_get-get_or, length-zip, get_or-zip, split_at, cases_lt, insert, remove, slice_get, zip, AllByRecursion, IsOrderedBy, key_of_pair, key_limit, KeysBelow, IsRising, no_key, IsPadded, AreKeyed}

-- what stands behind the keys
pub padded_same : (n m : ℕ) (ks : List ℕ) → n ≡ m → IsPadded n ks → IsPadded m ks
padded_same n m ks e = subst (λ j. IsPadded j ks) e

padded_take : (n m : ℕ) (ks : List ℕ) → IsPadded n ks → IsPadded n (take m ks)
padded_take n zero ks h = tt
padded_take n (suc m) [] h = tt
padded_take n (suc m) (k ∷ ks) h = (h.0, padded_take (n - 1) m ks h.1)

padded_insert : (n p k : ℕ) (ks : List ℕ) → p ≤ n → IsPadded n ks → IsPadded (n + 1) (insert ks p k)
padded_insert n zero k ks le h = ((λ e. absurd (omega (arith, e))), padded_same n (n + 1 - 1) ks (omega arith) h)
padded_insert n (suc p) k [] le h = ((λ e. absurd (omega (arith, e))), tt)
padded_insert n (suc p) k (x ∷ ks) le h = ((λ e. absurd (omega (arith, e))), padded_same (n - 1 + 1) (n + 1 - 1) (insert ks p k) (omega (arith, le)) (padded_insert (n - 1) p k ks (omega (arith, le)) h.1))

padded_pad : (n : ℕ) (ks : List ℕ) → IsPadded n ks → IsPadded n (ks ++ (no_key ∷ []))
padded_pad n [] h = ((λ e. refl), tt)
padded_pad n (k ∷ ks) h = (h.0, padded_pad (n - 1) ks h.1)

padded_remove : (n p : ℕ) (ks : List ℕ) → p < n → IsPadded n ks → IsPadded (n - 1) (remove ks p ++ (no_key ∷ []))
padded_remove n zero [] lt h = ((λ e. refl), tt)
padded_remove n (suc p) [] lt h = ((λ e. refl), tt)
padded_remove n zero (k ∷ ks) lt h = padded_pad (n - 1) ks h.1
padded_remove n (suc p) (k ∷ ks) lt h = ((λ e. absurd (omega (arith, lt, e))), padded_remove (n - 1) p ks (omega (arith, lt)) h.1)

-- the last key goes
padded_pop : (n i : ℕ) (ks : List ℕ) → i + 1 ≡ n → IsPadded n ks → IsPadded i (set ks i no_key)
padded_pop n i [] e h = tt
padded_pop n zero (k ∷ ks) e h = ((λ z. refl), padded_same (n - 1) (zero - 1) ks (omega (arith, e)) h.1)
padded_pop n (suc i) (k ∷ ks) e h = ((λ z. absurd (omega (arith, z))), padded_same i (suc i - 1) (set ks i no_key) (omega arith) (padded_pop (n - 1) i ks (omega (arith, e)) h.1))

-- one more key comes
padded_push : (n k : ℕ) (ks : List ℕ) → IsPadded n ks → IsPadded (n + 1) (set ks n k)
padded_push n k [] h = tt
padded_push zero k (x ∷ ks) h = ((λ e. absurd (omega (arith, e))), h.1)
padded_push (suc n) k (x ∷ ks) h = ((λ e. absurd (omega (arith, e))), padded_same (suc n - 1 + 1) (suc n + 1 - 1) (set ks n k) (omega arith) (subst (λ j. IsPadded (suc n - 1 + 1) (set ks j k)) (omega arith) (padded_push (suc n - 1) k ks h.1)))

-- a key is written over
pub padded_set : (n i k : ℕ) (ks : List ℕ) → i < n → IsPadded n ks → IsPadded n (set ks i k)
padded_set n i k [] lt h = tt
padded_set n zero k (x ∷ ks) lt h = ((λ e. absurd (omega (arith, lt, e))), h.1)
padded_set n (suc i) k (x ∷ ks) lt h = (h.0, padded_set (n - 1) i k ks (omega (arith, lt)) h.1)

-- what is the greatest number alone is the same one place on
shifted : (x : ℕ) (xs : List ℕ) → x ≡ no_key → IsPadded 0 xs → xs ≡ take (length xs) (x ∷ xs)
shifted x [] e h = refl
shifted x (y ∷ ys) e h = ap (λ k. k ∷ ys) (h.0 refl ∙ sym e) ∙ ap (λ r. x ∷ r) (shifted y ys (h.0 refl) (padded_same (0 - 1) 0 ys (omega arith) h.1))

-- a key written behind those in use
pub put_behind : (n k m : ℕ) (ks : List ℕ) → length ks ≡ m + 1 → n ≤ m → IsPadded n ks → set ks n k ≡ insert (take m ks) n k
put_behind n k m [] len le h = absurd (omega (arith, len))
put_behind zero k m (x ∷ ks) len le h = ap (λ r. k ∷ r) (shifted x ks (h.0 refl) (padded_same (zero - 1) 0 ks (omega arith) h.1) ∙ ap (λ j. take j (x ∷ ks)) (omega (arith, len)))
put_behind (suc n) k zero (x ∷ ks) len le h = absurd (omega (arith, le))
put_behind (suc n) k (suc m) (x ∷ ks) len le h = ap (λ r. x ∷ r) (put_behind n k m ks (omega (arith, len)) (omega (arith, le)) (padded_same (suc n - 1) n ks (omega arith) h.1))

padded_behind : (n : ℕ) (a b : List ℕ) → length a ≡ n → IsPadded 0 b → IsPadded n (a ++ b)
padded_behind n [] b e h = padded_same 0 n b e h
padded_behind n (x ∷ a) b e h = ((λ z. absurd (omega (arith, e, z))), padded_behind (n - 1) a b (omega (arith, e)) h)

padded_drop : (n : ℕ) (ks : List ℕ) → IsPadded n ks → IsPadded 0 (drop n ks)
padded_drop zero ks h = h
padded_drop (suc n) [] h = tt
padded_drop (suc n) (k ∷ ks) h = padded_drop n ks (padded_same (suc n - 1) n ks (omega arith) h.1)

pub padded_blank : (m : ℕ) → IsPadded 0 (replicate m no_key)
padded_blank zero = tt
padded_blank (suc m) = ((λ e. refl), padded_blank m)

behind : (n i : ℕ) (ks : List ℕ) → IsPadded n ks → n ≤ i → i < length ks → get_or ks i 0 ≡ no_key
behind n i [] h le lt = absurd (omega (arith, lt))
behind n zero (k ∷ ks) h le lt = h.0 (omega (arith, le))
behind n (suc i) (k ∷ ks) h le lt = behind (n - 1) i ks h.1 (omega (arith, le)) (omega (arith, lt))

-- the first keys go, and as many blanks come
padded_less : (n c : ℕ) (ks : List ℕ) → c ≤ n → IsPadded n ks → IsPadded (n - c) (drop c ks)
padded_less n zero ks le h = padded_same n (n - zero) ks (omega arith) h
padded_less n (suc c) [] le h = tt
padded_less n (suc c) (k ∷ ks) le h = padded_same (n - 1 - c) (n - suc c) (drop c ks) (omega arith) (padded_less (n - 1) c ks (omega (arith, le)) h.1)

padded_blanks : (n c : ℕ) → IsPadded n (replicate c no_key)
padded_blanks n zero = tt
padded_blanks n (suc c) = ((λ e. refl), padded_blanks (n - 1) c)

padded_more : (n c : ℕ) (ks : List ℕ) → IsPadded n ks → IsPadded n (ks ++ replicate c no_key)
padded_more n c [] h = padded_blanks n c
padded_more n c (k ∷ ks) h = (h.0, padded_more (n - 1) c ks h.1)

module _ {X : Type 0} where
  -- what stands in a place
  pub item_at : (i : ℕ) (xs : List X) → i < length xs → (x : X) × (slice_get xs i ≡ Some x)
  item_at i [] lt = absurd (omega (arith, lt))
  item_at zero (x ∷ xs) lt = (x, refl)
  item_at (suc i) (x ∷ xs) lt = item_at i xs (omega (arith, lt))

  -- what holds of the value read at a place
  pub of_item : (P : X → Type 0) (i : ℕ) (r : X) (xs ws : List X) → ws ≡ xs → i < length xs → P (get_or ws i r) → IfSome (slice_get xs i) P
  of_item P i r xs ws e lt p = subst (λ o. IfSome o P) (sym (slice_get-get_or xs i r lt)) (subst (λ l. P (get_or l i r)) e p)

  pub zip_set : (i : ℕ) (y : X) (ks : List ℕ) (xs : List X) → i < length xs → zip ks (set xs i y) ≡ set (zip ks xs) i (get_or ks i 0, y)
  zip_set i y [] xs lt = refl
  zip_set i y (k ∷ ks) [] lt = absurd (omega (arith, lt))
  zip_set zero y (k ∷ ks) (x ∷ xs) lt = refl
  zip_set (suc i) y (k ∷ ks) (x ∷ xs) lt = ap (λ r. (k, x) ∷ r) (zip_set i y ks xs (omega (arith, lt)))

  pub zip_keyed : (i k : ℕ) (d : X) (ks : List ℕ) (xs : List X) → zip (set ks i k) xs ≡ set (zip ks xs) i (k, get_or xs i d)
  zip_keyed i k d [] xs = refl
  zip_keyed zero k d (n ∷ ks) [] = refl
  zip_keyed (suc i) k d (n ∷ ks) [] = refl
  zip_keyed zero k d (n ∷ ks) (x ∷ xs) = refl
  zip_keyed (suc i) k d (n ∷ ks) (x ∷ xs) = ap (λ r. (n, x) ∷ r) (zip_keyed i k d ks xs)

  zip_front : (m : ℕ) (ks : List ℕ) (xs : List X) → length xs ≤ m → zip (take m ks) xs ≡ zip ks xs
  zip_front m [] xs le = ap (λ l. zip l xs) (take_all m [] (omega arith))
  zip_front zero (k ∷ ks) [] le = refl
  zip_front zero (k ∷ ks) (x ∷ xs) le = absurd (omega (arith, le))
  zip_front (suc m) (k ∷ ks) [] le = refl
  zip_front (suc m) (k ∷ ks) (x ∷ xs) le = ap (λ r. (k, x) ∷ r) (zip_front m ks xs (omega (arith, le)))

  zip_none : (ks : List ℕ) → zip {X = X} ks [] ≡ []
  zip_none [] = refl
  zip_none (k ∷ ks) = refl

  zip_drop : (c : ℕ) (ks : List ℕ) (xs : List X) → zip (drop c ks) (drop c xs) ≡ drop c (zip ks xs)
  zip_drop zero ks xs = refl
  zip_drop (suc c) [] xs = refl
  zip_drop (suc c) (k ∷ ks) [] = zip_none (drop c ks)
  zip_drop (suc c) (k ∷ ks) (x ∷ xs) = zip_drop c ks xs

  zip_more : (ks more : List ℕ) (xs : List X) → length xs ≤ length ks → zip (ks ++ more) xs ≡ zip ks xs
  zip_more [] more [] le = zip_none more
  zip_more [] more (x ∷ xs) le = absurd (omega (arith, le))
  zip_more (k ∷ ks) more [] le = refl
  zip_more (k ∷ ks) more (x ∷ xs) le = ap (λ r. (k, x) ∷ r) (zip_more ks more xs (omega (arith, le)))

  zip_insert : (p k : ℕ) (x : X) (ks : List ℕ) (xs : List X) → p ≤ length ks → p ≤ length xs → zip (insert ks p k) (insert xs p x) ≡ insert (zip ks xs) p (k, x)
  zip_insert zero k x ks xs le me = refl
  zip_insert (suc p) k x [] xs le me = absurd (omega (arith, le))
  zip_insert (suc p) k x (n ∷ ks) [] le me = absurd (omega (arith, me))
  zip_insert (suc p) k x (n ∷ ks) (y ∷ xs) le me = ap (λ r. (n, y) ∷ r) (zip_insert p k x ks xs (omega (arith, le)) (omega (arith, me)))

  zip_remove : (p : ℕ) (ks : List ℕ) (xs : List X) → p < length ks → p < length xs → zip (remove ks p) (remove xs p) ≡ remove (zip ks xs) p
  zip_remove p [] xs lt mt = absurd (omega (arith, lt))
  zip_remove p (n ∷ ks) [] lt mt = absurd (omega (arith, mt))
  zip_remove zero (n ∷ ks) (y ∷ xs) lt mt = refl
  zip_remove (suc p) (n ∷ ks) (y ∷ xs) lt mt = ap (λ r. (n, y) ∷ r) (zip_remove p ks xs (omega (arith, lt)) (omega (arith, mt)))

  zip_take : (n : ℕ) (ks : List ℕ) (xs : List X) → zip (take n ks) (take n xs) ≡ take n (zip ks xs)
  zip_take zero ks xs = refl
  zip_take (suc n) [] xs = refl
  zip_take (suc n) (k ∷ ks) [] = refl
  zip_take (suc n) (k ∷ ks) (x ∷ xs) = ap (λ r. (k, x) ∷ r) (zip_take n ks xs)

  zip_append : (ks ls : List ℕ) (xs ys : List X) → length ks ≡ length xs → zip (ks ++ ls) (xs ++ ys) ≡ zip ks xs ++ zip ls ys
  zip_append [] ls [] ys e = refl
  zip_append [] ls (x ∷ xs) ys e = absurd (omega (arith, e))
  zip_append (k ∷ ks) ls [] ys e = absurd (omega (arith, e))
  zip_append (k ∷ ks) ls (x ∷ xs) ys e = ap (λ r. (k, x) ∷ r) (zip_append ks ls xs ys (omega (arith, e)))

  zip_reverse : (ks : List ℕ) (xs : List X) → length ks ≡ length xs → zip (reverse ks) (reverse xs) ≡ reverse (zip ks xs)
  zip_reverse [] [] e = refl
  zip_reverse [] (x ∷ xs) e = absurd (omega (arith, e))
  zip_reverse (k ∷ ks) [] e = absurd (omega (arith, e))
  zip_reverse (k ∷ ks) (x ∷ xs) e =
      ap (λ l. zip l (reverse (x ∷ xs))) (reverse-append (k ∷ []) ks)
      ∙ ap (zip (reverse ks ++ (k ∷ []))) (reverse-append (x ∷ []) xs)
      ∙ zip_append (reverse ks) (k ∷ []) (reverse xs) (x ∷ []) (omega (arith, e, length-reverse ks, length-reverse xs))
      ∙ ap (λ r. r ++ ((k, x) ∷ [])) (zip_reverse ks xs (omega (arith, e)))
      ∙ sym (reverse-append ((k, x) ∷ []) (zip ks xs))

  zip_push : (n k : ℕ) (x : X) (ks : List ℕ) (xs : List X) → length xs ≡ n → n < length ks → zip (set ks n k) (xs ++ (x ∷ [])) ≡ zip ks xs ++ ((k, x) ∷ [])
  zip_push n k x [] xs e lt = absurd (omega (arith, lt))
  zip_push zero k x (m ∷ ks) [] e lt = ap (λ r. (k, x) ∷ r) (zip_none ks)
  zip_push zero k x (m ∷ ks) (y ∷ xs) e lt = absurd (omega (arith, e))
  zip_push (suc n) k x (m ∷ ks) [] e lt = absurd (omega (arith, e))
  zip_push (suc n) k x (m ∷ ks) (y ∷ xs) e lt = ap (λ r. (m, y) ∷ r) (zip_push n k x ks xs (omega (arith, e)) (omega (arith, lt)))

  -- as many pairs as items
  pub keyed_length : (ks : List ℕ) (xs : List X) → AreKeyed ks xs → length (zip ks xs) ≡ length xs
  keyed_length ks xs h = omega (arith, length-zip ks xs, h.keyed)

  pub keyed_read : (i : ℕ) (x d : X) (ks : List ℕ) (xs : List X) → AreKeyed ks xs → slice_get xs i ≡ Some x → get_or (zip ks xs) i (0, d) ≡ (get_or ks i 0, x)
  keyed_read i x d ks xs h e =
      let lt = slice_get_within xs i x e in
      get_or-zip ks xs i (0, d) (omega (arith, lt, h.keyed)) lt ∙ ap (λ y. (get_or ks i 0, y)) (get_or_from_slice_get xs i x d e)

  -- the pairs, cut at one of them
  pub keyed_split : (i : ℕ) (x : X) (ks : List ℕ) (xs : List X) → AreKeyed ks xs → slice_get xs i ≡ Some x → zip ks xs ≡ take i (zip ks xs) ++ ((get_or ks i 0, x) ∷ drop (i + 1) (zip ks xs))
  keyed_split i x ks xs h e =
      rw add-one (split_at (zip ks xs) i (0, x) (omega (arith, keyed_length ks xs h, slice_get_within xs i x e)) ∙ ap (λ p. take i (zip ks xs) ++ (p ∷ drop (suc i) (zip ks xs))) (keyed_read i x x ks xs h e))

  -- the pairs up to a place and the one there
  pub keyed_next : (i : ℕ) (x : X) (ks : List ℕ) (xs : List X) → AreKeyed ks xs → slice_get xs i ≡ Some x → take (i + 1) (zip ks xs) ≡ take i (zip ks xs) ++ ((get_or ks i 0, x) ∷ [])
  keyed_next i x ks xs h e =
      take_more (zip ks xs) i (0, x) (omega (arith, keyed_length ks xs h, slice_get_within xs i x e)) ∙ ap (λ p. take i (zip ks xs) ++ (p ∷ [])) (keyed_read i x x ks xs h e)

  -- the pairs from a place on
  pub keyed_rest : (i : ℕ) (x : X) (ks : List ℕ) (xs : List X) → AreKeyed ks xs → slice_get xs i ≡ Some x → drop i (zip ks xs) ≡ (get_or ks i 0, x) ∷ drop (i + 1) (zip ks xs)
  keyed_rest i x ks xs h e =
      drop_more (zip ks xs) i (0, x) (omega (arith, keyed_length ks xs h, slice_get_within xs i x e)) ∙ ap (λ p. p ∷ drop (i + 1) (zip ks xs)) (keyed_read i x x ks xs h e)

  -- the same with an item written
  pub keyed_written : (i : ℕ) (y : X) (ks : List ℕ) (xs : List X) → AreKeyed ks xs → i < length xs → (AreKeyed ks (set xs i y)) × (zip ks (set xs i y) ≡ take i (zip ks xs) ++ ((get_or ks i 0, y) ∷ drop (i + 1) (zip ks xs)))
  keyed_written i y ks xs h lt =
      let len = length-set xs i y in (
        record { fits = omega (arith, len, h.fits); padded = padded_same (length xs) (length (set xs i y)) ks (sym len) h.padded; keyed = omega (arith, len, h.keyed) },
        rw add-one (zip_set i y ks xs lt ∙ set_split (zip ks xs) i (get_or ks i 0, y) (omega (arith, keyed_length ks xs h, lt))),
      )

  -- one more
  pub keyed_inserted : (p k : ℕ) (x : X) (ks : List ℕ) (xs : List X) → AreKeyed ks xs → length ks ≡ 32 → length xs < 32 → p ≤ length xs → (AreKeyed (insert (take 31 ks) p k) (insert xs p x)) × (zip (insert (take 31 ks) p k) (insert xs p x) ≡ take p (zip ks xs) ++ ((k, x) ∷ drop p (zip ks xs)))
  keyed_inserted p k x ks xs h long room le =
      let front = length-take-le 31 ks (omega (arith, long)) in
      let len : length (insert xs p x) ≡ length xs + 1 = omega (arith, length-append (take p xs) (x ∷ drop p xs), length-take p xs, length-drop p xs, le) in (
        record {
          fits = omega (arith, len, room);
          padded = padded_same (length xs + 1) (length (insert xs p x)) (insert (take 31 ks) p k) (sym len) (padded_insert (length xs) p k (take 31 ks) le (padded_take (length xs) 31 ks h.padded));
          keyed = omega (arith, len, length-append (take p (take 31 ks)) (k ∷ drop p (take 31 ks)), length-take p (take 31 ks), length-drop p (take 31 ks), front, room, le);
        },
        zip_insert p k x (take 31 ks) xs (omega (arith, front, le, room)) le ∙ ap (λ l. insert l p (k, x)) (zip_front 31 ks xs (omega (arith, room))),
      )

  -- one less
  pub keyed_removed : (p : ℕ) (ks : List ℕ) (xs : List X) → AreKeyed ks xs → p < length xs → (AreKeyed (remove ks p ++ (no_key ∷ [])) (remove xs p)) × (zip (remove ks p ++ (no_key ∷ [])) (remove xs p) ≡ take p (zip ks xs) ++ drop (p + 1) (zip ks xs))
  keyed_removed p ks xs h lt =
      let len : length (remove xs p) ≡ length xs - 1 = omega (arith, length-append (take p xs) (drop (suc p) xs), length-take p xs, length-drop (suc p) xs, lt) in
      let rest : length (remove ks p) + 1 ≡ length ks = omega (arith, length-append (take p ks) (drop (suc p) ks), length-take p ks, length-drop (suc p) ks, lt, h.keyed) in (
        record {
          fits = omega (arith, len, h.fits);
          padded = padded_same (length xs - 1) (length (remove xs p)) (remove ks p ++ (no_key ∷ [])) (sym len) (padded_remove (length xs) p ks lt h.padded);
          keyed = omega (arith, len, length-append (remove ks p) (no_key ∷ []), rest, h.keyed);
        },
        zip_more (remove ks p) (no_key ∷ []) (remove xs p) (omega (arith, len, rest, h.keyed, lt)) ∙ zip_remove p ks xs (omega (arith, lt, h.keyed)) lt ∙ ap (λ j. take p (zip ks xs) ++ drop j (zip ks xs)) (sym (add-one p)),
      )

  -- the first ones go
  pub keyed_dropped : (c : ℕ) (ks : List ℕ) (xs : List X) → AreKeyed ks xs → c ≤ length xs → (AreKeyed (drop c ks ++ replicate c no_key) (drop c xs)) × (zip (drop c ks ++ replicate c no_key) (drop c xs) ≡ drop c (zip ks xs))
  keyed_dropped c ks xs h le =
      let len : length (drop c xs) ≡ length xs - c = length-drop c xs in
      let rest : length (drop c xs) ≤ length (drop c ks) = omega (arith, len, length-drop c ks, h.keyed) in (
        record {
          fits = omega (arith, len, h.fits);
          padded = padded_same (length xs - c) (length (drop c xs)) (drop c ks ++ replicate c no_key) (sym len) (padded_more (length xs - c) c (drop c ks) (padded_less (length xs) c ks le h.padded));
          keyed = omega (arith, rest, length-append (drop c ks) (replicate c no_key));
        },
        zip_more (drop c ks) (replicate c no_key) (drop c xs) rest ∙ zip_drop c ks xs,
      )

  -- the last one goes
  pub keyed_popped : (i : ℕ) (ks : List ℕ) (xs : List X) → i + 1 ≡ length xs → AreKeyed ks xs → (AreKeyed (set ks i no_key) (take i xs)) × (zip (set ks i no_key) (take i xs) ≡ take i (zip ks xs))
  keyed_popped i ks xs one h =
      let len : length (take i xs) ≡ i = length-take-le i xs (omega (arith, one)) in (
        record {
          fits = omega (arith, len, one, h.fits);
          padded = padded_same i (length (take i xs)) (set ks i no_key) (sym len) (padded_pop (length xs) i ks one h.padded);
          keyed = omega (arith, len, length-set ks i no_key, h.keyed, one);
        },
        sym (zip_front i (set ks i no_key) (take i xs) (omega (arith, len))) ∙ ap (λ l. zip l (take i xs)) (take-set ks i no_key) ∙ zip_take i ks xs,
      )

  -- one more at the end
  pub keyed_pushed : (n k : ℕ) (x : X) (ks : List ℕ) (xs : List X) → AreKeyed ks xs → length ks ≡ 32 → n ≡ length xs → n < 32 → (AreKeyed (set ks n k) (xs ++ (x ∷ []))) × (zip (set ks n k) (xs ++ (x ∷ [])) ≡ zip ks xs ++ ((k, x) ∷ []))
  keyed_pushed n k x ks xs h long e room =
      let len : length (xs ++ (x ∷ [])) ≡ n + 1 = omega (arith, length-append xs (x ∷ []), e) in (
        record {
          fits = omega (arith, len, room);
          padded = padded_same (n + 1) (length (xs ++ (x ∷ []))) (set ks n k) (sym len) (padded_push n k ks (padded_same (length xs) n ks (sym e) h.padded));
          keyed = omega (arith, len, length-set ks n k, long, room);
        },
        zip_push n k x ks xs (sym e) (omega (arith, long, room)),
      )

  -- all in the other order
  pub keyed_turned : (n : ℕ) (ks : List ℕ) (xs : List X) → n ≡ length xs → AreKeyed ks xs → (AreKeyed (reverse (take n ks) ++ drop n ks) (reverse xs)) × (zip (reverse (take n ks) ++ drop n ks) (reverse xs) ≡ reverse (zip ks xs))
  keyed_turned n ks xs e h =
      let len : length (reverse xs) ≡ n = length-reverse xs ∙ sym e in
      let front : length (take n ks) ≡ n = length-take-le n ks (omega (arith, e, h.keyed)) in
      let turned : length (reverse (take n ks)) ≡ n = length-reverse (take n ks) ∙ front in (
        record {
          fits = omega (arith, len, e, h.fits);
          padded = padded_same n (length (reverse xs)) (reverse (take n ks) ++ drop n ks) (sym len) (padded_behind n (reverse (take n ks)) (drop n ks) turned (padded_drop n ks (padded_same (length xs) n ks (sym e) h.padded)));
          keyed = omega (arith, len, length-append (reverse (take n ks)) (drop n ks), turned);
        },
        zip_more (reverse (take n ks)) (drop n ks) (reverse xs) (omega (arith, turned, len)) ∙ zip_reverse (take n ks) xs (omega (arith, front, e)) ∙ ap reverse (zip_front n ks xs (omega (arith, e))),
      )

  -- behind the keys in use stands the greatest number
  pub keyed_behind : (i : ℕ) (ks : List ℕ) (xs : List X) → AreKeyed ks xs → length xs ≤ i → i < length ks → get_or ks i 0 ≡ no_key
  keyed_behind i ks xs h le lt = behind (length xs) i ks h.padded le lt

  each_at : (P : ℕ → Type 0) (i : ℕ) (ks : List ℕ) (xs : List X) → AllByRecursion (λ p. P p.0) (zip ks xs) → i < length ks → i < length xs → P (get_or ks i 0)
  each_at P i [] xs all lt mt = absurd (omega (arith, lt))
  each_at P i (k ∷ ks) [] all lt mt = absurd (omega (arith, mt))
  each_at P zero (k ∷ ks) (x ∷ xs) all lt mt = all.0
  each_at P (suc i) (k ∷ ks) (x ∷ xs) all lt mt = each_at P i ks xs all.1 (omega (arith, lt)) (omega (arith, mt))

  zip_rises : (i j : ℕ) (ks : List ℕ) (xs : List X) → IsOrderedBy key_of_pair (zip ks xs) → i ≤ j → j < length ks → j < length xs → get_or ks i 0 ≤ get_or ks j 0
  zip_rises i j [] xs o le lt mt = absurd (omega (arith, lt))
  zip_rises i j (k ∷ ks) [] o le lt mt = absurd (omega (arith, mt))
  zip_rises zero zero (k ∷ ks) (x ∷ xs) o le lt mt = omega arith
  zip_rises zero (suc j) (k ∷ ks) (x ∷ xs) o le lt mt = omega (arith, each_at (λ n. k < n) j ks xs o.0 (omega (arith, lt)) (omega (arith, mt)))
  zip_rises (suc i) zero (k ∷ ks) (x ∷ xs) o le lt mt = absurd (omega (arith, le))
  zip_rises (suc i) (suc j) (k ∷ ks) (x ∷ xs) o le lt mt = zip_rises i j ks xs o.1 (omega (arith, le)) (omega (arith, lt)) (omega (arith, mt))

  -- each key in use is below the limit
  pub keyed_below : (i : ℕ) (ks : List ℕ) (xs : List X) → AreKeyed ks xs → KeysBelow key_limit (zip ks xs) → i < length xs → get_or ks i 0 < key_limit
  keyed_below i ks xs h below lt = each_at (λ k. k < key_limit) i ks xs below (omega (arith, lt, h.keyed)) lt

  -- the keys rise up to the end of the array
  pub keyed_rises : (ks : List ℕ) (xs : List X) → AreKeyed ks xs → IsOrderedBy key_of_pair (zip ks xs) → KeysBelow key_limit (zip ks xs) → IsRising ks
  keyed_rises ks xs h ordered below i j le lt = elim (cases_lt j (length xs)) [
    | inl used ↦ zip_rises i j ks xs ordered le lt used
    | inr past ↦ elim (cases_lt i (length xs)) [
      | inl front ↦ omega (arith, keyed_below i ks xs h below front, keyed_behind j ks xs h past lt)
      | inr behind ↦ omega (arith, keyed_behind i ks xs h behind (omega (arith, le, lt)), keyed_behind j ks xs h past lt)
    ]
  ]
