-- Two neighbours that share entries: what the last entry's move from one to the other and a turn make of both.
use Rattle.mr_node.proofs.Common.{◌≡◌, ℕ, ◌+◌, ◌-◌, ◌<◌, ◌≤◌, suc, zero, List, [], ◌∷◌, ◌++◌, length, reverse, get_or, set, take, drop, min, max, Option, Some, None, refl, sym, ap, subst, ◌∙◌, arith, append-nil, length-append, length-drop, take_at, eqb, inl, inr, drop_all, take_all, get_or_default, length-take-le, reverse-append, append_assoc, length-reverse, length-set, take-append-drop, get_or_push, le-max_right, min-le_right, drop-append_seam, refill, zip, slice_get_read, eqb_tells, AreEvenWidths, IsShare, no_key, somes, IsPacked, entries, AreEntries, AreKeyed}
use Rattle.mr_node.proofs.PlaceLemmas.{packed_fits, packed_some, somes_front, packed_join, somes_append}
use Rattle.mr_node.proofs.KeyedLemmas.{keyed_length, keyed_popped, keyed_pushed, keyed_rest, keyed_turned}
use Rattle.mr_node.proofs.EntryListLemmas.{entries_length, entries_split, entries_popped, entries_pushed, entries_turned}

module _ {X : Type 0} where
  -- the last one of a list that isn't empty
  last_dropped : (xs : List X) → 0 < length xs → length (drop (length xs - 1) xs) ≡ 1
  last_dropped xs some = omega (arith, length-drop (length xs - 1) xs, some)

  turned_one : (xs : List X) → length xs ≡ 1 → reverse xs ≡ xs
  turned_one [] e = refl
  turned_one (x ∷ []) e = refl
  turned_one (x ∷ y ∷ xs) e = absurd (omega (arith, e))

  -- the last one of rs moved behind ls
  pub given_left : (ls rs xs ys : List X) → 0 < length rs → xs ≡ take (length rs - 1) rs → ys ≡ ls ++ drop (length rs - 1) rs → ys ++ reverse xs ≡ ls ++ reverse rs
  given_left ls rs xs ys some e f =
      let one : List X = drop (length rs - 1) rs in
      let rest : List X = take (length rs - 1) rs in
      ap (λ l. l ++ reverse xs) f
      ∙ ap (λ l. (ls ++ one) ++ reverse l) e
      ∙ append_assoc ls one (reverse rest)
      ∙ ap (λ l. ls ++ (l ++ reverse rest)) (sym (turned_one one (last_dropped rs some)))
      ∙ ap (λ l. ls ++ l) (sym (reverse-append rest one))
      ∙ ap (λ l. ls ++ reverse l) (take-append-drop (length rs - 1) rs)

  -- the last one of ls moved behind rs
  pub given_right : (ls rs xs ys : List X) → 0 < length ls → xs ≡ take (length ls - 1) ls → ys ≡ rs ++ drop (length ls - 1) ls → xs ++ reverse ys ≡ ls ++ reverse rs
  given_right ls rs xs ys some e f =
      let one : List X = drop (length ls - 1) ls in
      let rest : List X = take (length ls - 1) ls in
      ap (λ l. l ++ reverse ys) e
      ∙ ap (λ l. rest ++ reverse l) f
      ∙ ap (λ l. rest ++ l) (reverse-append rs one)
      ∙ ap (λ l. rest ++ (l ++ reverse rs)) (turned_one one (last_dropped ls some))
      ∙ sym (append_assoc rest one (reverse rs))
      ∙ ap (λ l. l ++ reverse rs) (take-append-drop (length ls - 1) ls)

  -- both together are ls many ls before
  pub same_sum : (ls rs cs ds : List X) → ls ++ reverse rs ≡ cs ++ reverse ds → length ls + length rs ≡ length cs + length ds
  same_sum ls rs cs ds e = omega (arith, ap length e, length-append ls (reverse rs), length-append cs (reverse ds), length-reverse rs, length-reverse ds)

  packed_same : (n m : ℕ) (ks : List (Option X)) → n ≡ m → IsPacked n ks → IsPacked m ks
  packed_same n m ks e = subst (λ j. IsPacked j ks) e

  -- the last place is emptied
  pub packed_less : (i : ℕ) (ks : List (Option X)) → IsPacked (i + 1) ks → IsPacked i (set ks i None)
  packed_less i [] h = absurd (omega (arith, h))
  packed_less i (None ∷ ks) h = absurd (omega (arith, h.0))
  packed_less zero (Some x ∷ ks) h = (refl, packed_same (zero + 1 - 1) 0 ks (omega arith) h.1)
  packed_less (suc i) (Some x ∷ ks) h = (omega arith, packed_same i (suc i - 1) (set ks i None) (omega arith) (packed_less i ks (packed_same (suc i + 1 - 1) (i + 1) ks (omega arith) h.1)))

  none_used : (ks : List (Option X)) → IsPacked 0 ks → somes ks ≡ []
  none_used [] h = refl
  none_used (None ∷ ks) h = none_used ks h.1
  none_used (Some x ∷ ks) h = absurd (omega (arith, h.0))

  pub somes_less : (i : ℕ) (ks : List (Option X)) → IsPacked (i + 1) ks → somes (set ks i None) ≡ take i (somes ks)
  somes_less i [] h = absurd (omega (arith, h))
  somes_less i (None ∷ ks) h = absurd (omega (arith, h.0))
  somes_less zero (Some x ∷ ks) h = none_used ks (packed_same (zero + 1 - 1) 0 ks (omega arith) h.1)
  somes_less (suc i) (Some x ∷ ks) h = ap (λ r. x ∷ r) (somes_less i ks (packed_same (suc i + 1 - 1) (i + 1) ks (omega arith) h.1))

  -- the next place is used
  pub packed_next : (n : ℕ) (x : X) (ks : List (Option X)) → IsPacked n ks → n < length ks → IsPacked (n + 1) (set ks n (Some x))
  packed_next n x [] h lt = absurd (omega (arith, lt))
  packed_next zero x (None ∷ ks) h lt = (omega arith, packed_same 0 (zero + 1 - 1) ks (omega arith) h.1)
  packed_next (suc n) x (None ∷ ks) h lt = absurd (omega (arith, h.0))
  packed_next zero x (Some y ∷ ks) h lt = absurd (omega (arith, h.0))
  packed_next (suc n) x (Some y ∷ ks) h lt = (omega arith, packed_same (n + 1) (suc n + 1 - 1) (set ks n (Some x)) (omega arith) (packed_next n x ks (packed_same (suc n - 1) n ks (omega arith) h.1) (omega (arith, lt))))

  pub somes_next : (n : ℕ) (x : X) (ks : List (Option X)) → IsPacked n ks → n < length ks → somes (set ks n (Some x)) ≡ somes ks ++ (x ∷ [])
  somes_next n x [] h lt = absurd (omega (arith, lt))
  somes_next zero x (None ∷ ks) h lt =
      let none = none_used ks h.1 in
      ap (λ r. x ∷ r) none ∙ ap (λ r. r ++ (x ∷ [])) (sym none)
  somes_next (suc n) x (None ∷ ks) h lt = absurd (omega (arith, h.0))
  somes_next zero x (Some y ∷ ks) h lt = absurd (omega (arith, h.0))
  somes_next (suc n) x (Some y ∷ ks) h lt = ap (λ r. y ∷ r) (somes_next n x ks (packed_same (suc n - 1) n ks (omega arith) h.1) (omega (arith, lt)))

  -- places of which each is used, in the other order
  pub somes_reverse : (ks : List (Option X)) → somes (reverse ks) ≡ reverse (somes ks)
  somes_reverse [] = refl
  somes_reverse (None ∷ ks) =
      ap somes (reverse-append (None ∷ []) ks) ∙ somes_append (reverse ks) (None ∷ []) ∙ ap (λ l. l ++ []) (somes_reverse ks) ∙ sym (reverse-append [] (somes ks))
  somes_reverse (Some x ∷ ks) =
      ap somes (reverse-append (Some x ∷ []) ks) ∙ somes_append (reverse ks) (Some x ∷ []) ∙ ap (λ l. l ++ (x ∷ [])) (somes_reverse ks) ∙ sym (reverse-append (x ∷ []) (somes ks))

  pub packed_reverse : (ks : List (Option X)) → IsPacked (length ks) ks → IsPacked (length (reverse ks)) (reverse ks)
  packed_reverse [] h = h
  packed_reverse (None ∷ ks) h = absurd (omega (arith, h.0))
  packed_reverse (Some x ∷ ks) h =
      subst (λ l. IsPacked (length l) l) (sym (reverse-append (Some x ∷ []) ks))
      (packed_join (reverse ks) (Some x ∷ []) (packed_reverse ks (packed_same (suc (length ks) - 1) (length ks) ks (omega arith) h.1)) (omega arith, refl))

  -- places of which the first are used, cut behind them
  packed_take : (n : ℕ) (ks : List (Option X)) → IsPacked n ks → IsPacked (length (take n ks)) (take n ks)
  packed_take zero ks h = refl
  packed_take (suc n) [] h = refl
  packed_take (suc n) (None ∷ ks) h = absurd (omega (arith, h.0))
  packed_take (suc n) (Some x ∷ ks) h = (omega arith, packed_same (length (take n ks)) (suc (length (take n ks)) - 1) (take n ks) (omega arith) (packed_take n ks (packed_same (suc n - 1) n ks (omega arith) h.1)))

  packed_drop : (n : ℕ) (ks : List (Option X)) → IsPacked n ks → IsPacked 0 (drop n ks)
  packed_drop zero ks h = h
  packed_drop (suc n) [] h = refl
  packed_drop (suc n) (None ∷ ks) h = absurd (omega (arith, h.0))
  packed_drop (suc n) (Some x ∷ ks) h = packed_drop n ks (packed_same (suc n - 1) n ks (omega arith) h.1)

  packed_before : (a b : List (Option X)) → IsPacked (length a) a → IsPacked 0 b → IsPacked (length a) (a ++ b)
  packed_before [] b h i = i
  packed_before (None ∷ a) b h i = absurd (omega (arith, h.0))
  packed_before (Some x ∷ a) b h i = (omega arith, packed_same (length a) (suc (length a) - 1) (a ++ b) (omega arith) (packed_before a b (packed_same (suc (length a) - 1) (length a) a (omega arith) h.1) i))

  pub packed_turned : (n : ℕ) (ks : List (Option X)) → IsPacked n ks → IsPacked n (reverse (take n ks) ++ drop n ks)
  packed_turned n ks h =
      let front = packed_take n ks h in
      let long : length (reverse (take n ks)) ≡ n = length-reverse (take n ks) ∙ length-take-le n ks (packed_fits n ks h) in
      packed_same (length (reverse (take n ks))) n (reverse (take n ks) ++ drop n ks) long (packed_before (reverse (take n ks)) (drop n ks) (packed_reverse (take n ks) front) (packed_drop n ks h))

  pub somes_turned : (n : ℕ) (ks : List (Option X)) → IsPacked n ks → somes (reverse (take n ks) ++ drop n ks) ≡ reverse (somes ks)
  somes_turned n ks h =
      somes_append (reverse (take n ks)) (drop n ks)
      ∙ ap (λ l. somes (reverse (take n ks)) ++ l) (none_used (drop n ks) (packed_drop n ks h))
      ∙ append-nil (somes (reverse (take n ks)))
      ∙ somes_reverse (take n ks)
      ∙ ap reverse (somes_front n n ks h (omega arith))

  -- the last entry
  last_entry : (n i : ℕ) (x : X) (ks : List ℕ) (ps : List (Option X)) → i + 1 ≡ n → AreEntries n ks ps → get_or ps i None ≡ Some x → drop i (entries ks ps) ≡ (get_or ks i 0, x) ∷ []
  last_entry n i x ks ps one are_entries got =
      let all : List (ℕ × X) = entries ks ps in
      let len : length all ≡ n = entries_length n ks ps are_entries in
      let front : length (take i all) ≡ i = length-take-le i all (omega (arith, len, one)) in
      let rest : List (ℕ × X) = (get_or ks i 0, x) ∷ drop (i + 1) all in
      ap (drop i) (entries_split n i x ks ps are_entries got)
      ∙ ap (λ j. drop j (take i all ++ rest)) (sym front)
      ∙ drop-append_seam (take i all) rest
      ∙ ap (λ l. (get_or ks i 0, x) ∷ l) (drop_all (i + 1) all (omega (arith, len, one)))

  -- two runs after the last entry of the one went behind those of the other; before, these were their entries
  abbrev pub IsGiven : (n m : ℕ) (ks ls : List ℕ) (new more : List (Option X)) (from to : List (ℕ × X)) → Type 0
  IsGiven n m ks ls new more from to = (AreEntries n ks new) × (AreEntries m ls more) × (entries ks new ≡ take (length from - 1) from) × (entries ls more ≡ to ++ drop (length from - 1) from)

  -- the last entry of the one list behind those of the other
  entries_given : (n i m : ℕ) (x : X) (ks ls : List ℕ) (ps qs new more : List (Option X)) → i + 1 ≡ n → AreEntries n ks ps → AreEntries m ls qs → length ls ≡ 32 → m < 32 → get_or ps i None ≡ Some x → IsPacked i new → somes new ≡ take i (somes ps) → IsPacked (m + 1) more → somes more ≡ somes qs ++ (x ∷ [])
      → IsGiven i (m + 1) (set ks i no_key) (set ls m (get_or ks i 0)) new more (entries ks ps) (entries ls qs)
  entries_given n i m x ks ls ps qs new more one are_entries to long room got packed e filled f =
      let popped = entries_popped n i ks ps new one are_entries packed e in
      let pushed = entries_pushed m (get_or ks i 0) x ls qs more to long room filled f in
      let at : i ≡ length (entries ks ps) - 1 = omega (arith, entries_length n ks ps are_entries, one) in (
        popped.0,
        pushed.0,
        popped.1 ∙ ap (λ j. take j (entries ks ps)) at,
        pushed.1 ∙ ap (λ l. entries ls qs ++ l) (sym (last_entry n i x ks ps one are_entries got)) ∙ ap (λ j. entries ls qs ++ drop j (entries ks ps)) at,
      )

  -- two leaves after the last entry of the one went behind those of the other; before, these were their entries
  abbrev pub AreGivenValues : (ks ls : List ℕ) (new more : List X) (from to : List (ℕ × X)) → Type 0
  AreGivenValues ks ls new more from to = (AreKeyed ks new) × (AreKeyed ls more) × (zip ks new ≡ take (length from - 1) from) × (zip ls more ≡ to ++ drop (length from - 1) from)

  -- the last value goes from the one list to the other
  pub leaf_given : (i m : ℕ) (x : X) (ks ls : List ℕ) (xs ys new more : List X) → i + 1 ≡ length xs → m ≡ length ys → AreKeyed ks xs → AreKeyed ls ys → length ls ≡ 32 → length ys < 32 → xs ≡ new ++ (x ∷ []) → more ≡ ys ++ (x ∷ [])
      → AreGivenValues (set ks i no_key) (set ls m (get_or ks i 0)) new more (zip ks xs) (zip ls ys)
  leaf_given i m x ks ls xs ys new more one wide from to long room e f =
      let all : List (ℕ × X) = zip ks xs in
      let len : length new ≡ i = omega (arith, one, ap length e, length-append new (x ∷ [])) in
      let rest : new ≡ take i xs = sym (ap (take i) e ∙ take_at new (x ∷ []) i len) in
      let read : get_or xs i x ≡ x = ap (λ l. get_or l i x) e ∙ get_or_push new x x i len in
      let got = slice_get_read xs (length xs) i x refl (omega (arith, one)) (sym read) in
      let popped = keyed_popped i ks xs one from in
      let pushed = keyed_pushed m (get_or ks i 0) x ls ys to long wide (omega (arith, wide, room)) in
      let at : i ≡ length all - 1 = omega (arith, keyed_length ks xs from, one) in
      let last : drop i all ≡ (get_or ks i 0, x) ∷ [] = keyed_rest i x ks xs from got ∙ ap (λ l. (get_or ks i 0, x) ∷ l) (drop_all (i + 1) all (omega (arith, keyed_length ks xs from, one))) in (
        subst (AreKeyed (set ks i no_key)) (sym rest) popped.0,
        subst (AreKeyed (set ls m (get_or ks i 0))) (sym f) pushed.0,
        ap (zip (set ks i no_key)) rest ∙ popped.1 ∙ ap (λ j. take j all) at,
        ap (zip (set ls m (get_or ks i 0))) f ∙ pushed.1 ∙ ap (λ l. zip ls ys ++ l) (sym last) ∙ ap (λ j. zip ls ys ++ drop j all) at,
      )

  -- of places of which the first are used, the last used goes from the one list to the other
  pub inner_given : (n i m : ℕ) (r y o : Option X) (ks ls : List ℕ) (ps qs : List (Option X)) → i + 1 ≡ n → AreEntries n ks ps → AreEntries m ls qs → length ls ≡ 32 → length qs ≡ 32 → m < 32 → o ≡ get_or ps i r → y ≡ None
      → IsGiven i (m + 1) (set ks i no_key) (set ls m (get_or ks i 0)) (set ps i y) (set qs m o) (entries ks ps) (entries ls qs)
  inner_given n i m r y o ks ls ps qs one are_entries to long wide room eo ey =
      let used = packed_some n i ps are_entries.packed (omega (arith, one)) in
      let same : o ≡ Some used.0 = eo ∙ get_or_default ps i r None (omega (arith, packed_fits n ps are_entries.packed, one)) ∙ used.1 in
      let packed = packed_same n (i + 1) ps (sym one) are_entries.packed in
      let given = entries_given n i m used.0 ks ls ps qs (set ps i None) (set qs m (Some used.0)) one are_entries to long room used.1
      (packed_less i ps packed) (somes_less i ps packed) (packed_next m used.0 qs to.packed (omega (arith, wide, room))) (somes_next m used.0 qs to.packed (omega (arith, wide, room))) in
      let new = ap (set ps i) (sym ey) in
      let more = ap (set qs m) (sym same) in (
        subst (AreEntries i (set ks i no_key)) new given.0,
        subst (AreEntries (m + 1) (set ls m (get_or ks i 0))) more given.1,
        ap (entries (set ks i no_key)) (sym new) ∙ given.2,
        ap (entries (set ls m (get_or ks i 0))) (sym more) ∙ given.3,
      )

  -- a slice of the same length, back in its vector
  pub refilled : (xs ws : List X) → length ws ≡ length xs → refill (length xs) xs ws ≡ ws
  refilled xs ws long =
      ap (λ l. take (length xs) (ws ++ l)) (drop_all (length ws) xs (omega (arith, long)))
      ∙ ap (take (length xs)) (append-nil ws)
      ∙ take_all (length xs) ws (omega (arith, long))

  -- one with a place written
  pub written_back : (i : ℕ) (y : X) (xs ws : List X) → ws ≡ xs → refill (length xs) xs (set ws i y) ≡ set xs i y
  written_back i y xs ws e = refilled xs (set ws i y) (length-set ws i y ∙ ap length e) ∙ ap (λ l. set l i y) e

  -- one that was turned
  pub turned_back : (xs ws : List X) → ws ≡ reverse xs → refill (length xs) xs ws ≡ reverse xs
  turned_back xs ws e = refilled xs ws (ap length e ∙ length-reverse xs) ∙ e

  -- all entries in the other order
  pub leaf_turned : (n : ℕ) (ks keys : List ℕ) (xs new : List X) → n ≡ length xs → AreKeyed ks xs → keys ≡ reverse (take n ks) ++ drop n ks → new ≡ reverse xs → (AreKeyed keys new) × (zip keys new ≡ reverse (zip ks xs))
  leaf_turned n ks keys xs new wide h ek e = rw (ek, e) (keyed_turned n ks xs wide h)

  pub inner_turned : (n : ℕ) (ks keys : List ℕ) (ps new : List (Option X)) → AreEntries n ks ps → keys ≡ reverse (take n ks) ++ drop n ks → new ≡ reverse (take n ps) ++ drop n ps → (AreEntries n keys new) × (entries keys new ≡ reverse (entries ks ps))
  inner_turned n ks keys ps new are_entries ek e =
      subst (λ l. (AreEntries n l new) × (entries l new ≡ reverse (entries ks ps))) (sym ek)
      (entries_turned n ks ps new are_entries (subst (IsPacked n) (sym e) (packed_turned n ps are_entries.packed)) (ap somes e ∙ somes_turned n ps are_entries.packed))

  -- the last one goes behind the left ones, which are too few
  pub fill_step : (low : ℕ) (ls rs front back xs ys : List X) → low ≤ length ls + length rs → front ++ reverse back ≡ ls ++ reverse rs → length ls ≤ length front → length front < low → xs ≡ take (length back - 1) back → ys ≡ front ++ drop (length back - 1) back
      → (ys ++ reverse xs ≡ ls ++ reverse rs) × (length ls ≤ length ys) × (length ys ≤ max (length ls) low)
  fill_step low ls rs front back xs ys enough same more lt e f =
      let some : 0 < length back = omega (arith, same_sum front back ls rs same, enough, lt) in
      let one : length ys ≡ length front + 1 = omega (arith, ap length f, length-append front (drop (length back - 1) back), last_dropped back some) in (
        given_left front back xs ys some e f ∙ same,
        omega (arith, one, more),
        omega (arith, one, lt, le-max_right (length ls) low),
      )

  -- the last one of the left ones, which are too many, goes behind the others
  pub spill_step : (low : ℕ) (ls rs front back xs ys : List X) → front ++ reverse back ≡ ls ++ reverse rs → length front ≤ length ls → low < length front → xs ≡ take (length front - 1) front → ys ≡ back ++ drop (length front - 1) front
      → (xs ++ reverse ys ≡ ls ++ reverse rs) × (length xs ≤ length ls) × (min (length ls) low ≤ length xs)
  spill_step low ls rs front back xs ys same less lt e f =
      let one : length xs ≡ length front - 1 = ap length e ∙ length-take-le (length front - 1) front (omega arith) in (
        given_right front back xs ys (omega (arith, lt)) e f ∙ same,
        omega (arith, one, less),
        omega (arith, one, lt, min-le_right (length ls) low),
      )

  -- there is room on the right
  pub spill_room : (low : ℕ) (ls rs front back : List X) → length ls + length rs ≤ low + 32 → front ++ reverse back ≡ ls ++ reverse rs → low < length front → length back < 32
  spill_room low ls rs front back room same lt = omega (arith, same_sum front back ls rs same, room, lt)

  pub appended_sum : (xs ys ls rs : List X) → xs ++ ys ≡ ls ++ rs → length xs + length ys ≡ length ls + length rs
  appended_sum xs ys ls rs e = omega (arith, ap length e, length-append xs ys, length-append ls rs)

-- the widths of two neighbours, of which the left one got its share
pub even_widths : (c d low both : ℕ) → IsShare both low → c ≡ low → c + d ≡ both → AreEvenWidths (eqb d 0) c d
even_widths c d low both share got same = elim (eqb_tells d 0) [
  | inl none ↦ rw none.0 (omega (arith, got, share.fits), none.1)
  | inr some ↦
      let more : d ≡ 0 → ⊥ = some.1 in
      let half = share.half (omega (arith, got, same, more)) in
      rw some.0 (omega (arith, got, half.0), omega (arith, got, share.fits), omega (arith, got, same, half.1), omega (arith, got, same, share.rest), omega (arith, same, half.2))
]
