-- The first entries of a leaf that go behind those of another one: what each turn of the loops leaves, and both leaves
-- after them.
use Rattle.mr_node.proofs.Common.{◌≡◌, ℕ, ◌+◌, ◌-◌, ◌<◌, ◌≤◌, List, [], ◌∷◌, ◌++◌, length, max, replicate, reverse, get_or, set, take, drop, Some, refl, sym, ap, subst, ◌∙◌, arith, length-append, length-drop, take_at, append_assoc, drop-drop, drop-set-lt, drop_at, get_or-drop, length-reverse, length-set, length-take-le, reverse-reverse, take-append-drop, take-set-le, take_more, take_more_set, get_or_from_slice_get, slice_get_read, refill, slice_get, zip, no_key, AreKeyed}
use Rattle.mr_node.proofs.ShareLemmas.{refilled, same_sum, written_back}
use Rattle.mr_node.proofs.KeyedLemmas.{keyed_dropped, keyed_next, keyed_pushed}

module _ {X : Type 0} where
  -- two lists that are the same from a place on
  read_rest : (p : ℕ) (d : X) (xs os : List X) → drop p xs ≡ drop p os → get_or xs p d ≡ get_or os p d
  read_rest p d xs os e =
      let here : p + 0 ≡ p = omega arith in
      sym (get_or-drop p xs 0 d ∙ ap (λ j. get_or xs j d) here) ∙ ap (λ l. get_or l 0 d) e ∙ get_or-drop p os 0 d ∙ ap (λ j. get_or os j d) here

  pub rest_next : (p : ℕ) (xs os : List X) → drop p xs ≡ drop p os → drop (p + 1) xs ≡ drop (p + 1) os
  rest_next p xs os e = sym (drop-drop 1 p xs) ∙ ap (drop 1) e ∙ drop-drop 1 p os

  -- a value taken from its place
  pub value_taken : (p : ℕ) (y : X) (xs ws : List X) → ws ≡ xs → (drop (p + 1) (refill (length xs) xs (set ws p y)) ≡ drop (p + 1) xs) × (length (refill (length xs) xs (set ws p y)) ≡ length xs)
  value_taken p y xs ws e =
      let same = written_back p y xs ws e in
      (ap (drop (p + 1)) same ∙ drop-set-lt (p + 1) xs p y (omega arith), ap length same ∙ length-set xs p y)

  -- a value taken from its place and put so many places in front of it
  pub gap_closing : (c p : ℕ) (r v y : X) (xs os : List X) → c ≤ p → p < length xs → length xs ≡ length os → take (p - c) xs ≡ take (p - c) (drop c os) → drop p xs ≡ drop p os → v ≡ get_or xs p r
      → (length (set (set xs p y) (p - c) v) ≡ length os) × (take (p + 1 - c) (set (set xs p y) (p - c) v) ≡ take (p + 1 - c) (drop c os)) × (drop (p + 1) (set (set xs p y) (p - c) v) ≡ drop (p + 1) os)
  gap_closing c p r v y xs os le lt len same rest ev =
      let j = p - c in
      let ws = set xs p y in
      let wide = length-set xs p y in
      let front = take_more_set ws j v (omega (arith, wide, lt)) ∙ ap (λ l. l ++ (v ∷ [])) (take-set-le j xs p y (omega arith) ∙ same) in
      let at : c + j ≡ p = omega (arith, le) in
      let back = take_more (drop c os) j r (omega (arith, length-drop c os, len, lt, le)) ∙ ap (λ x. take j (drop c os) ++ (x ∷ [])) (get_or-drop c os j r ∙ ap (λ i. get_or os i r) at ∙ sym (read_rest p r xs os rest) ∙ sym ev) in
      let next : p + 1 - c ≡ j + 1 = omega (arith, le) in (
        length-set ws j v ∙ wide ∙ len,
        ap (λ i. take i (set ws j v)) next ∙ front ∙ sym back ∙ ap (λ i. take i (drop c os)) (sym next),
        drop-set-lt (p + 1) ws j v (omega arith) ∙ drop-set-lt (p + 1) xs p y (omega arith) ∙ rest_next p xs os rest,
      )

  -- two lists one after another, cut anew
  pub front_cut : (c : ℕ) (a b l o : List X) → a ++ b ≡ l ++ o → length a ≡ length l + c → c ≤ length o → (a ≡ l ++ take c o) × (b ≡ drop c o)
  front_cut c a b l o e len le =
      let n = length a in
      let cut : a ++ b ≡ (l ++ take c o) ++ drop c o = e ∙ ap (λ r. l ++ r) (sym (take-append-drop c o)) ∙ sym (append_assoc l (take c o) (drop c o)) in
      let wide : length (l ++ take c o) ≡ n = omega (arith, length-append l (take c o), length-take-le c o le, len) in (
        sym (take_at a b n refl) ∙ ap (take n) cut ∙ take_at (l ++ take c o) (drop c o) n wide,
        sym (drop_at a b n refl) ∙ ap (drop n) cut ∙ drop_at (l ++ take c o) (drop c o) n wide,
      )

  -- a list that is turned, whose last ones go behind another one until that has so many
  pub turned_left : (c low : ℕ) (ls old turned front back : List X) → c ≤ length old → low ≡ length ls + c → turned ≡ reverse old → front ++ reverse back ≡ ls ++ reverse turned → length front < low → 0 < length back
  turned_left c low ls old turned front back le wide e same few = omega (arith, same_sum front back ls turned same, ap length e, length-reverse old, le, wide, few)

  -- once that has them, and the list is turned back
  pub turned_front : (c low : ℕ) (ls old turned front back xs : List X) → c ≤ length old → low ≡ length ls + c → turned ≡ reverse old → front ++ reverse back ≡ ls ++ reverse turned → length front ≤ max (length ls) low → low ≤ length front → xs ≡ reverse back → (xs ≡ drop c old) × (front ≡ ls ++ take c old)
  turned_front c low ls old turned front back xs le wide e same most least ex =
      let cut = front_cut c front (reverse back) ls old (same ∙ ap (λ r. ls ++ reverse r) e ∙ ap (λ r. ls ++ r) (reverse-reverse old)) (omega (arith, wide, most, least)) le in
      (ex ∙ cut.1, cut.0)

module _ {X : Type 0} where
  -- the next entry of a leaf behind those of another one
  pub front_moved : (i m : ℕ) (x : X) (ks ls : List ℕ) (xs os ys more : List X) (rows : List (ℕ × X)) → AreKeyed ks os → AreKeyed ls ys → length ls ≡ 32 → length ys < 32 → m ≡ length ys → i < length os → drop i xs ≡ drop i os → slice_get xs i ≡ Some x → more ≡ ys ++ (x ∷ []) → zip ls ys ≡ rows ++ take i (zip ks os)
      → (AreKeyed (set ls m (get_or ks i 0)) more) × (zip (set ls m (get_or ks i 0)) more ≡ rows ++ take (i + 1) (zip ks os))
  front_moved i m x ks ls xs os ys more rows from to long room wide lt rest ex f e =
      let read : get_or os i x ≡ x = sym (read_rest i x xs os rest) ∙ get_or_from_slice_get xs i x x ex in
      let got = slice_get_read os (length os) i x refl lt (sym read) in
      let pushed = keyed_pushed m (get_or ks i 0) x ls ys to long wide (omega (arith, wide, room)) in (
        subst (AreKeyed (set ls m (get_or ks i 0))) (sym f) pushed.0,
        ap (zip (set ls m (get_or ks i 0))) f ∙ pushed.1 ∙ ap (λ l. l ++ ((get_or ks i 0, x) ∷ [])) e ∙ append_assoc rows (take i (zip ks os)) ((get_or ks i 0, x) ∷ []) ∙ ap (λ l. rows ++ l) (sym (keyed_next i x ks os from got)),
      )

  -- values without their first ones, of which the gap was closed
  pub front_closed : (c n : ℕ) (os ms bs ws new : List X) → length ms ≡ length os → n ≡ length os → bs ≡ ms → length ws ≡ length bs → take (length bs - c) ws ≡ drop c bs → drop c ms ≡ drop c os → new ≡ take (n - c) (refill (length ms) ms ws) → new ≡ drop c os
  front_closed c n os ms bs ws new same wide eb len front rest e =
      let all : length bs ≡ length ms = ap length eb in
      let less : n - c ≡ length bs - c = omega (arith, same, wide, all) in
      e ∙ ap (take (n - c)) (refilled ms ws (len ∙ all)) ∙ ap (λ j. take j ws) less ∙ front ∙ ap (drop c) eb ∙ rest

  -- a leaf without its first entries
  pub front_dropped : (c : ℕ) (ks keys : List ℕ) (xs new : List X) → AreKeyed ks xs → c ≤ length xs → keys ≡ drop c ks ++ replicate c no_key → new ≡ drop c xs → (AreKeyed keys new) × (zip keys new ≡ drop c (zip ks xs))
  front_dropped c ks keys xs new h le ek e = rw (ek, e) (keyed_dropped c ks xs h le)
