-- What a leaf has at and round the place of a key.
use Rattle.mr_node.proofs.Common.{◌≡◌, ◌≢◌, ℕ, ◌+◌, ◌-◌, ◌<◌, ◌≤◌, suc, zero, List, [], ◌∷◌, ◌++◌, length, get_or, set, take, drop, Option, Some, None, IsSome, IfSome, option_map, refl, sym, ap, subst, ◌∙◌, arith, add-one, inl, inr, insert, remove, slice_get, drop_all, length-set, length-append, length-take, length-drop, take-append-drop, slice_get_read, insert_end, cases_lt, IsOrderedBy, row_at, with_row_at, with_row, without_row, each-append, each-with_row, each-without_row, ordered-with_row, ordered-with_row_at, ordered-without_row, below-weaker, from-weaker, ordered_front, ordered_back, row_at-skip, row_at-absent, row_at-here, with_row_at-skip, with_row_at-absent, with_row_at-here, without_row-skip, without_row-absent, without_row-here, with_row-skip, with_row-front, every-with_row_at-same, Leaf, value_at, key_of_pair, KeysBelow, KeysFrom, key_limit, no_key, AreKeyed, IsPadded, IsRising, IsStop, IsLeaf, pairs_of, seen_leaf, IsThere, IsFree, IsGrown, IsRoomAnswer, Done, Exists, Full}
use Rattle.mr_node.proofs.SizeLemmas.{leaf_well}
use Rattle.mr_node.proofs.KeyedLemmas.{item_at, keyed_length, keyed_split, keyed_written, keyed_inserted, keyed_removed, keyed_behind, keyed_below, put_behind, keyed_rises, keyed_next, keyed_rest}

module _ {V : Type 0} where
  -- what a search among the keys asks for
  pub leaf_rises : (leaf : Leaf V) → IsLeaf leaf → IsRising leaf.keys
  leaf_rises leaf h = keyed_rises leaf.keys leaf.values.items h.values h.ordered h.keys

  pub leaf_length : (leaf : Leaf V) → IsLeaf leaf → length (pairs_of leaf) ≡ length leaf.values.items
  leaf_length leaf h = keyed_length leaf.keys leaf.values.items h.values

  pub leaf_some : (i : ℕ) (leaf : Leaf V) → IsLeaf leaf → i < length leaf.values.items → (x : V) × (slice_get leaf.values.items i ≡ Some x)
  leaf_some i leaf h lt = item_at i leaf.values.items lt

  -- a search for a key of 64 bits stops behind the last entry at most
  pub stop_fits : (key i : ℕ) (leaf : Leaf V) → IsLeaf leaf → key ≤ no_key → IsStop key i leaf.keys → i ≤ length leaf.values.items
  stop_fits key i leaf h small stop = elim (cases_lt (length leaf.values.items) i) [
    | inl more ↦ absurd (omega (arith, small, stop.before (omega (arith, more)), keyed_behind (i - 1) leaf.keys leaf.values.items h.values (omega (arith, more)) (omega (arith, more, stop.within))))
    | inr le ↦ le
  ]

  -- a key that the array has at a place is the leaf's
  pub there_at : (key i : ℕ) (leaf : Leaf V) → IsLeaf leaf → length leaf.keys ≡ 32 → (i < 32) × (get_or leaf.keys i 0 ≡ key) × (key < no_key) → IsThere key i leaf
  there_at key i leaf h long at = record {
    within = elim (cases_lt i (length leaf.values.items)) [
      | inl lt ↦ lt
      | inr past ↦ absurd (omega (arith, at.1, at.2, keyed_behind i leaf.keys leaf.values.items h.values past (omega (arith, long, at.0))))
    ];
    same = at.1;
  }

  below_at : (key : ℕ) (a : List (ℕ × V)) (p : ℕ × V) (b : List (ℕ × V)) → IsOrderedBy key_of_pair (a ++ (p ∷ b)) → p.0 < key → KeysBelow key (a ++ (p ∷ []))
  below_at key a p b o lt =
      each-append (λ q. q.0 < key) a (p ∷ []) (below-weaker key_of_pair p.0 key a (omega arith) (ordered_front key_of_pair a p b o)) (lt, tt)

  from_at : (key : ℕ) (a : List (ℕ × V)) (p : ℕ × V) (b : List (ℕ × V)) → IsOrderedBy key_of_pair (a ++ (p ∷ b)) → key ≤ p.0 → KeysFrom key (p ∷ b)
  from_at key a p b o le = (le, from-weaker key_of_pair key (p.0 + 1) b (omega arith) (ordered_back key_of_pair a p b o))

  -- the pairs, cut at one of them
  leaf_split : (i : ℕ) (x : V) (leaf : Leaf V) → IsLeaf leaf → slice_get leaf.values.items i ≡ Some x → pairs_of leaf ≡ take i (pairs_of leaf) ++ ((get_or leaf.keys i 0, x) ∷ drop (i + 1) (pairs_of leaf))
  leaf_split i x leaf h e = keyed_split i x leaf.keys leaf.values.items h.values e

  -- the front of the pairs, up to a lesser key
  front_below : (key i : ℕ) (x : V) (leaf : Leaf V) → IsLeaf leaf → slice_get leaf.values.items i ≡ Some x → get_or leaf.keys i 0 < key → KeysBelow key (take (i + 1) (pairs_of leaf))
  front_below key i x leaf h e lt =
      let rows = pairs_of leaf in
      let more = keyed_next i x leaf.keys leaf.values.items h.values e in
      subst (KeysBelow key) (sym more) (below_at key (take i rows) (get_or leaf.keys i 0, x) (drop (i + 1) rows) (subst (IsOrderedBy key_of_pair) (leaf_split i x leaf h e) h.ordered) lt)

  -- the back of the pairs, from a key on
  pub back_from : (key i : ℕ) (x : V) (leaf : Leaf V) → IsLeaf leaf → slice_get leaf.values.items i ≡ Some x → key ≤ get_or leaf.keys i 0 → KeysFrom key (drop i (pairs_of leaf))
  back_from key i x leaf h e le =
      let rows = pairs_of leaf in
      let rest = keyed_rest i x leaf.keys leaf.values.items h.values e in
      subst (KeysFrom key) (sym rest) (from_at key (take i rows) (get_or leaf.keys i 0, x) (drop (i + 1) rows) (subst (IsOrderedBy key_of_pair) (leaf_split i x leaf h e) h.ordered) le)

  cut_at : (key i : ℕ) (leaf : Leaf V) → IsLeaf leaf → i ≤ length leaf.values.items → (0 < i → get_or leaf.keys (i - 1) 0 < key) → KeysBelow key (take i (pairs_of leaf))
  cut_at key zero leaf h le before = tt
  cut_at key (suc i) leaf h le before =
      let found = leaf_some i leaf h (omega (arith, le)) in
      let same : suc i - 1 ≡ i = omega arith in
      let less : get_or leaf.keys i 0 < key = subst (λ j. get_or leaf.keys j 0 < key) same (before (omega arith)) in
      subst (λ j. KeysBelow key (take j (pairs_of leaf))) (add-one i) (front_below key i found.0 leaf h found.1 less)

  -- in front of where a search stops are lesser keys alone
  pub cut_below : (key i : ℕ) (leaf : Leaf V) → IsLeaf leaf → key ≤ no_key → IsStop key i leaf.keys → KeysBelow key (take i (pairs_of leaf))
  cut_below key i leaf h small stop = cut_at key i leaf h (stop_fits key i leaf h small stop) stop.before

  -- behind the last entry the key would stand at the end
  free_last : (key i n : ℕ) (leaf : Leaf V) → IsLeaf leaf → key ≤ no_key → IsStop key i leaf.keys → n ≡ length leaf.values.items → n ≤ i → IsFree key n leaf
  free_last key i n leaf h small stop e le =
      let same : i ≡ n = omega (arith, e, le, stop_fits key i leaf h small stop) in
      record {
        within = omega (arith, e);
        below = subst (λ j. KeysBelow key (take j (pairs_of leaf))) same (cut_below key i leaf h small stop);
        above = subst (KeysFrom (key + 1)) (sym (drop_all n (pairs_of leaf) (omega (arith, e, leaf_length leaf h)))) tt;
      }

  -- at another key it would stand in front of it
  free_here : (key i : ℕ) (leaf : Leaf V) → IsLeaf leaf → key ≤ no_key → IsStop key i leaf.keys → i < length leaf.values.items → i < length leaf.keys → get_or leaf.keys i 0 ≢ key → IsFree key i leaf
  free_here key i leaf h small stop lt long other =
      let some = leaf_some i leaf h lt in
      record {
        within = omega (arith, lt);
        below = cut_below key i leaf h small stop;
        above = back_from (key + 1) i some.0 leaf h some.1 (omega (arith, stop.here long, other));
      }

  -- where a search stops the key would stand, unless it is there
  pub free_at : (key i : ℕ) (leaf : Leaf V) → IsLeaf leaf → key ≤ no_key → IsStop key i leaf.keys → length leaf.keys ≡ 32 → (i < 32 → key < no_key → get_or leaf.keys i 0 ≡ key → ⊥) → IsFree key i leaf
  free_at key i leaf h small stop long other = elim (cases_lt i (length leaf.values.items)) [
    | inl lt ↦
        let used : i < 32 = omega (arith, lt, h.values.fits) in
        let below = keyed_below i leaf.keys leaf.values.items h.values h.keys lt in
        free_here key i leaf h small stop lt (omega (arith, used, long)) (λ e. other used (omega (arith, below, e)) e)
    | inr past ↦
        let same : length leaf.values.items ≡ i = omega (arith, past, stop_fits key i leaf h small stop) in
        subst (λ j. IsFree key j leaf) same (free_last key i (length leaf.values.items) leaf h small stop refl past)
  ]

  -- what holds of a key that stands at a place
  pub record IsFound (key i : ℕ) (value : V) (rows : List (ℕ × V)) : Type 0 where
    pub row : row_at key_of_pair key rows ≡ Some (key, value)
    pub written : (new : V) → with_row_at key_of_pair key (key, new) rows ≡ take i rows ++ ((key, new) ∷ drop (i + 1) rows)
    pub removed : without_row key_of_pair key rows ≡ take i rows ++ drop (i + 1) rows

  -- what holds of a key that stands nowhere, and would at a place
  pub record IsMissing (key i : ℕ) (rows : List (ℕ × V)) : Type 0 where
    pub row : row_at key_of_pair key rows ≡ None
    pub written : (y : ℕ × V) → with_row_at key_of_pair key y rows ≡ rows
    pub removed : without_row key_of_pair key rows ≡ rows
    pub inserted : (value : V) → with_row key_of_pair (key, value) rows ≡ take i rows ++ ((key, value) ∷ drop i rows)

  found : (key i : ℕ) (x : V) (rows : List (ℕ × V)) → IsOrderedBy key_of_pair rows → rows ≡ take i rows ++ ((key, x) ∷ drop (i + 1) rows) → IsFound key i x rows
  found key i x rows o split =
      let below = ordered_front key_of_pair (take i rows) (key, x) (drop (i + 1) rows) (subst (IsOrderedBy key_of_pair) split o) in
      record {
        row = ap (row_at key_of_pair key) split ∙ row_at-here key_of_pair key (take i rows) (key, x) (drop (i + 1) rows) below refl;
        written = λ new. ap (with_row_at key_of_pair key (key, new)) split ∙ with_row_at-here key_of_pair key (key, new) (take i rows) (key, x) (drop (i + 1) rows) below refl;
        removed = ap (without_row key_of_pair key) split ∙ without_row-here key_of_pair key (take i rows) (key, x) (drop (i + 1) rows) below refl;
      }

  found_at : (key i : ℕ) (x : V) (leaf : Leaf V) → IsLeaf leaf → IsThere key i leaf → slice_get leaf.values.items i ≡ Some x → IsFound key i x (pairs_of leaf)
  found_at key i x leaf h there e =
      let rows = pairs_of leaf in
      found key i x rows h.ordered (subst (λ k. rows ≡ take i rows ++ ((k, x) ∷ drop (i + 1) rows)) there.same (leaf_split i x leaf h e))

  missing : (key i : ℕ) (rows : List (ℕ × V)) → KeysBelow key (take i rows) → KeysFrom (key + 1) (drop i rows) → IsMissing key i rows
  missing key i rows below above =
      let parts = sym (take-append-drop i rows) in
      record {
        row = ap (row_at key_of_pair key) parts ∙ row_at-skip key_of_pair key (take i rows) (drop i rows) below ∙ row_at-absent key_of_pair key (drop i rows) above;
        written = λ y. ap (with_row_at key_of_pair key y) parts ∙ with_row_at-skip key_of_pair key y (take i rows) (drop i rows) below ∙ ap (λ r. take i rows ++ r) (with_row_at-absent key_of_pair key y (drop i rows) above) ∙ sym parts;
        removed = ap (without_row key_of_pair key) parts ∙ without_row-skip key_of_pair key (take i rows) (drop i rows) below ∙ ap (λ r. take i rows ++ r) (without_row-absent key_of_pair key (drop i rows) above) ∙ sym parts;
        inserted = λ value. ap (with_row key_of_pair (key, value)) parts ∙ with_row-skip key_of_pair (key, value) (take i rows) (drop i rows) below ∙ ap (λ r. take i rows ++ r) (with_row-front key_of_pair (key, value) (drop i rows) above);
      }

  pub missing_at : (key i : ℕ) (leaf : Leaf V) → IsFree key i leaf → IsMissing key i (pairs_of leaf)
  missing_at key i leaf free = missing key i (pairs_of leaf) free.below free.above

  -- the value beside a key
  pub found_value : (key i : ℕ) (leaf : Leaf V) → IsLeaf leaf → IsThere key i leaf → slice_get leaf.values.items i ≡ value_at key (pairs_of leaf)
  found_value key i leaf h there =
      let some = leaf_some i leaf h there.within in
      some.1 ∙ sym (ap (option_map (λ p. p.1)) (found_at key i some.0 leaf h there some.1).row)

  -- what was read at the place of a key
  pub read_value : (key i : ℕ) (r : V) (leaf : Leaf V) → IsLeaf leaf → IsThere key i leaf → r ≡ get_or leaf.values.items i r → Some r ≡ value_at key (pairs_of leaf)
  read_value key i r leaf h there e = sym (slice_get_read leaf.values.items (length leaf.values.items) i r refl there.within e) ∙ found_value key i leaf h there

  pub missing_value : (key i : ℕ) (leaf : Leaf V) → IsFree key i leaf → value_at key (pairs_of leaf) ≡ None
  missing_value key i leaf free = ap (option_map (λ p. p.1)) (missing_at key i leaf free).row

  found_some : (key i : ℕ) (leaf : Leaf V) → IsLeaf leaf → IsThere key i leaf → IsSome (row_at key_of_pair key (pairs_of leaf))
  found_some key i leaf h there =
      let some = leaf_some i leaf h there.within in
      subst (λ o. IsSome o) (sym (found_at key i some.0 leaf h there some.1).row) refl

  -- a key of which there is no row stands nowhere
  pub never_there : (key i : ℕ) (leaf : Leaf V) → IsLeaf leaf → IsThere key i leaf → row_at key_of_pair key (pairs_of leaf) ≡ None → ⊥
  never_there key i leaf h there none =
      let some = leaf_some i leaf h there.within in
      let row = (found_at key i some.0 leaf h there some.1).row in
      cc (row, none)

  leaf_of : (leaf : Leaf V) (rows : List (ℕ × V)) → AreKeyed leaf.keys leaf.values.items → pairs_of leaf ≡ rows → IsOrderedBy key_of_pair rows → KeysBelow key_limit rows → IsLeaf leaf
  leaf_of leaf rows values e ordered keys = record {
    values = values;
    ordered = subst (IsOrderedBy key_of_pair) (sym e) ordered;
    keys = subst (KeysBelow key_limit) (sym e) keys;
  }

  -- a leaf after the value beside a key was written
  pub leaf_written : (key i : ℕ) (value : V) (leaf new : Leaf V) → IsLeaf leaf → IsThere key i leaf → new.keys ≡ leaf.keys → new.values.items ≡ set leaf.values.items i value
      → (IsLeaf new) × (pairs_of new ≡ with_row_at key_of_pair key (key, value) (pairs_of leaf)) × (length new.values.items ≡ length leaf.values.items)
  leaf_written key i value leaf new h there ek ev =
      let all = pairs_of leaf in
      let some = leaf_some i leaf h there.within in
      let both = keyed_written i value leaf.keys leaf.values.items h.values there.within in
      let values : AreKeyed new.keys new.values.items = rw (ek, ev) both.0 in
      let rows : pairs_of new ≡ with_row_at key_of_pair key (key, value) all =
      rw (ek, ev) both.1 ∙ ap (λ k. take i all ++ ((k, value) ∷ drop (i + 1) all)) there.same ∙ sym ((found_at key i some.0 leaf h there some.1).written value) in (
        leaf_of new _ values rows (ordered-with_row_at key_of_pair key (key, value) all refl h.ordered) (every-with_row_at-same key_of_pair (λ m. m < key_limit) key (key, value) all refl h.keys),
        rows,
        ap length ev ∙ length-set leaf.values.items i value,
      )

  -- a leaf after the row went in
  abbrev pub IsPut : ℕ → V → Leaf V → Leaf V → Type 0
  IsPut key value leaf new = (IsLeaf new) × (IsGrown key value (seen_leaf leaf) (seen_leaf new))

  pub leaf_put : (key i : ℕ) (value : V) (leaf new : Leaf V) → IsLeaf leaf → IsFree key i leaf → length leaf.keys ≡ 32 → length leaf.values.items < 32 → key < key_limit → new.keys ≡ insert (take 31 leaf.keys) i key → new.values.items ≡ insert leaf.values.items i value
      → IsPut key value leaf new
  leaf_put key i value leaf new h free long room small ek ev =
      let items = leaf.values.items in
      let all = pairs_of leaf in
      let miss = missing_at key i leaf free in
      let both = keyed_inserted i key value leaf.keys items h.values long room free.within in
      let len : length new.values.items ≡ length items + 1 = omega (arith, ap length ev, length-append (take i items) (value ∷ drop i items), length-take i items, length-drop i items, free.within) in
      let values : AreKeyed new.keys new.values.items = rw (ek, ev) both.0 in
      let rows : pairs_of new ≡ with_row key_of_pair (key, value) all = rw (ek, ev) both.1 ∙ sym (miss.inserted value) in
      let leaf_new = leaf_of new _ values rows (ordered-with_row key_of_pair (key, value) all miss.row h.ordered) (each-with_row key_of_pair (λ q. q.0 < key_limit) (key, value) all small h.keys) in (
        leaf_new,
        record { rows = rows; level = refl; width = omega (arith, len); well = leaf_well new leaf_new },
      )

  -- the same where the entry went behind the others
  pub leaf_pushed : (key i : ℕ) (value : V) (leaf new : Leaf V) → IsLeaf leaf → IsFree key i leaf → length leaf.keys ≡ 32 → length leaf.values.items < 32 → key < key_limit → i ≡ length leaf.values.items → new.keys ≡ set leaf.keys i key → new.values.items ≡ leaf.values.items ++ (value ∷ [])
      → IsPut key value leaf new
  leaf_pushed key i value leaf new h free long room small e ek ev =
      let keys : new.keys ≡ insert (take 31 leaf.keys) i key = ek ∙ put_behind i key 31 leaf.keys (omega (arith, long)) (omega (arith, e, room)) (subst (λ n. IsPadded n leaf.keys) (sym e) h.values.padded) in
      let items : new.values.items ≡ insert leaf.values.items i value = ev ∙ sym (insert_end leaf.values.items value) ∙ ap (λ j. insert leaf.values.items j value) (sym e) in
      leaf_put key i value leaf new h free long room small keys items

  -- a leaf after an entry was taken out
  pub leaf_removed : (key i : ℕ) (leaf new : Leaf V) → IsLeaf leaf → IsThere key i leaf → new.keys ≡ remove leaf.keys i ++ (no_key ∷ []) → new.values.items ≡ remove leaf.values.items i
      → (IsLeaf new) × (pairs_of new ≡ without_row key_of_pair key (pairs_of leaf)) × (length new.values.items + 1 ≡ length leaf.values.items)
  leaf_removed key i leaf new h there ek ev =
      let items = leaf.values.items in
      let all = pairs_of leaf in
      let some = leaf_some i leaf h there.within in
      let both = keyed_removed i leaf.keys items h.values there.within in
      let len : length new.values.items + 1 ≡ length items = omega (arith, ap length ev, length-append (take i items) (drop (suc i) items), length-take i items, length-drop (suc i) items, there.within) in
      let values : AreKeyed new.keys new.values.items = rw (ek, ev) both.0 in
      let rows : pairs_of new ≡ without_row key_of_pair key all = rw (ek, ev) both.1 ∙ sym (found_at key i some.0 leaf h there some.1).removed in (
        leaf_of new _ values rows (ordered-without_row key_of_pair key all h.ordered) (each-without_row key_of_pair (λ q. q.0 < key_limit) key all h.keys),
        rows,
        len,
      )

  -- what an insertion answers that finds the key
  pub room_exists : (key i : ℕ) (o : Option V) (leaf : Leaf V) → IsLeaf leaf → IsThere key i leaf → IsSome o → IfSome o (λ v. IsRoomAnswer key v (seen_leaf leaf) (seen_leaf leaf) Exists)
  room_exists key i None leaf h there some = let wrong : ⊥ = cc in absurd wrong
  room_exists key i (Some v) leaf h there some = (found_some key i leaf h there, refl)

  -- and one that finds no room
  pub room_full : (key i : ℕ) (o : Option V) (leaf : Leaf V) → IsLeaf leaf → IsFree key i leaf → 32 ≤ length leaf.values.items → IsSome o → IfSome o (λ v. IsRoomAnswer key v (seen_leaf leaf) (seen_leaf leaf) Full)
  room_full key i None leaf h free many some = let wrong : ⊥ = cc in absurd wrong
  room_full key i (Some v) leaf h free many some = ((missing_at key i leaf free).row, refl, omega (arith, leaf_length leaf h, many))

  -- and one that puts the row in
  pub room_done : (key i : ℕ) (o : Option V) (leaf new : Leaf V) → IsFree key i leaf → IfSome o (λ v. IsGrown key v (seen_leaf leaf) (seen_leaf new)) → IfSome o (λ v. IsRoomAnswer key v (seen_leaf leaf) (seen_leaf new) Done)
  room_done key i None leaf new free grown = grown
  room_done key i (Some v) leaf new free grown = ((missing_at key i leaf free).row, grown)
