-- Entries in order: their keys in an array, and beside them places; what they are after a write, an insertion and a
-- removal.
use Rattle.mr_node.proofs.Common.{◌≡◌, ℕ, ◌+◌, ◌-◌, ◌<◌, ◌≤◌, List, [], ◌∷◌, ◌++◌, length, reverse, replicate, get_or, set, take, drop, Option, Some, None, sym, ap, subst, ◌∙◌, arith, add-one, set_split, length-set, get_or-set_same, set-set, slice_get-get_or, insert, remove, slice_get, zip, IsOrderedBy, key_of_pair, key_limit, KeysBelow, IsRising, no_key, somes, IsPacked, IsPadded, entries, AreEntries, AreKeyed}
use Rattle.mr_node.proofs.PlaceLemmas.{packed_length, packed_within, packed_read, packed_set, somes_set}
use Rattle.mr_node.proofs.KeyedLemmas.{padded_same, padded_set, padded_blank, zip_keyed, zip_set, keyed_length, keyed_read, keyed_split, keyed_next, keyed_rest, keyed_written, keyed_inserted, keyed_removed, keyed_popped, keyed_pushed, keyed_turned, keyed_behind, keyed_below, keyed_rises}

module _ {X : Type 0} where
  -- what the used places hold, by its keys
  keyed_of : (n : ℕ) (ks : List ℕ) (ps : List (Option X)) → AreEntries n ks ps → AreKeyed ks (somes ps)
  keyed_of n ks ps are_entries =
      let len = packed_length n ps are_entries.packed in
      record { fits = omega (arith, len, are_entries.fits); padded = padded_same n (length (somes ps)) ks (sym len) are_entries.padded; keyed = are_entries.keyed }

  -- and back
  entries_of : (n : ℕ) (ks : List ℕ) (xs : List X) (ps : List (Option X)) → IsPacked n ps → somes ps ≡ xs → AreKeyed ks xs → AreEntries n ks ps
  entries_of n ks xs ps packed e h =
      let len = packed_length n ps packed in
      let all = subst (AreKeyed ks) (sym e) h in
      record { fits = omega (arith, len, all.fits); packed = packed; padded = padded_same (length (somes ps)) n ks len all.padded; keyed = all.keyed }

  -- what stands in a used place
  held : (n i : ℕ) (x : X) (ps : List (Option X)) → IsPacked n ps → get_or ps i None ≡ Some x → slice_get (somes ps) i ≡ Some x
  held n i x ps packed e =
      let lt = packed_within n i x ps packed e in
      slice_get-get_or (somes ps) i x (omega (arith, lt, packed_length n ps packed)) ∙ ap Some (packed_read n i x ps packed e)

  -- as many entries as used places
  pub entries_length : (n : ℕ) (ks : List ℕ) (ps : List (Option X)) → AreEntries n ks ps → length (entries ks ps) ≡ n
  entries_length n ks ps are_entries = keyed_length ks (somes ps) (keyed_of n ks ps are_entries) ∙ packed_length n ps are_entries.packed

  pub entries_read : (n i : ℕ) (x : X) (ks : List ℕ) (ps : List (Option X)) → AreEntries n ks ps → get_or ps i None ≡ Some x → get_or (entries ks ps) i (0, x) ≡ (get_or ks i 0, x)
  entries_read n i x ks ps are_entries e = keyed_read i x x ks (somes ps) (keyed_of n ks ps are_entries) (held n i x ps are_entries.packed e)

  -- the entries, cut at one of them
  pub entries_split : (n i : ℕ) (x : X) (ks : List ℕ) (ps : List (Option X)) → AreEntries n ks ps → get_or ps i None ≡ Some x → entries ks ps ≡ take i (entries ks ps) ++ ((get_or ks i 0, x) ∷ drop (i + 1) (entries ks ps))
  entries_split n i x ks ps are_entries e = keyed_split i x ks (somes ps) (keyed_of n ks ps are_entries) (held n i x ps are_entries.packed e)

  -- the same with what stands beside the key written
  pub entries_written : (n i : ℕ) (y : X) (ks : List ℕ) (ps : List (Option X)) → AreEntries n ks ps → i < n → (AreEntries n ks (set ps i (Some y))) × (entries ks (set ps i (Some y)) ≡ take i (entries ks ps) ++ ((get_or ks i 0, y) ∷ drop (i + 1) (entries ks ps)))
  entries_written n i y ks ps are_entries lt =
      let places = somes_set n i y ps are_entries.packed lt in
      let all = keyed_written i y ks (somes ps) (keyed_of n ks ps are_entries) (omega (arith, lt, packed_length n ps are_entries.packed)) in
      (entries_of n ks _ (set ps i (Some y)) (packed_set n i y ps are_entries.packed lt) places all.0, ap (zip ks) places ∙ all.1)

  -- one entry more
  pub entries_inserted : (n p k : ℕ) (x : X) (ks : List ℕ) (ps new : List (Option X)) → AreEntries n ks ps → length ks ≡ 32 → n < 32 → p ≤ n → IsPacked (n + 1) new → somes new ≡ take p (somes ps) ++ (x ∷ drop p (somes ps)) → (AreEntries (n + 1) (insert (take 31 ks) p k) new) × (entries (insert (take 31 ks) p k) new ≡ take p (entries ks ps) ++ ((k, x) ∷ drop p (entries ks ps)))
  entries_inserted n p k x ks ps new are_entries long room le packed e =
      let len = packed_length n ps are_entries.packed in
      let all = keyed_inserted p k x ks (somes ps) (keyed_of n ks ps are_entries) long (omega (arith, len, room)) (omega (arith, len, le)) in
      (entries_of (n + 1) (insert (take 31 ks) p k) _ new packed e all.0, ap (zip (insert (take 31 ks) p k)) e ∙ all.1)

  -- one entry less
  pub entries_removed : (n p : ℕ) (ks : List ℕ) (ps new : List (Option X)) → AreEntries n ks ps → p < n → IsPacked (n - 1) new → somes new ≡ take p (somes ps) ++ drop (p + 1) (somes ps) → (AreEntries (n - 1) (remove ks p ++ (no_key ∷ [])) new) × (entries (remove ks p ++ (no_key ∷ [])) new ≡ take p (entries ks ps) ++ drop (p + 1) (entries ks ps))
  entries_removed n p ks ps new are_entries lt packed e =
      let same : somes new ≡ remove (somes ps) p = e ∙ ap (λ j. take p (somes ps) ++ drop j (somes ps)) (add-one p) in
      let all = keyed_removed p ks (somes ps) (keyed_of n ks ps are_entries) (omega (arith, lt, packed_length n ps are_entries.packed)) in
      (entries_of (n - 1) (remove ks p ++ (no_key ∷ [])) _ new packed same all.0, ap (zip (remove ks p ++ (no_key ∷ []))) same ∙ all.1)

  -- the last entry goes
  pub entries_popped : (n i : ℕ) (ks : List ℕ) (ps new : List (Option X)) → i + 1 ≡ n → AreEntries n ks ps → IsPacked i new → somes new ≡ take i (somes ps) → (AreEntries i (set ks i no_key) new) × (entries (set ks i no_key) new ≡ take i (entries ks ps))
  entries_popped n i ks ps new one are_entries packed e =
      let all = keyed_popped i ks (somes ps) (omega (arith, one, packed_length n ps are_entries.packed)) (keyed_of n ks ps are_entries) in
      (entries_of i (set ks i no_key) _ new packed e all.0, ap (zip (set ks i no_key)) e ∙ all.1)

  -- one entry more at the end
  pub entries_pushed : (n k : ℕ) (x : X) (ks : List ℕ) (ps new : List (Option X)) → AreEntries n ks ps → length ks ≡ 32 → n < 32 → IsPacked (n + 1) new → somes new ≡ somes ps ++ (x ∷ []) → (AreEntries (n + 1) (set ks n k) new) × (entries (set ks n k) new ≡ entries ks ps ++ ((k, x) ∷ []))
  entries_pushed n k x ks ps new are_entries long room packed e =
      let all = keyed_pushed n k x ks (somes ps) (keyed_of n ks ps are_entries) long (sym (packed_length n ps are_entries.packed)) room in
      (entries_of (n + 1) (set ks n k) _ new packed e all.0, ap (zip (set ks n k)) e ∙ all.1)

  -- the entries in the other order
  pub entries_turned : (n : ℕ) (ks : List ℕ) (ps new : List (Option X)) → AreEntries n ks ps → IsPacked n new → somes new ≡ reverse (somes ps) → (AreEntries n (reverse (take n ks) ++ drop n ks) new) × (entries (reverse (take n ks) ++ drop n ks) new ≡ reverse (entries ks ps))
  entries_turned n ks ps new are_entries packed e =
      let all = keyed_turned n ks (somes ps) (sym (packed_length n ps are_entries.packed)) (keyed_of n ks ps are_entries) in
      (entries_of n (reverse (take n ks) ++ drop n ks) _ new packed e all.0, ap (zip (reverse (take n ks) ++ drop n ks)) e ∙ all.1)

  -- behind the keys in use stands the greatest number
  pub entries_behind : (n i : ℕ) (ks : List ℕ) (ps : List (Option X)) → AreEntries n ks ps → n ≤ i → i < length ks → get_or ks i 0 ≡ no_key
  entries_behind n i ks ps are_entries le lt = keyed_behind i ks (somes ps) (keyed_of n ks ps are_entries) (omega (arith, le, packed_length n ps are_entries.packed)) lt

  -- each key in use is below the limit
  pub entries_below : (n i : ℕ) (ks : List ℕ) (ps : List (Option X)) → AreEntries n ks ps → KeysBelow key_limit (entries ks ps) → i < n → get_or ks i 0 < key_limit
  entries_below n i ks ps are_entries below lt = keyed_below i ks (somes ps) (keyed_of n ks ps are_entries) below (omega (arith, lt, packed_length n ps are_entries.packed))

  -- the keys rise up to the end of the array
  pub entries_rises : (n : ℕ) (ks : List ℕ) (ps : List (Option X)) → AreEntries n ks ps → IsOrderedBy key_of_pair (entries ks ps) → KeysBelow key_limit (entries ks ps) → IsRising ks
  entries_rises n ks ps are_entries ordered below = keyed_rises ks (somes ps) (keyed_of n ks ps are_entries) ordered below

  -- the entries up to a place and the one there
  pub entries_next : (n i : ℕ) (x : X) (ks : List ℕ) (ps : List (Option X)) → AreEntries n ks ps → get_or ps i None ≡ Some x → take (i + 1) (entries ks ps) ≡ take i (entries ks ps) ++ ((get_or ks i 0, x) ∷ [])
  entries_next n i x ks ps are_entries e = keyed_next i x ks (somes ps) (keyed_of n ks ps are_entries) (held n i x ps are_entries.packed e)

  pub no_entries : (ks : List ℕ) (ps : List (Option X)) → ks ≡ replicate 32 no_key → IsPacked 0 ps → AreEntries 0 ks ps
  no_entries ks ps e packed = record {
    fits = omega arith;
    packed = packed;
    padded = subst (IsPadded 0) (sym e) (padded_blank 32);
    keyed = omega (arith, packed_length 0 ps packed);
  }

  -- an entry with its key and what stands beside it written
  pub entries_both : (n i k : ℕ) (y : X) (ks : List ℕ) (ps : List (Option X)) → AreEntries n ks ps → i < n → (AreEntries n (set ks i k) (set ps i (Some y))) × (entries (set ks i k) (set ps i (Some y)) ≡ take i (entries ks ps) ++ ((k, y) ∷ drop (i + 1) (entries ks ps)))
  entries_both n i k y ks ps are_entries lt =
      let len = packed_length n ps are_entries.packed in
      let places = somes_set n i y ps are_entries.packed lt in
      let list : zip (set ks i k) (set (somes ps) i y) ≡ set (entries ks ps) i (k, y) =
      zip_keyed i k y ks (set (somes ps) i y)
      ∙ ap (λ l. set l i (k, get_or (set (somes ps) i y) i y)) (zip_set i y ks (somes ps) (omega (arith, lt, len)))
      ∙ ap (λ z. set (set (entries ks ps) i (get_or ks i 0, y)) i (k, z)) (get_or-set_same (somes ps) i y y (omega (arith, lt, len)))
      ∙ set-set (entries ks ps) i (get_or ks i 0, y) (k, y) in (
        record {
          fits = are_entries.fits;
          packed = packed_set n i y ps are_entries.packed lt;
          padded = padded_set n i k ks lt are_entries.padded;
          keyed = omega (arith, ap length places, length-set (somes ps) i y, length-set ks i k, are_entries.keyed);
        },
        rw add-one (ap (zip (set ks i k)) places ∙ list ∙ set_split (entries ks ps) i (k, y) (omega (arith, entries_length n ks ps are_entries, lt))),
      )

  -- the entries from a place on
  pub entries_rest : (n i : ℕ) (x : X) (ks : List ℕ) (ps : List (Option X)) → AreEntries n ks ps → get_or ps i None ≡ Some x → drop i (entries ks ps) ≡ (get_or ks i 0, x) ∷ drop (i + 1) (entries ks ps)
  entries_rest n i x ks ps are_entries e = keyed_rest i x ks (somes ps) (keyed_of n ks ps are_entries) (held n i x ps are_entries.packed e)
