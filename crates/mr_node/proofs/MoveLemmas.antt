-- Places into which a child goes, and from which one is taken.
use Rattle.mr_node.proofs.Common.{◌≡◌, ℕ, ◌+◌, ◌-◌, ◌<◌, ◌≤◌, List, [], ◌∷◌, ◌++◌, length, get_or, set, take, drop, Option, Some, None, slice_range, sym, ap, subst, ◌∙◌, arith, add-one, insert, remove, remove_range, no_key, somes, IsPacked, entries, AreEntries}
use Rattle.mr_node.proofs.PlaceLemmas.{packed_fits, packed_insert, somes_insert, packed_front, somes_front, packed_remove, somes_remove, packed_pad, somes_pad, last_set, moved_behind, got_used}
use Rattle.mr_node.proofs.EntryListLemmas.{entries_inserted, entries_removed, entries_split}

module _ {X : Type 0} where
  pushed : (n p : ℕ) (x : X) (ps new : List (Option X)) → length ps ≡ 32 → IsPacked n ps → n < 32 → p ≤ n → ((front : List (Option X)) (last : Option X) → set ps 31 (Some x) ≡ front ++ (last ∷ []) → new ≡ insert front p last) → (IsPacked (n + 1) new) × (somes new ≡ take p (somes ps) ++ (x ∷ drop p (somes ps)))
  pushed n p x ps new len packed room within moved =
      let e = moved (take 31 ps) (Some x) (last_set (Some x) ps len) in
      let front = packed_front n 31 ps packed (omega arith) in (
        subst (IsPacked (n + 1)) (sym e) (packed_insert n p x (take 31 ps) front within),
        ap somes e ∙ somes_insert n p x (take 31 ps) front within ∙ ap (λ s. insert s p x) (somes_front n 31 ps packed (omega arith)),
      )

  -- an entry that was put at a place
  pub entries_put : (n p k : ℕ) (x : X) (ks keys : List ℕ) (ps new : List (Option X)) → AreEntries n ks ps → length ks ≡ 32 → length ps ≡ 32 → n < 32 → p ≤ n → keys ≡ insert (take 31 ks) p k → ((front : List (Option X)) (last : Option X) → set ps 31 (Some x) ≡ front ++ (last ∷ []) → new ≡ insert front p last) → (AreEntries (n + 1) keys new) × (entries keys new ≡ take p (entries ks ps) ++ ((k, x) ∷ drop p (entries ks ps)))
  entries_put n p k x ks keys ps new are_entries long wide room within ek moved =
      let both = pushed n p x ps new wide are_entries.packed room within moved in
      subst (λ l. (AreEntries (n + 1) l new) × (entries l new ≡ take p (entries ks ps) ++ ((k, x) ∷ drop p (entries ks ps)))) (sym ek) (entries_inserted n p k x ks ps new are_entries long room within both.0 both.1)

  pulled : (n p : ℕ) (y : Option X) (ps new : List (Option X)) → IsPacked n ps → p < n → y ≡ None → new ≡ remove_range (set ps p y) p (p + 1) ++ slice_range (set ps p y) p (p + 1) → (IsPacked (n - 1) new) × (somes new ≡ take p (somes ps) ++ drop (p + 1) (somes ps))
  pulled n p y ps new packed within none moved =
      let long : p < length ps = omega (arith, packed_fits n ps packed) in
      let e : new ≡ remove ps p ++ (None ∷ []) = moved ∙ moved_behind p y ps long ∙ ap (λ o. remove ps p ++ (o ∷ [])) none in (
        subst (IsPacked (n - 1)) (sym e) (packed_pad (n - 1) (remove ps p) (packed_remove n p ps packed within)),
        ap somes e ∙ somes_pad (remove ps p) ∙ somes_remove n p ps packed within ∙ ap (λ j. take p (somes ps) ++ drop j (somes ps)) (sym (add-one p)),
      )

  -- an entry that was taken out of a place
  pub entries_taken : (n p : ℕ) (r y : Option X) (x : X) (ks keys : List ℕ) (ps new : List (Option X)) → AreEntries n ks ps → p < n → get_or ps p r ≡ Some x → y ≡ None → keys ≡ remove ks p ++ (no_key ∷ []) → new ≡ remove_range (set ps p y) p (p + 1) ++ slice_range (set ps p y) p (p + 1)
      → (AreEntries (n - 1) keys new) × (entries keys new ≡ take p (entries ks ps) ++ drop (p + 1) (entries ks ps)) × (entries ks ps ≡ take p (entries ks ps) ++ ((get_or ks p 0, x) ∷ drop (p + 1) (entries ks ps)))
  entries_taken n p r y x ks keys ps new are_entries within got none ek moved =
      let both = pulled n p y ps new are_entries.packed within none moved in
      let all = subst (λ l. (AreEntries (n - 1) l new) × (entries l new ≡ take p (entries ks ps) ++ drop (p + 1) (entries ks ps))) (sym ek) (entries_removed n p ks ps new are_entries within both.0 both.1) in
      (all.0, all.1, entries_split n p x ks ps are_entries (got_used n p r x ps are_entries.packed within got))
