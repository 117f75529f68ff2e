-- A leaf that is cut at a key, and children that are cut at a place.
use Rattle.mr_node.proofs.Common.{◌≡◌, ℕ, ◌+◌, ◌≤◌, List, [], ◌++◌, length, take, drop, sym, ap, subst, ◌∙◌, arith, take_at, inl, inr, cases_lt, drop_at, drop_all, IsOrderedBy, Leaf, key_of_pair, KeysBelow, KeysFrom, no_key, IsStop, pairs_of, IsLeaf}
use Rattle.mr_node.proofs.EntryLemmas.{leaf_length, leaf_some, back_from, cut_below}
use Rattle.mr_node.proofs.EvenLemmas.{AreLeaves, AreMovedLeaves, left_leaf, right_leaf, alone, no_more}

-- a list cut at a place, whose front is as long
pub cut_fits : {X : Type 0} (n i : ℕ) (xs none : List X) → length xs ≡ n → none ≡ [] → i ≤ n → n ≤ 32 → (i ≤ length xs + length none) × (length xs + length none ≤ i + 32)
cut_fits n i xs none long e le fits = (omega (arith, long, le, ap length e), omega (arith, long, fits, ap length e))

module _ {V : Type 0} where
  -- from where a search stops on there are no lesser keys
  pub cut_from : (key i : ℕ) (leaf : Leaf V) → IsLeaf leaf → key ≤ no_key → length leaf.values.items ≤ length leaf.keys → IsStop key i leaf.keys → KeysFrom key (drop i (pairs_of leaf))
  cut_from key i leaf h small long stop = elim (cases_lt i (length leaf.values.items)) [
    | inl lt ↦ let some = leaf_some i leaf h lt in back_from key i some.0 leaf h some.1 (stop.here (omega (arith, lt, long)))
    | inr le ↦ subst (KeysFrom key) (sym (drop_all i (pairs_of leaf) (omega (arith, le, leaf_length leaf h)))) tt
  ]

  -- the two parts of a leaf
  pub record AreCutLeaves (key : ℕ) (a c d : Leaf V) : Type 0 where
    pub low : IsLeaf c
    pub high : IsLeaf d
    pub rows : pairs_of c ++ pairs_of d ≡ pairs_of a
    pub below : KeysBelow key (pairs_of c)
    pub from : KeysFrom key (pairs_of d)

  pub leaf_cut : (key i : ℕ) (a b c d : Leaf V) → IsLeaf a → IsLeaf b → pairs_of b ≡ [] → key ≤ no_key → length a.values.items ≤ length a.keys → IsStop key i a.keys → AreMovedLeaves a b c d → length (pairs_of c) ≡ i → AreCutLeaves key a c d
  leaf_cut key i a b c d whole blank none small long stop moved len =
      let two : AreLeaves a b = record { left = whole; right = blank; ordered = subst (λ r. IsOrderedBy key_of_pair (pairs_of a ++ r)) (sym none) (alone (pairs_of a) whole.ordered) } in
      let rows : pairs_of c ++ pairs_of d ≡ pairs_of a = no_more (pairs_of a) (pairs_of b) (pairs_of c) (pairs_of d) moved.list none in
      record {
        low = left_leaf a b c d two moved;
        high = right_leaf a b c d two moved;
        rows = rows;
        below = subst (KeysBelow key) (ap (take i) (sym rows) ∙ take_at (pairs_of c) (pairs_of d) i len) (cut_below key i a whole small stop);
        from = subst (KeysFrom key) (ap (drop i) (sym rows) ∙ drop_at (pairs_of c) (pairs_of d) i len) (cut_from key i a whole small long stop);
      }
