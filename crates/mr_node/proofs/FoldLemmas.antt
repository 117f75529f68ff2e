-- Folds and walks that go on.
use Rattle.mr_node.proofs.Common.{◌≡◌, ℕ, ◌+◌, ◌<◌, ◌≤◌, List, [], ◌∷◌, ◌++◌, length, get_or, take, Some, None, refl, sym, subst, ◌∙◌, arith, ap, append-nil, Bor, take_all, slice_get_read, Leaf, IsLeaf, pairs_of, NodePart, NodeInner, children_of, rows_of, IsInner, FoldsRows}
use Rattle.mr_node.proofs.KeyedLemmas.{keyed_next}
use Rattle.mr_node.proofs.EntryListLemmas.{entries_next, entries_length}
use Rattle.mr_node.proofs.EntryLemmas.{leaf_length}
use Rattle.mr_node.proofs.ChildLemmas.{child_at, rows_of-append}

module _ {V A : Type 0} (Gives : A → ℕ → Bor V → A → Type 0) where
  pub folds_append : (a m b : A) (xs ys : List (ℕ × V)) → FoldsRows Gives a xs m → FoldsRows Gives m ys b → FoldsRows Gives a (xs ++ ys) b
  folds_append a m b [] ys h i = subst (λ x. FoldsRows Gives x ys b) (sym h) i
  folds_append a m b (p ∷ xs) ys h i = (h.0, h.1, h.2, h.3, folds_append h.0 m b xs ys h.4 i)

  pub folds_entry : (a m b : A) (i : ℕ) (r : Bor V) (leaf : Leaf V) → IsLeaf leaf → i < length leaf.values.items → r.now ≡ get_or leaf.values.items i r.now → FoldsRows Gives a (take i (pairs_of leaf)) m → Gives m (get_or leaf.keys i 0) r b → FoldsRows Gives a (take (i + 1) (pairs_of leaf)) b
  folds_entry a m b i r leaf h lt read front one =
      let got = slice_get_read leaf.values.items (length leaf.values.items) i r.now refl lt read in
      subst (λ rows. FoldsRows Gives a rows b) (sym (keyed_next i r.now leaf.keys leaf.values.items h.values got))
      (folds_append a m b (take i (pairs_of leaf)) ((get_or leaf.keys i 0, r.now) ∷ []) front (b, r, refl, one, refl))

  pub folds_all : (a b : A) (i : ℕ) (leaf : Leaf V) → IsLeaf leaf → length leaf.values.items ≤ i → FoldsRows Gives a (take i (pairs_of leaf)) b → FoldsRows Gives a (pairs_of leaf) b
  folds_all a b i leaf h le = subst (λ rows. FoldsRows Gives a rows b) (take_all i (pairs_of leaf) (omega (arith, leaf_length leaf h, le)))

module _ {V A : Type 0} (Gives : A → ℕ → Bor V → A → Type 0) where
  pub folds_child : (a m b : A) (i : ℕ) (n : NodeInner V) (k : NodePart V) (seen : List (ℕ × V)) → IsInner n → get_or n.children i None ≡ Some k → seen ≡ k.node.value.rows → FoldsRows Gives a (rows_of (take i (children_of n))) m → FoldsRows Gives m seen b → FoldsRows Gives a (rows_of (take (i + 1) (children_of n))) b
  folds_child a m b i n k seen inner got es h s =
      let front = rows_of (take i (children_of n)) in
      let rows = ap rows_of (entries_next n.len i k n.leasts n.children inner.entries got) ∙ rows_of-append (take i (children_of n)) (child_at n i k ∷ []) ∙ ap (λ r. front ++ r) (append-nil k.node.value.rows) in
      subst (λ r. FoldsRows Gives a r b) (sym rows) (folds_append Gives a m b front k.node.value.rows h (subst (λ r. FoldsRows Gives m r b) es s))

  pub folds_children : (a b : A) (i : ℕ) (n : NodeInner V) (rows : List (ℕ × V)) → IsInner n → n.len ≤ i → rows_of (children_of n) ≡ rows → FoldsRows Gives a (rows_of (take i (children_of n))) b → FoldsRows Gives a rows b
  folds_children a b i n rows inner le e h =
      subst (λ r. FoldsRows Gives a r b) (ap rows_of (take_all i (children_of n) (omega (arith, entries_length n.len n.leasts n.children inner.entries, le))) ∙ e) h

  pub folds_same : (a b : A) (xs ys : List (ℕ × V)) → xs ≡ ys → FoldsRows Gives a xs b → FoldsRows Gives a ys b
  folds_same a b xs ys e = subst (λ rows. FoldsRows Gives a rows b) e
