-- The first row from a key on.
use Rattle.mr_node.proofs.Common.{◌≡◌, ℕ, ◌+◌, ◌<◌, ◌≤◌, List, length, get_or, take, drop, Option, Some, None, leb, refl, sym, ap, ◌∙◌, arith, ◌-◌, [], ◌∷◌, ◌++◌, subst, find, AllByRecursion, drop_all, take-append-drop, slice_get_read, find-skip, find-head, find-left, find-right, Leaf, key_of_pair, no_key, IsStop, IsChildPlace, IsLeaf, pairs_of, NodePart, NodeChild, NodeInner, children_of, rows_of, IsChild, IsInner, StartsAt}
use Rattle.mr_node.proofs.KeyedLemmas.{keyed_rest}
use Rattle.mr_node.proofs.EntryListLemmas.{entries_rest, entries_length}
use Rattle.mr_node.proofs.EntryLemmas.{cut_below, leaf_length}
use Rattle.mr_node.proofs.ChildLemmas.{IsCutAt, child_at, cut_child}

module _ {V : Type 0} where
  -- the first row with a key from k on
  abbrev pub first_row : ℕ → List (ℕ × V) → Option (ℕ × V)
  first_row k rows = find (λ p. leb k p.0) rows

  first_drop : (key i : ℕ) (leaf : Leaf V) → IsLeaf leaf → key ≤ no_key → IsStop key i leaf.keys → first_row key (pairs_of leaf) ≡ first_row key (drop i (pairs_of leaf))
  first_drop key i leaf h small stop =
      ap (first_row key) (sym (take-append-drop i (pairs_of leaf))) ∙ find-skip key_of_pair key (take i (pairs_of leaf)) (drop i (pairs_of leaf)) (cut_below key i leaf h small stop)

  pub first_none : (key i : ℕ) (leaf : Leaf V) → IsLeaf leaf → key ≤ no_key → IsStop key i leaf.keys → length leaf.values.items ≤ i → first_row key (pairs_of leaf) ≡ None
  first_none key i leaf h small stop le =
      first_drop key i leaf h small stop ∙ ap (first_row key) (drop_all i (pairs_of leaf) (omega (arith, leaf_length leaf h, le)))

  pub first_here : (key i : ℕ) (x : V) (leaf : Leaf V) → IsLeaf leaf → key ≤ no_key → IsStop key i leaf.keys → i < length leaf.values.items → i < length leaf.keys → x ≡ get_or leaf.values.items i x → first_row key (pairs_of leaf) ≡ Some (get_or leaf.keys i 0, x)
  first_here key i x leaf h small stop lt long read =
      let got = slice_get_read leaf.values.items (length leaf.values.items) i x refl lt read in
      first_drop key i leaf h small stop ∙ ap (first_row key) (keyed_rest i x leaf.keys leaf.values.items h.values got) ∙ find-head key_of_pair key (get_or leaf.keys i 0, x) (drop (i + 1) (pairs_of leaf)) (stop.here long)

module _ {V : Type 0} where
  first_cut : (key h i : ℕ) (children : List (NodeChild V)) (k : NodeChild V) → IsCutAt key h i children k → first_row key (rows_of children) ≡ first_row key (k.1.node.value.rows ++ rows_of (drop (i + 1) children))
  first_cut key h i children k cut = ap (first_row key) cut.rows ∙ find-skip key_of_pair key (rows_of (take i children)) (k.1.node.value.rows ++ rows_of (drop (i + 1) children)) cut.below

  pub first_in_child : (key h i : ℕ) (children : List (NodeChild V)) (k : NodeChild V) (p : ℕ × V) → IsCutAt key h i children k → first_row key k.1.node.value.rows ≡ Some p → first_row key (rows_of children) ≡ Some p
  first_in_child key h i children k p cut e = first_cut key h i children k cut ∙ find-left (λ q. leb key q.0) p k.1.node.value.rows (rows_of (drop (i + 1) children)) e

  first_behind : (key h i : ℕ) (children : List (NodeChild V)) (k : NodeChild V) → IsCutAt key h i children k → first_row key k.1.node.value.rows ≡ None → first_row key (rows_of children) ≡ first_row key (rows_of (drop (i + 1) children))
  first_behind key h i children k cut e = first_cut key h i children k cut ∙ find-right (λ q. leb key q.0) k.1.node.value.rows (rows_of (drop (i + 1) children)) e

  starts_first : (key least : ℕ) (rows rest : List (ℕ × V)) → StartsAt key_of_pair least rows → key ≤ least → first_row key (rows ++ rest) ≡ first_row key rows
  starts_first key least [] rest h le = absurd h
  starts_first key least (p ∷ rows) rest h le =
      let here : key ≤ p.0 = omega (arith, h, le) in
      find-head key_of_pair key p (rows ++ rest) here ∙ sym (find-head key_of_pair key p rows here)

  pub first_in_next : (key i : ℕ) (b : NodeInner V) (k j : NodePart V) → IsInner b → IsChildPlace key i b.len b.leasts → get_or b.children i None ≡ Some k → get_or b.children (i + 1) None ≡ Some j → i + 1 < b.len → first_row key k.node.value.rows ≡ None → first_row key (rows_of (children_of b)) ≡ first_row key j.node.value.rows
  first_in_next key i b k j inner at got next lt none =
      let children = children_of b in
      let cut = cut_child key i b k inner at got in
      let more = entries_rest b.len (i + 1) j b.leasts b.children inner.entries next in
      let child = (subst (AllByRecursion (IsChild (b.height - 1))) more cut.after).0 in
      first_behind key (b.height - 1) i children (child_at b i k) cut none ∙ ap (λ l. first_row key (rows_of l)) more
      ∙ starts_first key (get_or b.leasts (i + 1) 0) j.node.value.rows (rows_of (drop (i + 1 + 1) children)) child.first (omega (arith, at.next lt))

  pub first_no_next : (key i : ℕ) (b : NodeInner V) (k : NodePart V) → IsInner b → IsChildPlace key i b.len b.leasts → get_or b.children i None ≡ Some k → b.len ≤ i + 1 → first_row key k.node.value.rows ≡ None → first_row key (rows_of (children_of b)) ≡ None
  first_no_next key i b k inner at got le none =
      first_behind key (b.height - 1) i (children_of b) (child_at b i k) (cut_child key i b k inner at got) none ∙ ap (λ l. first_row key (rows_of l)) (drop_all (i + 1) (children_of b) (omega (arith, entries_length b.len b.leasts b.children inner.entries, le)))
