-- What becomes of a node when a value in it is changed in place.
use Rattle.mr_node.proofs.Common.{◌≡◌, ℕ, ◌<◌, List, Option, Some, None, IfSome, length, get_or, set, option_map, is_some, true, refl, sym, ap, subst, ◌∙◌, refill, slice_get, unwrap_or, row_at, with_row_at, with_row_at_absent, Seen, key_of_pair, value_at, IsChildPlace, IsThere, Leaf, IsLeaf, pairs_of, NodePart, NodeInner, children_of, rows_of, IsWell, IsInner, seen_inner, revised_at, spent_at}
use Rattle.mr_node.proofs.PlaceLemmas.{same_written}
use Rattle.mr_node.proofs.KeyedLemmas.{of_item}
use Rattle.mr_node.proofs.ShareLemmas.{written_back}
use Rattle.mr_node.proofs.EntryLemmas.{leaf_some, found_value, leaf_written}
use Rattle.mr_node.proofs.NodeLemmas.{inner_with, part_with, find_inner, replaced_inner, seen_with}

module _ {V : Type 0} where
  -- the rows where the key is there, and where it isn't
  pub revised_some : (key : ℕ) (change : V → V) (v : V) (rows : List (ℕ × V)) → value_at key rows ≡ Some v → revised_at key change rows ≡ with_row_at key_of_pair key (key, change v) rows
  revised_some key change v rows is = ap (λ o. unwrap_or (option_map (λ x. with_row_at key_of_pair key (key, change x) rows) o) rows) is

  pub revised_none : (key : ℕ) (change : V → V) (rows : List (ℕ × V)) → value_at key rows ≡ None → revised_at key change rows ≡ rows
  revised_none key change rows is = ap (λ o. unwrap_or (option_map (λ x. with_row_at key_of_pair key (key, change x) rows) o) rows) is

  -- what is spent on it
  pub spent_some : {E : Type 0} (key : ℕ) (spent : E → V → E) (revision : E) (v : V) (rows : List (ℕ × V)) → value_at key rows ≡ Some v → spent_at key spent revision rows ≡ spent revision v
  spent_some key spent revision v rows is = ap (λ o. unwrap_or (option_map (spent revision) o) revision) is

  pub spent_none : {E : Type 0} (key : ℕ) (spent : E → V → E) (revision : E) (rows : List (ℕ × V)) → value_at key rows ≡ None → spent_at key spent revision rows ≡ revision
  spent_none key spent revision rows is = ap (λ o. unwrap_or (option_map (spent revision) o) revision) is

  pub spent_same : {E : Type 0} (key : ℕ) (spent : E → V → E) (revision : E) (rows others : List (ℕ × V)) → value_at key rows ≡ value_at key others → spent_at key spent revision rows ≡ spent_at key spent revision others
  spent_same key spent revision rows others same = ap (λ o. unwrap_or (option_map (spent revision) o) revision) same

  -- a value changed in its place
  pub value_changed : (i : ℕ) (r y : V) (change : V → V) (xs ws : List V) → ws ≡ xs → i < length xs → y ≡ change (get_or ws i r) → IfSome (slice_get xs i) (λ v. refill (length xs) xs (set ws i y) ≡ set xs i (change v))
  value_changed i r y change xs ws e lt ey =
      of_item (λ v. refill (length xs) xs (set ws i y) ≡ set xs i (change v)) i r xs ws e lt
      (written_back i y xs ws e ∙ ap (set xs i) ey)

  -- a leaf with the value changed in the place of a key
  pub leaf_revised : (key i : ℕ) (change : V → V) (leaf new : Leaf V) → IsLeaf leaf → IsThere key i leaf → new.keys ≡ leaf.keys → IfSome (slice_get leaf.values.items i) (λ v. new.values.items ≡ set leaf.values.items i (change v))
      → (IsLeaf new) × (pairs_of new ≡ revised_at key change (pairs_of leaf)) × (length new.values.items ≡ length leaf.values.items)
  leaf_revised key i change leaf new h there ek ev =
      let some = leaf_some i leaf h there.within in
      let v = some.0 in
      let is : value_at key (pairs_of leaf) ≡ Some v = sym (found_value key i leaf h there) ∙ some.1 in
      let after = leaf_written key i (change v) leaf new h there ek (subst (λ o. IfSome o (λ v. new.values.items ≡ set leaf.values.items i (change v))) some.1 ev) in
      (after.0, after.1 ∙ sym (revised_some key change v (pairs_of leaf) is), after.2)

  pub leaf_spent : {E : Type 0} (key i : ℕ) (spent : E → V → E) (revision now : E) (leaf : Leaf V) → IsLeaf leaf → IsThere key i leaf → IfSome (slice_get leaf.values.items i) (λ v. now ≡ spent revision v) → now ≡ spent_at key spent revision (pairs_of leaf)
  leaf_spent key i spent revision now leaf h there e =
      let some = leaf_some i leaf h there.within in
      let is : value_at key (pairs_of leaf) ≡ Some some.0 = sym (found_value key i leaf h there) ∙ some.1 in
      subst (λ o. IfSome o (λ v. now ≡ spent revision v)) some.1 e ∙ sym (spent_some key spent revision some.0 (pairs_of leaf) is)

  pub leaf_found : (key i : ℕ) (leaf : Leaf V) → IsLeaf leaf → IsThere key i leaf → true ≡ is_some (value_at key (pairs_of leaf))
  leaf_found key i leaf h there = sym (ap is_some (sym (found_value key i leaf h there) ∙ (leaf_some i leaf h there.within).1))

  -- a value put in place of the one at a key, whatever that is
  no_row : (o : Option (ℕ × V)) → option_map (λ p. p.1) o ≡ None → o ≡ None
  no_row None is = refl
  no_row (Some p) is = absurd cc

  put_at_option : (key : ℕ) (value : V) (rows : List (ℕ × V)) (o : Option V) → value_at key rows ≡ o → revised_at key (λ _. value) rows ≡ with_row_at key_of_pair key (key, value) rows
  put_at_option key value rows None is = revised_none key (λ _. value) rows is ∙ sym (with_row_at_absent key_of_pair key (key, value) rows (no_row (row_at key_of_pair key rows) is))
  put_at_option key value rows (Some v) is = revised_some key (λ _. value) v rows is

  pub put_at : (key : ℕ) (value : V) (rows : List (ℕ × V)) → revised_at key (λ _. value) rows ≡ with_row_at key_of_pair key (key, value) rows
  put_at key value rows = put_at_option key value rows (value_at key rows) refl

  -- an inner node with the value changed in the child to which the key belongs
  pub record IsRevisedIn (key i : ℕ) (change : V → V) (b : NodeInner V) (k : NodePart V) (n : Seen V) : Type 0 where
    pub whole : IsInner (inner_with b i (part_with k n))
    pub rows : rows_of (children_of (inner_with b i (part_with k n))) ≡ revised_at key change (rows_of (children_of b))

  revised_option : (key i : ℕ) (change : V → V) (b : NodeInner V) (k : NodePart V) (n : Seen V) (o : Option V) → IsInner b → IsChildPlace key i b.len b.leasts → get_or b.children i None ≡ Some k
      → n ≡ seen_with k.node.value (revised_at key change k.node.value.rows) → IsWell n → value_at key k.node.value.rows ≡ o → value_at key (rows_of (children_of b)) ≡ o → IsRevisedIn key i change b k n
  revised_option key i change b k n None inner at got e well child all =
      let same : n ≡ k.node.value = e ∙ ap (seen_with k.node.value) (revised_none key change k.node.value.rows child) in
      let is : inner_with b i (part_with k n) ≡ b = ap (λ s. inner_with b i (part_with k s)) same ∙ ap (λ ks. record b { children = ks }) (same_written i k b.children got) in
      record {
        whole = subst IsInner (sym is) inner;
        rows = ap (λ x. rows_of (children_of x)) is ∙ sym (revised_none key change (rows_of (children_of b)) all);
      }
  revised_option key i change b k n (Some v) inner at got e well child all =
      let after = replaced_inner key i (change v) b k n inner at got (e ∙ ap (seen_with k.node.value) (revised_some key change v k.node.value.rows child)) well in
      record {
        whole = after.whole;
        rows = after.rows ∙ sym (revised_some key change v (rows_of (children_of b)) all);
      }

  -- the value at a key in the child to which it belongs
  pub value_in_child : (key i : ℕ) (b : NodeInner V) (k : NodePart V) → IsInner b → IsChildPlace key i b.len b.leasts → get_or b.children i None ≡ Some k → value_at key (rows_of (children_of b)) ≡ value_at key k.node.value.rows
  value_in_child key i b k inner at got = ap (option_map (λ p. p.1)) (find_inner key i b k inner at got)

  pub revised_inner : (key i : ℕ) (change : V → V) (b : NodeInner V) (k : NodePart V) (now n : Seen V) → IsInner b → IsChildPlace key i b.len b.leasts → get_or b.children i None ≡ Some k
      → n ≡ seen_with now (revised_at key change now.rows) → now ≡ k.node.value → IsWell n → IsRevisedIn key i change b k n
  revised_inner key i change b k now n inner at got e same well =
      revised_option key i change b k n (value_at key k.node.value.rows) inner at got (e ∙ ap (λ s. seen_with s (revised_at key change s.rows)) same) well refl (value_in_child key i b k inner at got)

  -- the node with those rows
  pub revised_answer : (key : ℕ) (change : V → V) (b new : NodeInner V) (now : Seen V) → now ≡ seen_inner b → seen_inner new ≡ seen_with (seen_inner b) (rows_of (children_of new)) → rows_of (children_of new) ≡ revised_at key change (rows_of (children_of b))
      → seen_inner new ≡ seen_with now (revised_at key change now.rows)
  revised_answer key change b new now e same rows =
      same ∙ ap (seen_with (seen_inner b)) rows ∙ sym (ap (λ s. seen_with s (revised_at key change s.rows)) e)
