-- How many rows a node of a height has.
use Rattle.mr_node.proofs.Common.{◌≡◌, ℕ, ◌-◌, ◌*◌, ◌^◌, ◌<◌, ◌≤◌, suc, List, [], ◌∷◌, length, get_or, refl, sym, ap, subst, ◌∙◌, arith, lit<, inl, inr, length-append, cases_lt, AllByRecursion, mul-le-mul_right, pow-suc, pow-le-pow_right, each-weaker, few_between, Seen, key_of_pair, key_limit, StartsWith, NodeChild, NodeInner, NodeBody, pairs_of, children_of, seen, IsNode, rows_of, IsWell, IsChild, IsLeaf, IsInner, seen_leaf, seen_inner, Leaf}
use Rattle.mr_node.specs.declared.body.Body.TheVariants.{Leaf as AsLeaf, Inner as AsInner}
use Rattle.mr_node.proofs.KeyedLemmas.{item_at, keyed_length, keyed_split}
use Rattle.mr_node.proofs.EntryListLemmas.{entries_length}

module _ {V : Type 0} where
  pub leaf_well : (leaf : Leaf V) → IsLeaf leaf → IsWell (seen_leaf leaf)
  leaf_well leaf is =
      let len = keyed_length leaf.keys leaf.values.items is.values in
      record { fits = is.values.fits; ordered = is.ordered; keys = is.keys; at_least = omega (arith, len); at_most = omega (arith, len) }

  -- the first key of a leaf
  pub least_leaf : (leaf : Leaf V) → IsLeaf leaf → 0 < length leaf.values.items → StartsWith (get_or leaf.keys 0 0) (pairs_of leaf)
  least_leaf leaf is lt =
      let some = item_at 0 leaf.values.items lt in
      subst (StartsWith (get_or leaf.keys 0 0)) (sym (keyed_split 0 some.0 leaf.keys leaf.values.items is.values some.1)) refl

  -- what is seen of a leaf by its parts, and with other rows
  abbrev seen_of : ℕ → List (ℕ × V) → Seen V
  seen_of width l = record { height = 0; width = width; rows = l }

  abbrev with_rows : (List (ℕ × V) → List (ℕ × V)) → Seen V → Seen V
  with_rows rows s = record s { rows = rows s.rows }

  -- a leaf with other rows
  pub leaf_with : (now : Seen V) (leaf new : Leaf V) (rows : List (ℕ × V) → List (ℕ × V)) → now ≡ seen_leaf leaf → length new.values.items ≡ length leaf.values.items → pairs_of new ≡ rows (pairs_of leaf) → seen_leaf new ≡ record now { rows = rows now.rows }
  leaf_with now leaf new rows e len list =
      ap (λ w. seen_of w (pairs_of new)) len ∙ ap (seen_of (length leaf.values.items)) list ∙ sym (ap (with_rows rows) e)

  each_least : (m : ℕ) (children : List (NodeChild V)) → AllByRecursion (λ k. m ≤ length k.1.node.value.rows) children → length children * m ≤ length (rows_of children)
  each_least m [] h = omega arith
  each_least m (k ∷ children) h = omega (arith, each_least m children h.1, h.0, length-append k.1.node.value.rows (rows_of children))

  each_most : (m : ℕ) (children : List (NodeChild V)) → AllByRecursion (λ k. length k.1.node.value.rows ≤ m) children → length (rows_of children) ≤ length children * m
  each_most m [] h = omega arith
  each_most m (k ∷ children) h = omega (arith, each_most m children h.1, h.0, length-append k.1.node.value.rows (rows_of children))

  child_least : (h : ℕ) (k : NodeChild V) → IsChild h k → 16 ^ suc h ≤ length k.1.node.value.rows
  child_least h k i =
      let level = subst (λ n. k.1.node.value.width * 16 ^ n ≤ length k.1.node.value.rows) i.level i.well.at_least in
      omega (arith, level, pow-suc 16 h, mul-le-mul_right (16 ^ h) i.enough)

  child_most : (h : ℕ) (k : NodeChild V) → IsChild h k → length k.1.node.value.rows ≤ 32 ^ suc h
  child_most h k i =
      let level = subst (λ n. length k.1.node.value.rows ≤ k.1.node.value.width * 32 ^ n) i.level i.well.at_most in
      omega (arith, level, pow-suc 32 h, mul-le-mul_right (32 ^ h) i.well.fits)

  pub inner_well : (b : NodeInner V) → IsInner b → IsWell (seen_inner b)
  inner_well b inner =
      let children = children_of b in
      let len = entries_length b.len b.leasts b.children inner.entries in
      let height : suc (b.height - 1) ≡ b.height = omega (arith, inner.above_leaves) in
      let least = subst (λ n. length children * 16 ^ n ≤ length (rows_of children)) height (each_least (16 ^ suc (b.height - 1)) children (each-weaker {P = IsChild (b.height - 1)} {Q = λ k. 16 ^ suc (b.height - 1) ≤ length k.1.node.value.rows} (child_least (b.height - 1)) children inner.children)) in
      let most = subst (λ n. length (rows_of children) ≤ length children * 32 ^ n) height (each_most (32 ^ suc (b.height - 1)) children (each-weaker {P = IsChild (b.height - 1)} {Q = λ k. length k.1.node.value.rows ≤ 32 ^ suc (b.height - 1)} (child_most (b.height - 1)) children inner.children)) in
      record { fits = inner.entries.fits; ordered = inner.ordered; keys = inner.keys; at_least = subst (λ n. n * 16 ^ b.height ≤ length (rows_of children)) len least; at_most = subst (λ n. length (rows_of children) ≤ n * 32 ^ b.height) len most }

  -- rows in order below the limit are few enough for a count, and for one more
  pub few_rows : (s : Seen V) → IsWell s → length s.rows ≤ key_limit
  few_rows s well = omega (arith, few_between key_of_pair 0 key_limit s.rows (each-weaker {P = λ p. p.0 < key_limit} {Q = λ p. 0 ≤ p.0} (λ p h. omega arith) s.rows well.keys) well.ordered well.keys)

  -- a node with any row or child is lower than 16
  pub low_tree : (s : Seen V) → IsWell s → 0 < s.width → s.height < 16
  low_tree s well some = elim (cases_lt s.height 16) [
    | inl lt ↦ lt
    | inr le ↦
        let power : 16 ^ 16 ≤ 16 ^ s.height = pow-le-pow_right (lit< tt) le in
        let one : 1 * 16 ^ s.height ≤ s.width * 16 ^ s.height = mul-le-mul_right (16 ^ s.height) some in
        absurd (omega (arith, power, one, well.at_least, few_rows s well))
  ]

  -- what is seen of a node meets the rules
  pub node_well : (body : NodeBody V) → IsNode body → IsWell (seen body)
  node_well (AsLeaf leaf) h = leaf_well leaf h
  node_well (AsInner b) h = inner_well b h
