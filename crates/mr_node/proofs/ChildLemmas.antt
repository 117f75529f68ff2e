-- The children of an inner node, cut at the one to which a key belongs.
use Rattle.mr_node.proofs.Common.{◌≡◌, ℕ, ◌+◌, ◌-◌, ◌<◌, ◌≤◌, List, [], ◌∷◌, ◌++◌, length, get_or, take, drop, Option, Some, None, IfSome, refl, sym, ap, subst, ◌∙◌, arith, inl, inr, AllByRecursion, sum_by, sum_by-append, sum_by-cons, take-append-drop, drop_all, length-append, flat_map-append, cases_lt, IsOrderedBy, each-append, each-left, each-right, ordered-right, below-weaker, from-weaker, below_start, from_start, starts_left, key_of_pair, KeysBelow, KeysFrom, key_limit, StartsWith, entries, AreEntries, NodePart, NodeChild, NodeInner, children_of, rows_of, IsChild, IsChildOf, IsInner, IsChildPlace, Child}
use Rattle.mr_node.proofs.PlaceLemmas.{packed_some}
use Rattle.mr_node.proofs.EntryListLemmas.{entries_length, entries_split, entries_next, entries_rest}

module _ {V : Type 0} where
  pub rows_of-append : (a b : List (NodeChild V)) → rows_of (a ++ b) ≡ rows_of a ++ rows_of b
  rows_of-append a b = flat_map-append (λ k. k.1.node.value.rows) a b

  -- the least keys of children are keys of their rows
  least_rows : (P : ℕ → Type 0) (n : ℕ) (rows rest : List (ℕ × V)) → StartsWith n rows → AllByRecursion (λ p. P p.0) (rows ++ rest) → P n
  least_rows P n [] rest first all = absurd first
  least_rows P n (p ∷ rows) rest first all = subst P first all.0

  pub leasts_are : (P : ℕ → Type 0) (w h : ℕ) (children : List (NodeChild V)) → AllByRecursion (IsChildOf w h) children → AllByRecursion (λ p. P p.0) (rows_of children) → AllByRecursion (λ k. P k.0) children
  leasts_are P w h [] all rows = tt
  leasts_are P w h (k ∷ children) all rows = (least_rows P k.0 k.1.node.value.rows (rows_of children) all.0.first rows, leasts_are P w h children all.1 (each-right (λ p. P p.0) k.1.node.value.rows (rows_of children) rows))

  pub leasts_rise : (w h : ℕ) (children : List (NodeChild V)) → AllByRecursion (IsChildOf w h) children → IsOrderedBy key_of_pair (rows_of children) → IsOrderedBy key_of_pair children
  leasts_rise w h [] all o = tt
  leasts_rise w h (k ∷ children) all o = (
    leasts_are (λ n. k.0 < n) w h children all.1 (above k.0 k.1.node.value.rows (rows_of children) all.0.first o),
    leasts_rise w h children all.1 (ordered-right key_of_pair k.1.node.value.rows (rows_of children) o),
  )
    where
      above : (n : ℕ) (rows rest : List (ℕ × V)) → StartsWith n rows → IsOrderedBy key_of_pair (rows ++ rest) → AllByRecursion (λ p. n < p.0) rest
      above n [] rest first o = absurd first
      above n (p ∷ rows) rest first o = subst (λ m. AllByRecursion (λ q. m < q.0) rest) first (each-right (λ q. p.0 < q.0) rows rest o.0)

  -- children cut round one of them
  pub record IsCutAt (key h i : ℕ) (children : List (NodeChild V)) (k : NodeChild V) : Type 0 where
    pub list : children ≡ take i children ++ (k ∷ drop (i + 1) children)
    pub child : IsChild h k
    pub before : AllByRecursion (IsChild h) (take i children)
    pub after : AllByRecursion (IsChild h) (drop (i + 1) children)
    pub below : KeysBelow key (rows_of (take i children))
    pub above : KeysFrom (key + 1) (rows_of (drop (i + 1) children))
    pub rows : rows_of children ≡ rows_of (take i children) ++ (k.1.node.value.rows ++ rows_of (drop (i + 1) children))

  -- the child in a place, by its least key
  abbrev pub child_at : NodeInner V → ℕ → NodePart V → NodeChild V
  child_at b i k = (get_or b.leasts i 0, k)

  above_next : (key h : ℕ) (k : NodeChild V) (children : List (NodeChild V)) → IsChild h k → key < k.0 → IsOrderedBy key_of_pair (rows_of (k ∷ children)) → KeysFrom (key + 1) (rows_of (k ∷ children))
  above_next key h k children i lt o =
      from-weaker key_of_pair (key + 1) k.0 (rows_of (k ∷ children)) (omega arith) (from_start key_of_pair k.0 (rows_of (k ∷ children)) (starts_left key_of_pair k.0 k.1.node.value.rows (rows_of children) i.first) o)

  below_child : (key h i n : ℕ) (leasts : List ℕ) (k : NodePart V) (a : List (NodeChild V)) (rest : List (ℕ × V)) → (i ≡ 0 → a ≡ []) → IsChildPlace key i n leasts → IsChild h (get_or leasts i 0, k) → IsOrderedBy key_of_pair (rows_of a ++ (k.node.value.rows ++ rest)) → KeysBelow key (rows_of a)
  below_child key h i n leasts k a rest e at child o = elim (cases_lt 0 i) [
    | inl some ↦ below-weaker key_of_pair (get_or leasts i 0) key (rows_of a) (at.here some) (below_start key_of_pair (get_or leasts i 0) (rows_of a) k.node.value.rows rest child.first o)
    | inr none ↦ subst (λ x. KeysBelow key (rows_of x)) (sym (e (omega (arith, none)))) tt
  ]

  above_child : (key i : ℕ) (b : NodeInner V) → IsInner b → IsChildPlace key i b.len b.leasts → AllByRecursion (IsChild (b.height - 1)) (drop (i + 1) (children_of b)) → IsOrderedBy key_of_pair (rows_of (drop (i + 1) (children_of b))) → KeysFrom (key + 1) (rows_of (drop (i + 1) (children_of b)))
  above_child key i b inner at after o = elim (cases_lt (i + 1) b.len) [
    | inl lt ↦
        let next = packed_some b.len (i + 1) b.children inner.entries.packed lt in
        let more = entries_rest b.len (i + 1) next.0 b.leasts b.children inner.entries next.1 in
        let child = (subst (AllByRecursion (IsChild (b.height - 1))) more after).0 in
        subst (λ x. KeysFrom (key + 1) (rows_of x)) (sym more) (above_next key (b.height - 1) (child_at b (i + 1) next.0) (drop (i + 1 + 1) (children_of b)) child (at.next lt) (subst (λ x. IsOrderedBy key_of_pair (rows_of x)) more o))
    | inr le ↦ subst (λ x. KeysFrom (key + 1) (rows_of x)) (sym (drop_all (i + 1) (children_of b) (omega (arith, entries_length b.len b.leasts b.children inner.entries, le)))) tt
  ]

  pub cut_child : (key i : ℕ) (b : NodeInner V) (k : NodePart V) → IsInner b → IsChildPlace key i b.len b.leasts → get_or b.children i None ≡ Some k → IsCutAt key (b.height - 1) i (children_of b) (child_at b i k)
  cut_child key i b k inner at got =
      let children = children_of b in
      let x = child_at b i k in
      let split = entries_split b.len i k b.leasts b.children inner.entries got in
      let all = subst (AllByRecursion (IsChild (b.height - 1))) split inner.children in
      let back = each-right (IsChild (b.height - 1)) (take i children) (x ∷ drop (i + 1) children) all in
      let rows = ap rows_of split ∙ rows_of-append (take i children) (x ∷ drop (i + 1) children) in
      let o = subst (IsOrderedBy key_of_pair) rows inner.ordered in
      record {
        list = split;
        child = back.0;
        before = each-left (IsChild (b.height - 1)) (take i children) (x ∷ drop (i + 1) children) all;
        after = back.1;
        below = below_child key (b.height - 1) i b.len b.leasts k (take i children) (rows_of (drop (i + 1) children)) (λ e. ap (λ j. take j children) e) at back.0 o;
        above = above_child key i b inner at back.1 (ordered-right key_of_pair k.node.value.rows (rows_of (drop (i + 1) children)) (ordered-right key_of_pair (rows_of (take i children)) (k.node.value.rows ++ rows_of (drop (i + 1) children)) o));
        rows = rows;
      }

  -- an inner node with other children of the same kind
  pub inner_of : (b new : NodeInner V) (a d : List (NodeChild V)) (k : NodeChild V) (rows : List (ℕ × V)) → 0 < b.height → new.height ≡ b.height → 0 < new.len → AreEntries new.len new.leasts new.children → children_of new ≡ a ++ (k ∷ d) → AllByRecursion (IsChild (b.height - 1)) a → IsChild (b.height - 1) k → AllByRecursion (IsChild (b.height - 1)) d → rows_of (children_of new) ≡ rows → IsOrderedBy key_of_pair rows → KeysBelow key_limit rows → IsInner new
  inner_of b new a d k rows above_leaves height some are_entries list before child after e ordered keys = record {
    above_leaves = omega (arith, height, above_leaves);
    some = some;
    entries = are_entries;
    children = subst (λ h. AllByRecursion (IsChild (h - 1)) (children_of new)) (sym height) (subst (AllByRecursion (IsChild (b.height - 1))) (sym list) (each-append (IsChild (b.height - 1)) a (k ∷ d) before (child, after)));
    ordered = subst (IsOrderedBy key_of_pair) (sym e) ordered;
    keys = subst (KeysBelow key_limit) (sym e) keys;
  }

  -- the first of the least keys is that of all rows
  pub least_inner : (b : NodeInner V) → IsInner b → StartsWith (get_or b.leasts 0 0) (rows_of (children_of b))
  least_inner b inner =
      let some = packed_some b.len 0 b.children inner.entries.packed inner.some in
      let list = entries_split b.len 0 some.0 b.leasts b.children inner.entries some.1 in
      let all = subst (AllByRecursion (IsChild (b.height - 1))) list inner.children in
      subst (λ l. StartsWith (get_or b.leasts 0 0) (rows_of l)) (sym list) (starts_left key_of_pair (get_or b.leasts 0 0) some.0.node.value.rows (rows_of (drop (0 + 1) (children_of b))) all.0.first)

  -- the counts of children are the lengths of their rows
  pub counts_are : (w h : ℕ) (children : List (NodeChild V)) → AllByRecursion (IsChildOf w h) children → sum_by (λ k. k.1.count) children ≡ length (rows_of children)
  counts_are w h [] all = refl
  counts_are w h (k ∷ children) all = omega (arith, sum_by-cons (λ k. k.1.count) k children, counts_are w h children all.1, all.0.counted, length-append k.1.node.value.rows (rows_of children))

module _ {B : Type 0} where
  pub counts_more : (n i m : ℕ) (ks : List ℕ) (ps : List (Option (Child B))) → AreEntries n ks ps → i < n → IfSome (get_or ps i None) (λ k. m ≡ k.count) → sum_by (λ k. k.1.count) (take i (entries ks ps)) + m ≡ sum_by (λ k. k.1.count) (take (i + 1) (entries ks ps))
  counts_more n i m ks ps are_entries lt count =
      let here = packed_some n i ps are_entries.packed lt in
      let same : m ≡ here.0.count = subst (λ o. IfSome o (λ k. m ≡ k.count)) here.1 count in
      let more = entries_next n i here.0 ks ps are_entries here.1 in
      omega (arith, same, ap (sum_by (λ k. k.1.count)) more, sum_by-append (λ k. k.1.count) (take i (entries ks ps)) ((get_or ks i 0, here.0) ∷ []))

  pub counts_within : (i : ℕ) (children : List (ℕ × Child B)) → sum_by (λ k. k.1.count) (take i children) ≤ sum_by (λ k. k.1.count) children
  counts_within i children = omega (arith, ap (sum_by (λ k. k.1.count)) (take-append-drop i children), sum_by-append (λ k. k.1.count) (take i children) (drop i children))
