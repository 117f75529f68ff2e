-- A root that gets a new one above it, or that has only one child; and a node that is joined below an inner node.
use Rattle.mr_node.proofs.Common.{◌≡◌, ℕ, ◌+◌, ◌-◌, ◌<◌, [], ◌∷◌, ◌++◌, length, take, drop, sym, ap, subst, ◌∙◌, arith, append-nil, AllByRecursion, drop_all, nil_from_length, IsOrderedBy, Seen, key_of_pair, key_limit, KeysBelow, StartsWith, AreEntries, NodeChild, NodeInner, children_of, rows_of, IsWell, IsChild, IsInner, seen_inner, IsChildNode, IsHalved, HasNewRoot, HasOneMoreChild}
use Rattle.mr_node.proofs.EntryListLemmas.{entries_length}
use Rattle.mr_node.proofs.SizeLemmas.{inner_well}

module _ {V : Type 0} where
  -- a node among the children
  pub inserted_child : (i : ℕ) (b new : NodeInner V) (k : NodeChild V) (n now again : Seen V) → children_of new ≡ take i (children_of b) ++ (k ∷ drop i (children_of b)) → k.1.node.value ≡ n → now ≡ n → again ≡ n → IsChildNode n.height n → (0 < now.width → StartsWith k.0 now.rows) → k.1.count ≡ length again.rows → HasOneMoreChild i n b new
  inserted_child i b new k n now again list e same once node first count =
      let starts : StartsWith k.0 n.rows = subst (λ s. StartsWith k.0 s.rows) same (first (omega (arith, ap (λ s. s.width) same, node.enough))) in
      record {
        child = k;
        list = list;
        same = e;
        whole = record {
          level = ap (λ s. s.height) e;
          enough = omega (arith, ap (λ s. s.width) e, node.enough);
          well = subst IsWell (sym e) node.well;
          first = subst (λ s. StartsWith k.0 s.rows) (sym e) starts;
          counted = count ∙ ap (λ s. length s.rows) (once ∙ sym e);
        };
      }

  -- a new root over two halves
  pub root_inner : (n x y : Seen V) (start mid new : NodeInner V) → IsWell n → IsHalved n x y → start.height ≡ n.height + 1 → start.len ≡ 0 → AreEntries 0 start.leasts start.children → mid.height ≡ start.height → mid.len ≡ start.len + 1 → new.height ≡ mid.height → new.len ≡ mid.len + 1 → AreEntries new.len new.leasts new.children → HasOneMoreChild 0 x start mid → HasOneMoreChild 1 y mid new → (IsInner new) × HasNewRoot n (seen_inner new)
  root_inner n x y start mid new well half height len none mid_height mid_len new_height new_len are_entries low high =
      let nil : children_of start ≡ [] = nil_from_length (children_of start) (entries_length 0 start.leasts start.children none) in
      let list : children_of new ≡ low.child ∷ (high.child ∷ []) = high.list ∙ ap (λ l. take 1 l ++ (high.child ∷ drop 1 l)) (low.list ∙ ap (λ l. low.child ∷ l) nil) in
      let rows : rows_of (children_of new) ≡ n.rows = ap rows_of list ∙ ap (λ r. low.child.1.node.value.rows ++ r) (append-nil high.child.1.node.value.rows) ∙ ap (λ s. s.rows ++ high.child.1.node.value.rows) low.same ∙ ap (λ s. x.rows ++ s.rows) high.same ∙ half.rows in
      let up : new.height ≡ n.height + 1 = new_height ∙ mid_height ∙ height in
      let two : new.len ≡ 2 = omega (arith, new_len, mid_len, len) in
      let down : n.height ≡ new.height - 1 = omega (arith, up) in
      let first : IsChild (new.height - 1) low.child = subst (λ h. IsChild h low.child) (half.low.level ∙ down) low.whole in
      let second : IsChild (new.height - 1) high.child = subst (λ h. IsChild h high.child) (half.high.level ∙ down) high.whole in
      let inner : IsInner new = record {
        above_leaves = omega (arith, up);
        some = omega (arith, two);
        entries = are_entries;
        children = subst (AllByRecursion (IsChild (new.height - 1))) (sym list) (first, (second, tt));
        ordered = subst (IsOrderedBy key_of_pair) (sym rows) well.ordered;
        keys = subst (KeysBelow key_limit) (sym rows) well.keys;
      } in
      (inner, record { rows = rows; height = up; width = two; well = inner_well new inner })

  -- the only child of an inner node
  pub only_child_left : (b : NodeInner V) (k : NodeChild V) → IsInner b → b.len ≡ 1 → children_of b ≡ k ∷ drop 1 (children_of b) → (rows_of (children_of b) ≡ k.1.node.value.rows) × IsChild (b.height - 1) k
  only_child_left b k inner one e =
      let none : drop 1 (children_of b) ≡ [] = drop_all 1 (children_of b) (omega (arith, entries_length b.len b.leasts b.children inner.entries, one)) in
      let list : children_of b ≡ k ∷ [] = e ∙ ap (λ r. k ∷ r) none in
      (ap rows_of list ∙ append-nil k.1.node.value.rows, (subst (AllByRecursion (IsChild (b.height - 1))) list inner.children).0)
