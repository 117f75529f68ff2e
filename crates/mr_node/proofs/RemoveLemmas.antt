-- A row taken out of a child.
use Rattle.mr_node.proofs.Common.{◌≡◌, ℕ, ◌+◌, ◌-◌, ◌<◌, ◌≤◌, List, [], ◌∷◌, ◌++◌, length, get_or, take, drop, Option, Some, None, IfSome, cond, eqb, is_some, sym, ap, subst, ◌∙◌, arith, take_at, inl, inr, AllByRecursion, cases_lt, append_assoc, drop_at, get_or-set_same, length-append, length-take-le, IsOrderedBy, without_row, each-append, by_test, each-weaker, each-without_row, ordered-without_row, without_row-part, Seen, key_of_pair, key_limit, value_at, KeysBelow, StartsWith, NodePart, NodeChild, NodeInner, children_of, rows_of, IsWell, IsChild, IsChildOf, IsInner, seen_inner, IsShrunk, IsLooseAt, IsWholeAgain, after_steps}
use Rattle.mr_node.proofs.PlaceLemmas.{packed_fits}
use Rattle.mr_node.proofs.EntryListLemmas.{entries_length, entries_both}
use Rattle.mr_node.proofs.ChildLemmas.{IsCutAt, rows_of-append, child_at}
use Rattle.mr_node.proofs.SizeLemmas.{inner_well}
use Rattle.mr_node.proofs.NodeLemmas.{inner_set}

module _ {V : Type 0} where
  -- a removal takes out one row, or none where the key isn't there
  count_without : (key : ℕ) (rows : List (ℕ × V)) → length (without_row key_of_pair key rows) + cond (is_some (value_at key rows)) 1 0 ≡ length rows
  count_without key [] = omega arith
  count_without key (p ∷ rows) =
      by_test (eqb p.0 key) (λ t. rw t (omega arith)) (λ t. rw t (omega (arith, count_without key rows)))

  pub count_gone : (key m n : ℕ) (o : Option V) (rows new : List (ℕ × V)) → new ≡ without_row key_of_pair key rows → m ≡ length rows → o ≡ value_at key rows → n ≡ m - cond (is_some o) 1 0 → n ≡ length new
  count_gone key m n o rows new e em eo en = omega (arith, count_without key rows, ap length e, em, ap {B = ℕ} (λ x. cond (is_some x) 1 0) eo, en)

  removed_rows : (key h i : ℕ) (children new : List (NodeChild V)) (k x : NodeChild V) → IsCutAt key h i children k → new ≡ take i children ++ (x ∷ drop (i + 1) children) → x.1.node.value.rows ≡ without_row key_of_pair key k.1.node.value.rows → rows_of new ≡ without_row key_of_pair key (rows_of children)
  removed_rows key h i children new k x cut list e =
      let before = rows_of (take i children) in
      let after = rows_of (drop (i + 1) children) in
      ap rows_of list ∙ rows_of-append (take i children) (x ∷ drop (i + 1) children) ∙ ap (λ r. before ++ (r ++ after)) e
      ∙ sym (ap (without_row key_of_pair key) cut.rows ∙ without_row-part key_of_pair key before k.1.node.value.rows after cut.below cut.above)

  loosen : (h : ℕ) (children : List (NodeChild V)) → AllByRecursion (IsChild h) children → AllByRecursion (IsChildOf 15 h) children
  loosen h children = each-weaker {P = IsChild h} {Q = IsChildOf 15 h} (λ k i. record { level = i.level; enough = omega (arith, i.enough); well = i.well; first = i.first; counted = i.counted }) children

  loose_child : (h key least : ℕ) (k : NodeChild V) (x : NodePart V) (n : Seen V) → IsChild h k → IsShrunk key k.1.node.value n → x.node.value ≡ n → x.count ≡ length n.rows → (0 < n.width → StartsWith least n.rows) → IsChildOf 15 h (least, x)
  loose_child h key least k x n child shrunk e count first = record {
    level = ap (λ s. s.height) e ∙ shrunk.level ∙ child.level;
    enough = omega (arith, ap (λ s. s.width) e, shrunk.width, child.enough);
    well = subst IsWell (sym e) shrunk.well;
    first = subst (λ s. StartsWith least s.rows) (sym e) (first (omega (arith, shrunk.width, child.enough)));
    counted = count ∙ ap (λ s. length s.rows) (sym e);
  }

  -- an inner node after a removal in one of its children
  pub record IsRemovedIn (key i : ℕ) (b new : NodeInner V) (k : NodePart V) : Type 0 where
    pub loose : IsLooseAt i new
    pub rows : rows_of (children_of new) ≡ without_row key_of_pair key (rows_of (children_of b))
    pub got : get_or new.children i None ≡ Some k

  pub removed_in : (key i least : ℕ) (b : NodeInner V) (k x : NodePart V) (n : Seen V) → IsInner b → IsCutAt key (b.height - 1) i (children_of b) (child_at b i k) → i < b.len → IsShrunk key k.node.value n → x.node.value ≡ n → (0 < n.width → StartsWith least n.rows) → x.count ≡ length n.rows → IsRemovedIn key i b (inner_set b i least x) x
  removed_in key i least b k x n inner cut lt shrunk e first count =
      let children = children_of b in
      let h = b.height - 1 in
      let new = inner_set b i least x in
      let all = entries_both b.len i least x b.leasts b.children inner.entries lt in
      let rows = removed_rows key h i children (children_of new) (child_at b i k) (least, x) cut all.1 (ap (λ s. s.rows) e ∙ shrunk.rows) in
      let len = length-take-le i children (omega (arith, entries_length b.len b.leasts b.children inner.entries, lt)) in
      let front : take i (children_of new) ≡ take i children = ap (take i) all.1 ∙ take_at (take i children) ((least, x) ∷ drop (i + 1) children) i len in
      let back : drop (i + 1) (children_of new) ≡ drop (i + 1) children = ap (drop (i + 1)) (all.1 ∙ sym (append_assoc (take i children) ((least, x) ∷ []) (drop (i + 1) children))) ∙ drop_at (take i children ++ ((least, x) ∷ [])) (drop (i + 1) children) (i + 1) (omega (arith, length-append (take i children) ((least, x) ∷ []), len)) in
      record {
        loose = record {
          inner = record {
            above_leaves = inner.above_leaves;
            some = inner.some;
            entries = all.0;
            children = subst (AllByRecursion (IsChildOf 15 h)) (sym all.1) (each-append (IsChildOf 15 h) (take i children) ((least, x) ∷ drop (i + 1) children) (loosen h (take i children) cut.before) (loose_child h key least (child_at b i k) x n cut.child shrunk e count first, loosen h (drop (i + 1) children) cut.after));
            ordered = subst (IsOrderedBy key_of_pair) (sym rows) (ordered-without_row key_of_pair key (rows_of children) inner.ordered);
            keys = subst (KeysBelow key_limit) (sym rows) (each-without_row key_of_pair (λ p. p.0 < key_limit) key (rows_of children) inner.keys);
          };
          beside = record { before = subst (AllByRecursion (IsChild h)) (sym front) cut.before; after = subst (AllByRecursion (IsChild h)) (sym back) cut.after };
        };
        rows = rows;
        got = get_or-set_same b.children i (Some x) None (omega (arith, packed_fits b.len b.children inner.entries.packed, lt));
      }

  pub shrunk_inner : (key i : ℕ) (b mid new : NodeInner V) (x : NodePart V) (now : Seen V) → now ≡ seen_inner b → IsRemovedIn key i b mid x → mid.height ≡ b.height → mid.len ≡ b.len → IsWholeAgain 1 mid new → IsShrunk key now (seen_inner new)
  shrunk_inner key i b mid new x now e removed height len rebalanced =
      subst (λ s. IsShrunk key s (seen_inner new)) (sym e) (record {
        rows = rebalanced.rows ∙ removed.rows;
        level = rebalanced.height ∙ height;
        width = omega (arith, rebalanced.len, len);
        well = inner_well new rebalanced.whole;
      })

  -- rebalancing takes four steps at most
  pub rebalance_most : (o : Option (NodePart V)) (k : NodePart V) (m n : ℕ) → o ≡ Some k → IfSome o (λ j. j.node.value.width < 16 → n ≡ after_steps 4 m) → IfSome o (λ j. 16 ≤ j.node.value.width → n ≡ m) → (after_steps 0 m ≤ n) × (n ≤ m + 4)
  rebalance_most o k m n e thin enough =
      elim (cases_lt k.node.value.width 16) [
        | inl lt ↦ let four = subst (λ x. IfSome x (λ j. j.node.value.width < 16 → n ≡ after_steps 4 m)) e thin lt in (omega (arith, four), omega (arith, four))
        | inr le ↦ let same = subst (λ x. IfSome x (λ j. 16 ≤ j.node.value.width → n ≡ m)) e enough le in (omega (arith, same), omega (arith, same))
      ]
