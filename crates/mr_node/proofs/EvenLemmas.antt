-- Two neighbours that share their rows anew.
use Rattle.mr_node.proofs.Common.{◌≡◌, ℕ, ◌+◌, ◌-◌, ◌<◌, List, [], ◌++◌, length, refl, sym, ap, subst, ◌∙◌, arith, append-nil, length-append, Bool, true, false, AllByRecursion, nil_from_length, IsOrderedBy, each-append, each-left, each-right, ordered-left, ordered-right, Leaf, Seen, key_of_pair, key_limit, AreEntries, AreKeyed, NodeBody, NodeInner, IsNode, pairs_of, children_of, rows_of, IsWell, IsLeaf, IsChild, IsInner, seen_leaf, seen_inner, AreEvenWidths, IsShare, IsChildNode, AreEvened, IsHalved}
use Rattle.mr_node.specs.declared.body.Body.TheVariants.{Inner as AsInner}
use Rattle.mr_node.proofs.KeyedLemmas.{keyed_length}
use Rattle.mr_node.proofs.EntryListLemmas.{entries_length}
use Rattle.mr_node.proofs.ChildLemmas.{rows_of-append}
use Rattle.mr_node.proofs.ShareLemmas.{appended_sum}
use Rattle.mr_node.proofs.SizeLemmas.{leaf_well, inner_well}

-- the same of widths that are equal
even_by : (r : Bool) (c d m n : ℕ) → c ≡ m → d ≡ n → AreEvenWidths r c d → AreEvenWidths r m n
even_by r c d m n e f even = subst (AreEvenWidths r m) f (subst (λ k. AreEvenWidths r k d) e even)

even_left : (r : Bool) (c d : ℕ) → 0 < c + d → AreEvenWidths r c d → 0 < c
even_left true c d some even = omega (arith, some, even.1)
even_left false c d some even = omega (arith, even.0)

even_right : (r : Bool) (c d : ℕ) → AreEvenWidths r c d → r ≡ false → 0 < d
even_right true c d even e = let wrong : ⊥ = cc in absurd wrong
even_right false c d even e = omega (arith, even.2)

module _ {X : Type 0} where
  -- the other half
  rest_length : (a b c d : List X) → c ++ d ≡ a ++ b → length a ≡ 32 → b ≡ [] → length c ≡ 16 → length d ≡ 16
  rest_length a b c d e la nb lc = omega (arith, ap length e, length-append c d, length-append a b, la, ap length nb, lc)

  pub no_more : (a b c d : List X) → c ++ d ≡ a ++ b → b ≡ [] → c ++ d ≡ a
  no_more a b c d e nb = e ∙ ap (λ r. a ++ r) nb ∙ append-nil a

module _ {V : Type 0} where
  abbrev pub blank : Seen V
  blank = record { height = 0; width = 0; rows = [] }

  abbrev seen_wide : List (ℕ × V) → ℕ → Seen V
  seen_wide rows n = record { height = 0; width = n; rows = rows }

  -- a leaf without entries
  pub blank_leaf : (leaf : Leaf V) → IsLeaf leaf → leaf.values.items ≡ [] → seen_leaf leaf ≡ blank
  blank_leaf leaf is none =
      let long : length leaf.values.items ≡ 0 = ap length none in
      let rows : pairs_of leaf ≡ [] = nil_from_length (pairs_of leaf) (keyed_length leaf.keys leaf.values.items is.values ∙ long) in
      ap (seen_wide (pairs_of leaf)) long ∙ ap (λ r. seen_wide r 0) rows

  -- one has all rows, or both are half full
  evened : (r : Bool) (a b x y z : Seen V) → x.width + y.width ≡ a.width + b.width → x.rows ++ y.rows ≡ a.rows ++ b.rows → x.height ≡ a.height → y.height ≡ a.height → IsWell x → (0 < y.width → IsWell y) → (y.width ≡ 0 → y.rows ≡ []) → AreEvenWidths r x.width y.width → (r ≡ false → z ≡ y) → AreEvened r a b x z
  evened true a b x y z wide rows low high well more none even same = record {
    level = low;
    width = omega (arith, wide, even.1);
    well = well;
    rows = sym (append-nil x.rows) ∙ ap (λ r. x.rows ++ r) (sym (none even.1)) ∙ rows;
  }
  evened false a b x y z wide rows low high well more none even same = record {
    low = record { level = low; enough = even.0; well = well };
    high = subst (IsChildNode a.height) (sym (same refl)) (record { level = high; enough = even.2; well = more (omega (arith, even.2)) });
    width = ap (λ s. x.width + s.width) (same refl) ∙ wide;
    rows = ap (λ s. x.rows ++ s.rows) (same refl) ∙ rows;
    many = omega (arith, wide, even.4);
  }

  halved : (a x y : Seen V) → x.rows ++ y.rows ≡ a.rows → x.height ≡ a.height → y.height ≡ a.height → IsWell x → IsWell y → x.width ≡ 16 → y.width ≡ 16 → IsHalved a x y
  halved a x y rows low high left right lx ly = record {
    low = record { level = low; enough = omega (arith, lx); well = left };
    high = record { level = high; enough = omega (arith, ly); well = right };
    rows = rows;
    low_width = lx;
    high_width = ly;
  }

  -- a share of the widths of two nodes is one of their entries
  pub share_seen : (a b m n : Seen V) (c d low : ℕ) → IsShare (m.width + n.width) low → a ≡ m → b ≡ n → c ≡ a.width → d ≡ b.width → IsShare (c + d) low
  share_seen a b m n c d low share em en ec ed =
      let same : c + d ≡ m.width + n.width = omega (arith, ec, ed, ap (λ s. s.width) em, ap (λ s. s.width) en) in
      subst (λ k. IsShare k low) (sym same) share

  -- two leaves whose rows rise one after another
  pub record AreLeaves (a b : Leaf V) : Type 0 where
    pub left : IsLeaf a
    pub right : IsLeaf b
    pub ordered : IsOrderedBy key_of_pair (pairs_of a ++ pairs_of b)

  -- their entries shared anew
  pub record AreMovedLeaves (a b c d : Leaf V) : Type 0 where
    pub left : AreKeyed c.keys c.values.items
    pub right : AreKeyed d.keys d.values.items
    pub list : pairs_of c ++ pairs_of d ≡ pairs_of a ++ pairs_of b

  pub leaves_of : (a b : Leaf V) (m n : Seen V) → IsLeaf a → IsLeaf b → seen_leaf a ≡ m → seen_leaf b ≡ n → IsOrderedBy key_of_pair (m.rows ++ n.rows) → AreLeaves a b
  leaves_of a b m n la lb em en o = record {
    left = la;
    right = lb;
    ordered = subst (λ s. IsOrderedBy key_of_pair (pairs_of a ++ s.rows)) (sym en) (subst (λ s. IsOrderedBy key_of_pair (s.rows ++ n.rows)) (sym em) o);
  }

  shared_keys : (a b : Leaf V) → AreLeaves a b → AllByRecursion (λ p. p.0 < key_limit) (pairs_of a ++ pairs_of b)
  shared_keys a b two = each-append (λ p. p.0 < key_limit) (pairs_of a) (pairs_of b) two.left.keys two.right.keys

  pub left_leaf : (a b c d : Leaf V) → AreLeaves a b → AreMovedLeaves a b c d → IsLeaf c
  left_leaf a b c d two m = record {
    values = m.left;
    ordered = ordered-left key_of_pair (pairs_of c) (pairs_of d) (subst (IsOrderedBy key_of_pair) (sym m.list) two.ordered);
    keys = each-left (λ p. p.0 < key_limit) (pairs_of c) (pairs_of d) (subst (AllByRecursion (λ p. p.0 < key_limit)) (sym m.list) (shared_keys a b two));
  }

  pub right_leaf : (a b c d : Leaf V) → AreLeaves a b → AreMovedLeaves a b c d → IsLeaf d
  right_leaf a b c d two m = record {
    values = m.right;
    ordered = ordered-right key_of_pair (pairs_of c) (pairs_of d) (subst (IsOrderedBy key_of_pair) (sym m.list) two.ordered);
    keys = each-right (λ p. p.0 < key_limit) (pairs_of c) (pairs_of d) (subst (AllByRecursion (λ p. p.0 < key_limit)) (sym m.list) (shared_keys a b two));
  }

  pub leaf_length : (leaf : Leaf V) → AreKeyed leaf.keys leaf.values.items → length (pairs_of leaf) ≡ length leaf.values.items
  leaf_length leaf values = keyed_length leaf.keys leaf.values.items values

  pub evened_leaves : (r : Bool) (a b c d : Leaf V) → AreLeaves a b → AreMovedLeaves a b c d → AreEvenWidths r (length (pairs_of c)) (length (pairs_of d)) → AreEvened r (seen_leaf a) (seen_leaf b) (seen_leaf c) (seen_leaf d)
  evened_leaves r a b c d two m even =
      let left = leaf_length c m.left in
      let right = leaf_length d m.right in
      let wide : length c.values.items + length d.values.items ≡ length a.values.items + length b.values.items = omega (arith, appended_sum (pairs_of c) (pairs_of d) (pairs_of a) (pairs_of b) m.list, left, right, leaf_length a two.left.values, leaf_length b two.right.values) in
      evened r (seen_leaf a) (seen_leaf b) (seen_leaf c) (seen_leaf d) (seen_leaf d) wide m.list refl refl (leaf_well c (left_leaf a b c d two m)) (λ h. leaf_well d (right_leaf a b c d two m)) (λ h. nil_from_length (pairs_of d) (right ∙ h)) (even_by r _ _ _ _ left right even) (λ h. refl)

  pub alone : (rows : List (ℕ × V)) → IsOrderedBy key_of_pair rows → IsOrderedBy key_of_pair (rows ++ [])
  alone rows = subst (IsOrderedBy key_of_pair) (sym (append-nil rows))

  pub halved_leaf : (a b c d : Leaf V) → IsLeaf a → IsLeaf b → pairs_of b ≡ [] → AreMovedLeaves a b c d → length a.values.items ≡ 32 → length (pairs_of c) ≡ 16 → (IsLeaf c) × (IsLeaf d) × IsHalved (seen_leaf a) (seen_leaf c) (seen_leaf d)
  halved_leaf a b c d whole blank nb m la lc =
      let two : AreLeaves a b = record { left = whole; right = blank; ordered = subst (λ r. IsOrderedBy key_of_pair (pairs_of a ++ r)) (sym nb) (alone (pairs_of a) whole.ordered) } in
      let low = left_leaf a b c d two m in
      let high = right_leaf a b c d two m in
      let ld = rest_length (pairs_of a) (pairs_of b) (pairs_of c) (pairs_of d) m.list (leaf_length a whole.values ∙ la) nb lc in
      (low, high, halved (seen_leaf a) (seen_leaf c) (seen_leaf d) (no_more (pairs_of a) (pairs_of b) (pairs_of c) (pairs_of d) m.list nb) refl refl (leaf_well c low) (leaf_well d high) (sym (leaf_length c m.left) ∙ lc) (sym (leaf_length d m.right) ∙ ld))

  -- two inner nodes whose rows rise one after another: the second may be empty
  pub record AreInners (a b : NodeInner V) : Type 0 where
    pub above_leaves : 0 < a.height
    pub level : b.height ≡ a.height
    pub children : AllByRecursion (IsChild (a.height - 1)) (children_of a ++ children_of b)
    pub ordered : IsOrderedBy key_of_pair (rows_of (children_of a ++ children_of b))
    pub keys : AllByRecursion (λ p. p.0 < key_limit) (rows_of (children_of a ++ children_of b))

  -- their children shared anew
  pub record AreMovedChildren (a b c d : NodeInner V) : Type 0 where
    pub left : AreEntries c.len c.leasts c.children
    pub right : AreEntries d.len d.leasts d.children
    pub list : children_of c ++ children_of d ≡ children_of a ++ children_of b
    pub left_height : c.height ≡ a.height
    pub right_height : d.height ≡ b.height

  two_inners : (a b : NodeInner V) → IsInner a → IsInner b → a.height ≡ b.height → IsOrderedBy key_of_pair (rows_of (children_of a) ++ rows_of (children_of b)) → AreInners a b
  two_inners a b ba bb level o =
      let rows = sym (rows_of-append (children_of a) (children_of b)) in
      record {
        above_leaves = ba.above_leaves;
        level = sym level;
        children = each-append (IsChild (a.height - 1)) (children_of a) (children_of b) ba.children (subst (λ h. AllByRecursion (IsChild (h - 1)) (children_of b)) (sym level) bb.children);
        ordered = subst (IsOrderedBy key_of_pair) rows o;
        keys = subst (AllByRecursion (λ p. p.0 < key_limit)) rows (each-append (λ p. p.0 < key_limit) (rows_of (children_of a)) (rows_of (children_of b)) ba.keys bb.keys);
      }

  pub inners_of : (a b : NodeInner V) (m n : Seen V) → IsInner a → IsInner b → seen_inner a ≡ m → seen_inner b ≡ n → m.height ≡ n.height → IsOrderedBy key_of_pair (m.rows ++ n.rows) → AreInners a b
  inners_of a b m n ba bb em en level o =
      two_inners a b ba bb (ap (λ s. s.height) em ∙ level ∙ sym (ap (λ s. s.height) en))
      (subst (λ s. IsOrderedBy key_of_pair (rows_of (children_of a) ++ s.rows)) (sym en) (subst (λ s. IsOrderedBy key_of_pair (s.rows ++ n.rows)) (sym em) o))

  shared_rows : (a b c d : NodeInner V) → AreMovedChildren a b c d → rows_of (children_of a ++ children_of b) ≡ rows_of (children_of c) ++ rows_of (children_of d)
  shared_rows a b c d m = ap rows_of (sym m.list) ∙ rows_of-append (children_of c) (children_of d)

  left_inner : (a b c d : NodeInner V) → AreInners a b → AreMovedChildren a b c d → 0 < c.len → IsInner c
  left_inner a b c d two m some =
      let rows = shared_rows a b c d m in
      record {
        above_leaves = omega (arith, m.left_height, two.above_leaves);
        some = some;
        entries = m.left;
        children = subst (λ h. AllByRecursion (IsChild (h - 1)) (children_of c)) (sym m.left_height) (each-left (IsChild (a.height - 1)) (children_of c) (children_of d) (subst (AllByRecursion (IsChild (a.height - 1))) (sym m.list) two.children));
        ordered = ordered-left key_of_pair (rows_of (children_of c)) (rows_of (children_of d)) (subst (IsOrderedBy key_of_pair) rows two.ordered);
        keys = each-left (λ p. p.0 < key_limit) (rows_of (children_of c)) (rows_of (children_of d)) (subst (AllByRecursion (λ p. p.0 < key_limit)) rows two.keys);
      }

  right_inner : (a b c d : NodeInner V) → AreInners a b → AreMovedChildren a b c d → 0 < d.len → IsInner d
  right_inner a b c d two m some =
      let rows = shared_rows a b c d m in
      let height : d.height ≡ a.height = m.right_height ∙ two.level in
      record {
        above_leaves = omega (arith, height, two.above_leaves);
        some = some;
        entries = m.right;
        children = subst (λ h. AllByRecursion (IsChild (h - 1)) (children_of d)) (sym height) (each-right (IsChild (a.height - 1)) (children_of c) (children_of d) (subst (AllByRecursion (IsChild (a.height - 1))) (sym m.list) two.children));
        ordered = ordered-right key_of_pair (rows_of (children_of c)) (rows_of (children_of d)) (subst (IsOrderedBy key_of_pair) rows two.ordered);
        keys = each-right (λ p. p.0 < key_limit) (rows_of (children_of c)) (rows_of (children_of d)) (subst (AllByRecursion (λ p. p.0 < key_limit)) rows two.keys);
      }

  pub inner_length : (b : NodeInner V) → AreEntries b.len b.leasts b.children → length (children_of b) ≡ b.len
  inner_length b are_entries = entries_length b.len b.leasts b.children are_entries

  pub evened_inners : (r : Bool) (a b c d : NodeInner V) (z : Seen V) → IsInner a → IsInner b → AreInners a b → AreMovedChildren a b c d → AreEvenWidths r (length (children_of c)) (length (children_of d)) → (r ≡ false → z ≡ seen_inner d) → (IsInner c) × (r ≡ false → IsInner d) × AreEvened r (seen_inner a) (seen_inner b) (seen_inner c) z
  evened_inners r a b c d z first second two m even same =
      let left = inner_length c m.left in
      let right = inner_length d m.right in
      let wide : c.len + d.len ≡ a.len + b.len = omega (arith, appended_sum (children_of c) (children_of d) (children_of a) (children_of b) m.list, left, right, inner_length a first.entries, inner_length b second.entries) in
      let widths = even_by r _ _ _ _ left right even in
      let low = left_inner a b c d two m (even_left r c.len d.len (omega (arith, wide, first.some)) widths) in (
        low,
        λ e. right_inner a b c d two m (even_right r c.len d.len widths e),
        evened r (seen_inner a) (seen_inner b) (seen_inner c) (seen_inner d) z wide (sym (shared_rows a b c d m) ∙ rows_of-append (children_of a) (children_of b)) m.left_height (m.right_height ∙ two.level) (inner_well c low) (λ some. inner_well d (right_inner a b c d two m some)) (λ none. ap rows_of (nil_from_length (children_of d) (right ∙ none))) widths same,
      )

  pub halved_inner : (a b c d : NodeInner V) → IsInner a → AreEntries 0 b.leasts b.children → b.height ≡ a.height → AreMovedChildren a b c d → a.len ≡ 32 → length (children_of c) ≡ 16 → (IsInner c) × (IsInner d) × IsHalved (seen_inner a) (seen_inner c) (seen_inner d)
  halved_inner a b c d whole are_entries level m la lc =
      let none : children_of b ≡ [] = nil_from_length (children_of b) (entries_length 0 b.leasts b.children are_entries) in
      let same : children_of a ++ children_of b ≡ children_of a = ap (λ l. children_of a ++ l) none ∙ append-nil (children_of a) in
      let two : AreInners a b = record {
        above_leaves = whole.above_leaves;
        level = level;
        children = subst (AllByRecursion (IsChild (a.height - 1))) (sym same) whole.children;
        ordered = subst (λ l. IsOrderedBy key_of_pair (rows_of l)) (sym same) whole.ordered;
        keys = subst (λ l. AllByRecursion (λ p. p.0 < key_limit) (rows_of l)) (sym same) whole.keys;
      } in
      let ld = rest_length (children_of a) (children_of b) (children_of c) (children_of d) m.list (inner_length a whole.entries ∙ la) none lc in
      let wc : c.len ≡ 16 = sym (inner_length c m.left) ∙ lc in
      let wd : d.len ≡ 16 = sym (inner_length d m.right) ∙ ld in
      let low = left_inner a b c d two m (omega (arith, wc)) in
      let high = right_inner a b c d two m (omega (arith, wd)) in
      (low, high, halved (seen_inner a) (seen_inner c) (seen_inner d) (sym (shared_rows a b c d m) ∙ ap rows_of same) m.left_height (m.right_height ∙ level) (inner_well c low) (inner_well d high) wc wd)

  -- the same of the nodes themselves
  pub halved_by : (a x y n s t : Seen V) → IsHalved a x y → a ≡ n → s ≡ x → t ≡ y → IsHalved n s t
  halved_by a x y n s t half en es et = subst (λ m. IsHalved m s t) en (subst (λ m. IsHalved a m t) (sym es) (subst (IsHalved a x) (sym et) half))

  pub evened_by : (r q : Bool) (a b x y m n s t : Seen V) → AreEvened r a b x y → q ≡ r → a ≡ m → b ≡ n → s ≡ x → t ≡ y → AreEvened q m n s t
  evened_by r q a b x y m n s t even eq em en es et =
      subst (λ z. AreEvened z m n s t) (sym eq) (subst (λ z. AreEvened r z n s t) em (subst (λ z. AreEvened r a z s t) en (subst (λ z. AreEvened r a b z t) (sym es) (subst (AreEvened r a b x) (sym et) even))))

  -- a second node whose part was let go, where it had no child left
  pub kept_node : (r : Bool) (body : NodeBody V) (d : NodeInner V) → (r ≡ true → IsNode body) → (r ≡ false → body ≡ AsInner d) → (r ≡ false → IsInner d) → IsNode body
  kept_node true body d gone kept whole = gone refl
  kept_node false body d gone kept whole = subst IsNode (sym (kept refl)) (whole refl)
