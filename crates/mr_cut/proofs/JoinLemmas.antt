-- Two trees that become one: the root of what came of them, and how high it is.
use Rattle.mr_cut.proofs.Common.{◌≡◌, ℕ, ◌+◌, ◌-◌, ◌<◌, ◌≤◌, max, List, ◌++◌, Some, None, refl, sym, ap, subst, ◌∙◌, arith, abs_diff, IsOrderedBy, ordered-append, Seen, key_of_pair, AreEntries, NodeInner, children_of, rows_of, IsInner, seen_inner, IsChildNode, HasOneMoreChild, inner_well, low_tree, IsRoot, Side, Low, High, beside, IsTurned, MaybeNode, IsRest, IsSideJoined, AreApart, FitUnderRoot, IsRootOf, IsHeightOfBoth, IsLower}
use Rattle.mr_cut.proofs.SideJoinLemmas.{lone_inner, put_beside}

module _ {V : Type 0} where
  -- all children of an inner node
  pub rest_of : (b : NodeInner V) → IsInner b → IsRest b
  rest_of b inner = record { above_leaves = inner.above_leaves; entries = inner.entries; children = inner.children; ordered = inner.ordered; keys = inner.keys }

  -- a node that wants a root over it is lower than 16
  pub low_child : (h : ℕ) (x : Seen V) → IsChildNode h x → x.height < 16
  low_child h x node = low_tree x node.well (omega (arith, node.enough))

  -- a new root over two nodes
  pub record IsRootOver (x y : Seen V) (new : NodeInner V) : Type 0 where
    pub inner : IsInner new
    pub two : 2 ≤ new.len
    pub level : new.height ≡ x.height + 1
    pub rows : rows_of (children_of new) ≡ x.rows ++ y.rows

  pub inner_over_two : (x y : Seen V) (b mid new : NodeInner V) → IsChildNode x.height x → IsChildNode x.height y → IsOrderedBy key_of_pair (x.rows ++ y.rows) → b.height ≡ x.height + 1 → b.len ≡ 0 → AreEntries 0 b.leasts b.children
      → HasOneMoreChild 0 x b mid → mid.height ≡ b.height → mid.len ≡ b.len + 1 → AreEntries mid.len mid.leasts mid.children → HasOneMoreChild 1 y mid new → new.height ≡ mid.height → new.len ≡ mid.len + 1 → AreEntries new.len new.leasts new.children → IsRootOver x y new
  inner_over_two x y b mid new first second ordered level none empty low low_height low_len low_entries high high_height high_len high_entries =
      let down : x.height ≡ x.height + 1 - 1 = omega arith in
      let one = lone_inner (x.height + 1) b mid x (omega arith) level none empty low low_height low_len low_entries (subst (λ h. IsChildNode h x) down first) in
      let rows : rows_of (children_of mid) ≡ x.rows = ap (λ s. s.rows) one.1 in
      let wide : 1 ≡ mid.len = omega (arith, low_len, none) in
      let below : x.height ≡ mid.height - 1 = omega (arith, low_height, level) in
      let back = subst (λ h. IsChildNode h y) below second in
      let order = subst (λ r. IsOrderedBy key_of_pair (r ++ y.rows)) (sym rows) ordered in
      let two = put_beside High 1 mid new y wide (rest_of mid one.0) high high_height high_len high_entries back order in
      record { inner = two.0; two = omega (arith, high_len, wide); level = high_height ∙ low_height ∙ level; rows = two.1 ∙ ap (λ r. r ++ y.rows) rows }

  -- the node itself
  pub rooted : (x y z : Seen V) (new : NodeInner V) → z ≡ seen_inner new → IsRootOver x y new → (IsRoot z) × (z.height ≡ x.height + 1) × (z.rows ≡ x.rows ++ y.rows)
  rooted x y z new e root_of_both = (
    subst IsRoot (sym e) (record { well = inner_well new root_of_both.inner; two = λ above_leaves. root_of_both.two }),
    ap (λ s. s.height) e ∙ root_of_both.level,
    ap (λ s. s.rows) e ∙ root_of_both.rows,
  )

  -- two roots as the higher one and its neighbour at a side
  pub record AreHigherFirst (s : Side) (a b node other : Seen V) : Type 0 where
    pub root : IsRoot node
    pub level : other.height ≤ node.height
    pub apart : node.height - other.height ≡ abs_diff a.height b.height
    pub top : node.height ≡ max a.height b.height
    pub list : beside s node.rows other.rows ≡ a.rows ++ b.rows
    pub height : (h : ℕ) → h ≤ node.height + 1 → (other.height < node.height → node.width < 32 → h ≤ node.height)
        → IsHeightOfBoth a b h

  pub higher_first : (s : Side) (a b node other : Seen V) (x y : ℕ) → x ≡ a.height → y ≡ b.height → IsLower s x y
      → IsTurned s a b node other → IsRoot a → IsRoot b → AreHigherFirst s a b node other
  higher_first Low a b node other x y low high less turned first second =
      let lt : a.height < b.height = omega (arith, low, high, less) in
      let whole : AreHigherFirst Low a b b a = record {
        root = second;
        level = omega (arith, lt);
        apart = omega (arith, lt);
        top = omega (arith, lt);
        list = refl;
        height = λ h most room. record {
          most = omega (arith, most, lt);
          left = λ gt. absurd (omega (arith, gt, lt));
          right = room;
        };
      } in
      let beside_it = subst (λ m. AreHigherFirst Low a b b m) (sym turned.1) whole in
      subst (λ n. AreHigherFirst Low a b n other) (sym turned.0) beside_it
  higher_first High a b node other x y low high less turned first second =
      let le : b.height ≤ a.height = omega (arith, low, high, less) in
      let whole : AreHigherFirst High a b a b = record {
        root = first;
        level = le;
        apart = omega (arith, le);
        top = omega (arith, le);
        list = refl;
        height = λ h most room. record {
          most = omega (arith, most, le);
          left = room;
          right = λ lt. absurd (omega (arith, lt, le));
        };
      } in
      let beside_it = subst (λ m. AreHigherFirst High a b a m) (sym turned.1) whole in
      subst (λ n. AreHigherFirst High a b n other) (sym turned.0) beside_it

  -- what came of a root and its neighbour wants a root over it where it is two
  rootless : (h w lower : ℕ) (rows : List (ℕ × V)) (x : Seen V) (o : MaybeNode V)
      → (0 < h → 2 ≤ w) → IsOrderedBy key_of_pair rows → IsSideJoined h w lower rows x o → FitUnderRoot x o
  rootless h w lower rows x None two ordered side_joined = record { well = side_joined.well; two = λ above_leaves. omega (arith, side_joined.wide, two (omega (arith, above_leaves, side_joined.level))) }
  rootless h w lower rows x (Some y) two ordered side_joined = (
    subst (λ m. IsChildNode m x) (sym side_joined.first.level) side_joined.first,
    subst (λ m. IsChildNode m y.value) (sym side_joined.first.level) side_joined.second,
    subst (IsOrderedBy key_of_pair) (sym side_joined.list) ordered,
  )

  pub both_rootless : {s : Side} {a b node other : Seen V} (x : Seen V) (o : MaybeNode V)
      → AreHigherFirst s a b node other → IsOrderedBy key_of_pair (a.rows ++ b.rows)
      → IsSideJoined node.height node.width other.height (beside s node.rows other.rows) x o → FitUnderRoot x o
  both_rootless {s = s} {node = node} {other = other} x o first ordered side_joined =
      let order = subst (IsOrderedBy key_of_pair) (sym first.list) ordered in
      rootless node.height node.width other.height (beside s node.rows other.rows) x o first.root.two order side_joined

  pub root_left : (x z : Seen V) (o : MaybeNode V) → FitUnderRoot x o → IsRootOf x o z → IsRoot z
  root_left x z None whole root_of_both = subst IsRoot (sym root_of_both) whole
  root_left x z (Some y) whole root_of_both = root_of_both.0

  pub root_rows : (h w lower : ℕ) (rows : List (ℕ × V)) (x z : Seen V) (o : MaybeNode V) → IsSideJoined h w lower rows x o → IsRootOf x o z → z.rows ≡ rows
  root_rows h w lower rows x z None side_joined root_of_both = ap (λ s. s.rows) root_of_both ∙ side_joined.list
  root_rows h w lower rows x z (Some y) side_joined root_of_both = root_of_both.2 ∙ side_joined.list

  -- a level more than the higher one, and none where it had room
  root_height : (h w lower : ℕ) (rows : List (ℕ × V)) (x z : Seen V) (o : MaybeNode V) → IsSideJoined h w lower rows x o → IsRootOf x o z → (z.height ≤ h + 1) × (lower < h → w < 32 → z.height ≤ h)
  root_height h w lower rows x z None side_joined root_of_both =
      let same : z.height ≡ h = ap (λ s. s.height) root_of_both ∙ side_joined.level in
      (omega (arith, same), λ lt room. omega (arith, same))
  root_height h w lower rows x z (Some y) side_joined root_of_both = (omega (arith, root_of_both.1, side_joined.first.level), λ lt room. absurd (omega (arith, room, side_joined.full lt)))

  pub both_height : {s : Side} {a b node other : Seen V} (rows : List (ℕ × V)) (x z : Seen V) (o : MaybeNode V)
      → AreHigherFirst s a b node other → IsSideJoined node.height node.width other.height rows x o → IsRootOf x o z
      → IsHeightOfBoth a b z.height
  both_height {node = node} {other = other} rows x z o first side_joined root_of_both =
      let both = root_height node.height node.width other.height rows x z o side_joined root_of_both in
      first.height z.height both.0 both.1

  -- roots whose keys are apart are in order, one after another
  pub apart_ordered : (a b : Seen V) → IsRoot a → IsRoot b → AreApart a.rows b.rows → IsOrderedBy key_of_pair (a.rows ++ b.rows)
  apart_ordered a b first second apart = ordered-append key_of_pair apart.0 a.rows b.rows first.well.ordered second.well.ordered apart.1 apart.2
