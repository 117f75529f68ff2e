-- Inner nodes two of whose children share their entries anew.
use Rattle.mr_node.proofs.Common.{◌≡◌, ℕ, ◌+◌, ◌-◌, ◌*◌, ◌^◌, ◌<◌, ◌≤◌, List, [], ◌∷◌, ◌++◌, length, get_or, set, take, drop, Option, Some, None, IfSome, Bool, true, false, refl, sym, ap, subst, ◌∙◌, arith, lit<, append-nil, take_at, inl, inr, AllByRecursion, sum_by-cons, cases_lt, mul-le-mul_right, pow-le-pow_right, append_assoc, drop-drop, drop_at, length-append, length-take-le, set-set, set_comm, take-append-drop, take-take, IsOrderedBy, each-weaker, each-append, each-left, each-right, ordered-left, ordered-right, starts_left, Seen, key_of_pair, key_limit, KeysBelow, StartsWith, entries, AreEntries, NodePart, NodeChild, NodeInner, children_of, rows_of, widths_of, IsWell, IsChild, IsChildOf, IsInner, IsInnerOf, IsChildNode, IsJoined, IsShare, AreEvened, AreChildrenBeside, IsLooseAt, ArePairChildren, IsPairAt, IsSplicedAt, IsWholeAgain, IsSplitAt, IsPairWithRoom}
use Rattle.mr_node.proofs.PlaceLemmas.{packed_some}
use Rattle.mr_node.proofs.EntryListLemmas.{entries_length, entries_split, entries_rest, entries_written, entries_both}
use Rattle.mr_node.proofs.ChildLemmas.{rows_of-append, child_at}

module _ {X : Type 0} where
  -- what is written last stays
  over : (p : ℕ) (y a b : Option X) (ps : List (Option X)) → set (set ps p a) (p + 1) b ≡ set (set (set ps (p + 1) y) p a) (p + 1) b
  over p y a b ps =
      let apart : p ≡ p + 1 → ⊥ = λ e. omega (arith, e) in
      set_comm ps p (p + 1) a b apart ∙ ap (λ l. set l p a) (sym (set-set ps (p + 1) y b)) ∙ sym (set_comm (set ps (p + 1) y) p (p + 1) a b apart)

  -- two neighbours written, the second one with its key
  pub pair_written : (n p l : ℕ) (y : Option X) (a b : X) (ks : List ℕ) (ps : List (Option X)) → AreEntries n ks ps → p + 1 < n
      → (AreEntries n (set ks (p + 1) l) (set (set (set ps (p + 1) y) p (Some a)) (p + 1) (Some b))) × (entries (set ks (p + 1) l) (set (set (set ps (p + 1) y) p (Some a)) (p + 1) (Some b)) ≡ take p (entries ks ps) ++ ((get_or ks p 0, a) ∷ ((l, b) ∷ drop (p + 2) (entries ks ps))))
  pair_written n p l y a b ks ps are_entries lt =
      let e = entries ks ps in
      let first = entries_written n p a ks ps are_entries (omega (arith, lt)) in
      let both = entries_both n (p + 1) l b ks (set ps p (Some a)) first.0 lt in
      let len = length-take-le p e (omega (arith, entries_length n ks ps are_entries, lt)) in
      let mid = entries ks (set ps p (Some a)) in
      let cut : mid ≡ (take p e ++ ((get_or ks p 0, a) ∷ [])) ++ drop (p + 1) e = first.1 ∙ sym (append_assoc (take p e) ((get_or ks p 0, a) ∷ []) (drop (p + 1) e)) in
      let long : length (take p e ++ ((get_or ks p 0, a) ∷ [])) ≡ p + 1 = omega (arith, length-append (take p e) ((get_or ks p 0, a) ∷ []), len) in
      let front : take (p + 1) mid ≡ take p e ++ ((get_or ks p 0, a) ∷ []) = ap (take (p + 1)) cut ∙ take_at (take p e ++ ((get_or ks p 0, a) ∷ [])) (drop (p + 1) e) (p + 1) long in
      let back : drop (p + 1 + 1) mid ≡ drop (p + 2) e =
      sym (drop-drop 1 (p + 1) mid) ∙ ap (drop 1) (ap (drop (p + 1)) cut ∙ drop_at (take p e ++ ((get_or ks p 0, a) ∷ [])) (drop (p + 1) e) (p + 1) long) ∙ drop-drop 1 (p + 1) e ∙ ap (λ j. drop j e) (omega arith) in
      let list = both.1 ∙ ap (λ r. r ++ ((l, b) ∷ drop (p + 1 + 1) mid)) front ∙ ap (λ r. (take p e ++ ((get_or ks p 0, a) ∷ [])) ++ ((l, b) ∷ r)) back ∙ append_assoc (take p e) ((get_or ks p 0, a) ∷ []) ((l, b) ∷ drop (p + 2) e) in
      subst (λ q. (AreEntries n (set ks (p + 1) l) q) × (entries (set ks (p + 1) l) q ≡ take p e ++ ((get_or ks p 0, a) ∷ ((l, b) ∷ drop (p + 2) e)))) (over p y (Some a) (Some b) ps) (both.0, list)

  -- a list cut round two neighbours
  pub two_apart : (p : ℕ) (xs : List X) → xs ≡ take p xs ++ (take 2 (drop p xs) ++ drop (p + 2) xs)
  two_apart p xs = sym (take-append-drop p xs) ∙ ap (λ r. take p xs ++ r) (sym (take-append-drop 2 (drop p xs)) ∙ ap (λ r. take 2 (drop p xs) ++ r) (drop-drop 2 p xs))

module _ {V : Type 0} where
  -- the rows round two neighbours
  rows_apart : (p : ℕ) (children : List (NodeChild V)) → rows_of children ≡ rows_of (take p children) ++ (rows_of (take 2 (drop p children)) ++ rows_of (drop (p + 2) children))
  rows_apart p children = ap rows_of (two_apart p children) ∙ rows_of-append (take p children) (take 2 (drop p children) ++ drop (p + 2) children) ∙ ap (λ r. rows_of (take p children) ++ r) (rows_of-append (take 2 (drop p children)) (drop (p + 2) children))

  -- two neighbours of an inner node
  pub record ArePair (w p : ℕ) (b : NodeInner V) (low high : NodePart V) : Type 0 where
    pub list : take 2 (drop p (children_of b)) ≡ child_at b p low ∷ (child_at b (p + 1) high ∷ [])
    pub first : IsChildOf w (b.height - 1) (child_at b p low)
    pub second : IsChildOf w (b.height - 1) (child_at b (p + 1) high)
    pub ordered : IsOrderedBy key_of_pair (low.node.value.rows ++ high.node.value.rows)

  pub pair_at : (w p : ℕ) (b : NodeInner V) (low high : NodePart V) → IsInnerOf w b → get_or b.children p None ≡ Some low → get_or b.children (p + 1) None ≡ Some high → ArePair w p b low high
  pair_at w p b low high inner got next =
      let e = children_of b in
      let h = b.height - 1 in
      let one = entries_rest b.len p low b.leasts b.children inner.entries got in
      let two = entries_rest b.len (p + 1) high b.leasts b.children inner.entries next in
      let list : take 2 (drop p e) ≡ child_at b p low ∷ (child_at b (p + 1) high ∷ []) = ap (take 2) (one ∙ ap (λ r. child_at b p low ∷ r) two) in
      let mid = each-left (IsChildOf w h) (take 2 (drop p e)) (drop (p + 2) e) (each-right (IsChildOf w h) (take p e) (take 2 (drop p e) ++ drop (p + 2) e) (subst (AllByRecursion (IsChildOf w h)) (two_apart p e) inner.children)) in
      let both = subst (AllByRecursion (IsChildOf w h)) list mid in
      let o = ordered-left key_of_pair (rows_of (take 2 (drop p e))) (rows_of (drop (p + 2) e)) (ordered-right key_of_pair (rows_of (take p e)) (rows_of (take 2 (drop p e)) ++ rows_of (drop (p + 2) e)) (subst (IsOrderedBy key_of_pair) (rows_apart p e) inner.ordered)) in
      record {
        list = list;
        first = both.0;
        second = both.1.0;
        ordered = subst (IsOrderedBy key_of_pair) (ap rows_of list ∙ ap (λ r. low.node.value.rows ++ r) (append-nil high.node.value.rows)) o;
      }

  -- their widths together
  pub pair_widths : (w p : ℕ) (b : NodeInner V) (low high : NodePart V) → ArePair w p b low high → widths_of (take 2 (drop p (children_of b))) ≡ low.node.value.width + high.node.value.width
  pair_widths w p b low high pair =
      let width : NodeChild V → ℕ = λ k. k.1.node.value.width in
      omega (arith, ap widths_of pair.list, sum_by-cons width (child_at b p low) (child_at b (p + 1) high ∷ []), sum_by-cons width (child_at b (p + 1) high) [])

  -- the widths of two neighbours that were looked at
  pub record AreWidths (least v w : ℕ) (children : List (NodeChild V)) : Type 0 where
    pub both : v + w ≡ widths_of children
    pub enough : least ≤ v
    pub also : least ≤ w
    pub first : v ≤ 32
    pub second : w ≤ 32

  pub widths_at : (least p v w : ℕ) (b : NodeInner V) → IsInnerOf least b → p + 1 < b.len → IfSome (get_or b.children p None) (λ k. v ≡ k.node.value.width) → IfSome (get_or b.children (p + 1) None) (λ k. w ≡ k.node.value.width) → AreWidths least v w (take 2 (drop p (children_of b)))
  widths_at least p v w b inner lt one two =
      let low = packed_some b.len p b.children inner.entries.packed (omega (arith, lt)) in
      let high = packed_some b.len (p + 1) b.children inner.entries.packed lt in
      let pair = pair_at least p b low.0 high.0 inner low.1 high.1 in
      let first : v ≡ low.0.node.value.width = subst (λ o. IfSome o (λ k. v ≡ k.node.value.width)) low.1 one in
      let second : w ≡ high.0.node.value.width = subst (λ o. IfSome o (λ k. w ≡ k.node.value.width)) high.1 two in
      record {
        both = omega (arith, first, second, pair_widths least p b low.0 high.0 pair);
        enough = omega (arith, first, pair.first.enough);
        also = omega (arith, second, pair.second.enough);
        first = omega (arith, first, pair.first.well.fits);
        second = omega (arith, second, pair.second.well.fits);
      }

  -- a node that is half full has rows
  pub some_rows : (h : ℕ) (s : Seen V) → IsChildNode h s → 0 < length s.rows
  some_rows h s node =
      let low : 0 ≤ s.height = omega arith in
      let power : 16 ^ 0 ≤ 16 ^ s.height = pow-le-pow_right (lit< tt) low in
      let wide : 16 * 16 ^ s.height ≤ s.width * 16 ^ s.height = mul-le-mul_right (16 ^ s.height) node.enough in
      omega (arith, power, wide, node.well.at_least)

  pub starts_front : (k : ℕ) (a b : List (ℕ × V)) → 0 < length a → StartsWith k (a ++ b) → StartsWith k a
  starts_front k [] b some h = absurd (omega (arith, some))
  starts_front k (p ∷ a) b some h = h

  pub child_of_node : (h least : ℕ) (k : NodePart V) (x : Seen V) → IsChildNode h x → k.node.value ≡ x → k.count ≡ length x.rows → StartsWith least x.rows → IsChild h (least, k)
  child_of_node h least k x node e count first = record {
    level = ap (λ s. s.height) e ∙ node.level;
    enough = omega (arith, ap (λ s. s.width) e, node.enough);
    well = subst IsWell (sym e) node.well;
    first = subst (λ s. StartsWith least s.rows) (sym e) first;
    counted = count ∙ ap (λ s. length s.rows) (sym e);
  }

  pub node_at : (h j : ℕ) (s : Seen V) → j ≡ h → IsChildNode j s → IsChildNode h s
  node_at h j s e = subst (λ n. IsChildNode n s) e

  -- two that lack one child at most make a half full one
  joined_child : (h : ℕ) (a b x : Seen V) → a.height ≡ h → 15 ≤ a.width → 15 ≤ b.width → IsJoined a b x → IsChildNode h x
  joined_child h a b x level more much joined = record { level = joined.level ∙ level; enough = omega (arith, joined.width, more, much); well = joined.well }

  pair_children : (h : ℕ) (joined : Bool) (first least : ℕ) (low high a b : NodePart V) (x z : Seen V) (children : List (NodeChild V)) → IsChildOf 15 h (first, low) → 15 ≤ high.node.value.width → AreEvened joined low.node.value high.node.value x z → low.node.value.rows ++ high.node.value.rows ≡ rows_of children → widths_of children ≡ low.node.value.width + high.node.value.width → a.node.value ≡ x → a.count ≡ length x.rows → b.node.value ≡ z → b.count ≡ length z.rows → (0 < z.width → StartsWith least z.rows) → ArePairChildren h joined children (first, a) (least, b)
  pair_children h true first least low high a b x z children child wide evened er ew ea ca eb cb starts = (
    child_of_node h first a x (joined_child h low.node.value high.node.value x child.level child.enough wide evened) ea ca (subst (StartsWith first) (sym evened.rows) (starts_left key_of_pair first low.node.value.rows high.node.value.rows child.first)),
    ap (λ s. s.rows) ea ∙ evened.rows ∙ er,
    omega (arith, ew, evened.width, ap (λ s. s.width) ea),
  )
  pair_children h false first least low high a b x z children child wide evened er ew ea ca eb cb starts =
      let one = node_at h low.node.value.height x child.level evened.low in
      let two = node_at h low.node.value.height z child.level evened.high in (
        child_of_node h first a x one ea ca (starts_front first x.rows z.rows (some_rows h x one) (subst (StartsWith first) (sym evened.rows) (starts_left key_of_pair first low.node.value.rows high.node.value.rows child.first))),
        child_of_node h least b z two eb cb (starts (omega (arith, two.enough))),
        ap (λ s. s.rows ++ b.node.value.rows) ea ∙ ap (λ s. x.rows ++ s.rows) eb ∙ evened.rows ∙ er,
        omega (arith, ew, evened.width, ap (λ s. s.width) ea, ap (λ s. s.width) eb),
      )

  pub pair_shared : (p many : ℕ) (joined : Bool) (b : NodeInner V) (y : Option (NodePart V)) (low high a c : NodePart V) (least : ℕ) (x z : Seen V) → IsInnerOf 15 b → p + 1 < b.len → ArePair 15 p b low high → AreEvened joined low.node.value high.node.value x z → x.width ≡ many → a.node.value ≡ x → a.count ≡ length x.rows → c.node.value ≡ z → c.count ≡ length z.rows → (0 < z.width → StartsWith least z.rows)
      → IsPairAt p many joined b (record b { leasts = set b.leasts (p + 1) least; children = set (set (set b.children (p + 1) y) p (Some a)) (p + 1) (Some c) })
  pair_shared p many joined b y low high a c least x z inner lt pair evened wide ea ca ec cc starts =
      let all = pair_written b.len p least y a c b.leasts b.children inner.entries lt in
      let rows = sym (ap rows_of pair.list ∙ ap (λ r. low.node.value.rows ++ r) (append-nil high.node.value.rows)) in
      record {
        low = child_at b p a;
        high = (least, c);
        list = all.1;
        height = refl;
        len = refl;
        entries = all.0;
        children = pair_children (b.height - 1) joined (get_or b.leasts p 0) least low high a c x z (take 2 (drop p (children_of b))) pair.first pair.second.enough evened rows (pair_widths 15 p b low high pair) ea ca ec cc starts;
        width = ap (λ s. s.width) ea ∙ wide;
      }

  -- an inner node with other children in the place of two
  spliced_of : (p : ℕ) (b new : NodeInner V) (m : List (NodeChild V)) → 0 < new.len → b.len ≤ new.len + 1 → new.height ≡ b.height → AreEntries new.len new.leasts new.children → children_of new ≡ take p (children_of b) ++ (m ++ drop (p + 2) (children_of b)) → rows_of m ≡ rows_of (take 2 (drop p (children_of b))) → AllByRecursion (IsChild (b.height - 1)) m → IsSplicedAt p b new
  spliced_of p b new m some len height are_entries list rows whole =
      let e = children_of b in
      record {
        height = height;
        len = len;
        some = some;
        entries = are_entries;
        rows = ap rows_of list ∙ rows_of-append (take p e) (m ++ drop (p + 2) e) ∙ ap (λ r. rows_of (take p e) ++ r) (rows_of-append m (drop (p + 2) e) ∙ ap (λ r. r ++ rows_of (drop (p + 2) e)) rows) ∙ sym (rows_apart p e);
        children = λ beside. subst (AllByRecursion (IsChild (b.height - 1))) (sym list) (each-append (IsChild (b.height - 1)) (take p e) (m ++ drop (p + 2) e) beside.before (each-append (IsChild (b.height - 1)) m (drop (p + 2) e) whole beside.after));
      }

  -- both stay
  pub spliced_two : (p many : ℕ) (b new : NodeInner V) → IsInnerOf 15 b → IsPairAt p many false b new → IsSplicedAt p b new
  spliced_two p many b new inner at =
      spliced_of p b new (at.low ∷ (at.high ∷ [])) (omega (arith, at.len, inner.some)) (omega (arith, at.len)) at.height at.entries at.list (ap (λ r. at.low.1.node.value.rows ++ r) (append-nil at.high.1.node.value.rows) ∙ at.children.2) (at.children.0, (at.children.1, tt))

  -- the second one went
  pub spliced_one : (p many : ℕ) (b mid new : NodeInner V) → p + 1 < b.len → IsInnerOf 15 b → IsPairAt p many true b mid → new.height ≡ mid.height → new.len + 1 ≡ mid.len → AreEntries new.len new.leasts new.children → children_of new ≡ take (p + 1) (children_of mid) ++ drop (p + 1 + 1) (children_of mid) → IsSplicedAt p b new
  spliced_one p many b mid new lt inner at height len are_entries rest =
      let e = children_of b in
      let long = length-take-le p e (omega (arith, entries_length b.len b.leasts b.children inner.entries, lt)) in
      let front = take p e ++ (at.low ∷ []) in
      let cut : children_of mid ≡ front ++ (at.high ∷ drop (p + 2) e) = at.list ∙ sym (append_assoc (take p e) (at.low ∷ []) (at.high ∷ drop (p + 2) e)) in
      let wide : length front ≡ p + 1 = omega (arith, length-append (take p e) (at.low ∷ []), long) in
      let one : take (p + 1) (children_of mid) ≡ front = ap (take (p + 1)) cut ∙ take_at front (at.high ∷ drop (p + 2) e) (p + 1) wide in
      let two : drop (p + 1 + 1) (children_of mid) ≡ drop (p + 2) e = sym (drop-drop 1 (p + 1) (children_of mid)) ∙ ap (drop 1) (ap (drop (p + 1)) cut ∙ drop_at front (at.high ∷ drop (p + 2) e) (p + 1) wide) in
      let list : children_of new ≡ take p e ++ ((at.low ∷ []) ++ drop (p + 2) e) = rest ∙ ap (λ r. r ++ drop (p + 1 + 1) (children_of mid)) one ∙ ap (λ r. front ++ r) two ∙ append_assoc (take p e) (at.low ∷ []) (drop (p + 2) e) in
      spliced_of p b new (at.low ∷ []) (omega (arith, len, at.len, lt)) (omega (arith, len, at.len)) (height ∙ at.height) are_entries list (append-nil at.low.1.node.value.rows ∙ at.children.1) (at.children.0, tt)

  -- children that are half full lack one at most
  pub loosened : (b : NodeInner V) → IsInner b → IsInnerOf 15 b
  loosened b inner =
      let h = b.height - 1 in
      record {
        above_leaves = inner.above_leaves;
        some = inner.some;
        entries = inner.entries;
        children = each-weaker {P = IsChild h} {Q = IsChildOf 15 h} (λ k child. record { level = child.level; enough = omega (arith, child.enough); well = child.well; first = child.first; counted = child.counted }) (children_of b) inner.children;
        ordered = inner.ordered;
        keys = inner.keys;
      }

  -- a full child and one that has room for many may share anew
  pub record IsGiving (m i many : ℕ) (b : NodeInner V) : Type 0 where
    pub within : m + 1 < b.len
    pub share : IsShare (widths_of (take 2 (drop m (children_of b)))) many
    pub less : many < widths_of (take 2 (drop m (children_of b)))
    pub much : widths_of (take 2 (drop m (children_of b))) < many + 32

  full_at : (o : Option (NodePart V)) → IfSome o (λ k. k.node.value.width ≡ 32) → IfSome o (λ k. 32 ≡ k.node.value.width)
  full_at None h = tt
  full_at (Some k) h = sym h

  pub giving_at : (i m w many : ℕ) (b : NodeInner V) → IsInner b → i ≡ m + 1 → i < b.len → IfSome (get_or b.children m None) (λ k. w ≡ k.node.value.width) → IfSome (get_or b.children i None) (λ k. k.node.value.width ≡ 32) → w < many → many < 32 → IsGiving m i many b
  giving_at i m w many b inner e lt width full few fits =
      let next : IfSome (get_or b.children (m + 1) None) (λ k. 32 ≡ k.node.value.width) = full_at (get_or b.children (m + 1) None) (subst (λ j. IfSome (get_or b.children j None) (λ k. k.node.value.width ≡ 32)) e full) in
      let wide = widths_at 16 m w 32 b inner (omega (arith, e, lt)) width next in
      record {
        within = omega (arith, e, lt);
        share = record {
          fits = omega (arith, fits);
          within = omega (arith, wide.both, fits);
          rest = omega (arith, wide.both, few);
          half = λ less. (omega (arith, few, wide.enough), omega (arith, wide.both, wide.enough, fits), omega (arith, wide.both, wide.enough));
        };
        less = omega (arith, wide.both, fits);
        much = omega (arith, wide.both, few);
      }

  -- a full child has a neighbour with room, behind it or in front of it
  pub room_behind : (i w : ℕ) (b : NodeInner V) → IsInner b → i + 1 < b.len → IfSome (get_or b.children (i + 1) None) (λ k. w ≡ k.node.value.width) → IfSome (get_or b.children i None) (λ k. k.node.value.width ≡ 32) → w ≤ 28 → IsPairWithRoom i i b
  room_behind i w b inner lt width full few =
      let wide = widths_at 16 i 32 w b inner lt (full_at (get_or b.children i None) full) width in
      record { within = lt; begins = omega arith; near = omega arith; many = omega (arith, wide.both, wide.also); few = omega (arith, wide.both, few) }

  pub room_before : (i m w : ℕ) (b : NodeInner V) → IsInner b → i ≡ m + 1 → i < b.len → IfSome (get_or b.children m None) (λ k. w ≡ k.node.value.width) → IfSome (get_or b.children i None) (λ k. k.node.value.width ≡ 32) → w ≤ 28 → IsPairWithRoom m i b
  room_before i m w b inner e lt width full few =
      let next = full_at (get_or b.children (m + 1) None) (subst (λ j. IfSome (get_or b.children j None) (λ k. k.node.value.width ≡ 32)) e full) in
      let wide = widths_at 16 m w 32 b inner (omega (arith, e, lt)) width next in
      record { within = omega (arith, e, lt); begins = omega (arith, e); near = omega (arith, e); many = omega (arith, wide.both, wide.enough); few = omega (arith, wide.both, few) }

  -- the two share their entries evenly
  pub sharing_at : (m i both low : ℕ) (b : NodeInner V) → IsPairWithRoom m i b → both ≡ widths_of (take 2 (drop m (children_of b))) → IsShare both low → (32 < both → (2 * low ≤ both) × (both ≤ 2 * low + 1)) → (IsGiving m i low b) × (low < 32)
  sharing_at m i both low b pair same share half =
      let even = half (omega (arith, same, pair.many)) in (
        record {
          within = pair.within;
          share = subst (λ w. IsShare w low) same share;
          less = omega (arith, same, pair.many, even.0);
          much = omega (arith, same, pair.few, even.1);
        },
        omega (arith, same, pair.few, even.0),
      )

  -- a full child and its neighbour shared their entries, and both have room
  pub split_given : (i m many : ℕ) (joined : Bool) (b new : NodeInner V) → many < 32 → IsInner b → IsGiving m i many b → IsPairAt m many joined b new → IsSplitAt m (m + 2) b new
  split_given i m many true b new few inner giving at = absurd (omega (arith, giving.less, at.width, at.children.2))
  split_given i m many false b new few inner giving at = record {
    low = at.low;
    high = at.high;
    list = at.list;
    height = at.height;
    len = omega (arith, at.len);
    entries = at.entries;
    rows = (spliced_two m many b new (loosened b inner) at).rows;
    lower = at.children.0;
    upper = at.children.1;
    low_room = omega (arith, at.width, few);
    high_room = omega (arith, at.width, at.children.3, giving.much);
  }

  -- from the children beside a loose one to those beside a pair that has it
  beside_next : (l : ℕ) (b : NodeInner V) → AreChildrenBeside l (l + 1) b → AreChildrenBeside l (l + 2) b
  beside_next l b beside = record {
    before = beside.before;
    after = subst (AllByRecursion (IsChild (b.height - 1))) (drop-drop 1 (l + 1) (children_of b) ∙ ap (λ j. drop j (children_of b)) (omega arith))
        (each-right (IsChild (b.height - 1)) (take 1 (drop (l + 1) (children_of b))) (drop 1 (drop (l + 1) (children_of b))) (subst (AllByRecursion (IsChild (b.height - 1))) (sym (take-append-drop 1 (drop (l + 1) (children_of b)))) beside.after));
  }

  beside_last : (l m : ℕ) (b : NodeInner V) → l ≡ m + 1 → AreChildrenBeside l (l + 1) b → AreChildrenBeside m (m + 2) b
  beside_last l m b e beside = record {
    before = subst (AllByRecursion (IsChild (b.height - 1))) (take-take m l (children_of b) (omega (arith, e)))
        (each-left (IsChild (b.height - 1)) (take m (take l (children_of b))) (drop m (take l (children_of b))) (subst (AllByRecursion (IsChild (b.height - 1))) (sym (take-append-drop m (take l (children_of b)))) beside.before));
    after = subst (λ j. AllByRecursion (IsChild (b.height - 1)) (drop j (children_of b))) (omega (arith, e)) beside.after;
  }

  rebalanced_of : (l : ℕ) (b new : NodeInner V) → IsInnerOf 15 b → IsSplicedAt l b new → AreChildrenBeside l (l + 2) b → IsWholeAgain 1 b new
  rebalanced_of l b new loose sp beside = record {
    height = sp.height;
    len = sp.len;
    rows = sp.rows;
    whole = record {
      above_leaves = omega (arith, sp.height, loose.above_leaves);
      some = sp.some;
      entries = sp.entries;
      children = subst (λ h. AllByRecursion (IsChild (h - 1)) (children_of new)) (sym sp.height) (sp.children beside);
      ordered = subst (IsOrderedBy key_of_pair) (sym sp.rows) loose.ordered;
      keys = subst (KeysBelow key_limit) (sym sp.rows) loose.keys;
    };
  }

  rebalanced_next : (l : ℕ) (b new : NodeInner V) → IsLooseAt l b → IsSplicedAt l b new → IsWholeAgain 1 b new
  rebalanced_next l b new loose sp = rebalanced_of l b new loose.inner sp (beside_next l b loose.beside)

  rebalanced_last : (l m : ℕ) (b new : NodeInner V) → l ≡ m + 1 → IsLooseAt l b → IsSplicedAt m b new → IsWholeAgain 1 b new
  rebalanced_last l m b new e loose sp = rebalanced_of m b new loose.inner sp (beside_last l m b e loose.beside)

  -- evened out with the child before it or with the next one
  pub rebalanced_near : (l m : ℕ) (b new : NodeInner V) → m ≤ l → l ≤ m + 1 → IsLooseAt l b → IsSplicedAt m b new → IsWholeAgain 1 b new
  rebalanced_near l m b new below near loose sp = elim (cases_lt m l) [
    | inl lt ↦ rebalanced_last l m b new (omega (arith, lt, near)) loose sp
    | inr le ↦
        let same : m ≡ l = omega (arith, le, below) in
        rebalanced_next l b new loose (subst (λ j. IsSplicedAt j b new) same sp)
  ]

  -- a child that is half full after all
  pub rebalanced_same : (l w : ℕ) (b : NodeInner V) → IsLooseAt l b → l < b.len → IfSome (get_or b.children l None) (λ k. w ≡ k.node.value.width) → 16 ≤ w → IsWholeAgain 1 b b
  rebalanced_same l w b loose lt width enough =
      let children = children_of b in
      let inner = loose.inner in
      let some = packed_some b.len l b.children inner.entries.packed lt in
      let k = child_at b l some.0 in
      let split = entries_split b.len l some.0 b.leasts b.children inner.entries some.1 in
      let mid = (each-right (IsChildOf 15 (b.height - 1)) (take l children) (k ∷ drop (l + 1) children) (subst (AllByRecursion (IsChildOf 15 (b.height - 1))) split inner.children)).0 in
      let wide : w ≡ some.0.node.value.width = subst (λ o. IfSome o (λ j. w ≡ j.node.value.width)) some.1 width in
      let good : IsChild (b.height - 1) k = record { level = mid.level; enough = omega (arith, wide, enough); well = mid.well; first = mid.first; counted = mid.counted } in
      record {
        height = refl;
        len = omega arith;
        rows = refl;
        whole = record {
          above_leaves = inner.above_leaves;
          some = inner.some;
          entries = inner.entries;
          children = subst (AllByRecursion (IsChild (b.height - 1))) (sym split) (each-append (IsChild (b.height - 1)) (take l children) (k ∷ drop (l + 1) children) loose.beside.before (good, loose.beside.after));
          ordered = inner.ordered;
          keys = inner.keys;
        };
      }

  -- what holds of a child in any case, and of one whose width is known
  pub if_thin : (o : Option (NodePart V)) (P : Type 0) → P → IfSome o (λ k. k.node.value.width < 16 → P)
  if_thin None P p = tt
  if_thin (Some k) P p = λ thin. p

  pub if_enough : (o : Option (NodePart V)) (P : Type 0) → P → IfSome o (λ k. 16 ≤ k.node.value.width → P)
  if_enough None P p = tt
  if_enough (Some k) P p = λ enough. p

  pub with_width : (o : Option (NodePart V)) (w : ℕ) (P : NodePart V → Type 0) → IfSome o (λ k. w ≡ k.node.value.width) → ((k : NodePart V) → w ≡ k.node.value.width → P k) → IfSome o P
  with_width None w P width p = tt
  with_width (Some k) w P width p = p k width
