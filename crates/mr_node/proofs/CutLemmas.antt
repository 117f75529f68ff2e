-- A full child that is split: halved, or with its neighbour, to which it gave.
use Rattle.mr_node.proofs.Common.{◌≡◌, ℕ, ◌+◌, ◌-◌, ◌<◌, ◌≤◌, List, [], ◌∷◌, ◌++◌, length, get_or, set, take, drop, Option, Some, None, IsSome, IfSome, min, refl, sym, ap, subst, ◌∙◌, arith, take_at, AllByRecursion, append_assoc, drop-drop, drop_at, length-take-le, length-append, get_or_at, take-append-drop, take-take, IsOrderedBy, row_at, with_row, each-append, each-left, each-right, ordered-right, below-weaker, from-weaker, below_start, from_start, starts_left, Seen, key_of_pair, key_limit, KeysBelow, KeysFrom, StartsWith, AreEntries, NodePart, NodeChild, NodeInner, children_of, rows_of, IsChild, IsInner, seen_inner, IsGrown, IsChildPlace, IsHalved, IsWholeAgain, IsRoomAt, IsSplitAt}
use Rattle.mr_node.proofs.PlaceLemmas.{packed_some}
use Rattle.mr_node.proofs.EntryListLemmas.{entries_length, entries_read, entries_split, entries_written}
use Rattle.mr_node.proofs.ChildLemmas.{IsCutAt, rows_of-append, child_at, cut_child}
use Rattle.mr_node.proofs.NodeLemmas.{inner_set, part_grown, find_cut, grown_inner}
use Rattle.mr_node.proofs.RebalanceLemmas.{some_rows, starts_front, child_of_node, node_at}

module _ {V : Type 0} where
  -- what stands in the place of a child that is known by the list
  pub record IsReadAs (i : ℕ) (b : NodeInner V) (m : NodeChild V) : Type 0 where
    pub within : i < b.len
    pub least : get_or b.leasts i 0 ≡ m.0
    pub part : get_or b.children i None ≡ Some m.1

  read_part : (i : ℕ) (b : NodeInner V) (p q : List (NodeChild V)) (m : NodeChild V) → AreEntries b.len b.leasts b.children → children_of b ≡ p ++ (m ∷ q) → length p ≡ i → IsReadAs i b m
  read_part i b p q m are_entries e len =
      let lt : i < b.len = omega (arith, entries_length b.len b.leasts b.children are_entries, ap length e, length-append p (m ∷ q), len) in
      let some = packed_some b.len i b.children are_entries.packed lt in
      let same : (get_or b.leasts i 0, some.0) ≡ m = sym (entries_read b.len i some.0 b.leasts b.children are_entries some.1) ∙ ap (λ l. get_or l i (0, some.0)) e ∙ get_or_at p m q (0, some.0) i len in
      record { within = lt; least = ap (λ k. k.0) same; part = some.1 ∙ ap Some (ap (λ k. k.1) same) }

  room_at_of : (key i : ℕ) (b : NodeInner V) (p q : List (NodeChild V)) (m : NodeChild V) → AreEntries b.len b.leasts b.children → children_of b ≡ p ++ (m ∷ q) → length p ≡ i → KeysBelow key (rows_of p) → KeysFrom (key + 1) (rows_of q) → m.1.node.value.width < 32 → IsRoomAt key i b
  room_at_of key i b p q m are_entries e len below above room =
      let lt : i < b.len = omega (arith, entries_length b.len b.leasts b.children are_entries, ap length e, length-append p (m ∷ q), len) in
      let front : take i (children_of b) ≡ p = ap (take i) e ∙ take_at p (m ∷ q) i len in
      let back : drop (i + 1) (children_of b) ≡ q = ap (drop (i + 1)) (e ∙ sym (append_assoc p (m ∷ []) q)) ∙ drop_at (p ++ (m ∷ [])) q (i + 1) (omega (arith, length-append p (m ∷ []), len)) in
      record {
        within = lt;
        below = subst (λ x. KeysBelow key (rows_of x)) (sym front) below;
        above = subst (λ x. KeysFrom (key + 1) (rows_of x)) (sym back) above;
        room = subst (λ o. IfSome o (λ k. k.node.value.width < 32)) (sym (read_part i b p q m are_entries e len).part) room;
      }

  -- a child that has room is found where the key belongs
  pub room_found : (key i w : ℕ) (b : NodeInner V) → IsInner b → IsChildPlace key i b.len b.leasts → IfSome (get_or b.children i None) (λ k. w ≡ k.node.value.width) → w < 32 → IsRoomAt key i b
  room_found key i w b inner at width small =
      let some = packed_some b.len i b.children inner.entries.packed at.within in
      let cut = cut_child key i b some.0 inner at some.1 in
      let wide : w ≡ some.0.node.value.width = subst (λ o. IfSome o (λ k. w ≡ k.node.value.width)) some.1 width in
      record { within = at.within; below = cut.below; above = cut.above; room = subst (λ o. IfSome o (λ k. k.node.value.width < 32)) (sym some.1) (omega (arith, wide)) }

  pub same_alone : (b : NodeInner V) → IsInner b → IsWholeAgain 0 b b
  same_alone b inner = record { height = refl; len = omega arith; rows = refl; whole = inner }

  -- a full child is 32 wide
  pub full_width : (key i w : ℕ) (b : NodeInner V) → IsInner b → IsChildPlace key i b.len b.leasts → IfSome (get_or b.children i None) (λ k. w ≡ k.node.value.width) → 32 ≤ w → IfSome (get_or b.children i None) (λ k. k.node.value.width ≡ 32)
  full_width key i w b inner at width big =
      let some = packed_some b.len i b.children inner.entries.packed at.within in
      let cut = cut_child key i b some.0 inner at some.1 in
      let wide : w ≡ some.0.node.value.width = subst (λ o. IfSome o (λ k. w ≡ k.node.value.width)) some.1 width in
      subst (λ o. IfSome o (λ k. k.node.value.width ≡ 32)) (sym some.1) (omega (arith, wide, big, cut.child.well.fits))

  -- a child was halved, and its upper half put behind it
  pub split_halves : (i least : ℕ) (b mid new : NodeInner V) (k low high : NodePart V) (x z : Seen V) → IsInner b → i < b.len → get_or b.children i None ≡ Some k → mid ≡ record b { children = set b.children i (Some low) } → children_of new ≡ take (i + 1) (children_of mid) ++ ((least, high) ∷ drop (i + 1) (children_of mid)) → new.height ≡ mid.height → new.len ≡ mid.len + 1 → AreEntries new.len new.leasts new.children
      → IsHalved k.node.value x z → low.node.value ≡ x → low.count ≡ length x.rows → high.node.value ≡ z → high.count ≡ length z.rows → (0 < z.width → StartsWith least z.rows) → IsSplitAt i (i + 1) b new
  split_halves i least b mid new k low high x z inner lt got em en height len are_entries halved el cl eh ch starts =
      let e = children_of b in
      let h = b.height - 1 in
      let old = entries_split b.len i k b.leasts b.children inner.entries got in
      let child = (each-right (IsChild h) (take i e) (child_at b i k ∷ drop (i + 1) e) (subst (AllByRecursion (IsChild h)) old inner.children)).0 in
      let written = entries_written b.len i low b.leasts b.children inner.entries lt in
      let long = length-take-le i e (omega (arith, entries_length b.len b.leasts b.children inner.entries, lt)) in
      let front = take i e ++ (child_at b i low ∷ []) in
      let cut : children_of mid ≡ front ++ drop (i + 1) e = ap children_of em ∙ written.1 ∙ sym (append_assoc (take i e) (child_at b i low ∷ []) (drop (i + 1) e)) in
      let wide : length front ≡ i + 1 = omega (arith, length-append (take i e) (child_at b i low ∷ []), long) in
      let list : children_of new ≡ take i e ++ (child_at b i low ∷ ((least, high) ∷ drop (i + 1) e)) =
      en ∙ ap (λ r. r ++ ((least, high) ∷ drop (i + 1) (children_of mid))) (ap (take (i + 1)) cut ∙ take_at front (drop (i + 1) e) (i + 1) wide)
      ∙ ap (λ r. front ++ ((least, high) ∷ r)) (ap (drop (i + 1)) cut ∙ drop_at front (drop (i + 1) e) (i + 1) wide)
      ∙ append_assoc (take i e) (child_at b i low ∷ []) ((least, high) ∷ drop (i + 1) e) in
      let one = node_at h k.node.value.height x child.level halved.low in
      let two = node_at h k.node.value.height z child.level halved.high in
      let tail = rows_of (drop (i + 1) e) in
      record {
        low = child_at b i low;
        high = (least, high);
        list = list;
        height = height ∙ ap (λ n. n.height) em;
        len = omega (arith, len, ap (λ n. n.len) em);
        entries = are_entries;
        rows = ap rows_of list ∙ rows_of-append (take i e) (child_at b i low ∷ ((least, high) ∷ drop (i + 1) e))
            ∙ ap (λ r. rows_of (take i e) ++ r) (ap (λ s. s.rows ++ (high.node.value.rows ++ tail)) el ∙ ap (λ s. x.rows ++ (s.rows ++ tail)) eh ∙ sym (append_assoc x.rows z.rows tail) ∙ ap (λ r. r ++ tail) halved.rows)
            ∙ sym (ap rows_of old ∙ rows_of-append (take i e) (child_at b i k ∷ drop (i + 1) e));
        lower = child_of_node h (get_or b.leasts i 0) low x one el cl (starts_front (get_or b.leasts i 0) x.rows z.rows (some_rows h x one) (subst (StartsWith (get_or b.leasts i 0)) (sym halved.rows) child.first));
        upper = child_of_node h least high z two eh ch (starts (omega (arith, two.enough)));
        low_room = omega (arith, ap (λ s. s.width) el, halved.low_width);
        high_room = omega (arith, ap (λ s. s.width) eh, halved.high_width);
      }

  -- the children in front of a place and from another on
  front_children : (h from : ℕ) (children : List (NodeChild V)) → AllByRecursion (IsChild h) children → AllByRecursion (IsChild h) (take from children)
  front_children h from children all = each-left (IsChild h) (take from children) (drop from children) (subst (AllByRecursion (IsChild h)) (sym (take-append-drop from children)) all)

  back_children : (h to : ℕ) (children : List (NodeChild V)) → AllByRecursion (IsChild h) children → AllByRecursion (IsChild h) (drop to children)
  back_children h to children all = each-right (IsChild h) (take to children) (drop to children) (subst (AllByRecursion (IsChild h)) (sym (take-append-drop to children)) all)

  pub split_same : (from to : ℕ) (b new : NodeInner V) → IsInner b → IsSplitAt from to b new → IsWholeAgain 0 b new
  split_same from to b new inner sp =
      let h = b.height - 1 in
      let a = take from (children_of b) in
      let d = drop to (children_of b) in
      record {
        height = sp.height;
        len = omega (arith, sp.len);
        rows = sp.rows;
        whole = record {
          above_leaves = omega (arith, sp.height, inner.above_leaves);
          some = omega (arith, sp.len, inner.some);
          entries = sp.entries;
          children = subst (λ n. AllByRecursion (IsChild (n - 1)) (children_of new)) (sym sp.height) (subst (AllByRecursion (IsChild h)) (sym sp.list) (each-append (IsChild h) a (sp.low ∷ (sp.high ∷ d)) (front_children h from (children_of b) inner.children) (sp.lower, (sp.upper, back_children h to (children_of b) inner.children))));
          ordered = subst (IsOrderedBy key_of_pair) (sym sp.rows) inner.ordered;
          keys = subst (KeysBelow key_limit) (sym sp.rows) inner.keys;
        };
      }

  ordered_tail : (from to : ℕ) (b new : NodeInner V) → IsInner b → (sp : IsSplitAt from to b new) → IsOrderedBy key_of_pair (sp.low.1.node.value.rows ++ (sp.high.1.node.value.rows ++ rows_of (drop to (children_of b))))
  ordered_tail from to b new inner sp =
      let a = take from (children_of b) in
      let d = drop to (children_of b) in
      ordered-right key_of_pair (rows_of a) (sp.low.1.node.value.rows ++ (sp.high.1.node.value.rows ++ rows_of d)) (subst (IsOrderedBy key_of_pair) (sym sp.rows ∙ ap rows_of sp.list ∙ rows_of-append a (sp.low ∷ (sp.high ∷ d))) inner.ordered)

  -- the rows in front of a place are below a key where those in front of a later one are
  below_front : (key from i : ℕ) (children : List (NodeChild V)) → from ≤ i → KeysBelow key (rows_of (take i children)) → KeysBelow key (rows_of (take from children))
  below_front key from i children le below =
      let rest = rows_of (drop from (take i children)) in
      let cut = ap rows_of (sym (take-append-drop from (take i children))) ∙ rows_of-append (take from (take i children)) (drop from (take i children)) ∙ ap (λ l. rows_of l ++ rest) (take-take from i children le) in
      each-left (λ p. p.0 < key) (rows_of (take from children)) rest (subst (KeysBelow key) cut below)

  -- the rows from a place on are from a key on where those from an earlier one on are
  above_back : (key i to : ℕ) (children : List (NodeChild V)) → i ≤ to → KeysFrom key (rows_of (drop i children)) → KeysFrom key (rows_of (drop to children))
  above_back key i to children le above =
      let front = rows_of (take (to - i) (drop i children)) in
      let cut = ap rows_of (sym (take-append-drop (to - i) (drop i children))) ∙ rows_of-append (take (to - i) (drop i children)) (drop (to - i) (drop i children)) ∙ ap (λ l. front ++ rows_of l) (drop-drop (to - i) i children ∙ ap (λ j. drop j children) (omega (arith, le))) in
      each-right (λ p. key ≤ p.0) front (rows_of (drop to children)) (subst (KeysFrom key) cut above)

  -- where the second of the two stands
  split_front : (from to i : ℕ) (b new : NodeInner V) → from ≤ i → i < b.len → IsInner b → (sp : IsSplitAt from to b new) → (children_of new ≡ (take from (children_of b) ++ (sp.low ∷ [])) ++ (sp.high ∷ drop to (children_of b))) × (length (take from (children_of b)) ≡ from) × (length (take from (children_of b) ++ (sp.low ∷ [])) ≡ from + 1)
  split_front from to i b new le lt inner sp =
      let a = take from (children_of b) in
      let long : length a ≡ from = length-take-le from (children_of b) (omega (arith, entries_length b.len b.leasts b.children inner.entries, le, lt)) in
      (sp.list ∙ sym (append_assoc a (sp.low ∷ []) (sp.high ∷ drop to (children_of b))), long, omega (arith, length-append a (sp.low ∷ []), long))

  pub split_next : (from to i : ℕ) (b new : NodeInner V) → from ≤ i → i < b.len → IsInner b → (sp : IsSplitAt from to b new) → IsReadAs (from + 1) new sp.high
  split_next from to i b new le lt inner sp =
      let front = split_front from to i b new le lt inner sp in
      read_part (from + 1) new (take from (children_of b) ++ (sp.low ∷ [])) (drop to (children_of b)) sp.high sp.entries front.0 front.2

  pub split_low : (from to i : ℕ) (b new : NodeInner V) (key : ℕ) (k : NodeChild V) → from ≤ i → i < b.len → IsInner b → IsCutAt key (b.height - 1) i (children_of b) k → (sp : IsSplitAt from to b new) → key < sp.high.0 → IsRoomAt key from new
  split_low from to i b new key k le lt inner cut sp less =
      let d = drop to (children_of b) in
      let low = sp.low.1.node.value.rows in
      let high = sp.high.1.node.value.rows in
      let o = ordered-right key_of_pair low (high ++ rows_of d) (ordered_tail from to b new inner sp) in
      room_at_of key from new (take from (children_of b)) (sp.high ∷ d) sp.low sp.entries sp.list (split_front from to i b new le lt inner sp).1 (below_front key from i (children_of b) le cut.below)
      (from-weaker key_of_pair (key + 1) sp.high.0 (high ++ rows_of d) (omega (arith, less)) (from_start key_of_pair sp.high.0 (high ++ rows_of d) (starts_left key_of_pair sp.high.0 high (rows_of d) sp.upper.first) o))
      sp.low_room

  pub split_high : (from to i : ℕ) (b new : NodeInner V) (key : ℕ) (k : NodeChild V) → from ≤ i → i < to → i < b.len → IsInner b → IsCutAt key (b.height - 1) i (children_of b) k → (sp : IsSplitAt from to b new) → sp.high.0 ≤ key → IsRoomAt key (from + 1) new
  split_high from to i b new key k le behind lt inner cut sp more =
      let a = take from (children_of b) in
      let d = drop to (children_of b) in
      let low = sp.low.1.node.value.rows in
      let high = sp.high.1.node.value.rows in
      let lows = below-weaker key_of_pair sp.high.0 key low more (below_start key_of_pair sp.high.0 low high (rows_of d) sp.upper.first (ordered_tail from to b new inner sp)) in
      let below = subst (KeysBelow key) (sym (rows_of-append a (sp.low ∷ []))) (each-append (λ p. p.0 < key) (rows_of a) (low ++ []) (below_front key from i (children_of b) le cut.below) (each-append (λ p. p.0 < key) low [] lows tt)) in
      let front = split_front from to i b new le lt inner sp in
      room_at_of key (from + 1) new (a ++ (sp.low ∷ [])) d sp.high sp.entries front.0 front.2 below (above_back (key + 1) (i + 1) to (children_of b) (omega (arith, behind)) cut.above) sp.high_room

  -- the place with room as a cut
  pub cut_of_room : (key i : ℕ) (b : NodeInner V) (k : NodePart V) → IsInner b → IsRoomAt key i b → get_or b.children i None ≡ Some k → (IsCutAt key (b.height - 1) i (children_of b) (child_at b i k)) × (k.node.value.width < 32)
  cut_of_room key i b k inner at got =
      let children = children_of b in
      let x = child_at b i k in
      let split = entries_split b.len i k b.leasts b.children inner.entries got in
      let all = subst (AllByRecursion (IsChild (b.height - 1))) split inner.children in
      let back = each-right (IsChild (b.height - 1)) (take i children) (x ∷ drop (i + 1) children) all in (
        record {
          list = split;
          child = back.0;
          before = each-left (IsChild (b.height - 1)) (take i children) (x ∷ drop (i + 1) children) all;
          after = back.1;
          below = at.below;
          above = at.above;
          rows = ap rows_of split ∙ rows_of-append (take i children) (x ∷ drop (i + 1) children);
        },
        subst (λ o. IfSome o (λ j. j.node.value.width < 32)) got at.room,
      )

  -- a row that came in after room was made
  pub grown_after : (key : ℕ) (o : Option V) (b mid : NodeInner V) (k : NodePart V) (child_node n now : Seen V) (i least count : ℕ) → now ≡ seen_inner b → IsWholeAgain 0 b mid → i < mid.len → IsCutAt key (mid.height - 1) i (children_of mid) (child_at mid i k) → child_node ≡ k.node.value → key < key_limit → row_at key_of_pair key now.rows ≡ None → IfSome o (λ v. IsGrown key v child_node n) → IsSome o → least ≡ min (get_or mid.leasts i 0) key → count ≡ k.count + 1
      → (IsInner (inner_set mid i least (part_grown k count n))) × IfSome o (λ v. IsGrown key v now (seen_inner (inner_set mid i least (part_grown k count n))))
  grown_after key None b mid k child_node n now i least count e same lt cut ec small none grown some el en = let wrong : ⊥ = cc in absurd wrong
  grown_after key (Some v) b mid k child_node n now i least count e same lt cut ec small none grown some el en =
      let absent : row_at key_of_pair key k.node.value.rows ≡ None = sym (find_cut key i (mid.height - 1) (children_of mid) (child_at mid i k) cut) ∙ ap (row_at key_of_pair key) same.rows ∙ ap (λ s. row_at key_of_pair key s.rows) (sym e) ∙ none in
      let all = grown_inner key i v mid k n least count same.whole lt cut small absent (subst (λ s. IsGrown key v s n) ec grown) el en in (
        all.0,
        subst (λ s. IsGrown key v s (seen_inner (inner_set mid i least (part_grown k count n)))) (sym e) (record {
          rows = all.2.rows ∙ ap (with_row key_of_pair (key, v)) same.rows;
          level = all.2.level ∙ same.height;
          width = omega (arith, all.2.width, same.len);
          well = all.2.well;
        }),
      )
