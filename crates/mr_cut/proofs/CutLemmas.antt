-- A tree that is cut at a key.
use Rattle.mr_cut.proofs.Common.{◌≡◌, ℕ, ◌+◌, ◌-◌, ◌*◌, ◌<◌, ◌≤◌, List, [], ◌∷◌, ◌++◌, length, take, drop, nat_lt, nat_le, true, false, sym, ap, subst, ◌∙◌, arith, append-nil, take_at, inl, inr, AllByRecursion, add-mul, le-mul_of_pos_right, mul-add, mul-le, cases_lt, lt-ltb, lt-leb, le-ltb, le-leb, filter-append, abs_diff, each-weaker, filter_all, filter_none, append_assoc, drop_all, drop_at, length-append, nil_from_length, IsOrderedBy, each-append, each-left, each-right, ordered-left, ordered-right, from-weaker, Leaf, Seen, key_of_pair, key_limit, KeysBelow, KeysFrom, AreEntries, IsChildPlace, NodeChild, NodeInner, children_of, rows_of, pairs_of, IsChild, IsLeaf, IsInner, seen_leaf, seen_inner, packed_some, entries_length, rows_of-append, cut_child, leaf_well, inner_well, IsRoot, IsRest, IsHeightOfBoth, rows_below, rows_from, IsSideRoot, IsDividedNode, IsCut}

-- numbers up to a bound are no further apart
near : (a b n : ℕ) → a ≤ n → b ≤ n → abs_diff a b ≤ n
near a b n le me = omega (arith, le, me)

-- the square of the next number
square_next : (a b : ℕ) → a ≡ b + 1 → a * a ≡ b * b + (2 * b + 1)
square_next a b e = ap (λ n. n * n) e ∙ add-mul b 1 (b + 1) ∙ omega (arith, mul-add b b 1)

-- what the path and the joins beside it take together, in a tree of less than 16 levels
pub both_meters : (k h path joins : ℕ) → k ≡ h → h < 16 → path ≤ 3 * (k + 1) → joins ≤ 32 * ((k + 1) * (k + 1)) → (path + joins ≤ 64 * ((h + 1) * (h + 1))) × (path + joins < 16384)
both_meters k h path joins e low first second =
    let one : path ≤ 3 * (h + 1) = omega (arith, e, first) in
    let two : joins ≤ 32 * ((h + 1) * (h + 1)) = subst (λ n. joins ≤ 32 * ((n + 1) * (n + 1))) e second in
    let square : h + 1 ≤ (h + 1) * (h + 1) = le-mul_of_pos_right (h + 1) (omega arith) in
    let most : (h + 1) * (h + 1) ≤ 256 = mul-le (h + 1) (h + 1) 16 16 (omega (arith, low)) (omega (arith, low)) in
    (omega (arith, one, two, square), omega (arith, one, two, most, low))

module _ {V : Type 0} where
  -- no children: a blank leaf
  pub piece_none : (b : NodeInner V) (x : Seen V) → IsRest b → b.len ≡ 0 → x ≡ record { height = 0; width = 0; rows = [] } → (IsSideRoot b.height x) × (x.rows ≡ rows_of (children_of b))
  piece_none b x rest none e =
      let nil : children_of b ≡ [] = nil_from_length (children_of b) (entries_length b.len b.leasts b.children rest.entries ∙ none) in
      let blank : IsSideRoot b.height (record { height = 0; width = 0; rows = [] }) = record {
        root = record { well = record { fits = omega arith; ordered = tt; keys = tt; at_least = omega arith; at_most = omega arith }; two = λ above_leaves. absurd (omega (arith, above_leaves)) };
        low = omega arith;
        room = λ high. omega arith;
      } in
      (subst (IsSideRoot b.height) (sym e) blank, ap (λ s. s.rows) e ∙ sym (ap rows_of nil))

  -- one child: that child
  pub piece_one : (b : NodeInner V) (k : NodeChild V) → IsRest b → b.len ≡ 1 → children_of b ≡ k ∷ drop 1 (children_of b) → (IsSideRoot b.height k.1.node.value) × (k.1.node.value.rows ≡ rows_of (children_of b))
  piece_one b k rest one e =
      let none : drop 1 (children_of b) ≡ [] = drop_all 1 (children_of b) (omega (arith, entries_length b.len b.leasts b.children rest.entries, one)) in
      let list : children_of b ≡ k ∷ [] = e ∙ ap (λ r. k ∷ r) none in
      let child = (subst (AllByRecursion (IsChild (b.height - 1))) list rest.children).0 in (
        record {
          root = record { well = child.well; two = λ above_leaves. omega (arith, child.enough) };
          low = omega (arith, child.level);
          room = λ high. absurd (omega (arith, high, child.level, rest.above_leaves));
        },
        sym (ap rows_of list ∙ append-nil k.1.node.value.rows),
      )

  -- more of them: an inner node
  pub some_children : (b : NodeInner V) → IsRest b → 0 < b.len → IsInner b
  some_children b rest some = record { above_leaves = rest.above_leaves; some = some; entries = rest.entries; children = rest.children; ordered = rest.ordered; keys = rest.keys }

  pub piece_many : (b : NodeInner V) (x : Seen V) → IsRest b → 2 ≤ b.len → b.len < 32 → x ≡ seen_inner b → (IsSideRoot b.height x) × (x.rows ≡ rows_of (children_of b))
  piece_many b x rest two room e =
      let whole : IsSideRoot b.height (seen_inner b) = record {
        root = record { well = inner_well b (some_children b rest (omega (arith, two))); two = λ above_leaves. two };
        low = omega arith;
        room = λ high. room;
      } in
      (subst (IsSideRoot b.height) (sym e) whole, ap (λ s. s.rows) e)

  -- an inner node cut around the child to which a key belongs
  pub record IsCutAround (key : ℕ) (b front behind : NodeInner V) (k : NodeChild V) : Type 0 where
    pub first : IsRest front
    pub second : IsRest behind
    pub child : IsChild (b.height - 1) k
    pub first_room : front.len < 32
    pub second_room : behind.len < 32
    pub rows : rows_of (children_of front) ++ (k.1.node.value.rows ++ rows_of (children_of behind)) ≡ rows_of (children_of b)
    pub below : KeysBelow key (rows_of (children_of front))
    pub from : KeysFrom key (rows_of (children_of behind))

  rest_part : (b part : NodeInner V) → 0 < b.height → part.height ≡ b.height → AreEntries part.len part.leasts part.children → AllByRecursion (IsChild (b.height - 1)) (children_of part) → IsOrderedBy key_of_pair (rows_of (children_of part)) → KeysBelow key_limit (rows_of (children_of part)) → IsRest part
  rest_part b part above_leaves height are_entries children ordered keys = record {
    above_leaves = omega (arith, height, above_leaves);
    entries = are_entries;
    children = subst (λ m. AllByRecursion (IsChild (m - 1)) (children_of part)) (sym height) children;
    ordered = ordered;
    keys = keys;
  }

  -- the keys in front of that child and behind it
  beside : (key i : ℕ) (b : NodeInner V) → IsInner b → IsChildPlace key i b.len b.leasts → (KeysBelow key (rows_of (take i (children_of b)))) × (KeysFrom key (rows_of (drop (i + 1) (children_of b))))
  beside key i b inner at =
      let some = packed_some b.len i b.children inner.entries.packed at.within in
      let cut = cut_child key i b some.0 inner at some.1 in
      (cut.below, from-weaker key_of_pair key (key + 1) (rows_of (drop (i + 1) (children_of b))) (omega arith) cut.above)

  cut_around_of : (key i : ℕ) (b front behind : NodeInner V) (k : NodeChild V) → IsInner b → IsChildPlace key i b.len b.leasts → front.height ≡ b.height → behind.height ≡ b.height → AreEntries front.len front.leasts front.children → AreEntries behind.len behind.leasts behind.children → front.len ≡ i → children_of b ≡ children_of front ++ (k ∷ children_of behind) → IsCutAround key b front behind k
  cut_around_of key i b front behind k inner at front_height behind_height front_entries behind_entries len list =
      let h = b.height - 1 in
      let P = IsChild h in
      let f = children_of front in
      let r = children_of behind in
      let long : length f ≡ i = entries_length front.len front.leasts front.children front_entries ∙ len in
      let all = subst (AllByRecursion P) list inner.children in
      let back = each-right P f (k ∷ r) all in
      let rows : rows_of (children_of b) ≡ rows_of f ++ (k.1.node.value.rows ++ rows_of r) = ap rows_of list ∙ rows_of-append f (k ∷ r) in
      let o = subst (IsOrderedBy key_of_pair) rows inner.ordered in
      let small = subst (KeysBelow key_limit) rows inner.keys in
      let Q = λ (p : ℕ × V). p.0 < key_limit in
      let sides = beside key i b inner at in
      let fronts : take i (children_of b) ≡ f = ap (take i) list ∙ take_at f (k ∷ r) i long in
      let backs : drop (i + 1) (children_of b) ≡ r = ap (drop (i + 1)) (list ∙ sym (append_assoc f (k ∷ []) r)) ∙ drop_at (f ++ (k ∷ [])) r (i + 1) (omega (arith, length-append f (k ∷ []), long)) in
      let both : length f + (1 + length r) ≡ b.len = omega (arith, ap length list, length-append f (k ∷ r), entries_length b.len b.leasts b.children inner.entries) in
      record {
        first = rest_part b front inner.above_leaves front_height front_entries (each-left P f (k ∷ r) all) (ordered-left key_of_pair (rows_of f) (k.1.node.value.rows ++ rows_of r) o) (each-left Q (rows_of f) (k.1.node.value.rows ++ rows_of r) small);
        second = rest_part b behind inner.above_leaves behind_height behind_entries back.1 (ordered-right key_of_pair k.1.node.value.rows (rows_of r) (ordered-right key_of_pair (rows_of f) (k.1.node.value.rows ++ rows_of r) o)) (each-right Q k.1.node.value.rows (rows_of r) (each-right Q (rows_of f) (k.1.node.value.rows ++ rows_of r) small));
        child = back.0;
        first_room = omega (arith, both, inner.entries.fits, entries_length front.len front.leasts front.children front_entries);
        second_room = omega (arith, both, inner.entries.fits, entries_length behind.len behind.leasts behind.children behind_entries);
        rows = sym rows;
        below = subst (λ l. KeysBelow key (rows_of l)) fronts sides.0;
        from = subst (λ l. KeysFrom key (rows_of l)) backs sides.1;
      }

  -- the same from the cut behind that child and its removal
  pub cut_around : (key i : ℕ) (b mid front behind : NodeInner V) (k : NodeChild V) → IsInner b → IsChildPlace key i b.len b.leasts → children_of mid ++ children_of behind ≡ children_of b → mid.len ≡ i + 1 → mid.height ≡ b.height → behind.height ≡ b.height → AreEntries mid.len mid.leasts mid.children → AreEntries behind.len behind.leasts behind.children
      → front.height ≡ mid.height → front.len + 1 ≡ mid.len → AreEntries front.len front.leasts front.children → children_of front ≡ take i (children_of mid) ++ drop (i + 1) (children_of mid) → children_of mid ≡ take i (children_of mid) ++ (k ∷ drop (i + 1) (children_of mid)) → IsCutAround key b front behind k
  cut_around key i b mid front behind k inner at list mid_len mid_height behind_height mid_entries behind_entries height len are_entries rest split =
      let none : drop (i + 1) (children_of mid) ≡ [] = drop_all (i + 1) (children_of mid) (omega (arith, entries_length mid.len mid.leasts mid.children mid_entries, mid_len)) in
      let front_is : children_of front ≡ take i (children_of mid) = rest ∙ ap (λ l. take i (children_of mid) ++ l) none ∙ append-nil (take i (children_of mid)) in
      let mid_is : children_of mid ≡ children_of front ++ (k ∷ []) = split ∙ ap (λ l. take i (children_of mid) ++ (k ∷ l)) none ∙ ap (λ l. l ++ (k ∷ [])) (sym front_is) in
      let whole : children_of b ≡ children_of front ++ (k ∷ children_of behind) = sym list ∙ ap (λ l. l ++ children_of behind) mid_is ∙ append_assoc (children_of front) (k ∷ []) (children_of behind) in
      cut_around_of key i b front behind k inner at (height ∙ mid_height) behind_height are_entries behind_entries (omega (arith, len, mid_len)) whole

  -- and roots over the children on both sides
  pub divided_of : (key : ℕ) (b front behind : NodeInner V) (k : NodeChild V) (left right : Seen V) → IsInner b → IsCutAround key b front behind k → front.height ≡ b.height → behind.height ≡ b.height → IsSideRoot front.height left → IsSideRoot behind.height right → left.rows ≡ rows_of (children_of front) → right.rows ≡ rows_of (children_of behind) → IsDividedNode key b left k.1.node.value right
  divided_of key b front behind k left right inner around fh bh lp rp lr rr = record {
    front = subst (λ h. IsSideRoot h left) fh lp;
    back = subst (λ h. IsSideRoot h right) bh rp;
    level = omega (arith, around.child.level, inner.above_leaves);
    rows = ap (λ l. l ++ (k.1.node.value.rows ++ right.rows)) lr ∙ ap (λ l. rows_of (children_of front) ++ (k.1.node.value.rows ++ l)) rr ∙ around.rows;
    below = subst (KeysBelow key) (sym lr) around.below;
    from = subst (KeysFrom key) (sym rr) around.from;
  }

  -- a leaf cut in two
  leaf_root : (leaf : Leaf V) (x : Seen V) → x ≡ seen_leaf leaf → IsLeaf leaf → IsRoot x
  leaf_root leaf x e is = subst IsRoot (sym e) (record { well = leaf_well leaf is; two = λ above_leaves. absurd (omega (arith, above_leaves)) })

  pub leaf_halves : (key : ℕ) (leaf low high : Leaf V) (x y : Seen V) → IsLeaf low → IsLeaf high → pairs_of low ++ pairs_of high ≡ pairs_of leaf → KeysBelow key (pairs_of low) → KeysFrom key (pairs_of high) → x ≡ seen_leaf low → y ≡ seen_leaf high → IsCut key (seen_leaf leaf) x y
  leaf_halves key leaf low high x y lw hw rows below from ex ey = record {
    low_root = leaf_root low x ex lw;
    high_root = leaf_root high y ey hw;
    rows = ap (λ s. s.rows ++ y.rows) ex ∙ ap (λ s. pairs_of low ++ s.rows) ey ∙ rows;
    below = subst (λ s. KeysBelow key s.rows) (sym ex) below;
    from = subst (λ s. KeysFrom key s.rows) (sym ey) from;
    low_height = omega (arith, ap (λ s. s.height) ex);
    high_height = omega (arith, ap (λ s. s.height) ey);
  }

  -- the rows of a divided node whose middle was cut, as they are joined
  pub rejoined : (key : ℕ) (b : NodeInner V) (left mid right low high : Seen V) → IsDividedNode key b left mid right → IsCut key mid low high → rows_of (children_of b) ≡ (left.rows ++ low.rows) ++ (high.rows ++ right.rows)
  rejoined key b left mid right low high divided cut =
      sym divided.rows ∙ ap (λ l. left.rows ++ (l ++ right.rows)) (sym cut.rows) ∙ ap (λ l. left.rows ++ l) (append_assoc low.rows high.rows right.rows) ∙ sym (append_assoc left.rows low.rows (high.rows ++ right.rows))

  pub cut_of : {key : ℕ} {b : NodeInner V} {left mid right low high x y : Seen V} → IsDividedNode key b left mid right → IsCut key mid low high → IsRoot x → x.rows ≡ left.rows ++ low.rows → IsHeightOfBoth left low x.height → IsRoot y → y.rows ≡ high.rows ++ right.rows → IsHeightOfBoth high right y.height → IsCut key (seen_inner b) x y
  cut_of {key = key} {b = b} {left = left} {mid = mid} {right = right} {low = low} {high = high} {x = x} {y = y} divided cut x_root x_rows x_height y_root y_rows y_height = record {
    low_root = x_root;
    high_root = y_root;
    rows = ap (λ l. l ++ y.rows) x_rows ∙ ap (λ l. (left.rows ++ low.rows) ++ l) y_rows ∙ sym (rejoined key b left mid right low high divided cut);
    below = subst (KeysBelow key) (sym x_rows) (each-append (λ p. p.0 < key) left.rows low.rows divided.below cut.below);
    from = subst (KeysFrom key) (sym y_rows) (each-append (λ p. key ≤ p.0) high.rows right.rows cut.from divided.from);
    low_height = low_join b.height left low x.height divided.front x_height (omega (arith, cut.low_height, divided.level));
    high_height = high_join b.height right high y.height divided.back y_height (omega (arith, cut.high_height, divided.level));
  }
    where
      low_join : (h : ℕ) (piece other : Seen V) (height : ℕ) → IsSideRoot h piece → IsHeightOfBoth piece other height → other.height < h → height ≤ h
      low_join h piece other height p both lower = elim (cases_lt piece.height h) [
        | inl lt ↦ omega (arith, both.most, lt, lower)
        | inr le ↦
            let same : piece.height ≡ h = omega (arith, le, p.low) in
            omega (arith, same, both.left (omega (arith, same, lower)) (p.room same))
      ]

      high_join : (h : ℕ) (piece other : Seen V) (height : ℕ) → IsSideRoot h piece → IsHeightOfBoth other piece height → other.height < h → height ≤ h
      high_join h piece other height p both lower = elim (cases_lt piece.height h) [
        | inl lt ↦ omega (arith, both.most, lt, lower)
        | inr le ↦
            let same : piece.height ≡ h = omega (arith, le, p.low) in
            omega (arith, same, both.right (omega (arith, same, lower)) (p.room same))
      ]

  -- how many blank nodes and steps a cut has more than that of the child to which the key belongs
  pub record IsMiddleOf (node mid : Seen V) : Type 0 where
    pub level : node.height ≡ mid.height + 1
    pub blanks : (node.height + 2) * (node.height + 2) ≡ (mid.height + 2) * (mid.height + 2) + (2 * (mid.height + 2) + 1)
    pub steps : (node.height + 1) * (node.height + 1) ≡ (mid.height + 1) * (mid.height + 1) + (2 * (mid.height + 1) + 1)

  pub middle_of : {key : ℕ} {b : NodeInner V} {node left mid right : Seen V} → seen_inner b ≡ node → IsDividedNode key b left mid right → IsMiddleOf node mid
  middle_of {node = node} {mid = mid} now divided =
      let level : node.height ≡ mid.height + 1 = omega (arith, divided.level, ap (λ s. s.height) now) in
      record { level = level; blanks = square_next (node.height + 2) (mid.height + 2) (omega (arith, level)); steps = square_next (node.height + 1) (mid.height + 1) (omega (arith, level)) }

  -- what the two joins of a cut want: their parts are in order, and no further apart in height than the node is high
  pub record AreJoinable (node left low high right : Seen V) : Type 0 where
    pub low_ordered : IsOrderedBy key_of_pair (left.rows ++ low.rows)
    pub high_ordered : IsOrderedBy key_of_pair (high.rows ++ right.rows)
    pub low_near : abs_diff left.height low.height ≤ node.height
    pub high_near : abs_diff high.height right.height ≤ node.height

  pub joinable : {key : ℕ} {b : NodeInner V} {node left mid right low high : Seen V} → IsInner b → seen_inner b ≡ node → IsDividedNode key b left mid right → IsCut key mid low high → AreJoinable node left low high right
  joinable {key = key} {b = b} {node = node} {left = left} {mid = mid} {right = right} {low = low} {high = high} inner now divided cut =
      let level = (middle_of now divided).level in
      let same : b.height ≡ node.height = ap (λ s. s.height) now in
      let ordered = subst (IsOrderedBy key_of_pair) (rejoined key b left mid right low high divided cut) inner.ordered in
      record {
        low_ordered = ordered-left key_of_pair (left.rows ++ low.rows) (high.rows ++ right.rows) ordered;
        high_ordered = ordered-right key_of_pair (left.rows ++ low.rows) (high.rows ++ right.rows) ordered;
        low_near = near left.height low.height node.height (omega (arith, divided.front.low, same)) (omega (arith, cut.low_height, level));
        high_near = near high.height right.height node.height (omega (arith, cut.high_height, level)) (omega (arith, divided.back.low, same));
      }

  -- the filters of a list that was cut
  passed : (key : ℕ) (rows : List (ℕ × V)) → KeysBelow key rows → (rows_below key rows ≡ rows) × (rows_from key rows ≡ [])
  passed key rows below = (
    filter_all (λ p. nat_lt p.0 key) rows (each-weaker {P = λ p. p.0 < key} {Q = λ p. nat_lt p.0 key ≡ true} (λ p lt. lt-ltb p.0 key lt) rows below),
    filter_none (λ p. nat_le key p.0) rows (each-weaker {P = λ p. p.0 < key} {Q = λ p. nat_le key p.0 ≡ false} (λ p lt. lt-leb key p.0 lt) rows below),
  )

  failed : (key : ℕ) (rows : List (ℕ × V)) → KeysFrom key rows → (rows_below key rows ≡ []) × (rows_from key rows ≡ rows)
  failed key rows from = (
    filter_none (λ p. nat_lt p.0 key) rows (each-weaker {P = λ p. key ≤ p.0} {Q = λ p. nat_lt p.0 key ≡ false} (λ p le. le-ltb p.0 key le) rows from),
    filter_all (λ p. nat_le key p.0) rows (each-weaker {P = λ p. key ≤ p.0} {Q = λ p. nat_le key p.0 ≡ true} (λ p le. le-leb key p.0 le) rows from),
  )

  pub cut_rows : (key : ℕ) (whole low high : Seen V) → IsCut key whole low high → (low.rows ≡ rows_below key whole.rows) × (high.rows ≡ rows_from key whole.rows)
  cut_rows key whole low high cut =
      let front = passed key low.rows cut.below in
      let back = failed key high.rows cut.from in (
        sym (ap (rows_below key) (sym cut.rows) ∙ filter-append (λ p. nat_lt p.0 key) low.rows high.rows ∙ ap (λ l. l ++ rows_below key high.rows) front.0 ∙ ap (λ l. low.rows ++ l) back.0 ∙ append-nil low.rows),
        sym (ap (rows_from key) (sym cut.rows) ∙ filter-append (λ p. nat_le key p.0) low.rows high.rows ∙ ap (λ l. l ++ rows_from key high.rows) front.1 ∙ back.1),
      )
