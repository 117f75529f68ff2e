-- What becomes of an inner node when a child of it changes in place.
use Rattle.mr_node.proofs.Common.{◌≡◌, ℕ, Bool, true, false, ◌+◌, ◌-◌, ◌<◌, ◌≤◌, min, List, ◌∷◌, ◌++◌, length, get_or, set, take, drop, Option, Some, None, IsSome, IfSome, refl, sym, ap, subst, ◌∙◌, arith, if◌then◌else◌, length-append, set-get_or, IsOrderedBy, row_at, with_row_at, with_row, StartsAt, each-with_row, ordered-with_row, ordered-with_row_at, row_at-part, with_row_at-part, with_row-part, every-with_row_at-same, length-with_row_at, length-with_row, starts_with_row, starts_with_row_at, Seen, key_of_pair, key_limit, KeysBelow, NodePart, NodeChild, NodeInner, children_of, rows_of, IsWell, IsChild, IsInner, seen_inner, IsChildPlace, IsGrown, IsRoomAnswer, is_done, Room, Done, Exists, Full}
use mir.Val.{bool_byte}
use Rattle.mr_node.proofs.PlaceLemmas.{same_written}
use Rattle.mr_node.proofs.EntryListLemmas.{entries_written, entries_both}
use Rattle.mr_node.proofs.ChildLemmas.{IsCutAt, child_at, cut_child, rows_of-append, inner_of, leasts_are, leasts_rise}
use Rattle.mr_node.proofs.SizeLemmas.{inner_well, few_rows}

module _ {V : Type 0} where
  -- a child whose node is seen anew
  abbrev pub part_with : NodePart V → Seen V → NodePart V
  part_with k n = record k { node = record k.node { value = n } }

  -- an inner node with a child seen anew
  abbrev pub inner_with : NodeInner V → ℕ → NodePart V → NodeInner V
  inner_with b i k = record b { children = set b.children i (Some k) }

  -- an inner node with a child and its least key written
  abbrev pub inner_set : NodeInner V → ℕ → ℕ → NodePart V → NodeInner V
  inner_set b i least k = record b { leasts = set b.leasts i least; children = set b.children i (Some k) }

  -- what a search among the children asks
  pub children_rise : (b : NodeInner V) → IsInner b → IsOrderedBy key_of_pair (children_of b)
  children_rise b inner = leasts_rise 16 (b.height - 1) (children_of b) inner.children inner.ordered

  pub children_below : (b : NodeInner V) → IsInner b → KeysBelow key_limit (children_of b)
  children_below b inner = leasts_are (λ n. n < key_limit) 16 (b.height - 1) (children_of b) inner.children inner.keys

  pub find_cut : (key i h : ℕ) (children : List (NodeChild V)) (k : NodeChild V) → IsCutAt key h i children k → row_at key_of_pair key (rows_of children) ≡ row_at key_of_pair key k.1.node.value.rows
  find_cut key i h children k cut = ap (row_at key_of_pair key) cut.rows ∙ row_at-part key_of_pair key (rows_of (take i children)) k.1.node.value.rows (rows_of (drop (i + 1) children)) cut.below cut.above

  pub find_inner : (key i : ℕ) (b : NodeInner V) (k : NodePart V) → IsInner b → IsChildPlace key i b.len b.leasts → get_or b.children i None ≡ Some k → row_at key_of_pair key (rows_of (children_of b)) ≡ row_at key_of_pair key k.node.value.rows
  find_inner key i b k inner at got = find_cut key i (b.height - 1) (children_of b) (child_at b i k) (cut_child key i b k inner at got)

  -- the rows round a child that is written
  written_rows : (i : ℕ) (k : NodeChild V) (children new : List (NodeChild V)) → new ≡ take i children ++ (k ∷ drop (i + 1) children) → rows_of new ≡ rows_of (take i children) ++ (k.1.node.value.rows ++ rows_of (drop (i + 1) children))
  written_rows i k children new e = ap rows_of e ∙ rows_of-append (take i children) (k ∷ drop (i + 1) children)

  -- a replacement in a child
  replaced_rows : (key h i : ℕ) (value : V) (children new : List (NodeChild V)) (k x : NodeChild V) → IsCutAt key h i children k → new ≡ take i children ++ (x ∷ drop (i + 1) children) → x.1.node.value.rows ≡ with_row_at key_of_pair key (key, value) k.1.node.value.rows → rows_of new ≡ with_row_at key_of_pair key (key, value) (rows_of children)
  replaced_rows key h i value children new k x cut list e =
      let before = rows_of (take i children) in
      let after = rows_of (drop (i + 1) children) in
      written_rows i x children new list
      ∙ ap (λ r. before ++ (r ++ after)) e
      ∙ sym (ap (with_row_at key_of_pair key (key, value)) cut.rows ∙ with_row_at-part key_of_pair key (key, value) before k.1.node.value.rows after cut.below cut.above)

  replaced_child : (key h : ℕ) (value : V) (least : ℕ) (k : NodePart V) (n : Seen V) → IsChild h (least, k) → n ≡ record k.node.value { rows = with_row_at key_of_pair key (key, value) k.node.value.rows } → IsWell n → IsChild h (least, part_with k n)
  replaced_child key h value least k n child e well = record {
    level = ap (λ s. s.height) e ∙ child.level;
    enough = omega (arith, ap (λ s. s.width) e, child.enough);
    well = well;
    first = subst (λ s. StartsAt key_of_pair least s.rows) (sym e) (starts_with_row_at key_of_pair least key (key, value) k.node.value.rows refl child.first);
    counted = child.counted ∙ sym (ap (λ s. length s.rows) e ∙ length-with_row_at key_of_pair key (key, value) k.node.value.rows);
  }

  pub record IsReplacedIn (key i : ℕ) (value : V) (b : NodeInner V) (k : NodePart V) (n : Seen V) : Type 0 where
    pub whole : IsInner (inner_with b i (part_with k n))
    pub rows : rows_of (children_of (inner_with b i (part_with k n))) ≡ with_row_at key_of_pair key (key, value) (rows_of (children_of b))

  pub replaced_inner : (key i : ℕ) (value : V) (b : NodeInner V) (k : NodePart V) (n : Seen V) → IsInner b → IsChildPlace key i b.len b.leasts → get_or b.children i None ≡ Some k → n ≡ record k.node.value { rows = with_row_at key_of_pair key (key, value) k.node.value.rows } → IsWell n → IsReplacedIn key i value b k n
  replaced_inner key i value b k n inner at got e well =
      let cut = cut_child key i b k inner at got in
      let all = entries_written b.len i (part_with k n) b.leasts b.children inner.entries at.within in
      let new = inner_with b i (part_with k n) in
      let rows = replaced_rows key (b.height - 1) i value (children_of b) (children_of new) (child_at b i k) (child_at b i (part_with k n)) cut all.1 (ap (λ s. s.rows) e) in
      record {
        whole =
            inner_of b new (take i (children_of b)) (drop (i + 1) (children_of b)) (child_at b i (part_with k n)) (with_row_at key_of_pair key (key, value) (rows_of (children_of b))) inner.above_leaves refl inner.some all.0 all.1
            cut.before (replaced_child key (b.height - 1) value (get_or b.leasts i 0) k n cut.child e well) cut.after rows
            (ordered-with_row_at key_of_pair key (key, value) (rows_of (children_of b)) refl inner.ordered)
            (every-with_row_at-same key_of_pair (λ j. j < key_limit) key (key, value) (rows_of (children_of b)) refl inner.keys);
        rows = rows;
      }

  -- a child with one row more
  grown_rows : (key h i : ℕ) (value : V) (children new : List (NodeChild V)) (k x : NodeChild V) → IsCutAt key h i children k → new ≡ take i children ++ (x ∷ drop (i + 1) children) → x.1.node.value.rows ≡ with_row key_of_pair (key, value) k.1.node.value.rows → rows_of new ≡ with_row key_of_pair (key, value) (rows_of children)
  grown_rows key h i value children new k x cut list e =
      let before = rows_of (take i children) in
      let after = rows_of (drop (i + 1) children) in
      written_rows i x children new list
      ∙ ap (λ r. before ++ (r ++ after)) e
      ∙ sym (ap (with_row key_of_pair (key, value)) cut.rows ∙ with_row-part key_of_pair (key, value) before k.1.node.value.rows after cut.below cut.above)

  -- a child whose count and node are seen anew
  abbrev pub part_grown : NodePart V → ℕ → Seen V → NodePart V
  part_grown k count n = record { count = count; node = record k.node { value = n } }

  grown_child : (key h : ℕ) (value : V) (least least' count : ℕ) (k : NodePart V) (n : Seen V) → IsChild h (least, k) → IsGrown key value k.node.value n → least' ≡ min least key → count ≡ k.count + 1 → IsChild h (least', part_grown k count n)
  grown_child key h value least least' count k n child grown el ec = record {
    level = grown.level ∙ child.level;
    enough = omega (arith, grown.width, child.enough);
    well = grown.well;
    first = subst (λ r. StartsAt key_of_pair least' r) (sym grown.rows) (subst (λ j. StartsAt key_of_pair j (with_row key_of_pair (key, value) k.node.value.rows)) (sym el) (starts_with_row key_of_pair least (key, value) k.node.value.rows child.first));
    counted = omega (arith, ec, child.counted, ap length grown.rows, length-with_row key_of_pair (key, value) k.node.value.rows);
  }

  pub grown_inner : (key i : ℕ) (value : V) (b : NodeInner V) (k : NodePart V) (n : Seen V) (least count : ℕ) → IsInner b → i < b.len → IsCutAt key (b.height - 1) i (children_of b) (child_at b i k) → key < key_limit → row_at key_of_pair key k.node.value.rows ≡ None → IsGrown key value k.node.value n → least ≡ min (get_or b.leasts i 0) key → count ≡ k.count + 1
      → (IsInner (inner_set b i least (part_grown k count n))) × (row_at key_of_pair key (rows_of (children_of b)) ≡ None) × IsGrown key value (seen_inner b) (seen_inner (inner_set b i least (part_grown k count n)))
  grown_inner key i value b k n least count inner lt cut small none grown el ec =
      let x = part_grown k count n in
      let new = inner_set b i least x in
      let all = entries_both b.len i least x b.leasts b.children inner.entries lt in
      let rows = grown_rows key (b.height - 1) i value (children_of b) (children_of new) (child_at b i k) (least, x) cut all.1 grown.rows in
      let absent = find_cut key i (b.height - 1) (children_of b) (child_at b i k) cut ∙ none in
      let whole = inner_of b new (take i (children_of b)) (drop (i + 1) (children_of b)) (least, x) (with_row key_of_pair (key, value) (rows_of (children_of b))) inner.above_leaves refl inner.some all.0 all.1
      cut.before (grown_child key (b.height - 1) value (get_or b.leasts i 0) least count k n cut.child grown el ec) cut.after rows
      (ordered-with_row key_of_pair (key, value) (rows_of (children_of b)) absent inner.ordered)
      (each-with_row key_of_pair (λ p. p.0 < key_limit) (key, value) (rows_of (children_of b)) small inner.keys) in
      (whole, absent, record { rows = rows; level = refl; width = omega arith; well = inner_well new whole })

  same_part : (k : NodePart V) (count : ℕ) (n : Seen V) → count ≡ k.count + 0 → n ≡ k.node.value → part_grown k count n ≡ k
  same_part k count n a b = let same : count ≡ k.count = omega (arith, a) in ap (λ j. part_grown k j n) same ∙ ap (λ m. part_grown k k.count m) b

  same_inner : (i least : ℕ) (b : NodeInner V) (k x : NodePart V) → get_or b.children i None ≡ Some k → x ≡ k → least ≡ get_or b.leasts i 0 → inner_set b i least x ≡ b
  same_inner i least b k x got e el =
      ap (λ j. inner_set b i j x) el ∙ ap (inner_set b i (get_or b.leasts i 0)) e
      ∙ ap (λ ls. record b { leasts = ls; children = set b.children i (Some k) }) (set-get_or b.leasts i 0)
      ∙ ap (λ ks. record b { children = ks }) (same_written i k b.children got)

  -- a node has as many rows as a child of it at least
  enough_in_child : (key h i : ℕ) (children : List (NodeChild V)) (k : NodeChild V) → IsCutAt key h i children k → 32 ≤ length k.1.node.value.rows → 32 ≤ length (rows_of children)
  enough_in_child key h i children k cut enough =
      let before = rows_of (take i children) in
      let after = rows_of (drop (i + 1) children) in
      omega (arith, ap length cut.rows, length-append before (k.1.node.value.rows ++ after), length-append k.1.node.value.rows after)

  pub room_inner : (key i : ℕ) (value : V) (b : NodeInner V) (k : NodePart V) (n : Seen V) (least count : ℕ) (answer : Room) → IsInner b → IsChildPlace key i b.len b.leasts → get_or b.children i None ≡ Some k → key < key_limit → IsRoomAnswer key value k.node.value n answer → least ≡ (if is_done answer then min (get_or b.leasts i 0) key else get_or b.leasts i 0) → count ≡ k.count + bool_byte (is_done answer)
      → (IsInner (inner_set b i least (part_grown k count n))) × IsRoomAnswer key value (seen_inner b) (seen_inner (inner_set b i least (part_grown k count n))) answer
  room_inner key i value b k n least count Done inner at got small h el ec =
      let all = grown_inner key i value b k n least count inner at.within (cut_child key i b k inner at got) small h.0 h.1 el ec in
      (all.0, (all.1, all.2))
  room_inner key i value b k n least count Exists inner at got small h el ec =
      let same = same_inner i least b k (part_grown k count n) got (same_part k count n ec h.1) el in
      (subst IsInner (sym same) inner, (subst (λ o. IsSome o) (sym (find_inner key i b k inner at got)) h.0, ap seen_inner same))
  room_inner key i value b k n least count Full inner at got small h el ec =
      let same = same_inner i least b k (part_grown k count n) got (same_part k count n ec h.1) el in
      (subst IsInner (sym same) inner, (find_inner key i b k inner at got ∙ h.0, ap seen_inner same, enough_in_child key (b.height - 1) i (children_of b) (child_at b i k) (cut_child key i b k inner at got) h.2))

  pub child_count_fits : (h least : ℕ) (k : NodePart V) → IsChild h (least, k) → k.count < 18446744073709551615
  child_count_fits h least k child = omega (arith, child.counted, few_rows k.node.value child.well)

  pub child_gains : (h least m : ℕ) (is_in : Bool) (k : NodePart V) → IsChild h (least, k) → m ≡ bool_byte is_in → k.count + m < 18446744073709551616
  child_gains h least m true k child e = omega (arith, child_count_fits h least k child, e)
  child_gains h least m false k child e = omega (arith, child_count_fits h least k child, e)

  -- the same of the value that was handed down, and of the whole node
  pub room_answer : (key i : ℕ) (o : Option V) (b : NodeInner V) (k : NodePart V) (n child_node now : Seen V) (least count : ℕ) (is_in : Bool) (answer : Room) → now ≡ seen_inner b → child_node ≡ k.node.value → IsInner b → IsChildPlace key i b.len b.leasts → get_or b.children i None ≡ Some k → key < key_limit → IfSome o (λ v. IsRoomAnswer key v child_node n answer) → IsSome o → is_in ≡ is_done answer → least ≡ (if is_in then min (get_or b.leasts i 0) key else get_or b.leasts i 0) → count ≡ k.count + bool_byte is_in
      → (IsInner (inner_set b i least (part_grown k count n))) × IfSome o (λ v. IsRoomAnswer key v now (seen_inner (inner_set b i least (part_grown k count n))) answer)
  room_answer key i None b k n child_node now least count is_in answer e same inner at got small h some done el ec = let wrong : ⊥ = cc in absurd wrong
  room_answer key i (Some v) b k n child_node now least count is_in answer e same inner at got small h some done el ec =
      let all = room_inner key i v b k n least count answer inner at got small (subst (λ s. IsRoomAnswer key v s n answer) same h) (subst (λ j. least ≡ (if j then min (get_or b.leasts i 0) key else get_or b.leasts i 0)) done el) (subst (λ j. count ≡ k.count + bool_byte j) done ec) in
      (all.0, subst (λ s. IsRoomAnswer key v s (seen_inner (inner_set b i least (part_grown k count n))) answer) (sym e) all.1)

  -- a node seen with other rows
  abbrev pub seen_with : Seen V → List (ℕ × V) → Seen V
  seen_with s rows = record s { rows = rows }
