-- A node that is joined beside another one.
use Rattle.mr_cut.proofs.Common.{refl, ◌≡◌, ℕ, ◌+◌, ◌-◌, ◌<◌, ◌≤◌, List, [], ◌∷◌, ◌++◌, take, drop, length, append-nil, Some, None, IfSome, sym, ap, subst, ◌∙◌, arith, AllByRecursion, append_assoc, drop_all, take_all, nil_from_length, IsOrderedBy, each-append, each-left, each-right, ordered-left, ordered-right, Seen, key_of_pair, key_limit, KeysBelow, AreEntries, NodeChild, NodeInner, children_of, rows_of, IsWell, IsChild, IsInner, seen_inner, IsChildNode, HasOneMoreChild, entries_length, rows_of-append, inner_well, Side, Low, High, beside, end_of, IsTurned, MaybeNode, IsRest, rows_with, IsEvened, IsOneOf, IsSideJoined}

pub place_within : (s : Side) (i n : ℕ) → i ≡ end_of s n → i ≤ n
place_within Low i n place = omega (arith, place)
place_within High i n place = omega (arith, place)

module _ {A : Type 0} where
  beside_assoc : (s : Side) (xs ys zs : List A) → beside s (beside s xs ys) zs ≡ beside s xs (beside s ys zs)
  beside_assoc Low xs ys zs = sym (append_assoc zs ys xs)
  beside_assoc High xs ys zs = append_assoc xs ys zs

  each_apart : (P : A → Type 0) (s : Side) (xs ys : List A)
      → AllByRecursion P (beside s xs ys) → AllByRecursion P xs × AllByRecursion P ys
  each_apart P Low xs ys all = (each-right P ys xs all, each-left P ys xs all)
  each_apart P High xs ys all = (each-left P xs ys all, each-right P xs ys all)

  each_beside : (P : A → Type 0) (s : Side) (xs ys : List A)
      → AllByRecursion P xs → AllByRecursion P ys → AllByRecursion P (beside s xs ys)
  each_beside P Low xs ys first second = each-append P ys xs second first
  each_beside P High xs ys first second = each-append P xs ys first second

  -- one that is put in at a side, and one that is taken out there
  put_in : (s : Side) (xs : List A) (x : A) (n : ℕ) → length xs ≡ n
      → take (end_of s n) xs ++ (x ∷ drop (end_of s n) xs) ≡ beside s xs (x ∷ [])
  put_in Low xs x n long = refl
  put_in High xs x n long =
      ap (λ l. l ++ (x ∷ drop n xs)) (take_all n xs (omega (arith, long)))
      ∙ ap (λ l. xs ++ (x ∷ l)) (drop_all n xs (omega (arith, long)))

  taken_out : (s : Side) (xs rest : List A) (x : A) (i n : ℕ) → length xs ≡ n → 0 < n → i ≡ end_of s (n - 1)
      → rest ≡ take i xs ++ drop (i + 1) xs → xs ≡ take i xs ++ (x ∷ drop (i + 1) xs) → xs ≡ beside s rest (x ∷ [])
  taken_out Low xs rest x i n long some place left split =
      let same : rest ≡ drop 1 xs = left ∙ ap (λ j. take j xs ++ drop (j + 1) xs) place in
      split ∙ ap (λ j. take j xs ++ (x ∷ drop (j + 1) xs)) place ∙ ap (λ l. x ∷ l) (sym same)
  taken_out High xs rest x i n long some place left split =
      let none : drop (i + 1) xs ≡ [] = drop_all (i + 1) xs (omega (arith, long, some, place)) in
      let front : rest ≡ take i xs = left ∙ ap (λ l. take i xs ++ l) none ∙ append-nil (take i xs) in
      split ∙ ap (λ l. take i xs ++ (x ∷ l)) none ∙ ap (λ l. l ++ (x ∷ [])) (sym front)

module _ {V : Type 0} where
  beside_ordered : (s : Side) (xs ys : List (ℕ × V))
      → IsOrderedBy key_of_pair (beside s xs ys) → IsOrderedBy key_of_pair xs × IsOrderedBy key_of_pair ys
  beside_ordered Low xs ys all = (ordered-right key_of_pair ys xs all, ordered-left key_of_pair ys xs all)
  beside_ordered High xs ys all = (ordered-left key_of_pair xs ys all, ordered-right key_of_pair xs ys all)

  rows_of-beside : (s : Side) (children : List (NodeChild V)) (k : NodeChild V)
      → rows_of (beside s children (k ∷ [])) ≡ beside s (rows_of children) k.1.node.value.rows
  rows_of-beside Low children k = refl
  rows_of-beside High children k =
      rows_of-append children (k ∷ []) ∙ ap (λ r. rows_of children ++ r) (append-nil k.1.node.value.rows)

  -- no children yet
  pub no_rest : (b : NodeInner V) → 0 < b.height → b.len ≡ 0 → AreEntries 0 b.leasts b.children → (IsRest b) × (children_of b ≡ [])
  no_rest b above_leaves none are_entries =
      let nil : children_of b ≡ [] = nil_from_length (children_of b) (entries_length 0 b.leasts b.children are_entries) in (
        record {
          above_leaves = above_leaves;
          entries = subst (λ n. AreEntries n b.leasts b.children) (sym none) are_entries;
          children = subst (AllByRecursion (IsChild (b.height - 1))) (sym nil) tt;
          ordered = subst (λ l. IsOrderedBy key_of_pair (rows_of l)) (sym nil) tt;
          keys = subst (λ l. KeysBelow key_limit (rows_of l)) (sym nil) tt;
        },
        nil,
      )

  -- the children that are left, with one more beside them, are an inner node
  pub put_beside : (s : Side) (i : ℕ) (b new : NodeInner V) (n : Seen V) → i ≡ end_of s b.len → IsRest b
      → HasOneMoreChild i n b new → new.height ≡ b.height → new.len ≡ b.len + 1 → AreEntries new.len new.leasts new.children
      → IsChildNode (b.height - 1) n → IsOrderedBy key_of_pair (beside s (rows_of (children_of b)) n.rows)
      → (IsInner new) × (rows_of (children_of new) ≡ beside s (rows_of (children_of b)) n.rows)
  put_beside s i b new n place rest inserted height len are_entries node ordered =
      let P : NodeChild V → Type 0 = IsChild (b.height - 1) in
      let k = inserted.child in
      let rows = rows_of (children_of b) in
      let long = entries_length b.len b.leasts b.children rest.entries in
      let placed = ap (λ j. take j (children_of b) ++ (k ∷ drop j (children_of b))) place in
      let all : children_of new ≡ beside s (children_of b) (k ∷ []) = inserted.list ∙ placed ∙ put_in s (children_of b) k b.len long in
      let same = ap (λ m. beside s rows m.rows) inserted.same in
      let list : rows_of (children_of new) ≡ beside s rows n.rows = ap rows_of all ∙ rows_of-beside s _ k ∙ same in
      let child : P k = subst (λ m. IsChild m k) node.level inserted.whole in
      let children = subst (AllByRecursion P) (sym all) (each_beside P s (children_of b) (k ∷ []) rest.children (child, tt)) in
      let keys = each_beside (λ p. p.0 < key_limit) s rows n.rows rest.keys node.well.keys in (
        record {
          above_leaves = omega (arith, height, rest.above_leaves);
          some = omega (arith, len);
          entries = are_entries;
          children = subst (λ m. AllByRecursion (IsChild (m - 1)) (children_of new)) (sym height) children;
          ordered = subst (IsOrderedBy key_of_pair) (sym list) ordered;
          keys = subst (KeysBelow key_limit) (sym list) keys;
        },
        list,
      )

  abbrev seen_with : ℕ → ℕ → List (ℕ × V) → Seen V
  seen_with h w rows = record { height = h; width = w; rows = rows }

  seen_same : (new : NodeInner V) (h : ℕ) (rows : List (ℕ × V)) → new.height ≡ h → new.len ≡ 1 → rows_of (children_of new) ≡ rows → seen_inner new ≡ seen_with h 1 rows
  seen_same new h rows eh el er = ap (λ m. seen_with m new.len (rows_of (children_of new))) eh ∙ ap (λ w. seen_with h w (rows_of (children_of new))) el ∙ ap (seen_with h 1) er

  -- an inner node of one child
  pub lone_inner : (h : ℕ) (b new : NodeInner V) (n : Seen V) → 0 < h → b.height ≡ h → b.len ≡ 0 → AreEntries 0 b.leasts b.children → HasOneMoreChild 0 n b new → new.height ≡ b.height → new.len ≡ b.len + 1 → AreEntries new.len new.leasts new.children → IsChildNode (h - 1) n → (IsInner new) × (seen_inner new ≡ seen_with h 1 n.rows)
  lone_inner h b new n above_leaves level none empty inserted height len are_entries node =
      let rest = no_rest b (omega (arith, above_leaves, level)) none empty in
      let same : n.rows ++ rows_of (children_of b) ≡ n.rows = ap (λ l. n.rows ++ rows_of l) rest.1 ∙ append-nil n.rows in
      let fit = subst (λ m. IsChildNode (m - 1) n) (sym level) node in
      let order = subst (IsOrderedBy key_of_pair) (sym same) node.well.ordered in
      let put = put_beside Low 0 b new n refl rest.0 inserted height len are_entries fit order in
      (put.0, seen_same new h n.rows (height ∙ level) (omega (arith, len, none)) (put.1 ∙ same))

  -- two neighbours of one height, of these rows and as wide together
  pub record AreEnds (h w : ℕ) (rows : List (ℕ × V)) (n m : Seen V) : Type 0 where
    pub level : n.height ≡ h
    pub next : m.height ≡ h
    pub width : n.width + m.width ≡ w
    pub list : n.rows ++ m.rows ≡ rows

  pub turned_ends : (s : Side) (a b n m : Seen V) → a.height ≡ b.height → IsTurned s a b n m
      → AreEnds a.height (a.width + b.width) (beside s a.rows b.rows) n m
  turned_ends Low a b n m same turned = record {
    level = ap (λ x. x.height) turned.0 ∙ sym same;
    next = ap (λ x. x.height) turned.1;
    width = omega (arith, ap (λ x. x.width) turned.0, ap (λ x. x.width) turned.1);
    list = ap (λ x. x.rows ++ m.rows) turned.0 ∙ ap (λ x. b.rows ++ x.rows) turned.1;
  }
  turned_ends High a b n m same turned = record {
    level = ap (λ x. x.height) turned.0;
    next = ap (λ x. x.height) turned.1 ∙ sym same;
    width = omega (arith, ap (λ x. x.width) turned.0, ap (λ x. x.width) turned.1);
    list = ap (λ x. x.rows ++ m.rows) turned.0 ∙ ap (λ x. a.rows ++ x.rows) turned.1;
  }

  -- two neighbours that were evened out, as what came of one and its neighbour
  evened_side_joined : (h v w lower : ℕ) (rows : List (ℕ × V)) (a b x : Seen V) (o : MaybeNode V) → AreEnds h v rows a b
      → w ≤ v → (32 < v → lower < h → 32 ≤ w) → IsEvened a b x o → IsSideJoined h w lower rows x o
  evened_side_joined h v w lower rows a b x None ends wide full evened = record {
    level = evened.level ∙ ends.level;
    wide = omega (arith, wide, ends.width, evened.width);
    well = evened.well;
    list = evened.rows ∙ ends.list;
  }
  evened_side_joined h v w lower rows a b x (Some y) ends wide full evened = record {
    first = subst (λ m. IsChildNode m x) ends.level evened.low;
    second = subst (λ m. IsChildNode m y.value) ends.level evened.high;
    list = evened.rows ∙ ends.list;
    full = full (omega (arith, ends.width, evened.many));
  }

  pub met_side_joined : (h w v lower : ℕ) (rows : List (ℕ × V)) (a b x : Seen V) (o : MaybeNode V) → h ≡ lower
      → AreEnds h (w + v) rows a b → IsEvened a b x o → IsSideJoined h w lower rows x o
  met_side_joined h w v lower rows a b x o same ends =
      evened_side_joined h (w + v) w lower rows a b x o ends (omega arith) (λ many lt. absurd (omega (arith, lt, same)))

  pub back_side_joined : (h n : ℕ) (rows : List (ℕ × V)) (a b x : Seen V) (o : MaybeNode V) → AreEnds h (n + 2) rows a b
      → IsEvened a b x o → IsSideJoined h (n + 1) 0 rows x o
  back_side_joined h n rows a b x o ends =
      evened_side_joined h (n + 2) (n + 1) 0 rows a b x o ends (omega arith) (λ many lt. omega (arith, many))

  -- the same under other names
  pub side_rejoined : (h w m v lower : ℕ) (rows list : List (ℕ × V)) (x : Seen V) (o : MaybeNode V) → h ≡ m → w ≡ v → rows ≡ list → IsSideJoined h w 0 rows x o → IsSideJoined m v lower list x o
  side_rejoined h w m v lower rows list x None eh ew er side_joined = record { level = side_joined.level ∙ eh; wide = omega (arith, ew, side_joined.wide); well = side_joined.well; list = side_joined.list ∙ er }
  side_rejoined h w m v lower rows list x (Some y) eh ew er side_joined = record {
    first = subst (λ n. IsChildNode n x) eh side_joined.first;
    second = subst (λ n. IsChildNode n y.value) eh side_joined.second;
    list = side_joined.list ∙ er;
    full = λ lt. omega (arith, ew, side_joined.full (omega (arith, lt, eh)));
  }

  -- the rows of what came of a node and its neighbour
  side_joined_rows : (h w lower : ℕ) (rows : List (ℕ × V)) (x : Seen V) (o : MaybeNode V) → IsSideJoined h w lower rows x o
      → rows_with x o ≡ rows
  side_joined_rows h w lower rows x None side_joined = side_joined.list
  side_joined_rows h w lower rows x (Some y) side_joined = side_joined.list

  -- what came of a half full node is half full
  side_joined_children : (h m w lower : ℕ) (rows : List (ℕ × V)) (x : Seen V) (o : MaybeNode V) → h ≡ m → 16 ≤ w
      → IsSideJoined h w lower rows x o → (IsChildNode m x) × IfSome o (λ y. IsChildNode m y.value)
  side_joined_children h m w lower rows x None level enough side_joined = (record { level = side_joined.level ∙ level; enough = omega (arith, enough, side_joined.wide); well = side_joined.well }, tt)
  side_joined_children h m w lower rows x (Some y) level enough side_joined = (subst (λ n. IsChildNode n x) level side_joined.first, subst (λ n. IsChildNode n y.value) level side_joined.second)

  -- of two that came of a child at a side, the nearer one and the other one
  pub near_children : (s : Side) (h : ℕ) (x y near far : Seen V) → IsChildNode h x → IsChildNode h y → IsTurned s x y near far
      → IsChildNode h near × IsChildNode h far
  near_children Low h x y near far one two t = (subst (IsChildNode h) (sym t.0) two, subst (IsChildNode h) (sym t.1) one)
  near_children High h x y near far one two t = (subst (IsChildNode h) (sym t.0) one, subst (IsChildNode h) (sym t.1) two)

  near_rows : (s : Side) (x y near far : Seen V) → IsTurned s x y near far
      → beside s near.rows far.rows ≡ x.rows ++ y.rows
  near_rows Low x y near far turned = ap (λ z. z.rows ++ near.rows) turned.1 ∙ ap (λ z. x.rows ++ z.rows) turned.0
  near_rows High x y near far turned = ap (λ z. z.rows ++ far.rows) turned.0 ∙ ap (λ z. x.rows ++ z.rows) turned.1

  -- the nearer one is back, and the other one wanted beside them all
  pub record IsNearBack (s : Side) (b new : NodeInner V) (x y far : Seen V) : Type 0 where
    pub inner : IsInner new
    pub list : beside s (rows_of (children_of new)) far.rows ≡ beside s (rows_of (children_of b)) (x.rows ++ y.rows)
    pub ordered : IsOrderedBy key_of_pair (beside s (rows_of (children_of b)) (x.rows ++ y.rows))

  pub near_back : (s : Side) (i : ℕ) (b new : NodeInner V) (x y near far : Seen V) → i ≡ end_of s b.len → IsRest b
      → HasOneMoreChild i near b new → new.height ≡ b.height → new.len ≡ b.len + 1 → AreEntries new.len new.leasts new.children
      → IsChildNode (b.height - 1) near → IsTurned s x y near far
      → IsOrderedBy key_of_pair (beside s (rows_of (children_of b)) (x.rows ++ y.rows)) → IsNearBack s b new x y far
  near_back s i b new x y near far place rest inserted height len are_entries child turned ordered =
      let rows = rows_of (children_of b) in
      let pair = ap (λ r. beside s rows r) (near_rows s x y near far turned) in
      let list = beside_assoc s rows near.rows far.rows ∙ pair in
      let all = subst (IsOrderedBy key_of_pair) (sym list) ordered in
      let first = (beside_ordered s (beside s rows near.rows) far.rows all).0 in
      let put = put_beside s i b new near place rest inserted height len are_entries child first in
      record { inner = put.0; list = ap (λ r. beside s r far.rows) put.1 ∙ list; ordered = ordered }

  pub own_level : (h : ℕ) (x : Seen V) → IsChildNode h x → IsChildNode x.height x
  own_level h x node = record { level = refl; enough = node.enough; well = node.well }

  -- what is one node
  pub inserted_one : (b new : NodeInner V) (n : Seen V) (rows : List (ℕ × V)) → IsInner new → new.height ≡ b.height → new.len ≡ b.len + 1 → rows_of (children_of new) ≡ rows → n ≡ seen_inner new → IsOneOf b.height (b.len + 1) rows n
  inserted_one b new n rows whole height len list e = record {
    level = ap (λ s. s.height) e ∙ height;
    wide = omega (arith, ap (λ s. s.width) e, len);
    well = subst IsWell (sym e) (inner_well new whole);
    list = ap (λ s. s.rows) e ∙ list;
  }

  -- an inner node, and one of the only child beside it, in their order
  pub back_ends : (s : Side) (b new : NodeInner V) (x y far node last n m : Seen V) → new.height ≡ b.height
      → new.len ≡ b.len + 1 → IsNearBack s b new x y far → node ≡ seen_inner new
      → last ≡ seen_with b.height 1 far.rows → IsTurned s node last n m
      → AreEnds b.height (b.len + 2) (beside s (rows_of (children_of b)) (x.rows ++ y.rows)) n m
  back_ends s b new x y far node last n m height len back built lone turned =
      let level : node.height ≡ b.height = ap (λ z. z.height) built ∙ height in
      let rows = ap (λ z. beside s z.rows last.rows) built ∙ ap (λ z. beside s (rows_of (children_of new)) z.rows) lone in
      let ends = turned_ends s node last n m (level ∙ sym (ap (λ z. z.height) lone)) turned in
      record {
        level = ends.level ∙ level;
        next = ends.next ∙ level;
        width = omega (arith, ends.width, ap (λ z. z.width) built, ap (λ z. z.width) lone, len);
        list = ends.list ∙ rows ∙ back.list;
      }

  -- a node apart for a neighbour: the child at the side where that is, and the others
  pub record IsApart (s : Side) (node other : Seen V) (others : NodeInner V) (child : Seen V) : Type 0 where
    pub rest : IsRest others
    pub room : others.len < 32
    pub enough : 16 ≤ child.width
    pub down : child.height ≡ others.height - 1
    pub level : child.height + 1 ≡ node.height
    pub height : others.height ≡ node.height
    pub width : others.len + 1 ≡ node.width
    pub rows : beside s (rows_of (children_of others)) (beside s child.rows other.rows) ≡ beside s node.rows other.rows
    pub ordered_below : IsOrderedBy key_of_pair (beside s child.rows other.rows)
    pub ordered : IsOrderedBy key_of_pair (beside s (rows_of (children_of others)) (beside s child.rows other.rows))

  pub apart_of : {b new : NodeInner V} {node : Seen V} (s : Side) (i : ℕ) (k : NodeChild V) (other : Seen V)
      → IsInner b → seen_inner b ≡ node → i ≡ end_of s (b.len - 1) → new.height ≡ b.height → new.len + 1 ≡ b.len
      → AreEntries new.len new.leasts new.children → children_of new ≡ take i (children_of b) ++ drop (i + 1) (children_of b)
      → children_of b ≡ take i (children_of b) ++ (k ∷ drop (i + 1) (children_of b))
      → IsOrderedBy key_of_pair (beside s node.rows other.rows) → IsApart s node other new k.1.node.value
  apart_of {b = b} {new = new} {node = node} s i k other inner now place height len are_entries left split ordered =
      let P : NodeChild V → Type 0 = IsChild (b.height - 1) in
      let child = k.1.node.value in
      let rest = rows_of (children_of new) in
      let long = entries_length b.len b.leasts b.children inner.entries in
      let some : 0 < b.len = omega (arith, inner.some) in
      let list = taken_out s (children_of b) (children_of new) k i b.len long some place left split in
      let rows : rows_of (children_of b) ≡ beside s rest child.rows = ap rows_of list ∙ rows_of-beside s (children_of new) k in
      let children = each_apart P s (children_of new) (k ∷ []) (subst (AllByRecursion P) list inner.children) in
      let below = subst (KeysBelow key_limit) rows inner.keys in
      let keys = each_apart (λ p. p.0 < key_limit) s rest child.rows below in
      let own : node.rows ≡ beside s rest child.rows = sym (ap (λ z. z.rows) now) ∙ rows in
      let around = ap (λ r. beside s r other.rows) own ∙ beside_assoc s rest child.rows other.rows in
      let order = subst (IsOrderedBy key_of_pair) around ordered in
      let orders = beside_ordered s rest (beside s child.rows other.rows) order in
      let last : IsChild (b.height - 1) k = children.1.0 in
      record {
        rest = record {
          above_leaves = omega (arith, height, inner.above_leaves);
          entries = are_entries;
          children = subst (λ m. AllByRecursion (IsChild (m - 1)) (children_of new)) (sym height) children.0;
          ordered = orders.0;
          keys = keys.0;
        };
        room = omega (arith, len, inner.entries.fits);
        enough = last.enough;
        down = omega (arith, last.level, height);
        level = omega (arith, last.level, inner.above_leaves, ap (λ z. z.height) now);
        height = height ∙ ap (λ z. z.height) now;
        width = len ∙ ap (λ z. z.width) now;
        rows = sym around;
        ordered_below = orders.1;
        ordered = order;
      }

  -- what came of that child and the neighbour fits back beside the others, and then all rows are there
  pub apart_back : {s : Side} {node other child : Seen V} {others : NodeInner V} (lower : ℕ) (x : Seen V)
      (o : MaybeNode V) → IsApart s node other others child
      → IsSideJoined child.height child.width lower (beside s child.rows other.rows) x o
      → IsChildNode (others.height - 1) x × IfSome o (λ y. IsChildNode (others.height - 1) y.value)
      × IsOrderedBy key_of_pair (beside s (rows_of (children_of others)) (rows_with x o))
      × (beside s (rows_of (children_of others)) (rows_with x o) ≡ beside s node.rows other.rows)
  apart_back {s = s} {other = other} {child = child} {others = others} lower x o off side_joined =
      let rest = rows_of (children_of others) in
      let below = beside s child.rows other.rows in
      let children = side_joined_children child.height (others.height - 1) child.width lower below x o off.down off.enough side_joined in
      let list = ap (λ r. beside s rest r) (side_joined_rows child.height child.width lower below x o side_joined) in
      (children.0, children.1, subst (IsOrderedBy key_of_pair) (sym list) off.ordered, list ∙ off.rows)
