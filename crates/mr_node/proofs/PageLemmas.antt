-- The next rows from a key on.
use Rattle.mr_node.proofs.Common.{◌≡◌, ℕ, ◌+◌, ◌-◌, ◌<◌, ◌≤◌, List, [], ◌∷◌, ◌++◌, length, get_or, take, drop, Some, None, Bool, true, false, ◌==◌, refl, sym, ap, subst, ◌∙◌, arith, append_assoc, append-nil, AllByRecursion, nat_tests, take_all, take-append-drop, drop_at, length-take, length-append, slice_get_read, filter-append, keys_from, each-right, each-weaker, filter_all, filter_none, Leaf, key_of_pair, KeysBelow, KeysFrom, no_key, IsStop, IsChildPlace, IsLeaf, pairs_of, NodePart, NodeInner, children_of, rows_of, IsChild, IsInner, IsPage}
use Rattle.mr_node.proofs.KeyedLemmas.{keyed_next}
use Rattle.mr_node.proofs.EntryListLemmas.{entries_next, entries_rest, entries_length}
use Rattle.mr_node.proofs.EntryLemmas.{leaf_length, stop_fits, cut_below}
use Rattle.mr_node.proofs.PartLemmas.{cut_from}
use Rattle.mr_node.proofs.ChildLemmas.{child_at, cut_child, rows_of-append}
use Rattle.mr_node.proofs.PlaceLemmas.{packed_some}

-- a test for an empty page
pub is_filled : {X : Type 0} (page : List X) (test : Bool) → test ≡ (length page == 0) → test ≡ false → page ≡ [] → ⊥
is_filled page test is e none = let wrong : test ≡ true = is ∙ ap (λ p. length p == 0) none in cc

pub is_emptied : {X : Type 0} (page : List X) (test : Bool) → test ≡ (length page == 0) → test ≡ true → page ≡ []
is_emptied [] test is e = refl
is_emptied (x ∷ page) test is e = absurd (let more : length (x ∷ page) ≡ 0 = grind (arith, nat_tests) in omega arith)

-- the back of a front of less than 32 is shorter too
back_within : {X : Type 0} (xs ys all : List X) (i : ℕ) → i < 32 → xs ++ ys ≡ take i all → length ys < 32
back_within xs ys all i few e =
    let taken : length (take i all) ≤ i = omega (arith, length-take i all) in
    let whole : length xs + length ys ≡ length (take i all) = sym (length-append xs ys) ∙ ap length e in
    omega arith

module _ {V : Type 0} where
  -- the rows from a key on, of rows that are all below it, or from it on
  from_none : (key : ℕ) (rows : List (ℕ × V)) → KeysBelow key rows → keys_from key_of_pair key rows ≡ []
  from_none key rows below = filter_none _ rows (each-weaker (λ p less. grind (arith, nat_tests)) rows below)

  from_all : (key : ℕ) (rows : List (ℕ × V)) → KeysFrom key rows → keys_from key_of_pair key rows ≡ rows
  from_all key rows from = filter_all _ rows (each-weaker (λ p least. grind (arith, nat_tests)) rows from)

  from_append : (key : ℕ) (a b : List (ℕ × V)) → keys_from key_of_pair key (a ++ b) ≡ keys_from key_of_pair key a ++ keys_from key_of_pair key b
  from_append key a b = filter-append _ a b

  -- the page of a leaf so far: what stands from the place where the search stopped up to another one
  abbrev pub IsPageTo : Leaf V → ℕ → ℕ → List (ℕ × V) → Type 0
  IsPageTo leaf stop place page = take stop (pairs_of leaf) ++ page ≡ take place (pairs_of leaf)

  pub page_started : (leaf : Leaf V) (stop : ℕ) (page : List (ℕ × V)) → page ≡ [] → IsPageTo leaf stop stop page
  page_started leaf stop page none = ap (λ p. take stop (pairs_of leaf) ++ p) none ∙ append-nil (take stop (pairs_of leaf))

  pub page_more : (leaf : Leaf V) (stop i : ℕ) (v : V) (page : List (ℕ × V)) → IsLeaf leaf → i < length leaf.values.items → v ≡ get_or leaf.values.items i v → IsPageTo leaf stop i page → IsPageTo leaf stop (i + 1) (page ++ (get_or leaf.keys i 0, v) ∷ [])
  page_more leaf stop i v page h lt read to =
      sym (append_assoc (take stop (pairs_of leaf)) page ((get_or leaf.keys i 0, v) ∷ []))
      ∙ ap (λ rows. rows ++ (get_or leaf.keys i 0, v) ∷ []) to
      ∙ sym (keyed_next i v leaf.keys leaf.values.items h.values (slice_get_read leaf.values.items (length leaf.values.items) i v refl lt read))

  -- it has room for one more
  pub page_room : (leaf : Leaf V) (stop i n : ℕ) (page : List (ℕ × V)) → IsLeaf leaf → i < n → n ≡ length leaf.values.items → IsPageTo leaf stop i page → length page < 32
  page_room leaf stop i n page h lt e to =
      back_within (take stop (pairs_of leaf)) page (pairs_of leaf) i (omega (arith, h.values.fits, leaf_length leaf h, e, lt)) to

  pub page_ends : (leaf : Leaf V) (key stop i : ℕ) (page : List (ℕ × V)) → IsLeaf leaf → key ≤ no_key → length leaf.values.items ≤ length leaf.keys → IsStop key stop leaf.keys
      → length leaf.values.items ≤ i → IsPageTo leaf stop i page → IsPage key (pairs_of leaf) page
  page_ends leaf key stop i page h small long at le to =
      let rows = pairs_of leaf in
      let whole : take stop rows ++ page ≡ rows = to ∙ take_all i rows (omega (arith, leaf_length leaf h, le)) in
      let long_front : length (take stop rows) ≡ stop = omega (arith, length-take {A = ℕ × V}, leaf_length leaf h, stop_fits key stop leaf h small at) in
      let from : KeysFrom key page = subst (KeysFrom key) (ap (drop stop) (sym whole) ∙ drop_at (take stop rows) page stop long_front) (cut_from key stop leaf h small long at) in
      record {
        rest = [];
        front = ap (keys_from key_of_pair key) (sym whole) ∙ from_append key (take stop rows) page
            ∙ ap (λ none. none ++ keys_from key_of_pair key page) (from_none key (take stop rows) (cut_below key stop leaf h small at))
            ∙ from_all key page from ∙ sym (append-nil page);
        some = λ none. refl;
      }

  -- a child in its place
  pub child_in : (i : ℕ) (b : NodeInner V) (k : NodePart V) → IsInner b → get_or b.children i None ≡ Some k → IsChild (b.height - 1) (child_at b i k)
  child_in i b k inner got =
      let children = children_of b in
      let back = each-right (IsChild (b.height - 1)) (take i children) (drop i children) (subst (AllByRecursion (IsChild (b.height - 1))) (sym (take-append-drop i children)) inner.children) in
      (subst (AllByRecursion (IsChild (b.height - 1))) (entries_rest b.len i k b.leasts b.children inner.entries got) back).0

  -- no child before this place has a row from the key on
  abbrev pub NoneTo : ℕ → ℕ → NodeInner V → Type 0
  NoneTo key i b = keys_from key_of_pair key (rows_of (take i (children_of b))) ≡ []

  pub none_before : (key i : ℕ) (b : NodeInner V) → IsInner b → IsChildPlace key i b.len b.leasts → NoneTo key i b
  none_before key i b inner at =
      let child = packed_some b.len i b.children inner.entries.packed at.within in
      from_none key (rows_of (take i (children_of b))) (cut_child key i b child.0 inner at child.1).below

  -- so the rows from it on up to the next child are those of this one
  none_to_child : (key i : ℕ) (b : NodeInner V) (k : NodePart V) → IsInner b → get_or b.children i None ≡ Some k → NoneTo key i b
      → keys_from key_of_pair key (rows_of (take (i + 1) (children_of b))) ≡ keys_from key_of_pair key k.node.value.rows
  none_to_child key i b k inner got none =
      let front = rows_of (take i (children_of b)) in
      let rows = ap rows_of (entries_next b.len i k b.leasts b.children inner.entries got) ∙ rows_of-append (take i (children_of b)) (child_at b i k ∷ []) ∙ ap (λ r. front ++ r) (append-nil k.node.value.rows) in
      ap (keys_from key_of_pair key) rows ∙ from_append key front k.node.value.rows ∙ ap (λ r. r ++ keys_from key_of_pair key k.node.value.rows) none

  pub none_to_next : (key i : ℕ) (b : NodeInner V) (k : NodePart V) → IsInner b → get_or b.children i None ≡ Some k → NoneTo key i b → IsPage key k.node.value.rows [] → NoneTo key (i + 1) b
  none_to_next key i b k inner got none in_child = none_to_child key i b k inner got none ∙ in_child.front ∙ in_child.some refl

  -- the page of a child that has one
  pub page_in_child : (key i : ℕ) (b : NodeInner V) (k : NodePart V) (page : List (ℕ × V)) → IsInner b → get_or b.children i None ≡ Some k → NoneTo key i b → IsPage key k.node.value.rows page → (page ≡ [] → ⊥) → IsPage key (rows_of (children_of b)) page
  page_in_child key i b k page inner got none in_child filled =
      let front = take (i + 1) (children_of b) in
      let back = drop (i + 1) (children_of b) in
      let behind = keys_from key_of_pair key (rows_of back) in
      let rows : rows_of (children_of b) ≡ rows_of front ++ rows_of back = ap rows_of (sym (take-append-drop (i + 1) (children_of b))) ∙ rows_of-append front back in
      record {
        rest = in_child.rest ++ behind;
        front = ap (keys_from key_of_pair key) rows ∙ from_append key (rows_of front) (rows_of back)
            ∙ ap (λ r. r ++ behind) (none_to_child key i b k inner got none ∙ in_child.front) ∙ append_assoc page in_child.rest behind;
        some = λ empty. absurd (filled empty);
      }

  -- no child has one
  pub page_of_none : (key i : ℕ) (b : NodeInner V) (page : List (ℕ × V)) → IsInner b → b.len ≤ i → page ≡ [] → NoneTo key i b → IsPage key (rows_of (children_of b)) page
  page_of_none key i b page inner le empty none =
      let all : take i (children_of b) ≡ children_of b = take_all i (children_of b) (omega (arith, entries_length b.len b.leasts b.children inner.entries, le)) in
      record {
        rest = [];
        front = ap (λ children. keys_from key_of_pair key (rows_of children)) (sym all) ∙ none ∙ ap (λ p. p ++ []) (sym empty);
        some = λ _. refl;
      }
