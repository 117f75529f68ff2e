-- The rows of groups one after another, from a key on.
use Rattle.group_tree.proofs.Common.{AreGroupsAt, rows_beside, rows_in, length-map, ◌≡◌, ◌∙◌, refl, sym, ap, subst, ℕ, zero, suc, IfSome, ◌+◌, ◌*◌, ◌<◌, ◌≤◌, nat_le, true, false, Bool, List, [], ◌∷◌, ◌++◌, length, map, take, get_or, take_more, Option, Some, None, arith, append_assoc, append-nil, length-append, length-take, AllByRecursion, filter, nat_tests, filter-append, each-weaker, each-left, by_test, keys_from, IsOrderedBy, key_of_pair, value_at, below-weaker, from-weaker, key_limit, AreGroups, HaveLaws, base_of, rows_of, IsPage, FoldsRows, folds_append, Bor, IsFilled}
use Rattle.std.specs.Option.{option_to_list}
use Rattle.tatp_rows.proofs.HalfLemmas.{from_all}
use Rattle.group_tree.proofs.BaseLemmas.{base_base, base_high, base_low}
use Rattle.group_tree.proofs.GroupsLemmas.{Around, few_rows, rows_below, rows_from, rows_of-append}
use Rattle.group_tree.proofs.PlaceLemmas.{four_rows}
use Rattle.group_tree.proofs.TreeLemmas.{beside, its_rules, its_value, none_beside, none_there, some_beside}
use Rattle.group_tree.proofs.SideLemmas.{from_gone}

-- the keys from 0 on are all
pub from_zero : {R : Type 0} (rows : List (ℕ × R)) → keys_from key_of_pair 0 rows ≡ rows
from_zero [] = refl
from_zero (p ∷ rows) = let t : nat_le 0 p.0 ≡ true = grind (arith, nat_tests) in rw t (ap (λ rest. p ∷ rest) (from_zero rows))

-- a filter keeps no more than there are
pub filter_fewer : {X : Type 0} (test : X → Bool) (xs : List X) → length (filter test xs) ≤ length xs
filter_fewer test [] = omega arith
filter_fewer test (x ∷ xs) = by_test (test x) (λ t. rw t (omega (arith, filter_fewer test xs))) (λ t. rw t (omega (arith, filter_fewer test xs)))

-- what holds of each element holds of those that a filter keeps
pub each-filter : {X : Type 0} (P : X → Type 0) (test : X → Bool) (xs : List X) → AllByRecursion P xs → AllByRecursion P (filter test xs)
each-filter P test [] each = tt
each-filter P test (x ∷ xs) each = by_test (test x) (λ t. rw t (each.0, each-filter P test xs each.1)) (λ t. rw t (each-filter P test xs each.1))

-- and their order
pub ordered-filter : {X : Type 0} (key : X → ℕ) (test : X → Bool) (xs : List X) → IsOrderedBy key xs → IsOrderedBy key (filter test xs)
ordered-filter key test [] ordered = tt
ordered-filter key test (x ∷ xs) ordered =
    by_test (test x)
    (λ t. rw t (each-filter (λ y. key x < key y) test xs ordered.0, ordered-filter key test xs ordered.1))
    (λ t. rw t (ordered-filter key test xs ordered.1))

-- a page with the rows of the first places, and then with those of one place more
module _ {R : Type 0} (before : List (ℕ × R)) (key : ℕ) (first page : List (ℕ × R)) (so_far : page ≡ before ++ keys_from key_of_pair key first) where
  module _ (next : List (ℕ × R)) (found : Option (ℕ × R)) (more : next ≡ first ++ option_to_list found) where
    put_more : page ++ keys_from key_of_pair key (option_to_list found) ≡ before ++ keys_from key_of_pair key next
    put_more =
        let kept = keys_from key_of_pair key (option_to_list found) in
        ap (λ l. l ++ kept) so_far ∙ append_assoc before (keys_from key_of_pair key first) kept
        ∙ ap (λ l. before ++ l) (sym (ap (keys_from key_of_pair key) more ∙ filter-append _ first (option_to_list found)))

    pub pushed_row : (p : ℕ × R) → Some p ≡ found → key ≤ p.0 → page ++ (p ∷ []) ≡ before ++ keys_from key_of_pair key next
    pushed_row p is from =
        let t : nat_le key p.0 ≡ true = grind (arith, nat_tests) in
        let kept : keys_from key_of_pair key (option_to_list (Some p)) ≡ p ∷ [] = rw t refl in
        ap (λ l. page ++ l) (sym kept ∙ ap (λ o. keys_from key_of_pair key (option_to_list o)) is) ∙ put_more

    pub passed_row : (p : ℕ × R) → Some p ≡ found → p.0 < key → page ≡ before ++ keys_from key_of_pair key next
    passed_row p is below =
        let t : nat_le key p.0 ≡ false = grind (arith, nat_tests) in
        let kept : keys_from key_of_pair key (option_to_list (Some p)) ≡ [] = rw t refl in
        sym (append-nil page) ∙ ap (λ l. page ++ l) (sym kept ∙ ap (λ o. keys_from key_of_pair key (option_to_list o)) is) ∙ put_more

    pub passed_none : None ≡ found → page ≡ before ++ keys_from key_of_pair key next
    passed_none is = sym (append-nil page) ∙ ap (λ o. page ++ keys_from key_of_pair key (option_to_list o)) is ∙ put_more

  -- the page has room for one more row
  pub pushed_room : length before ≤ 128 → length first < 4 → length page < 132
  pushed_room room few =
      let kept = filter_fewer (λ p. nat_le key (key_of_pair p)) first in
      rw so_far (omega (arith, kept, few, room, length-append before (keys_from key_of_pair key first)))

-- what holds of each holds of one that is read, and of the first ones
pub each_at : {X : Type 0} (P : X → Type 0) (xs : List X) (i : ℕ) (x : X) → AllByRecursion P xs → i < length xs → x ≡ get_or xs i x → P x
each_at P [] i x each within read = absurd (omega (arith, within))
each_at P (y ∷ xs) zero x each within read = subst P (sym read) each.0
each_at P (y ∷ xs) (suc i) x each within read = each_at P xs i x each.1 (omega (arith, within)) read

each_take : {X : Type 0} (P : X → Type 0) (n : ℕ) (xs : List X) → AllByRecursion P xs → AllByRecursion P (take n xs)
each_take P zero xs each = tt
each_take P (suc n) [] each = tt
each_take P (suc n) (x ∷ xs) each = (each.0, each_take P n xs each.1)

module _ {G R : Type 0} {listed : ℕ → G → List (ℕ × R)} {Holds : ℕ → G → Type 0} {span : ℕ} {key_in : ℕ → ℕ → ℕ} (laws : HaveLaws listed Holds span key_in) where
  -- a walk over groups is one over their rows
  pub walked_groups : {A : Type 0} (Gives : A → ℕ → Bor R → A → Type 0) (Steps : A → ℕ → Bor G → A → Type 0) → ((a b : A) (k : ℕ) (r : Bor G) → Holds k r.now → Steps a k r b → FoldsRows Gives a (listed k r.now) b)
      → (groups : List (ℕ × G)) → AllByRecursion (IsFilled listed Holds) groups → (a b : A) → FoldsRows Steps a groups b → FoldsRows Gives a (rows_of listed groups) b
  walked_groups Gives Steps each_step [] each a b h = h
  walked_groups Gives Steps each_step (p ∷ groups) each a b h =
      let same : h.1.now ≡ p.1 = h.2 in
      let its : FoldsRows Gives a (listed p.0 p.1) h.0 = subst (λ g. FoldsRows Gives a (listed p.0 g) h.0) same (each_step a h.0 p.0 h.1 (subst (λ g. Holds p.0 g) (sym same) each.0.0) h.3) in
      folds_append Gives a h.0 b (listed p.0 p.1) (rows_of listed groups) its (walked_groups Gives Steps each_step groups each.1 h.0 b h.4)

  -- the rows of one group more
  pub pushed_group : (before : List (ℕ × R)) (groups : List (ℕ × G)) (i : ℕ) (p : ℕ × G) (page items new : List (ℕ × R)) → i < length groups → p ≡ get_or groups i p → page ≡ before ++ rows_of listed (take i groups) → items ≡ listed p.0 p.1 → new ≡ page ++ keys_from key_of_pair 0 items
      → new ≡ before ++ rows_of listed (take (i + 1) groups)
  pushed_group before groups i p page items new within read so_far its step =
      step ∙ ap (λ l. page ++ l) (from_zero items ∙ its) ∙ ap (λ l. l ++ listed p.0 p.1) so_far ∙ append_assoc before (rows_of listed (take i groups)) (listed p.0 p.1)
      ∙ ap (λ l. before ++ l)
      (sym (ap (rows_of listed) (take_more groups i p within ∙ ap (λ q. take i groups ++ (q ∷ [])) (sym read))
      ∙ rows_of-append listed Holds span laws (take i groups) (p ∷ []) ∙ ap (λ l. rows_of listed (take i groups) ++ l) (append-nil (listed p.0 p.1))))

  -- a page with room for all has room for those of one more
  pub room_for : (before : List (ℕ × R)) (groups : List (ℕ × G)) (i : ℕ) (page : List (ℕ × R)) → AllByRecursion (λ p. Holds p.0 p.1) groups → page ≡ before ++ rows_of listed (take i groups) → i < length groups → length before + 4 * length groups ≤ 132 → length page ≤ 128
  room_for before groups i page each so_far within room =
      let few = few_rows listed Holds span laws (take i groups) (each_take (λ p. Holds p.0 p.1) i groups each) in
      rw so_far (omega (arith, few, within, room, length-append before (rows_of listed (take i groups)), length-take i groups))

  -- the rows from a key on are those of its group, and those of all groups behind it
  parts_from : (key from : ℕ) (groups here : List (ℕ × G)) (a : Around listed Holds span laws (base_of span key) groups here) → base_of span key ≤ from → from ≤ base_of span key + span → keys_from key_of_pair from here ≡ []
      → keys_from key_of_pair key (rows_of listed groups) ≡ keys_from key_of_pair key (rows_of listed here) ++ rows_of listed (keys_from key_of_pair from groups)
  parts_from key from groups here a low high none =
      let base = base_of span key in
      let front = rows_of listed a.front in
      let own = rows_of listed here in
      let back = rows_of listed a.back in
      let behind = rows_from listed Holds span laws (base + span) a.back a.back_each a.behind in
      let far : key ≤ base + span = omega (arith, base_high span laws.positive key) in
      let others : keys_from key_of_pair from groups ≡ a.back =
      ap (keys_from key_of_pair from) a.list
      ∙ from_gone from a.front (here ++ a.back) (below-weaker key_of_pair base from a.front low a.below)
      ∙ filter-append _ here a.back ∙ ap (λ l. l ++ keys_from key_of_pair from a.back) none
      ∙ from_all key_of_pair from a.back (from-weaker key_of_pair from (base + span) a.back high a.behind) in
      ap (λ gs. keys_from key_of_pair key (rows_of listed gs)) a.list
      ∙ ap (keys_from key_of_pair key) (rows_of-append listed Holds span laws a.front (here ++ a.back) ∙ ap (λ l. front ++ l) (rows_of-append listed Holds span laws here a.back))
      ∙ from_gone key front (own ++ back) (below-weaker key_of_pair base key front (base_low span laws.positive key) (rows_below listed Holds span laws base a.front (base_base span laws.positive key) a.front_each a.below))
      ∙ filter-append _ own back
      ∙ ap (λ l. keys_from key_of_pair key own ++ l) (from_all key_of_pair key back (from-weaker key_of_pair key (base + span) back far behind))
      ∙ ap (λ gs. keys_from key_of_pair key own ++ rows_of listed gs) (sym others)

  module _ (groups : List (ℕ × G)) (are : AreGroups listed Holds groups) (key base : ℕ) (at : base ≡ base_of span key) where
    -- where its group isn't there
    pub started_none : None ≡ value_at base groups → (page : List (ℕ × R)) → page ≡ [] → keys_from key_of_pair key (rows_of listed groups) ≡ page ++ rows_of listed (keys_from key_of_pair key groups)
    started_none missing page none =
        parts_from key key groups [] (beside laws are key at None missing) (base_low span laws.positive key) (omega (arith, base_high span laws.positive key)) refl
        ∙ ap (λ l. l ++ rows_of listed (keys_from key_of_pair key groups)) (sym none)

    module _ (group : G) (found : Some group ≡ value_at base groups) where
      -- and where it is
      pub started_some : (page items new : List (ℕ × R)) → page ≡ [] → items ≡ listed base group → new ≡ page ++ keys_from key_of_pair key items → keys_from key_of_pair key (rows_of listed groups) ≡ new ++ rows_of listed (keys_from key_of_pair (key + 1) groups)
      started_some page items new none its step =
          let past : nat_le (key + 1) (base_of span key) ≡ false = let low = base_low span laws.positive key in grind (arith, nat_tests) in
          let own : new ≡ keys_from key_of_pair key (listed (base_of span key) group) =
          step ∙ ap (λ l. l ++ keys_from key_of_pair key items) none ∙ ap (keys_from key_of_pair key) (its ∙ ap (λ (b : ℕ). listed b group) at) in
          parts_from key (key + 1) groups ((base_of span key, group) ∷ []) (beside laws are key at (Some group) found) (omega (arith, base_low span laws.positive key)) (omega (arith, base_high span laws.positive key)) (rw past refl)
          ∙ ap (λ l. keys_from key_of_pair key l ++ rows_of listed (keys_from key_of_pair (key + 1) groups)) (append-nil (listed (base_of span key) group))
          ∙ ap (λ l. l ++ rows_of listed (keys_from key_of_pair (key + 1) groups)) (sym own)

      pub started_holds : Holds base group
      started_holds = subst (λ (b : ℕ). Holds b group) (sym at) (its_rules laws are key at group found)

      -- its rows are four at most, and its keys are small
      pub started_few : (page new : List (ℕ × R)) → page ≡ [] → new ≡ page ++ keys_from key_of_pair key (listed base group) → length new ≤ 4
      started_few page new none step =
          let few = filter_fewer (λ p. nat_le key (key_of_pair p)) (listed base group) in
          rw (step, none) (omega (arith, few, four_rows laws base group started_holds))

      pub started_small : key + 1 ≤ key_limit
      started_small =
          let rules = laws.rules base group started_holds in
          let small = rules.small in
          omega (arith, base_high span laws.positive key, at)

  -- the groups of a page, which hold
  pub page_holds : (groups page rest : List (ℕ × G)) (from : ℕ) → AreGroups listed Holds groups → keys_from key_of_pair from groups ≡ page ++ rest → AllByRecursion (λ p. Holds p.0 p.1) page
  page_holds groups page rest from are e =
      each-weaker {P = IsFilled listed Holds} (λ p h. h.0) page (page_filled groups page rest from are e)
    where
      page_filled : (groups page rest : List (ℕ × G)) (from : ℕ) → AreGroups listed Holds groups → keys_from key_of_pair from groups ≡ page ++ rest → AllByRecursion (IsFilled listed Holds) page
      page_filled groups page rest from are e =
          each-left (IsFilled listed Holds) page rest (subst (AllByRecursion (IsFilled listed Holds)) e (each-filter (IsFilled listed Holds) _ groups are.each))

  -- a page of rows is made of the key's own and those of a page of groups
  pub whole_page : (groups gpage : List (ℕ × G)) (from key : ℕ) (own page : List (ℕ × R)) → AreGroups listed Holds groups → IsPage from groups gpage → keys_from key_of_pair key (rows_of listed groups) ≡ own ++ rows_of listed (keys_from key_of_pair from groups)
      → page ≡ own ++ rows_of listed gpage → IsPage key (rows_of listed groups) page
  whole_page groups gpage from key own page are is front made = record {
    rest = rows_of listed is.rest;
    front =
        front ∙ ap (λ gs. own ++ rows_of listed gs) is.front
        ∙ ap (λ l. own ++ l) (rows_of-append listed Holds span laws gpage is.rest)
        ∙ sym (append_assoc own (rows_of listed gpage) (rows_of listed is.rest))
        ∙ ap (λ l. l ++ rows_of listed is.rest) (sym made);
    some = λ none. ap (rows_of listed) (is.some (no_groups gpage filled (no_back own (rows_of listed gpage) (sym made ∙ none))));
  }
    where
      no_back : (a b : List (ℕ × R)) → a ++ b ≡ [] → b ≡ []
      no_back [] b e = e
      no_back (x ∷ a) b e = let wrong : ⊥ = cc in absurd wrong

      no_groups : (gs : List (ℕ × G)) → AllByRecursion (IsFilled listed Holds) gs → rows_of listed gs ≡ [] → gs ≡ []
      no_groups [] each e = refl
      no_groups (p ∷ gs) each e = absurd (let size = ap length e in omega (arith, size, each.0.1, length-append (listed p.0 p.1) (rows_of listed gs)))

      filled : AllByRecursion (IsFilled listed Holds) gpage
      filled = each-left (IsFilled listed Holds) gpage is.rest (subst (AllByRecursion (IsFilled listed Holds)) is.front (each-filter (IsFilled listed Holds) _ groups are.each))

  -- the group that was found for one of several keys
  many_value : (groups : List (ℕ × G)) (keys : List ℕ) (i : ℕ) (d : Option G) → i < length keys → get_or (map (λ k. value_at k groups) (map (base_of span) keys)) i d ≡ value_at (base_of span (get_or keys i 0)) groups
  many_value groups [] i d within = absurd (omega (arith, within))
  many_value groups (k ∷ keys) zero d within = refl
  many_value groups (k ∷ keys) (suc i) d within = many_value groups keys i d (omega (arith, within))

  pub many_at : (groups : List (ℕ × G)) (keys : List ℕ) (items : List (Option G)) (i : ℕ) (found : Option G) → items ≡ map (λ k. value_at k groups) (map (base_of span) keys) → i < length keys → found ≡ get_or items i found → found ≡ value_at (base_of span (get_or keys i 0)) groups
  many_at groups keys items i found all within read = read ∙ ap (λ l. get_or l i found) all ∙ many_value groups keys i found within

  pub many_holds : (groups : List (ℕ × G)) (are : AreGroups listed Holds groups) (key : ℕ) (found : Option G) → found ≡ value_at (base_of span key) groups → IfSome found (λ group. Holds (base_of span key) group)
  many_holds groups are key None e = tt
  many_holds groups are key (Some group) e = its_rules laws are key refl group e

  pub many_found : (groups : List (ℕ × G)) (are : AreGroups listed Holds groups) (key : ℕ) (found : Option G) (result : Option R) → found ≡ value_at (base_of span key) groups → (found ≡ None → result ≡ None) → IfSome found (λ group. result ≡ value_at key (listed (base_of span key) group))
      → result ≡ value_at key (rows_of listed groups)
  many_found groups are key None result e none some = none refl ∙ none_there laws are key refl e
  many_found groups are key (Some group) result e none some = its_value laws are key refl group e result some

  -- the rows of a group that was found, and none without it, are all rows of its span
  rows_found : (groups : List (ℕ × G)) → AreGroups listed Holds groups → (key : ℕ) (found : Option G) → found ≡ value_at (base_of span key) groups → rows_in listed (base_of span key) found ≡ rows_beside span key (rows_of listed groups)
  rows_found groups are key None e = sym (none_beside laws are key refl e)
  rows_found groups are key (Some group) e = sym (some_beside laws are key refl group e)

  pub groups_found : (groups : List (ℕ × G)) → AreGroups listed Holds groups → (keys : List ℕ) (items : List (Option G)) → items ≡ map (λ k. value_at k groups) (map (base_of span) keys) → AreGroupsAt span listed (rows_of listed groups) keys items
  groups_found groups are keys items all = record {
    count = ap length all ∙ length-map (map (base_of span) keys) (λ k. value_at k groups) ∙ length-map keys (base_of span);
    each = λ n within. rows_found groups are (get_or keys n 0) (get_or items n None) (ap (λ l. get_or l n None) all ∙ many_value groups keys n None within);
  }
