-- Pairs that are put in one after another: what their sums say of the rows, in whatever order these come.
use Rattle.hlr_core.proofs.Common.{◌≡◌, ◌∙◌, refl, sym, ap, subst, ℕ, ◌+◌, ◌<◌, ◌≤◌, ◌≢◌, List, [], ◌∷◌, ◌++◌, Bool, true, false, Some, None, length, map, inl, inr, arith, ◌==◌, ◌&&◌, nat_le, sum_by, is_some, ◌⊎◌, option_map, if◌then◌else◌, AllByRecursion, filter, nat_tests, fold-map, sum_by-in_order, sum_by-cons, sum_by-append, by_test, each-weaker, filter_all, count_of_key, ordered-with_row, sum_by-with_row, subscriber_key, IsOrderedBy, with_row, SubscriberRow, Refusal, NumberTaken, Memory, key_of_pair, first_subscriber, pair_of, number_pair, index_of, AreNoted, bears, HasTwin, HasNoTwin}
use Rattle.hlr_core.proofs.IndexLemmas.{index_finds, no_bearer}
use Rattle.hlr_core.proofs.NumbersLemmas.{AllDiffer}

-- a number of a pair, summed up over the pairs of rows
abbrev pub sum_of : (ℕ × ℕ → ℕ) → List SubscriberRow → ℕ
sum_of f rows = sum_by (λ row. f (number_pair row)) rows

-- a sum over the pairs of the index is that over the rows
sum_by-index_of : (f : ℕ × ℕ → ℕ) (rows : List SubscriberRow) → sum_by f (index_of rows) ≡ sum_of f rows
sum_by-index_of f rows = sum_by-in_order key_of_pair f (map number_pair rows) ∙ fold-map (λ s (p : ℕ × ℕ). s + f p) number_pair 0 rows

-- in rising pairs a number stands once or not at all
stands_once : (pairs : List (ℕ × ℕ)) (n : ℕ) → IsOrderedBy key_of_pair pairs → sum_by (bears n) pairs ≤ 1
stands_once pairs n ordered =
    let count : sum_by (bears n) pairs ≡ (if is_some (pair_of n pairs) then 1 else 0) = count_of_key key_of_pair n pairs ordered in
    by_test (is_some (pair_of n pairs)) (λ e. let one = rw e at count in omega (arith, one)) (λ e. let none = rw e at count in omega (arith, none))

-- a number that has a pair stands there
stands_there : (pairs : List (ℕ × ℕ)) (n : ℕ) (pair : ℕ × ℕ) → pair_of n pairs ≡ Some pair → 1 ≤ sum_by (bears n) pairs
stands_there [] n pair found = absurd cc
stands_there (x ∷ xs) n pair found =
    by_test (x.0 == n)
    (λ e. rw (sum_by-cons (bears n) x xs, e) (omega arith))
    (λ e. let rest = stands_there xs n pair (rw e at found) in rw (sum_by-cons (bears n) x xs, e) (omega (arith, rest)))

-- a number that no row has
differ : (rows : List SubscriberRow) (n : ℕ) → sum_of (bears n) rows ≤ 0 → AllDiffer n rows
differ [] n none = tt
differ (row ∷ rows) n none =
    let sum = sum_by-cons (λ (r : SubscriberRow). bears n (number_pair r)) row rows in
    by_test (row.sub_nbr == n)
    (λ e. let here : bears n (number_pair row) ≡ 1 = rw e refl in absurd (omega (arith, sum, here, none)))
    (λ e. (grind (arith, nat_tests), differ rows n (omega (arith, sum, none))))

none_bears : (rows : List SubscriberRow) (n : ℕ) → AllDiffer n rows → sum_of (bears n) rows ≡ 0
none_bears [] n others = refl
none_bears (row ∷ rows) n others =
    let other : n ≢ row.sub_nbr = others.0 in
    let e : (row.sub_nbr == n) ≡ false = grind (arith, nat_tests) in
    rw (sum_by-cons (λ (r : SubscriberRow). bears n (number_pair r)) row rows, e) (omega (arith, none_bears rows n others.1))

-- a row has its own number
own : (row : SubscriberRow) → bears row.sub_nbr (number_pair row) ≡ 1
own row = let e : (row.sub_nbr == row.sub_nbr) ≡ true = grind (arith, nat_tests) in rw e refl

-- where each number stands once or not at all, none stands twice
pub single : (rows : List SubscriberRow) → ((n : ℕ) → sum_of (bears n) rows ≤ 1) → HasNoTwin rows
single [] once = tt
single (row ∷ rows) once =
    let sum = sum_by-cons (λ (r : SubscriberRow). bears row.sub_nbr (number_pair r)) row rows in
    let most = once row.sub_nbr in (
      differ rows row.sub_nbr (omega (arith, sum, own row, most)),
      single rows (λ n.
          let sum = sum_by-cons (λ (r : SubscriberRow). bears n (number_pair r)) row rows in
          let all = once n in
          omega (arith, sum, all)),
    )

-- and the other way round
pub single_once : (rows : List SubscriberRow) (n : ℕ) → HasNoTwin rows → sum_of (bears n) rows ≤ 1
single_once [] n alone = omega arith
single_once (row ∷ rows) n alone =
    let sum = sum_by-cons (λ (r : SubscriberRow). bears n (number_pair r)) row rows in
    by_test (row.sub_nbr == n)
    (λ e.
    let same : row.sub_nbr ≡ n = grind (arith, nat_tests) in
    let here : bears n (number_pair row) ≡ 1 = rw e refl in
    let none : sum_of (bears n) rows ≡ 0 = none_bears rows n (rw (← same) alone.0) in
    omega (arith, sum, here, none))
    (λ e.
    let here : bears n (number_pair row) ≡ 0 = rw e refl in
    omega (arith, sum, here, single_once rows n alone.1))

-- the pairs of rows whose numbers all differ rise
index_rises : (rows : List SubscriberRow) → HasNoTwin rows → IsOrderedBy key_of_pair (index_of rows)
index_rises [] alone = tt
index_rises (row ∷ rows) alone =
    ordered-with_row key_of_pair (number_pair row) (index_of rows)
    (index_finds rows row.sub_nbr alone.1 ∙ ap (option_map number_pair) (no_bearer rows row.sub_nbr alone.0))
    (index_rises rows alone.1)

-- two pairs are the same, as a test
abbrev is_pair : ℕ × ℕ → ℕ × ℕ → Bool
is_pair x y = (x.0 == y.0) && (x.1 == y.1)

-- 1 where they are, else 0
abbrev is_one : ℕ × ℕ → ℕ × ℕ → ℕ
is_one x y = if is_pair x y then 1 else 0

-- how often a pair stands in some pairs
abbrev times : ℕ × ℕ → List (ℕ × ℕ) → ℕ
times pair pairs = sum_by (is_one pair) pairs

pair_same : (x y : ℕ × ℕ) → is_pair x y ≡ true → x ≡ y
pair_same x y e =
    let first : x.0 ≡ y.0 = grind (arith, nat_tests) in
    let second : x.1 ≡ y.1 = grind (arith, nat_tests) in
    ap (λ (n : ℕ). let pair : ℕ × ℕ = (n, x.1) in pair) first ∙ ap (λ (n : ℕ). let pair : ℕ × ℕ = (y.0, n) in pair) second

-- a pair that stands behind others has a greater number
stands_behind : (pair : ℕ × ℕ) (k : ℕ) (pairs : List (ℕ × ℕ)) → AllByRecursion (λ other. k < key_of_pair other) pairs → 1 ≤ times pair pairs → k < pair.0
stands_behind pair k [] each some = absurd (omega (arith, some))
stands_behind pair k (x ∷ xs) each some =
    by_test (is_pair pair x)
    (λ e. let same : pair.0 ≡ x.0 = ap (λ (p : ℕ × ℕ). p.0) (pair_same pair x e) in let above : k < x.0 = each.0 in omega (arith, same, above))
    (λ e.
    let sum = sum_by-cons (is_one pair) x xs in
    let none : is_one pair x ≡ 0 = rw e refl in
    stands_behind pair k xs each.1 (omega (arith, sum, none, some)))

-- so of rising pairs the first is the one that stands there, or one in front of it
first_or_behind : (pair x : ℕ × ℕ) (xs : List (ℕ × ℕ)) → IsOrderedBy key_of_pair (x ∷ xs) → 1 ≤ times pair (x ∷ xs) → is_pair pair x ≡ false → x.0 < pair.0
first_or_behind pair x xs ordered some e =
    let none : is_one pair x ≡ 0 = rw e refl in
    stands_behind pair x.0 xs ordered.0 (omega (arith, sum_by-cons (is_one pair) x xs, none, some))

first_stands : (x : ℕ × ℕ) (xs : List (ℕ × ℕ)) → 1 ≤ times x (x ∷ xs)
first_stands x xs =
    let first : (x.0 == x.0) ≡ true = grind (arith, nat_tests) in
    let second : (x.1 == x.1) ≡ true = grind (arith, nat_tests) in
    rw (sum_by-cons (is_one x) x xs, first, second) (omega arith)

-- rising pairs with the same sums are the same
same_pairs : (xs ys : List (ℕ × ℕ)) → IsOrderedBy key_of_pair xs → IsOrderedBy key_of_pair ys → ((f : ℕ × ℕ → ℕ) → sum_by f xs ≡ sum_by f ys) → xs ≡ ys
same_pairs [] [] rises risen sums = refl
same_pairs [] (y ∷ ys) rises risen sums =
    let none = sums (λ pair. 1) in
    let some = sum_by-cons (λ (pair : ℕ × ℕ). 1) y ys in
    absurd (omega (arith, none, some))
same_pairs (x ∷ xs) [] rises risen sums =
    let none = sums (λ pair. 1) in
    let some = sum_by-cons (λ (pair : ℕ × ℕ). 1) x xs in
    absurd (omega (arith, none, some))
same_pairs (x ∷ xs) (y ∷ ys) rises risen sums =
    let head : x ≡ y = by_test (is_pair x y) (pair_same x y) (λ e. by_test (is_pair y x) (λ d. sym (pair_same y x d)) (λ d.
    let there = sums (is_one x) in
    let here = sums (is_one y) in
    let low = first_or_behind x y ys risen (omega (arith, there, first_stands x xs)) e in
    let high = first_or_behind y x xs rises (omega (arith, here, first_stands y ys)) d in
    absurd (omega (arith, low, high)))) in
    let rest : xs ≡ ys = same_pairs xs ys rises.1 risen.1 (λ f.
    let same = ap f head in
    let all = sums f in
    let left = sum_by-cons f x xs in
    let right = sum_by-cons f y ys in
    omega (arith, same, all, left, right)) in
    ap (λ (p : ℕ × ℕ). p ∷ xs) head ∙ ap (λ (l : List (ℕ × ℕ)). y ∷ l) rest

-- rising pairs that were noted of rows in another order than the book's: no number of the book stands twice, and they
-- are its index
pub indexed : (as_in book_rows : List SubscriberRow) (pairs : List (ℕ × ℕ)) → IsOrderedBy key_of_pair pairs → AreNoted as_in [] pairs
    → ((f : SubscriberRow → ℕ) → sum_by f as_in ≡ sum_by f book_rows) → HasNoTwin book_rows × (pairs ≡ index_of book_rows)
indexed as_in book_rows pairs rises noted sums =
    let same : (f : ℕ × ℕ → ℕ) → sum_by f pairs ≡ sum_of f book_rows = λ f. (let all = noted f in let moved = sums (λ row. f (number_pair row)) in omega (arith, all, moved)) in
    let alone = single book_rows (λ n. (let here = same (bears n) in let once = stands_once pairs n rises in omega (arith, here, once))) in
    (alone, same_pairs pairs (index_of book_rows) rises (index_rises book_rows alone) (λ f. same f ∙ sym (sum_by-index_of f book_rows)))

-- a number that stands twice in the rows alone
pub twin : (rows : List SubscriberRow) → HasTwin rows [] → ¬ (HasNoTwin rows)
twin rows two alone = let once = single_once rows two.0 alone in let twice = two.1 in absurd (omega (arith, once, twice))

-- a sum over two lists of rows
sum_both : (f : ℕ × ℕ → ℕ) (xs ys : List SubscriberRow) → sum_of f (xs ++ ys) ≡ sum_of f xs + sum_of f ys
sum_both f xs ys = sum_by-append (λ (row : SubscriberRow). f (number_pair row)) xs ys

-- two lists of rows that are noted one after another
pub noted_both : (xs ys : List SubscriberRow) (start middle end : List (ℕ × ℕ)) → AreNoted xs start middle → AreNoted ys middle end → AreNoted (xs ++ ys) start end
noted_both xs ys start middle end first second f = omega (arith, sum_both f xs ys, first f, second f)

-- a number that stands twice once the second list is noted too
pub twin_later : (xs ys : List SubscriberRow) (start middle : List (ℕ × ℕ)) → AreNoted xs start middle → HasTwin ys middle → HasTwin (xs ++ ys) start
twin_later xs ys start middle first two = (two.0, omega (arith, sum_both (bears two.0) xs ys, first (bears two.0), two.1))

-- or does so in the first already
pub twin_sooner : (xs ys : List SubscriberRow) (start : List (ℕ × ℕ)) → HasTwin xs start → HasTwin (xs ++ ys) start
twin_sooner xs ys start two = (two.0, omega (arith, sum_both (bears two.0) xs ys, two.1))

-- all rows but those that are left are noted
pub record IsNoting (left rows : List SubscriberRow) (before pairs : List (ℕ × ℕ)) : Type 0 where
  pub sums : (f : ℕ × ℕ → ℕ) → sum_by f pairs + sum_of f left ≡ sum_by f before + sum_of f rows

-- at the start all are left, and at the end none
pub noting_start : (left rows : List SubscriberRow) (before : List (ℕ × ℕ)) → left ≡ rows → IsNoting left rows before before
noting_start left rows before all = record { sums = λ f. ap (λ (some : List SubscriberRow). sum_by f before + sum_of f some) all }

pub noting_end : (left rows : List SubscriberRow) (before pairs : List (ℕ × ℕ)) → left ≡ [] → IsNoting left rows before pairs → AreNoted rows before pairs
noting_end left rows before pairs none noting f =
    let past : sum_of f left ≡ 0 = ap (sum_of f) none in
    omega (arith, past, noting.sums f)

-- the next of them are noted
noting_next : (now next left rows : List SubscriberRow) (before pairs more : List (ℕ × ℕ)) → now ≡ next ++ left → IsNoting now rows before pairs → AreNoted next pairs more → IsNoting left rows before more
noting_next now next left rows before pairs more parts noting noted = record {
  sums = λ f. (let both : sum_of f now ≡ sum_of f next + sum_of f left = ap (sum_of f) parts ∙ sum_both f next left in
      let so_far = noting.sums f in
      let new = noted f in
      omega (arith, both, so_far, new));
}

-- the next of them have a number that stands twice
noting_twin : (now next left rows : List SubscriberRow) (before pairs : List (ℕ × ℕ)) → now ≡ next ++ left → IsNoting now rows before pairs → HasTwin next pairs → HasTwin rows before
noting_twin now next left rows before pairs parts noting two =
    let both : sum_of (bears two.0) now ≡ sum_of (bears two.0) next + sum_of (bears two.0) left = ap (sum_of (bears two.0)) parts ∙ sum_both (bears two.0) next left in
    (two.0, omega (arith, both, noting.sums (bears two.0), two.1))

-- one row is noted
noted_one : (row : SubscriberRow) (pairs : List (ℕ × ℕ)) → AreNoted (row ∷ []) pairs (with_row key_of_pair (number_pair row) pairs)
noted_one row pairs f =
    omega (arith, sum_by-with_row key_of_pair f (number_pair row) pairs, sum_by-cons (λ (r : SubscriberRow). f (number_pair r)) row [])

-- a row whose number has a pair
twin_one : (row : SubscriberRow) (pairs : List (ℕ × ℕ)) (pair : ℕ × ℕ) → pair_of row.sub_nbr pairs ≡ Some pair → HasTwin (row ∷ []) pairs
twin_one row pairs pair found =
    let one = sum_by-cons (λ (r : SubscriberRow). bears row.sub_nbr (number_pair r)) row [] in
    (row.sub_nbr, omega (arith, stands_there pairs row.sub_nbr pair found, one, own row))

-- why a row isn't noted
one_refused : (row : SubscriberRow) (pairs : List (ℕ × ℕ)) (why : Refusal) → why ≡ (if is_some (pair_of row.sub_nbr pairs) then NumberTaken else Memory)
    → ((why ≡ NumberTaken) × HasTwin (row ∷ []) pairs) ⊎ (why ≡ Memory)
one_refused row pairs why is =
    (elim (pair_of row.sub_nbr pairs) as (λ o. pair_of row.sub_nbr pairs ≡ o → ((why ≡ NumberTaken) × HasTwin (row ∷ []) pairs) ⊎ (why ≡ Memory)) [
      | None ↦ λ e. inr (rw e at is)
      | Some pair ↦ λ e. inl (rw e at is, twin_one row pairs pair e)
    ]) refl

-- the rows from a subscriber on
abbrev pub rows_from : ℕ → List SubscriberRow → List SubscriberRow
rows_from s rows = filter (λ row. nat_le s row.s_id) rows

-- from 0 on they are all rows
pub rows_from_start : (rows : List SubscriberRow) → rows_from 0 rows ≡ rows
rows_from_start [] = refl
rows_from_start (row ∷ rows) =
    let e : nat_le 0 row.s_id ≡ true = grind (arith, nat_tests) in
    rw e (ap (λ (rest : List SubscriberRow). row ∷ rest) (rows_from_start rows))

-- where there is no first row, none is left
pub rows_from_end : (s : ℕ) (rows : List SubscriberRow) → first_subscriber s rows ≡ None → rows_from s rows ≡ []
rows_from_end s [] none = refl
rows_from_end s (row ∷ rows) none =
    by_test (nat_le s row.s_id)
    (λ e. let no : Some row ≡ None = rw e at none in absurd cc)
    (λ e. rw e (rows_from_end s rows (rw e at none)))

-- rows that are all of later subscribers
rows_behind : (s : ℕ) (x : SubscriberRow) (rows : List SubscriberRow) → s ≤ x.s_id + 1 → AllByRecursion (λ y. subscriber_key x < subscriber_key y) rows → rows_from s rows ≡ rows
rows_behind s x rows up each =
    filter_all (λ (row : SubscriberRow). nat_le s row.s_id) rows
    (each-weaker {P = λ y. subscriber_key x < subscriber_key y} {Q = λ (y : SubscriberRow). nat_le s y.s_id ≡ true} (λ y above. let behind : s ≤ y.s_id = omega (arith, up, above) in grind (arith, nat_tests)) rows each)

-- the first row is one of them
first_from : (s : ℕ) (rows : List SubscriberRow) (row : SubscriberRow) → first_subscriber s rows ≡ Some row → s ≤ row.s_id
first_from s [] row found = absurd cc
first_from s (x ∷ xs) row found =
    by_test (nat_le s x.s_id)
    (λ e. let is : Some x ≡ Some row = rw e at found in let at : x ≡ row = cc in rw (← at) (grind (arith, nat_tests)))
    (λ e. first_from s xs row (rw e at found))

-- and behind it are those of the subscribers past its own
rows_from_step : (s : ℕ) (rows : List SubscriberRow) (row : SubscriberRow) → IsOrderedBy subscriber_key rows → first_subscriber s rows ≡ Some row → rows_from s rows ≡ row ∷ rows_from (row.s_id + 1) rows
rows_from_step s [] row ordered found = absurd cc
rows_from_step s (x ∷ xs) row ordered found =
    by_test (nat_le s x.s_id)
    (λ e.
    let is : Some x ≡ Some row = rw e at found in
    let own : x ≡ row = cc in
    let up : s ≤ x.s_id = grind (arith, nat_tests) in
    let past : nat_le (x.s_id + 1) x.s_id ≡ false = grind (arith, nat_tests) in
    subst (λ (r : SubscriberRow). rows_from s (x ∷ xs) ≡ r ∷ rows_from (r.s_id + 1) (x ∷ xs)) own
    (rw (e, past) (ap (λ (rest : List SubscriberRow). x ∷ rest) (rows_behind s x xs (omega (arith, up)) ordered.0 ∙ sym (rows_behind (x.s_id + 1) x xs (omega arith) ordered.0)))))
    (λ e.
    let rest : first_subscriber s xs ≡ Some row = rw e at found in
    let up = first_from s xs row rest in
    let past : nat_le (row.s_id + 1) x.s_id ≡ false = grind (arith, nat_tests) in
    rw (e, past) (rows_from_step s xs row ordered.1 rest))

-- so fewer are left
pub rows_from_fewer : (s : ℕ) (rows : List SubscriberRow) (row : SubscriberRow) → IsOrderedBy subscriber_key rows → first_subscriber s rows ≡ Some row
    → length (rows_from (row.s_id + 1) rows) < length (rows_from s rows)
rows_from_fewer s rows row ordered found = rw (rows_from_step s rows row ordered found) (omega arith)

-- the first row from a subscriber on is noted, or why it isn't
module _ (from : ℕ) (row : SubscriberRow) (rows : List SubscriberRow) (before pairs : List (ℕ × ℕ)) (ordered : IsOrderedBy subscriber_key rows) (found : Some row ≡ first_subscriber from rows)
    (noting : IsNoting (rows_from from rows) rows before pairs) where
  pub noting_row : (n s next : ℕ) (more : List (ℕ × ℕ)) → n ≡ row.sub_nbr → s ≡ row.s_id → next ≡ row.s_id → more ≡ with_row key_of_pair (n, s) pairs → IsNoting (rows_from (next + 1) rows) rows before more
  noting_row n s next more number id behind is =
      let one = noted_one row pairs in
      rw behind (noting_next _ (row ∷ []) _ rows before pairs more (rows_from_step from rows row ordered (sym found)) noting (rw (is, number, id) one))

  pub row_refused : (n : ℕ) (why : Refusal) → n ≡ row.sub_nbr → why ≡ (if is_some (pair_of n pairs) then NumberTaken else Memory)
      → ((why ≡ NumberTaken) × HasTwin rows before) ⊎ (why ≡ Memory)
  row_refused n why number is =
      elim (one_refused row pairs why (rw number at is)) [
        | inl twice ↦ inl (twice.0, noting_twin _ (row ∷ []) _ rows before pairs (rows_from_step from rows row ordered (sym found)) noting twice.1)
        | inr memory ↦ inr memory
      ]
