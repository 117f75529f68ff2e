-- What the rows' edits do to the index of numbers.
use Rattle.hlr_core.proofs.Common.{◌≡◌, ◌≢◌, refl, sym, ap, subst, ◌∙◌, ℕ, ◌+◌, List, [], ◌∷◌, Some, None, arith, true, ◌==◌, nat_lt, option_map, is_some, AllByRecursion, nat_tests, by_test, row_at-with_row_same, row_at-with_row_other, with_row-either, without_row-with_row, with_row_at_same, absent_cons, each_found, each-without_row, subscriber_key, row_at, with_row_at, with_row, without_row, SubscriberRow, key_of_pair, LAST_SUBSCRIBER, Book, IsWithin, bearer_in, pair_of, renamed, number_pair, index_of, IsRegister, bearer_of, bearer_id, HasNoTwin}
use Rattle.hlr_core.proofs.NumbersLemmas.{AllDiffer, other_numbers, others_differ}

-- no row has the number where each has another
pub no_bearer : (rows : List SubscriberRow) (n : ℕ) → AllByRecursion (λ row. n ≢ row.sub_nbr) rows → bearer_of rows n ≡ None
no_bearer [] n others = refl
no_bearer (row ∷ rows) n others =
    let other : row.sub_nbr ≡ n → ⊥ = λ e. others.0 (sym e) in
    let rest = no_bearer rows n others.1 in
    grind (arith, nat_tests)

-- the pair of a number is that of its owner
pub index_finds : (rows : List SubscriberRow) (n : ℕ) → HasNoTwin rows → row_at key_of_pair n (index_of rows) ≡ option_map number_pair (bearer_of rows n)
index_finds [] n single = refl
index_finds (row ∷ rows) n single =
    by_test (row.sub_nbr == n)
    (λ e.
    let same : row.sub_nbr ≡ n = grind (arith, nat_tests) in
    let free : bearer_of rows n ≡ None = rw same at (no_bearer rows row.sub_nbr single.0) in
    let absent : row_at key_of_pair n (index_of rows) ≡ None = index_finds rows n single.1 ∙ ap (option_map number_pair) free in
    rw e (row_at-with_row_same key_of_pair n (number_pair row) (index_of rows) same absent))
    (λ e.
    let other : n ≢ row.sub_nbr = grind (arith, nat_tests) in
    rw e (row_at-with_row_other key_of_pair n row.sub_nbr (number_pair row) (index_of rows) refl other ∙ index_finds rows n single.1))

-- a row more, whose number no row has
pub index-with_row : (row : SubscriberRow) (rows : List SubscriberRow) → bearer_of rows row.sub_nbr ≡ None
    → index_of (with_row subscriber_key row rows) ≡ with_row key_of_pair (number_pair row) (index_of rows)
index-with_row row [] free = refl
index-with_row row (x ∷ xs) free =
    let rest = absent_cons (λ (r : SubscriberRow). r.sub_nbr) row.sub_nbr x xs free in
    by_test (nat_lt (subscriber_key row) (subscriber_key x))
    (λ e. rw e refl)
    (λ e. rw (e, index-with_row row xs rest.1) (with_row-either key_of_pair (number_pair x) (number_pair row) (index_of xs) rest.0))

-- no pair has a number that no row has
index_lacks : (rows : List SubscriberRow) (n : ℕ) → AllDiffer n rows → row_at key_of_pair n (index_of rows) ≡ None
index_lacks [] n others = refl
index_lacks (row ∷ rows) n others = row_at-with_row_other key_of_pair n row.sub_nbr (number_pair row) (index_of rows) refl others.0 ∙ index_lacks rows n others.1

-- a row replaced by one whose number the others don't have: its pair beside the pairs of the others
index-with_row_at : (k : ℕ) (new old : SubscriberRow) (rows : List SubscriberRow) → row_at subscriber_key k rows ≡ Some old → AllDiffer new.sub_nbr (without_row subscriber_key k rows)
    → index_of (with_row_at subscriber_key k new rows) ≡ with_row key_of_pair (number_pair new) (index_of (without_row subscriber_key k rows))
index-with_row_at k new old [] found others = absurd cc
index-with_row_at k new old (x ∷ xs) found others =
    by_test (subscriber_key x == k)
    (λ e. rw e refl)
    (λ e.
    let rest : row_at subscriber_key k xs ≡ Some old = rw e at found in
    let differ : AllDiffer new.sub_nbr (x ∷ without_row subscriber_key k xs) = rw e at others in
    rw (e, index-with_row_at k new old xs rest differ.1)
    (with_row-either key_of_pair (number_pair x) (number_pair new) (index_of (without_row subscriber_key k xs)) (λ twin. differ.0 (sym twin))))

-- the pairs are that of a row beside those of the others
index_parts : (k : ℕ) (row : SubscriberRow) (rows : List SubscriberRow) → HasNoTwin rows → row_at subscriber_key k rows ≡ Some row
    → index_of rows ≡ with_row key_of_pair (number_pair row) (index_of (without_row subscriber_key k rows))
index_parts k row rows single found =
    sym (ap index_of (with_row_at_same subscriber_key k row rows found)) ∙ index-with_row_at k row row rows found (others_differ k row rows single found)

-- a row replaced by one of the same subscriber with a new number
pub index_renamed : (k : ℕ) (new old : SubscriberRow) (rows : List SubscriberRow) → HasNoTwin rows → row_at subscriber_key k rows ≡ Some old → bearer_of rows new.sub_nbr ≡ None
    → index_of (with_row_at subscriber_key k new rows) ≡ renamed old.sub_nbr new.sub_nbr new.s_id (index_of rows)
index_renamed k new old rows single found free =
    let each = other_numbers rows new.sub_nbr free in
    let apart : new.sub_nbr ≢ old.sub_nbr = each_found subscriber_key (λ (r : SubscriberRow). new.sub_nbr ≢ r.sub_nbr) k rows old each found in
    let others = index_of (without_row subscriber_key k rows) in
    let lacks : row_at key_of_pair old.sub_nbr others ≡ None = index_lacks (without_row subscriber_key k rows) old.sub_nbr (others_differ k old rows single found) in
    let absent : row_at key_of_pair old.sub_nbr (with_row key_of_pair (number_pair new) others) ≡ None =
    row_at-with_row_other key_of_pair old.sub_nbr new.sub_nbr (number_pair new) others refl (λ twin. apart (sym twin)) ∙ lacks in
    index-with_row_at k new old rows found (each-without_row subscriber_key (λ (r : SubscriberRow). new.sub_nbr ≢ r.sub_nbr) k rows each)
    ∙ sym (rw (index_parts k old rows single found, with_row-either key_of_pair (number_pair new) (number_pair old) others apart)
    (without_row-with_row key_of_pair old.sub_nbr (number_pair old) (with_row key_of_pair (number_pair new) others) refl absent))

-- the subscriber who has a number in the index is the number's owner
pub bearer_indexed : (book : Book) (pairs : List (ℕ × ℕ)) (n : ℕ) → IsRegister book pairs → bearer_in n pairs ≡ bearer_id book.subscribers n
bearer_indexed book pairs n register =
    rw (register.index, index_finds book.subscribers n register.alone)
    (elim (bearer_of book.subscribers n) as (λ o. option_map (λ (pair : ℕ × ℕ). pair.1) (option_map number_pair o) ≡ option_map (λ (row : SubscriberRow). row.s_id) o) [ None ↦ refl | Some row ↦ refl ])

-- the owner of a number is one of all subscribers
pub bearer_within : (book : Book) (pairs : List (ℕ × ℕ)) (n s : ℕ) → IsRegister book pairs → Some s ≡ bearer_in n pairs → IsWithin 1 (LAST_SUBSCRIBER + 1) s
bearer_within book pairs n s register found =
    let is : Some s ≡ bearer_id book.subscribers n = found ∙ bearer_indexed book pairs n register in
    (elim (bearer_of book.subscribers n) as (λ o. bearer_of book.subscribers n ≡ o → IsWithin 1 (LAST_SUBSCRIBER + 1) s) [
      | None ↦ λ e. let no : Some s ≡ None = is ∙ ap (option_map (λ (row : SubscriberRow). row.s_id)) e in absurd cc
      | Some row ↦ λ e.
          let own : Some s ≡ Some row.s_id = is ∙ ap (option_map (λ (row : SubscriberRow). row.s_id)) e in
          let same : row.s_id ≡ s = cc in
          subst (λ (k : ℕ). IsWithin 1 (LAST_SUBSCRIBER + 1) k) same
          (each_found (λ (r : SubscriberRow). r.sub_nbr) (λ (r : SubscriberRow). IsWithin 1 (LAST_SUBSCRIBER + 1) r.s_id) n book.subscribers row register.rows.subscribers e)
    ]) refl

-- a number that has no pair has no owner, and one that has a pair has one
pub free_number : (book : Book) (pairs : List (ℕ × ℕ)) (n : ℕ) → IsRegister book pairs → pair_of n pairs ≡ None → bearer_of book.subscribers n ≡ None
free_number book pairs n register free =
    (elim (bearer_of book.subscribers n) as (λ o. option_map number_pair o ≡ None → o ≡ None) [ None ↦ λ e. refl | Some row ↦ λ e. absurd cc ])
    (sym (index_finds book.subscribers n register.alone) ∙ rw register.index at free)

pub taken_number : (book : Book) (pairs : List (ℕ × ℕ)) (n : ℕ) (pair : ℕ × ℕ) → IsRegister book pairs → pair_of n pairs ≡ Some pair → is_some (bearer_of book.subscribers n) ≡ true
taken_number book pairs n pair register taken =
    (elim (bearer_of book.subscribers n) as (λ o. option_map number_pair o ≡ Some pair → is_some o ≡ true) [ None ↦ λ e. absurd cc | Some row ↦ λ e. refl ])
    (sym (index_finds book.subscribers n register.alone) ∙ rw register.index at taken)
