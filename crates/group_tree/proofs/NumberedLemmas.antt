-- A group's rows with their keys, where keys rise with the numbers of rows.
use Rattle.group_tree.proofs.Common.{◌≡◌, ◌≢◌, ◌∙◌, refl, sym, ap, ℕ, ◌<◌, ◌==◌, nat_lt, true, false, List, [], ◌∷◌, Option, Some, None, option_map, IsSome, arith, nat_tests, by_test, row_at, with_row, with_row_at, without_row, key_of_pair, value_at, IsPutAt, Result, Ok, Err, Refusal, is_ok, key_found, listed_by, IsPut}
use Rattle.row_groups.proofs.FilledLemmas.{none_mapped}

module _ {R : Type 0} (key_at : ℕ → ℕ) (rising : (low high : ℕ) → low < high → key_at low < key_at high) (number : R → ℕ) (with : R → R) where
  -- two keys are equal where their numbers are, and are ordered as these are
  same_at : (a b : ℕ) → (key_at a == key_at b) ≡ (a == b)
  same_at a b =
      by_test (nat_lt a b)
      (λ t. let less : a < b = grind (arith, nat_tests) in let keys = rising a b less in
      let x : (key_at a == key_at b) ≡ false = grind (arith, nat_tests) in let y : (a == b) ≡ false = grind (arith, nat_tests) in x ∙ sym y)
      (λ t. by_test (nat_lt b a)
      (λ u. let more : b < a = grind (arith, nat_tests) in let keys = rising b a more in
      let x : (key_at a == key_at b) ≡ false = grind (arith, nat_tests) in let y : (a == b) ≡ false = grind (arith, nat_tests) in x ∙ sym y)
      (λ u. let same : a ≡ b = grind (arith, nat_tests) in
      let y : (a == b) ≡ true = grind (arith, nat_tests) in
      let keys : key_at a ≡ key_at b = ap key_at same in
      let x : (key_at a == key_at b) ≡ true = grind (arith, nat_tests) in x ∙ sym y))

  less_at : (a b : ℕ) → nat_lt (key_at a) (key_at b) ≡ nat_lt a b
  less_at a b =
      by_test (nat_lt a b)
      (λ t. let less : a < b = grind (arith, nat_tests) in let keys = rising a b less in
      let x : nat_lt (key_at a) (key_at b) ≡ true = grind (arith, nat_tests) in x ∙ sym t)
      (λ t. by_test (nat_lt b a)
      (λ u. let more : b < a = grind (arith, nat_tests) in let keys = rising b a more in
      let x : nat_lt (key_at a) (key_at b) ≡ false = grind (arith, nat_tests) in x ∙ sym t)
      (λ u. let same : a ≡ b = grind (arith, nat_tests) in
      let keys : key_at a ≡ key_at b = ap key_at same in
      let x : nat_lt (key_at a) (key_at b) ≡ false = grind (arith, nat_tests) in x ∙ sym t))

  -- the row at the key of a number
  pub row_at-listed : (n : ℕ) (rows : List R) → row_at key_of_pair (key_at n) (listed_by key_at number with rows) ≡ option_map (λ row. (key_at (number row), with row)) (row_at number n rows)
  row_at-listed n [] = refl
  row_at-listed n (x ∷ rows) =
      by_test (number x == n)
      (λ e. let f : (key_at (number x) == key_at n) ≡ true = same_at (number x) n ∙ e in rw (e, f) refl)
      (λ e. let f : (key_at (number x) == key_at n) ≡ false = same_at (number x) n ∙ e in rw (e, f) (row_at-listed n rows))

  pub value_at-listed : (n : ℕ) (rows : List R) → option_map with (row_at number n rows) ≡ value_at (key_at n) (listed_by key_at number with rows)
  value_at-listed n rows = sym (ap (option_map (λ p. p.1)) (row_at-listed n rows) ∙ mapped (row_at number n rows))
    where
      mapped : (found : Option R) → option_map (λ (p : ℕ × R). p.1) (option_map (λ (row : R). (key_at (number row), with row)) found) ≡ option_map with found
      mapped None = refl
      mapped (Some row) = refl

  -- at a key of no number there is nothing
  pub no_number : (key : ℕ) → ((n : ℕ) → key_at n ≢ key) → (rows : List R) → row_at key_of_pair key (listed_by key_at number with rows) ≡ None
  no_number key other [] = refl
  no_number key other (x ∷ rows) =
      let differ = other (number x) in
      let f : (key_at (number x) == key) ≡ false = grind (arith, nat_tests) in rw f (no_number key other rows)

  -- edits at a number
  pub with_row-listed : (y : R) (rows : List R) → listed_by key_at number with (with_row number y rows) ≡ with_row key_of_pair (key_at (number y), with y) (listed_by key_at number with rows)
  with_row-listed y [] = refl
  with_row-listed y (x ∷ rows) =
      by_test (nat_lt (number y) (number x))
      (λ e. let f : nat_lt (key_at (number y)) (key_at (number x)) ≡ true = less_at (number y) (number x) ∙ e in rw (e, f) refl)
      (λ e. let f : nat_lt (key_at (number y)) (key_at (number x)) ≡ false = less_at (number y) (number x) ∙ e in
      rw (e, f) (ap (λ rest. (key_at (number x), with x) ∷ rest) (with_row-listed y rows)))

  pub with_row_at-listed : (n : ℕ) (y : R) (rows : List R) → number y ≡ n → listed_by key_at number with (with_row_at number n y rows) ≡ with_row_at key_of_pair (key_at n) (key_at n, with y) (listed_by key_at number with rows)
  with_row_at-listed n y [] at = refl
  with_row_at-listed n y (x ∷ rows) at =
      by_test (number x == n)
      (λ e. let f : (key_at (number x) == key_at n) ≡ true = same_at (number x) n ∙ e in rw (e, f, at) refl)
      (λ e. let f : (key_at (number x) == key_at n) ≡ false = same_at (number x) n ∙ e in
      rw (e, f) (ap (λ rest. (key_at (number x), with x) ∷ rest) (with_row_at-listed n y rows at)))

  pub without_row-listed : (n : ℕ) (rows : List R) → listed_by key_at number with (without_row number n rows) ≡ without_row key_of_pair (key_at n) (listed_by key_at number with rows)
  without_row-listed n [] = refl
  without_row-listed n (x ∷ rows) =
      by_test (number x == n)
      (λ e. let f : (key_at (number x) == key_at n) ≡ true = same_at (number x) n ∙ e in rw (e, f) refl)
      (λ e. let f : (key_at (number x) == key_at n) ≡ false = same_at (number x) n ∙ e in
      rw (e, f) (ap (λ rest. (key_at (number x), with x) ∷ rest) (without_row-listed n rows)))

  -- a row is put into a group, or refused
  pub put-listed : (y : R) (before after : List R) (answer : Result (Unit {0}) Refusal) → IsPut number y before after answer → IsPutAt (key_at (number y)) (with y) (listed_by key_at number with before) (listed_by key_at number with after) (is_ok answer)
  put-listed y before after (Ok u) h =
      (row_at-listed (number y) before ∙ ap (option_map (λ row. (key_at (number row), with row))) h.0, ap (listed_by key_at number with) h.1 ∙ with_row-listed y before)
  put-listed y before after (Err why) h = (there (row_at number (number y) before) h.1 (row_at-listed (number y) before), ap (listed_by key_at number with) h.2)
    where
      there : (found : Option R) → IsSome found → row_at key_of_pair (key_at (number y)) (listed_by key_at number with before) ≡ option_map (λ row. (key_at (number row), with row)) found → IsSome (row_at key_of_pair (key_at (number y)) (listed_by key_at number with before))
      there None some e = let wrong : ⊥ = cc in absurd wrong
      there (Some row) some e = rw e refl

-- the row that is found with a number among its own lies at that number's key, and none does if none is found
pub found_listed : {R : Type 0} (key_at : ℕ → ℕ) (rising : (low high : ℕ) → low < high → key_at low < key_at high) (number : R → ℕ) (with : R → R) (n : ℕ) (row : R) (rows : List R) → Some row ≡ option_map with (row_at number n rows)
    → ◌≡◌ {A = Option (ℕ × R)} (Some (key_at n, row)) (row_at key_of_pair (key_at n) (listed_by key_at number with rows))
found_listed {R = R} key_at rising number with n row rows is = found (row_at number n rows) refl is ∙ sym (row_at-listed key_at rising number with n rows)
  where
    found : (x : Option R) → row_at number n rows ≡ x → Some row ≡ option_map with x → ◌≡◌ {A = Option (ℕ × R)} (Some (key_at n, row)) (option_map (λ row. (key_at (number row), with row)) x)
    found None there made = let wrong : ⊥ = cc in absurd wrong
    found (Some x) there made =
        let own : row ≡ with x = cc in
        ap (λ (i : ℕ). Some (key_at i, row)) (sym (key_found number n rows x there)) ∙ ap (λ (r : R). Some (key_at (number x), r)) own

pub missing_listed : {R S : Type 0} (key_at : ℕ → ℕ) (rising : (low high : ℕ) → low < high → key_at low < key_at high) (number : R → ℕ) (with : R → R) (other : R → S) (n : ℕ) (rows : List R) → None ≡ option_map other (row_at number n rows)
    → ◌≡◌ {A = Option (ℕ × R)} None (row_at key_of_pair (key_at n) (listed_by key_at number with rows))
missing_listed key_at rising number with other n rows is =
    sym (row_at-listed key_at rising number with n rows ∙ ap (option_map (λ row. (key_at (number row), with row))) (none_mapped other (row_at number n rows) is))
