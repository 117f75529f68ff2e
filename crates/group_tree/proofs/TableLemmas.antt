-- A table of groups: its rows with their keys. A row's number is its type or its start time, which tells it from the
-- other rows of its group, and keys rise with numbers.
use Rattle.group_tree.proofs.Common.{◌≡◌, ◌≢◌, ◌∙◌, sym, ap, subst, ℕ, ◌<◌, List, Option, None, option_map, AllByRecursion, row_at, with_row_at, without_row, each-with_row, each-with_row_at, each-without_row, ordered-with_row, ordered-with_row_at, ordered-without_row, IsOrderedBy, key_of_pair, value_at, base_of, IsPut, IsPutAt, IsReplacedAt, Result, Ok, Err, Refusal, is_ok, listed_by}
use Rattle.group_tree.proofs.NumberedLemmas.{no_number, put-listed, value_at-listed, with_row_at-listed, without_row-listed}

-- a table: its span, a row's number in its group, a row's key, the key of a number in the group at a base, the row
-- with the fields of that base, and the row without them
pub record Table (R : Type 0) : Type 0 where
  pub span : ℕ
  pub number : R → ℕ
  pub key : R → ℕ
  pub key_at : ℕ → ℕ → ℕ
  pub with : ℕ → R → R
  pub bare : R → R

module _ {R : Type 0} (table : Table R) where
  -- the rows of a group that lies at a key
  abbrev pub table_rows : ℕ → List R → List (ℕ × R)
  table_rows base rows = listed_by (table.key_at base) table.number (table.with base) rows

  -- keys rise with numbers, in each group
  abbrev pub IsRising : Type 0
  IsRising = (base low high : ℕ) → low < high → table.key_at base low < table.key_at base high

  -- the key of a row is that of its number in its group, and the row is made again from what the group keeps
  pub record IsAtHome (row : R) : Type 0 where
    pub at : table.key_at (base_of table.span (table.key row)) (table.number row) ≡ table.key row
    pub number_is : table.number (table.bare row) ≡ table.number row
    pub back : table.with (base_of table.span (table.key row)) (table.bare row) ≡ row

  module _ (rising : IsRising) where
    -- what is found at the key of a number, what is left without it, and that there is nothing at a key of no number
    pub found_at : (base key n : ℕ) (rows : List R) → table.key_at base n ≡ key → option_map (table.with base) (row_at table.number n rows) ≡ value_at key (table_rows base rows)
    found_at base key n rows at = value_at-listed (table.key_at base) (rising base) table.number (table.with base) n rows ∙ ap (λ (k : ℕ). value_at k (table_rows base rows)) at

    pub left_at : (base key n : ℕ) (rows : List R) → table.key_at base n ≡ key → table_rows base (without_row table.number n rows) ≡ without_row key_of_pair key (table_rows base rows)
    left_at base key n rows at = without_row-listed (table.key_at base) (rising base) table.number (table.with base) n rows ∙ ap (λ (k : ℕ). without_row key_of_pair k (table_rows base rows)) at

    pub missing_at : (base key : ℕ) (rows : List R) → ((n : ℕ) → table.key_at base n ≢ key) → row_at key_of_pair key (table_rows base rows) ≡ None
    missing_at base key rows other = no_number (table.key_at base) (rising base) table.number (table.with base) key other rows

    module _ (row : R) (home : IsAtHome row) where
      -- a row that is added to its group, or replaces the one with its number
      pub put_at : (before after : List R) (answer : Result (Unit {0}) Refusal) → IsPut table.number (table.bare row) before after answer
          → IsPutAt (table.key row) row (table_rows (base_of table.span (table.key row)) before) (table_rows (base_of table.span (table.key row)) after) (is_ok answer)
      put_at before after answer h =
          let base = base_of table.span (table.key row) in
          subst (λ (k : ℕ). IsPutAt k row (table_rows base before) (table_rows base after) (is_ok answer)) (ap (table.key_at base) home.number_is ∙ home.at)
          (subst (λ r. IsPutAt (table.key_at base (table.number (table.bare row))) r (table_rows base before) (table_rows base after) (is_ok answer)) home.back
          (put-listed (table.key_at base) (rising base) table.number (table.with base) (table.bare row) before after answer h))

      pub replaced_at : (before after : List R) (old : Option R) → old ≡ option_map (table.with (base_of table.span (table.key row))) (row_at table.number (table.number row) before) → after ≡ with_row_at table.number (table.number row) (table.bare row) before
          → IsReplacedAt (table.key row) row (table_rows (base_of table.span (table.key row)) before) (table_rows (base_of table.span (table.key row)) after) old
      replaced_at before after old value rows =
          let base = base_of table.span (table.key row) in
          record {
            value = value ∙ found_at base (table.key row) (table.number row) before home.at;
            rows =
                ap (table_rows base) rows
                ∙ with_row_at-listed (table.key_at base) (rising base) table.number (table.with base) (table.number row) (table.bare row) before home.number_is
                ∙ ap (λ r. with_row_at key_of_pair (table.key_at base (table.number row)) (table.key_at base (table.number row), r) (table_rows base before)) home.back
                ∙ ap (λ (k : ℕ). with_row_at key_of_pair k (k, row) (table_rows base before)) home.at;
          }

-- the rows of a group stay in order, and each as it has to be
module _ {R : Type 0} (number : R → ℕ) (Keeps : R → Type 0) where
  -- rows in order, each of which keeps a rule
  abbrev pub AreKept : List R → Type 0
  AreKept rows = IsOrderedBy number rows × AllByRecursion Keeps rows

  pub kept_without : (n : ℕ) (rows : List R) → AreKept rows → AreKept (without_row number n rows)
  kept_without n rows are = (ordered-without_row number n rows are.0, each-without_row number Keeps n rows are.1)

  pub kept_put : (row : R) (before after : List R) (answer : Result (Unit {0}) Refusal) → Keeps row → AreKept before → IsPut number row before after answer → AreKept after
  kept_put row before after (Ok u) keeps are h = subst AreKept (sym h.1) (ordered-with_row number row before h.0 are.0, each-with_row number Keeps row before keeps are.1)
  kept_put row before after (Err why) keeps are h = subst AreKept (sym h.2) are

  pub kept_replaced : (row : R) (n : ℕ) (before after : List R) → number row ≡ n → Keeps row → AreKept before → after ≡ with_row_at number n row before → AreKept after
  kept_replaced row n before after at keeps are h = subst AreKept (sym h) (ordered-with_row_at number n row before at are.0, each-with_row_at number Keeps n row before keeps are.1)
