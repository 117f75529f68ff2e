-- A row whose value is changed where it lies.
use Rattle.std.specs.Prelude.{ℕ, List, option_map}
use Rattle.std.specs.Option.{unwrap_or}
use Rattle.tatp_rows.specs.Ordered.{with_row_at}
use Rattle.mr_node.specs.Rows.{key_of_pair, value_at}

-- the rows with the value at a key changed
abbrev pub revised_at : {V : Type 0} → ℕ → (V → V) → List (ℕ × V) → List (ℕ × V)
revised_at key change rows = unwrap_or (option_map (λ v. with_row_at key_of_pair key (key, change v) rows) (value_at key rows)) rows

-- what changes it, after that: as it was where the key isn't there
abbrev pub spent_at : {V E : Type 0} → ℕ → (E → V → E) → E → List (ℕ × V) → E
spent_at key spent revision rows = unwrap_or (option_map (spent revision) (value_at key rows)) revision
