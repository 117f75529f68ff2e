-- The index as a map: pairs of a number and a subscriber, by number, and what its changes answer and leave.
use Rattle.std.specs.Prelude.{◌≡◌, ℕ, List, Option, Some, None, option_map, is_some, if◌then◌else◌, Result, Ok, Err, ◌⊎◌}
use Rattle.std.specs.List.{AllByRecursion}
use Rattle.tatp_rows.specs.Number.{IsNumber}
use Rattle.tatp_rows.specs.Ordered.{IsOrderedBy, row_at, with_row, without_row}
use Rattle.tatp_rows.specs.declared.refusal.Refusal.{Refusal}
use Rattle.tatp_rows.specs.declared.refusal.Refusal.TheVariants.{Memory, NoNumber, NumberTaken}
use Rattle.mr_node.specs.Rows.{key_of_pair}

-- the pairs of an index: numbers, which rise strictly
abbrev pub ArePairs : List (ℕ × ℕ) → Type 0
ArePairs pairs = IsOrderedBy key_of_pair pairs × AllByRecursion (λ pair. IsNumber pair.0) pairs

-- the pair of a number
abbrev pub pair_of : ℕ → List (ℕ × ℕ) → Option (ℕ × ℕ)
pair_of number pairs = row_at key_of_pair number pairs

-- the subscriber who has a number
abbrev pub bearer_in : ℕ → List (ℕ × ℕ) → Option ℕ
bearer_in number pairs = option_map (λ pair. pair.1) (pair_of number pairs)

-- what an addition answers: the pair is in, or its number is taken, or memory was refused; refused, nothing changed
abbrev pub IsAdded : ℕ → ℕ → List (ℕ × ℕ) → List (ℕ × ℕ) → Result (Unit {0}) Refusal → Type 0
IsAdded number s_id old new (Ok done) = (pair_of number old ≡ None) × (new ≡ with_row key_of_pair (number, s_id) old)
IsAdded number s_id old new (Err why) =
    (new ≡ old) × (why ≡ (if is_some (pair_of number old) then NumberTaken else Memory))

-- the pairs after a subscriber's number is another one
abbrev pub renamed : ℕ → ℕ → ℕ → List (ℕ × ℕ) → List (ℕ × ℕ)
renamed from to s_id pairs = without_row key_of_pair from (with_row key_of_pair (to, s_id) pairs)

-- what a renaming to another number answers: the pair has it, or it is taken, or memory was refused
abbrev pub IsRenamedTo : ℕ → ℕ → ℕ → List (ℕ × ℕ) → List (ℕ × ℕ) → Result (Unit {0}) Refusal → Type 0
IsRenamedTo from to s_id old new (Ok done) = (pair_of to old ≡ None) × (new ≡ renamed from to s_id old)
IsRenamedTo from to s_id old new (Err why) =
    (new ≡ old) × (why ≡ (if is_some (pair_of to old) then NumberTaken else Memory))

-- what a renaming answers: nobody has the number, or it stays as it is, or it becomes another one
abbrev pub IsRenamed : ℕ → ℕ → List (ℕ × ℕ) → List (ℕ × ℕ) → Result (Unit {0}) Refusal → Option ℕ → Type 0
IsRenamed from to old new result None = (result ≡ Err NoNumber) × (new ≡ old)
IsRenamed from to old new result (Some s_id) =
    ((from ≡ to) × (result ≡ Ok tt) × (new ≡ old)) ⊎ ((from ≡ to → ⊥) × IsRenamedTo from to s_id old new result)
