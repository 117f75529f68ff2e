-- Pairs of numbers and subscribers that are put in one after another, in any order.
use Rattle.std.specs.Prelude.{◌≡◌, ℕ, ◌+◌, ◌≤◌, ◌==◌, List, [], sum_by, if◌then◌else◌}
use Rattle.tatp_rows.specs.Rows.{SubscriberRow}
use Rattle.number_index.specs.Pairs.{ArePairs}
use Rattle.hlr_owners.specs.Scattered.{holdings_in, pieces_in}
use Rattle.hlr_owners.specs.declared.scattered.Scattered.{Scattered}
use Rattle.hlr_core.specs.Gather.{rows_of_all}
use Rattle.hlr_core.specs.Index.{number_pair}

-- the pairs are those that were there and those of some rows: each sum over them adds up
abbrev pub AreNoted : List SubscriberRow → List (ℕ × ℕ) → List (ℕ × ℕ) → Type 0
AreNoted rows before after = (f : ℕ × ℕ → ℕ) → sum_by f after ≡ sum_by f before + sum_by (λ row. f (number_pair row)) rows

-- 1 where the pair has the number, else 0
abbrev pub bears : ℕ → ℕ × ℕ → ℕ
bears n pair = if pair.0 == n then 1 else 0

-- a number comes twice in some pairs and rows
abbrev pub HasTwin : List SubscriberRow → List (ℕ × ℕ) → Type 0
HasTwin rows pairs = (n : ℕ) × (2 ≤ sum_by (bears n) pairs + sum_by (λ row. bears n (number_pair row)) rows)

-- the pairs of the numbers of all rows that are brought home
pub record IsIndexed (apart : Scattered) (pairs : List (ℕ × ℕ)) : Type 0 where
  pub ordered : ArePairs pairs
  pub noted : AreNoted (rows_of_all (holdings_in apart) (pieces_in apart)) [] pairs
