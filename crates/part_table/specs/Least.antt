-- The least number that passes a test.
use Rattle.std.specs.Prelude.{ℕ, zero, suc, ◌+◌, Bool, if◌then◌else◌}

-- the least of this many numbers from one on that passes a test, or the number behind them where none does
unfoldable pub least : (ℕ → Bool) → ℕ → ℕ → ℕ
least test from zero = from
least test from (suc more) = if test from then from else least test (from + 1) more
