-- The least number that passes a test, one number after another.
use Rattle.part_table.proofs.Common.{◌≡◌, refl, ℕ, zero, suc, ◌+◌, ◌<◌, ◌≤◌, ◌⊎◌, inl, inr, Bool, true, false, arith, cases_lt, by_test}
use Rattle.part_table.specs.Least.{least}

-- the first number passes
pub least_here : (test : ℕ → Bool) (from more : ℕ) → 0 < more → test from ≡ true → least test from more ≡ from
unfolding least
least_here test from zero some passes = absurd (omega arith)
least_here test from (suc more) some passes = rw passes refl

-- the first number fails
pub least_more : (test : ℕ → Bool) (from more rest : ℕ) → rest + 1 ≡ more → test from ≡ false → least test from more ≡ least test (from + 1) rest
unfolding least
least_more test from zero rest one_less fails = absurd (omega arith)
least_more test from (suc more) rest one_less fails = let same : more ≡ rest = omega arith in rw (fails, same) refl

-- no number is left
pub least_none : (test : ℕ → Bool) (from : ℕ) → least test from 0 ≡ from
unfolding least
least_none test from = refl

-- it is one of the numbers and passes, unless none does
pub least_passes : (test : ℕ → Bool) (from more : ℕ)
    → ((test (least test from more) ≡ true) × (from ≤ least test from more) × (least test from more < from + more)) ⊎ ((k : ℕ) → from ≤ k → k < from + more → test k ≡ false)
unfolding least
least_passes test from zero = inr (λ k low high. absurd (omega arith))
least_passes test from (suc more) =
    by_test (test from)
    (λ e. inl (rw e (e, omega arith, omega arith)))
    (λ e. rw e (elim (least_passes test (from + 1) more) [
      | inl is ↦ let low = is.1 in let high = is.2 in inl (is.0, omega arith, omega arith)
      | inr none ↦ inr (λ k low high. elim (cases_lt from k) [
        | inl above ↦ none k (omega arith) (omega arith)
        | inr at ↦ let same : k ≡ from = omega arith in rw same e
      ])
    ]))
