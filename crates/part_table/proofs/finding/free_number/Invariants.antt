use Rattle.part_table.proofs.Common.{◌≡◌, ℕ, ◌-◌, ◌==◌, ◌<◌, ◌≤◌, true, not, list_any, least, free_number, pieces_of}
use Rattle.part_table.proofs.finding.free_number.Given as goal

abbrev pub invariant-loop-n : goal.invariant-loop-n
invariant-loop-n l = record {
  least_free : free_number (pieces_of l.regions) ≡ least (λ n. not (list_any (λ m. m == n) (pieces_of l.regions))) l.n (17 - l.n);
  used : (n : ℕ) → 1 ≤ n → n < l.n → list_any (λ m. m == n) (pieces_of l.regions) ≡ true;
}
