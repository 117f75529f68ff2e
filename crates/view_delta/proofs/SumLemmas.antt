-- Deltas that are moved one cell after another.
use Rattle.view_delta.proofs.Common.{◌≡◌, ℕ, ◌+◌, ◌<◌, ◌≤◌, List, length, get_or, set, ◌∙◌, arith, ◌==◌, nat_tests, ℤ, pos, ◌+ℤ◌, blank_at, by_test, replicate, length-set, length-replicate, get_or-set_same, get_or-set_other, CELLS, delta_at}

-- the deltas of the first n cells are moved, each by its amount, and the others are as they were
pub record AreMovedTo (amount : ℕ → ℤ) (start deltas : List ℤ) (n : ℕ) : Type 0 where
  pub wide : length deltas ≡ CELLS
  pub moved : (c : ℕ) → c < n → delta_at deltas c ≡ delta_at start c +ℤ amount c
  pub ahead : (c : ℕ) → n ≤ c → delta_at deltas c ≡ delta_at start c

module _ (amount : ℕ → ℤ) (start : List ℤ) where
  -- one more cell
  pub one_moved : (deltas : List ℤ) (n at : ℕ) (value : ℤ) → n < CELLS → at ≡ n → value ≡ delta_at start n +ℤ amount n → AreMovedTo amount start deltas n
      → AreMovedTo amount start (set deltas at value) (n + 1)
  one_moved deltas n at value below here sum so_far = rw here (record {
    wide = length-set deltas n value ∙ so_far.wide;
    moved = λ c within. by_order c within;
    ahead = λ c from. get_or-set_other deltas n c value (pos 0) (λ e. absurd (omega arith)) ∙ so_far.ahead c (omega arith);
  })
    where
      by_order : (c : ℕ) → c < n + 1 → delta_at (set deltas n value) c ≡ delta_at start c +ℤ amount c
      by_order c within = by_test (c == n)
          (λ same. let here : c ≡ n = grind (arith, nat_tests) in rw here (get_or-set_same deltas n value (pos 0) (omega (arith, so_far.wide)) ∙ sum))
          (λ other. let apart : c ≡ n → ⊥ = grind (arith, nat_tests) in get_or-set_other deltas n c value (pos 0) apart ∙ so_far.moved c (grind (arith, nat_tests)))

-- zeros with a one among them
pub one_at_most : (n i c : ℕ) → i < n → get_or (set (replicate {A = ℕ} n 0) i 1) c 0 ≤ 1
one_at_most n i c below = by_test (c == i)
    (λ same. let here : c ≡ i = grind (arith, nat_tests) in rw (here, get_or-set_same (replicate {A = ℕ} n 0) i 1 0 (rw length-replicate below)) (omega arith))
    (λ other. let apart : c ≡ i → ⊥ = grind (arith, nat_tests) in rw (get_or-set_other (replicate {A = ℕ} n 0) i c 1 0 apart, blank_at {A = ℕ} n c 0) (omega arith))
