-- The keys at which groups begin: multiples of a span.
use Rattle.group_tree.proofs.Common.{ap, ℕ, ◌+◌, ◌*◌, ◌/◌, ◌<◌, ◌≤◌, nat_lt, arith, nat_tests, by_test, div-mul-le_self, lt-div-mul-add, mul-div_cancel, mul-le-mul_right, IsBase, base_of}

module _ (span : ℕ) (positive : 0 < span) where
  -- a key lies in the span of its group
  pub base_low : (key : ℕ) → base_of span key ≤ key
  base_low key = div-mul-le_self key span

  pub base_high : (key : ℕ) → key < base_of span key + span
  base_high key = lt-div-mul-add positive

  -- the group of a key begins at a base
  pub base_base : (key : ℕ) → IsBase span (base_of span key)
  base_base key = ap (λ n. n * span) (mul-div_cancel (key / span) positive)

  -- two bases are a span apart at least
  pub base_step : (a b : ℕ) → IsBase span a → IsBase span b → a < b → a + span ≤ b
  base_step a b at_a at_b less =
      by_test (nat_lt (a / span) (b / span))
      (λ t. let more : a / span + 1 ≤ b / span = grind (arith, nat_tests) in
      let times : (a / span + 1) * span ≤ b / span * span = mul-le-mul_right span more in
      omega (arith, times, at_a, at_b))
      (λ t. let no_more : b / span ≤ a / span = grind (arith, nat_tests) in
      let times : b / span * span ≤ a / span * span = mul-le-mul_right span no_more in
      absurd (omega (arith, times, at_a, at_b, less)))
