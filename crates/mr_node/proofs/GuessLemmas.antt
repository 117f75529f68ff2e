-- Where a key is in a dense tree.
use Rattle.mr_node.proofs.Common.{◌≡◌, ℕ, ◌+◌, ◌-◌, ◌*◌, ◌/◌, ◌%◌, ◌^◌, ◌<◌, ap, ◌∙◌, arith, shl-shr}

-- the distance to the least key, in rows
pub rows_counted : (key least shift n : ℕ) → key < 2 ^ 64 → shift < 64 → key ≡ least + n * 2 ^ shift → (key + (2 ^ 64 - least)) % 2 ^ 64 / 2 ^ (shift % 64) ≡ n
rows_counted key least shift n small few e =
    let apart : (key + (2 ^ 64 - least)) % 2 ^ 64 ≡ n * 2 ^ shift = omega (arith, small, e) in
    let same : shift % 64 ≡ shift = omega (arith, few) in
    ap (λ m. m / 2 ^ (shift % 64)) apart ∙ ap (λ k. n * 2 ^ shift / 2 ^ k) same ∙ shl-shr n shift
