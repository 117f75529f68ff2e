-- In how many steps an amount is posted: in one, and an amount of 0 in none.
use Rattle.view_board.proofs.Common.{◌≡◌, ℕ, zero, suc, ◌+◌, get_or, refl, arith, ℤ, pos, negsuc, set-get_or, View, plus_word, raises_of, posted}

-- an amount of 0 leaves what the desk knows
pub posted_none : (v : View) (slot cell : ℕ) → posted v slot cell (pos 0) ≡ v
posted_none v slot cell =
    let w : ℕ = plus_word slot cell in
    let number : get_or v.numbers w 0 + 0 ≡ get_or v.numbers w 0 = omega arith in
    let count : v.raises + 0 ≡ v.raises = omega arith in
    rw (number, count, set-get_or v.numbers w 0) refl

-- any other amount takes one step
pub raises_once : (amount : ℤ) → (amount ≡ pos 0 → ⊥) → raises_of amount ≡ 1
raises_once (pos zero) never = absurd (never refl)
raises_once (pos (suc n)) never = refl
raises_once (negsuc n) never = refl
