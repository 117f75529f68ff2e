-- Digits that are kept in one number, the first one lowest.
use Rattle.std.specs.Prelude.{ℕ, zero, suc, ◌≡◌, ◌<◌, ◌+◌, ◌*◌, ◌/◌, ◌%◌, ◌^◌, List, [], ◌∷◌}
use Rattle.std.proofs.Common.{arith}
use Rattle.std.proofs.Math.Nat.{div-lt_iff_lt-mul, mod-add-div, pow-suc, pow-zero}

-- the number that digits to a base make
unfoldable pub packed : ℕ → List ℕ → ℕ
packed base [] = 0
packed base (digit ∷ digits) = digit + base * packed base digits

-- this many digits to a base of a number
unfoldable pub unpacked : ℕ → ℕ → ℕ → List ℕ
unpacked base zero n = []
unpacked base (suc size) n = n % base ∷ unpacked base size (n / base)

-- they make the number again
pub packed_back : (base size n : ℕ) → 0 < base → n < base ^ size → packed base (unpacked base size n) ≡ n
unfolding packed unpacked
packed_back base zero n some below = let none : n < 1 = rw (pow-zero base) at below in omega arith
packed_back base (suc size) n some below =
    let fewer : n < base ^ size * base = rw (pow-suc base size) at below in
    rw (packed_back base size (n / base) some ((div-lt_iff_lt-mul some).1 fewer)) (mod-add-div n base)
