-- Keys tell rows apart, and follow the subscribers.
use Rattle.tatp_rows.proofs.Common.{◌≡◌, ℕ, ◌*◌, ◌<◌, ◌≤◌, arith, key_of}

-- equal keys have equal parts
pub key_parts : (s t u s' t' u' : ℕ) → t < 256 → u < 256 → t' < 256 → u' < 256 → key_of s t u ≡ key_of s' t' u' → (s ≡ s') × (t ≡ t') × (u ≡ u')
key_parts s t u s' t' u' kind start kind' start' same = (omega arith, omega arith, omega arith)

-- the rows of the subscribers below n are those with keys below n's
pub key_below : (n s t u : ℕ) → t < 256 → u < 256 → s < n → key_of s t u < n * 65536
key_below n s t u kind start below = omega arith

pub key_below_is : (n s t u : ℕ) → key_of s t u < n * 65536 → s < n
key_below_is n s t u below = omega arith

pub key_from : (n s t u : ℕ) → n ≤ s → n * 65536 ≤ key_of s t u
key_from n s t u from = omega arith

pub key_from_is : (n s t u : ℕ) → t < 256 → u < 256 → n * 65536 ≤ key_of s t u → n ≤ s
key_from_is n s t u kind start from = omega arith
