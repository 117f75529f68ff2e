use Rattle.hlr.proofs.Common.{◌≡◌, ◌<◌, ◌+◌, ◌*◌, ℕ, length, get_or}
use Rattle.hlr.proofs.fields.pair_digits.Given as goal

abbrev pub invariant-loop-i : goal.invariant-loop-i
invariant-loop-i l = record {
  size : length l.bytes ≡ 10;
  bytes : (k : ℕ) → k < l.i → get_or l.bytes k 0 ≡ 16 * get_or l.digits (2 * k) 0 + get_or l.digits (2 * k + 1) 0;
}
