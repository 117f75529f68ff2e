-- What a meter shows.
use Rattle.std.specs.Prelude.{ℕ, ◌+◌, ◌-◌, ◌*◌, ◌^◌, ◌≤◌, min}

-- the count of steps after this many more: it stops at the greatest number of 64 bits
abbrev pub after_steps : ℕ → ℕ → ℕ
after_steps steps before = min (before + steps) (2 ^ 64 - 1)

-- room made on this many levels: a full child is halved, which takes three steps and a blank node, or gives to its
-- neighbour in four
pub record IsRoomMade (levels used before after : ℕ) : Type 0 where
  pub given : ℕ
  pub each : used + given ≤ levels
  pub no_fewer : after_steps (3 * used + 4 * given) before ≤ after
  pub no_more : after ≤ before + (3 * used + 4 * given)
