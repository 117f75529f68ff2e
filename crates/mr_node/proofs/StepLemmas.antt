-- The steps of room that is made on the way down, level by level.
use Rattle.mr_node.proofs.Common.{◌≡◌, ℕ, ◌+◌, ◌-◌, ◌*◌, ◌≤◌, arith, after_steps, IsRoomMade}

-- a level above others: two steps and what room took there, then those below
pub room_made : (h g s t u a b c d : ℕ) → h + 1 ≡ g → t ≤ s → u ≤ t → b ≡ after_steps 2 a → IsRoomMade 1 (s - t) b c → IsRoomMade h (t - u) (after_steps (2 * (h + 1)) c) d → IsRoomMade g (s - u) (after_steps (2 * (g + 1)) a) d
room_made h g s t u a b c d level less more tick here below = record {
  given = here.given + below.given;
  each = omega (arith, level, less, more, here.each, below.each);
  no_fewer = omega (arith, level, less, more, tick, here.no_fewer, below.no_fewer);
  no_more = omega (arith, level, less, more, tick, here.no_more, below.no_more);
}

-- a leaf's two steps
pub leaf_made : (h s a b : ℕ) → h ≡ 0 → b ≡ after_steps 2 a → IsRoomMade h (s - s) (after_steps (2 * (h + 1)) a) b
leaf_made h s a b level tick = record { given = 0; each = omega arith; no_fewer = omega (arith, level, tick); no_more = omega (arith, level, tick) }

-- the bounds of all steps
pub made_fewest : (h u a b : ℕ) → IsRoomMade h u (after_steps (2 * (h + 1)) a) b → after_steps (2 * (h + 1) + 3 * u) a ≤ b
made_fewest h u a b made = omega (arith, made.no_fewer)

pub made_most : (h u a b : ℕ) → IsRoomMade h u (after_steps (2 * (h + 1)) a) b → b ≤ a + (2 * (h + 1) + 3 * u + 4 * (h - u))
made_most h u a b made = omega (arith, made.each, made.no_more)
