-- How high the trees of a part are.
use Rattle.std.specs.Prelude.{ℕ}

-- the heights of the trees of the four tables
pub record Heights : Type 0 where
  pub subscribers : ℕ
  pub access : ℕ
  pub facilities : ℕ
  pub forwardings : ℕ

-- the heights of four empty trees
abbrev pub zero_heights : Heights
zero_heights = record { subscribers = 0; access = 0; facilities = 0; forwardings = 0 }
