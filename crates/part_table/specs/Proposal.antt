-- Bounds proposed from the weights of the zones, so that each part has about the same share.
use Rattle.std.specs.Prelude.{ℕ, zero, suc, ◌+◌, ◌-◌, ◌*◌, nat_le, Bool, min, max, List, take, map, sum}
use Rattle.std.specs.List.{range_with_len}
use Rattle.part_table.specs.Least.{least}

-- the weight of all zones below one
abbrev pub weight_below : List ℕ → ℕ → ℕ
weight_below weights zone = sum (take zone weights)

-- at least this many of the parts' equal shares of all weight lie below a zone
abbrev pub has_shares : List ℕ → ℕ → ℕ → ℕ → Bool
has_shares weights parts shares zone = nat_le (shares * sum weights) (parts * weight_below weights zone)

-- the least zone of 0..=32 of which that is so
abbrev pub share_zone : List ℕ → ℕ → ℕ → ℕ
share_zone weights parts shares = least (has_shares weights parts shares) 0 32

-- the zone in front of which a bound falls: no zone twice, and one zone at least for each part behind it
abbrev pub bound_zone : List ℕ → ℕ → ℕ → ℕ
bound_zone weights parts zero = 0
bound_zone weights parts (suc i) = min (32 - parts + suc i) (max (bound_zone weights parts i + 1) (share_zone weights parts (suc i)))

-- the first s_id of that zone
abbrev pub proposed_bound : List ℕ → ℕ → ℕ → ℕ → ℕ
proposed_bound weights parts width i = 1 + bound_zone weights parts i * width

-- the proposed bounds
abbrev pub proposal : List ℕ → ℕ → ℕ → List ℕ
proposal weights parts width = map (proposed_bound weights parts width) (range_with_len 1 (parts - 1))
