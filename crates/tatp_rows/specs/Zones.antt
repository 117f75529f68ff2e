-- The two divisions by which rows are counted.
use Rattle.std.specs.Prelude.{ℕ, ◌-◌, ◌/◌, min}

-- the zone of a subscriber: zones are `width` subscribers wide, and the last has all that are left
abbrev pub zone_of : ℕ → ℕ → ℕ
zone_of width s_id = min 31 ((s_id - 1) / width)

-- the area of a location: a sixteenth of all locations
abbrev pub area_of : ℕ → ℕ
area_of vlr_location = vlr_location / 268435456
