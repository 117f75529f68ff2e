-- The regions at opening: parts and no loose piece, with the zones shared out among them.
use Rattle.std.specs.Prelude.{ℕ, ◌+◌, ◌-◌, ◌*◌, ◌/◌, ◌&&◌, Bool, List, map, if◌then◌else◌, Result, Ok, Err}
use Rattle.std.specs.List.{range_with_len}
use Rattle.tatp_rows.specs.Rows.{is_between}
use Rattle.tatp_rows.specs.declared.ranges.TheConstants.{GREATEST_WIDTH}
use Rattle.tatp_rows.specs.declared.refusal.Refusal.{Refusal}
use Rattle.tatp_rows.specs.declared.refusal.Refusal.TheVariants.{Field}
use Rattle.part_table.specs.Bounds.{parts_between}
use Rattle.part_table.specs.declared.region.Region.{Region}
use Rattle.part_table.specs.declared.region.TheConstants.{MOST_PARTS}

-- the bound in front of a part at opening, where the 32 zones are shared out evenly
abbrev pub opening_bound : ℕ → ℕ → ℕ → ℕ
opening_bound parts width i = 1 + (i * 32 / parts) * width

-- the number of parts and the width of a zone are in range
abbrev pub can_open : ℕ → ℕ → Bool
can_open parts width = is_between 1 MOST_PARTS parts && is_between 1 GREATEST_WIDTH width

-- the regions at opening, where they are
abbrev pub opening : ℕ → ℕ → Result (List Region) Refusal
opening parts width =
    if can_open parts width
    then Ok (parts_between 0 1 (map (opening_bound parts width) (range_with_len 1 (parts - 1))))
    else Err Field
