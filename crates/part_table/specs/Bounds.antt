-- Bounds between parts, and the regions without a loose piece that they make.
use Rattle.std.specs.Prelude.{ℕ, ◌+◌, ◌&&◌, nat_le, nat_lt, Bool, true, List, [], ◌∷◌}
use Rattle.tatp_rows.specs.declared.ranges.TheConstants.{LAST_SUBSCRIBER}
use Rattle.part_table.specs.declared.region.Place.TheVariants.{Part}
use Rattle.part_table.specs.declared.region.Region.{Region}
use Rattle.part_table.specs.declared.region.TheConstants.{END}

-- the bounds rise strictly, from above a number up to the last s_id
abbrev pub are_rising : ℕ → List ℕ → Bool
are_rising low [] = true
are_rising low (bound ∷ bounds) = nat_lt low bound && (nat_le bound LAST_SUBSCRIBER && are_rising bound bounds)

-- the regions of parts, numbered from one number on, that begin at another and have these bounds between them
abbrev pub parts_between : ℕ → ℕ → List ℕ → List Region
parts_between p lo [] = record { lo = lo; hi = END; place = Part p } ∷ []
parts_between p lo (bound ∷ bounds) = record { lo = lo; hi = bound; place = Part p } ∷ parts_between (p + 1) bound bounds
