-- The weights of the zones, by which bounds are proposed.
use Rattle.std.specs.Prelude.{ℕ, ◌+◌, List, map, ℤ, pos, negsuc, min}
use Rattle.std.specs.List.{range_with_len}
use Rattle.tatp_actions.specs.Cell.{cell}
use Rattle.tatp_actions.specs.declared.cells.TheConstants.{FIRST_ZONE}
use Rattle.part_table.specs.declared.bounds.TheConstants.{GREATEST_WEIGHT}
use Rattle.hlr_owners.specs.Store.{Store, published}
use Rattle.hlr_core.specs.declared.weights.TheConstants.{ZONES}

-- the weight of a zone of which so much is published: nothing below 0, and no more than all rows that there can be
abbrev pub weight : ℤ → ℕ
weight (pos n) = min n GREATEST_WEIGHT
weight (negsuc n) = 0

-- the zones
unfoldable pub all_zones : List ℕ
all_zones = range_with_len 0 ZONES

-- the weights of the zones, as published
abbrev pub published_weights : Store → List ℕ
published_weights store = map (λ zone. weight (published store (FIRST_ZONE + zone))) all_zones

-- the weights of the zones, as counted over the rows now
abbrev pub counted_weights : Store → List ℕ
counted_weights store = map (λ zone. cell store.width (FIRST_ZONE + zone) store.book) all_zones
