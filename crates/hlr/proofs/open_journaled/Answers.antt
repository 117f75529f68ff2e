use Rattle.std.specs.Prelude.{◌-◌, map}
use Rattle.std.specs.List.{range_with_len}
use Rattle.std.proofs.Common.{◌∙◌, ap}
use Rattle.part_table.specs.Opening.{opening_bound}
use Rattle.part_table.specs.Regions.{pieces_of}
use Rattle.part_table.proofs.BoundsLemmas.{no_pieces}
use Rattle.hlr_owners.specs.Store.{Store}
use Rattle.hlr.proofs.open_journaled.Goals as goal

-- a register that was just opened has no piece
pub open-requires-in-Ok-clause-pieces : goal.open-requires-in-Ok-clause-pieces
open-requires-in-Ok-clause-pieces g c =
    let options = c.args.options.now in
    ap (λ (s : Store). pieces_of s.regions) c.in-Ok.ensures.ok ∙ no_pieces 0 1 (map (opening_bound options.parts options.width) (range_with_len 1 (options.parts - 1)))
