-- Each s_id lies in one of the regions.
use Rattle.part_table.proofs.Common.{◌∙◌, sym}
use Rattle.part_table.proofs.PlaceLemmas.{first_behind, some_index}
use Rattle.part_table.proofs.regions.Regions.index.Goals as goal

pub unreachable-requires : goal.unreachable-requires
unreachable-requires c = some_index c.args.s_id c.list.result.now c.requires.from c.requires.to c.list.ensures.regions.consecutive (first_behind c.args.s_id 1 c.list.result.now c.list.ensures.regions.consecutive c.requires.from ∙ sym c.in-None.ensures)

pub returns : goal.returns
returns c = rw (← c.list.ensures.value) (first_behind c.args.s_id 1 c.list.result.now c.list.ensures.regions.consecutive c.requires.from ∙ sym c.end_behind.ensures ∙ c.in-Some.is)
