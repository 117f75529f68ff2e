use Rattle.part_table.proofs.Common.{sym}
use Rattle.part_table.proofs.PlaceLemmas.{one_of_regions, place_at}
use Rattle.part_table.proofs.regions.Regions.place.Goals as goal

pub returns-clause-value : goal.returns-clause-value
returns-clause-value c = rw (c.list.ensures.value) (sym (place_at c.args.s_id c.args.self.now c.index.result _ c.index.ensures))

pub returns-clause-alone : goal.returns-clause-alone
returns-clause-alone c = one_of_regions c.args.s_id 1 c.args.self.now c.requires.from c.requires.to (rw c.list.ensures.value at c.list.ensures.regions.consecutive)
