-- What was told of the regions is what is done to them.
use Rattle.part_table.proofs.regions.Regions.dissolve.Goals as goal

pub dissolve_at-requires : goal.dissolve_at-requires
dissolve_at-requires c = (c.args.p, c.in_ok-i.told, c.in_ok-i.ensures.index, c.in_ok-i.ensures.answer)

pub returns-clause-after : goal.returns-clause-after
returns-clause-after c = c.dissolve_at.ensures c.args.p c.in_ok-i.ensures.index
