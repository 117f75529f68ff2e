-- What was told of the regions is what is done to them.
use Rattle.part_table.proofs.regions.Regions.divide.Goals as goal

pub divide_at-requires : goal.divide_at-requires
divide_at-requires c = (c.args.p, c.in_ok-i.told, c.in_ok-i.ensures.index, c.in_ok-i.ensures.answer)

pub returns-clause-after : goal.returns-clause-after
returns-clause-after c = c.divide_at.ensures c.args.p c.in_ok-i.ensures.index
