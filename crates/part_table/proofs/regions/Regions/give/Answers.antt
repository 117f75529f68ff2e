-- What was told of the regions is what is done to them.
use Rattle.part_table.proofs.regions.Regions.give.Goals as goal

pub give_at-requires : goal.give_at-requires
give_at-requires c = (c.args.p, c.in_ok-i.ensures.index, c.in_ok-i.ensures.answer)

pub returns-clause-after : goal.returns-clause-after
returns-clause-after c = c.give_at.ensures c.args.p c.in_ok-i.ensures.index
