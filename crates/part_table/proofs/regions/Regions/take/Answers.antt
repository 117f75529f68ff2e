-- What was told of the regions is what is done to them.
use Rattle.part_table.proofs.regions.Regions.take.Goals as goal

pub take_at-requires : goal.take_at-requires
take_at-requires c = (c.args.n, c.args.q, c.in_ok-i.ensures.index, c.in_ok-i.ensures.answer)

pub returns-clause-after : goal.returns-clause-after
returns-clause-after c = c.take_at.ensures c.args.n c.args.q c.in_ok-i.ensures.index c.in_ok-i.ensures.answer
