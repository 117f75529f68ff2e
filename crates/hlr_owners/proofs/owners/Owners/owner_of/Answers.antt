use Rattle.hlr_owners.proofs.RegionOwnerLemmas.{owner_there}
use Rattle.hlr_owners.proofs.owners.Owners.owner_of.Goals as goal

pub returns-clause-there : goal.returns-clause-there
returns-clause-there c = rw (← c.self.view_is) (owner_there _ c.self.invariant.0 c.args.s_id _ c.index.ensures)
