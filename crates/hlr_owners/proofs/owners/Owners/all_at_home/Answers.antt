use Rattle.hlr_owners.proofs.HomeLemmas.{all_home_is}
use Rattle.hlr_owners.proofs.owners.Owners.all_at_home.Goals as goal

pub returns : goal.returns
returns c = rw (← c.self.view_is, c.are_home.ensures, c.deref.ensures.value) (all_home_is c.self.inside.owners.items)
