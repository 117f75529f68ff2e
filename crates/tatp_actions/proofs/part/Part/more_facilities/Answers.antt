use Rattle.tatp_actions.proofs.Common.{refl}
use Rattle.tatp_actions.proofs.KeyedLemmas.{more_facilities_added, more_facilities_holds, more_facilities_refused}
use Rattle.tatp_actions.proofs.part.Part.more_facilities.Goals as goal

pub returns-in-Err-clause-added : goal.returns-in-Err-clause-added
returns-in-Err-clause-added g c =
    let table = c.in-Err.ensures.table in
    rw (← c.self.view_is) (more_facilities_refused _ _ _ _ _ _ _ _ c.args.row _ refl c.self.invariant table.1 c.in-Err.ensures.others table.2)

pub invariant_of-self-2 : goal.invariant_of-self-2
invariant_of-self-2 g c = more_facilities_holds _ _ _ _ _ _ _ _ _ c.args.row refl c.self.invariant c.in_default.ensures.table c.in_default.ensures.others (rw (← c.self.view_is) at c.requires) c.s_id-s_id.ensures.in_range

pub returns-clause-added : goal.returns-clause-added
returns-clause-added g c = rw (← c.self.view_is) (more_facilities_added _ _ _ 0 _ _ _ _ _ c.args.row refl c.self.invariant c.in_default.ensures.table c.in_default.ensures.others)
