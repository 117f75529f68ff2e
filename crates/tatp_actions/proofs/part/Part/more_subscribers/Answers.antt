use Rattle.tatp_actions.proofs.KeyedLemmas.{more_subscribers_added, more_subscribers_holds, more_subscribers_refused}
use Rattle.tatp_actions.proofs.part.Part.more_subscribers.Goals as goal

pub returns-in-Err-clause-added : goal.returns-in-Err-clause-added
returns-in-Err-clause-added g c =
    let table = c.in-Err.ensures.table in
    rw (← c.self.view_is) (more_subscribers_refused _ _ _ _ _ _ _ _ c.args.row _ c.key.ensures.key c.self.invariant table.1 c.in-Err.ensures.others table.2)

pub invariant_of-self-2 : goal.invariant_of-self-2
invariant_of-self-2 g c = more_subscribers_holds _ _ _ _ _ _ _ _ _ c.args.row c.key.ensures.key c.self.invariant c.in_default.ensures.table c.in_default.ensures.others (rw (← c.self.view_is) at c.requires) c.key.ensures.in_range

pub returns-clause-added : goal.returns-clause-added
returns-clause-added g c = rw (← c.self.view_is) (more_subscribers_added _ _ _ 0 _ _ _ _ _ c.args.row c.key.ensures.key c.self.invariant c.in_default.ensures.table c.in_default.ensures.others)
