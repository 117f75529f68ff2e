use Rattle.hlr_core.proofs.task.Task.carry_out.Goals as goal

pub read_subscriber-requires : goal.read_subscriber-requires
read_subscriber-requires c = rw c.in-SubscriberData.is at c.requires.within

pub read_destinations-requires : goal.read_destinations-requires
read_destinations-requires c = rw c.in-NewDestination.is at c.requires.within

pub read_access-requires : goal.read_access-requires
read_access-requires c = rw c.in-AccessData.is at c.requires.within
