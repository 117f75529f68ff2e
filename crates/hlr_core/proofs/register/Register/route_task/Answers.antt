use Rattle.hlr_core.proofs.Common.{refl}
use Rattle.hlr_core.specs.declared.event.Event.TheVariants as event
use Rattle.hlr_core.proofs.register.Register.route_task.Goals as goal

pub returns-in-SubscriberData : goal.returns-in-SubscriberData
returns-in-SubscriberData c = rw c.in-SubscriberData.is (c.route_asked.ensures (event.SubscriberData c.in-SubscriberData.s_id) refl refl c.subscriber_data.ensures)

pub returns-in-NewDestination : goal.returns-in-NewDestination
returns-in-NewDestination c = rw c.in-NewDestination.is (c.route_asked-in-NewDestination.ensures (event.NewDestination c.in-NewDestination.s_id c.in-NewDestination.sf_type c.in-NewDestination.start_time c.in-NewDestination.end_time) refl refl c.new_destination.ensures)

pub returns-in-AccessData : goal.returns-in-AccessData
returns-in-AccessData c = rw c.in-AccessData.is (c.route_asked-in-AccessData.ensures (event.AccessData c.in-AccessData.s_id c.in-AccessData.ai_type) refl refl c.access_data.ensures)
