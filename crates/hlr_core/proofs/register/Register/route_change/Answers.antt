use Rattle.hlr_core.proofs.Common.{refl}
use Rattle.hlr_core.specs.declared.event.Event.TheVariants as event
use Rattle.hlr_core.proofs.register.Register.route_change.Goals as goal

pub returns-in-UpdateSubscriber : goal.returns-in-UpdateSubscriber
returns-in-UpdateSubscriber c = rw c.in-UpdateSubscriber.is (c.route_asked.ensures (event.UpdateSubscriber c.in-UpdateSubscriber.s_id c.in-UpdateSubscriber.sf_type c.in-UpdateSubscriber.bit_1 c.in-UpdateSubscriber.data_a) refl refl c.update_subscriber.ensures)

pub returns-in-AddAccess : goal.returns-in-AddAccess
returns-in-AddAccess c = rw c.in-AddAccess.is (c.route_asked-in-AddAccess.ensures (event.AddAccess c.in-AddAccess.row) refl refl c.add_access.ensures)

pub returns-in-AddFacility : goal.returns-in-AddFacility
returns-in-AddFacility c = rw c.in-AddFacility.is (c.route_asked-in-AddFacility.ensures (event.AddFacility c.in-AddFacility.row) refl refl c.add_facility.ensures)

pub returns-in-SetActive : goal.returns-in-SetActive
returns-in-SetActive c = rw c.in-SetActive.is (c.route_asked-in-SetActive.ensures (event.SetActive c.in-SetActive.s_id c.in-SetActive.sf_type c.in-SetActive.is_active) refl refl c.set_active.ensures)
