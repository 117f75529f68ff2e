use Rattle.hlr_core.proofs.Common.{refl}
use Rattle.hlr_core.specs.declared.event.Event.TheVariants as event
use Rattle.hlr_core.proofs.register.Register.route_by_number.Goals as goal

pub returns-in-UpdateLocation : goal.returns-in-UpdateLocation
returns-in-UpdateLocation c = rw c.in-UpdateLocation.is (c.route_asked.ensures (event.UpdateLocation c.in-UpdateLocation.sub_nbr c.in-UpdateLocation.vlr_location) refl refl (rw (← c.bearer.ensures.value) c.update_location.ensures))

pub returns-in-InsertForwarding : goal.returns-in-InsertForwarding
returns-in-InsertForwarding c = rw c.in-InsertForwarding.is (c.route_asked-in-InsertForwarding.ensures (event.InsertForwarding c.in-InsertForwarding.sub_nbr c.in-InsertForwarding.sf_type c.in-InsertForwarding.start_time c.in-InsertForwarding.end_time c.in-InsertForwarding.numberx) refl refl (rw (← c.bearer-s_id.ensures.value) c.insert_forwarding.ensures))

pub returns-in-DeleteForwarding : goal.returns-in-DeleteForwarding
returns-in-DeleteForwarding c = rw c.in-DeleteForwarding.is (c.route_asked-in-DeleteForwarding.ensures (event.DeleteForwarding c.in-DeleteForwarding.sub_nbr c.in-DeleteForwarding.sf_type c.in-DeleteForwarding.start_time) refl refl (rw (← c.bearer-s_id-in-DeleteForwarding.ensures.value) c.delete_forwarding.ensures))
