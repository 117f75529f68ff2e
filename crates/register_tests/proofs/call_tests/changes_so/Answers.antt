use Rattle.hlr_core.proofs.HomeLemmas.{home_to_all}
use Rattle.register_tests.proofs.call_tests.changes_so.Goals as goal

pub update_subscriber-done-requires : goal.update_subscriber-done-requires
update_subscriber-done-requires c =
    rw c.in-UpdateSubscriber.is at (home_to_all c.args.event.now c.args.register.now (c.all_at_home.ensures.0 c.if-not-all_at_home.false))

pub update_location-done-requires : goal.update_location-done-requires
update_location-done-requires c =
    rw c.in-UpdateLocation.is at (home_to_all c.args.event.now c.args.register.now (c.all_at_home.ensures.0 c.if-not-all_at_home.false))

pub insert_forwarding-done-requires : goal.insert_forwarding-done-requires
insert_forwarding-done-requires c =
    rw c.in-InsertForwarding.is at (home_to_all c.args.event.now c.args.register.now (c.all_at_home.ensures.0 c.if-not-all_at_home.false))

pub delete_forwarding-done-requires : goal.delete_forwarding-done-requires
delete_forwarding-done-requires c =
    rw c.in-DeleteForwarding.is at (home_to_all c.args.event.now c.args.register.now (c.all_at_home.ensures.0 c.if-not-all_at_home.false))

pub add_subscriber-done-requires : goal.add_subscriber-done-requires
add_subscriber-done-requires c =
    rw c.in-AddSubscriber.is at (home_to_all c.args.event.now c.args.register.now (c.all_at_home.ensures.0 c.if-not-all_at_home.false))

pub add_access-done-requires : goal.add_access-done-requires
add_access-done-requires c =
    rw c.in-AddAccess.is at (home_to_all c.args.event.now c.args.register.now (c.all_at_home.ensures.0 c.if-not-all_at_home.false))

pub add_facility-done-requires : goal.add_facility-done-requires
add_facility-done-requires c =
    rw c.in-AddFacility.is at (home_to_all c.args.event.now c.args.register.now (c.all_at_home.ensures.0 c.if-not-all_at_home.false))

pub set_active-done-requires : goal.set_active-done-requires
set_active-done-requires c =
    rw c.in-SetActive.is at (home_to_all c.args.event.now c.args.register.now (c.all_at_home.ensures.0 c.if-not-all_at_home.false))

pub set_number-done-requires : goal.set_number-done-requires
set_number-done-requires c =
    rw c.in-SetNumber.is at (home_to_all c.args.event.now c.args.register.now (c.all_at_home.ensures.0 c.if-not-all_at_home.false))
