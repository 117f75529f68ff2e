-- The rows of a part may go to another thread.
use denote.Param.Send.{IsSend, sendable}
use Rattle.tatp_actions.proofs.Common.{tree_send, the_row}
use Rattle.group_tree.proofs.CrossingLemmas.{groups_send}
use Rattle.group_tree.specs.contracts.accesses.AccessRow.TheImpl.{ghosts as access_row}
use Rattle.group_tree.specs.contracts.accesses.AccessesGroupAccess.TheImpl.{ghosts as access_group}
use Rattle.group_tree.specs.contracts.facilities.FacilityRow.TheImpl.{ghosts as facility_row}
use Rattle.group_tree.specs.contracts.facilities.FacilitiesGroupFacility.TheImpl.{ghosts as facility_group}
use Rattle.group_tree.specs.contracts.forwardings.ForwardingRow.TheImpl.{ghosts as forwarding_row}
use Rattle.group_tree.specs.contracts.forwardings.ForwardingsGroupForwarding.TheImpl.{ghosts as forwarding_group}
use Rattle.row_groups.proofs.accesses.Accesses.TheSendSync.{the_send as accesses_send}
use Rattle.row_groups.proofs.facilities.Facilities.TheSendSync.{the_send as facilities_send}
use Rattle.row_groups.proofs.forwardings.Forwardings.TheSendSync.{the_send as forwardings_send}
use Rattle.row_groups.specs.contracts.accesses.AccessesDefault.TheImpl.{ghosts as empty_accesses}
use Rattle.row_groups.specs.contracts.facilities.FacilitiesDefault.TheImpl.{ghosts as empty_facilities}
use Rattle.row_groups.specs.contracts.forwardings.ForwardingsDefault.TheImpl.{ghosts as empty_forwardings}
use Rattle.tatp_rows.proofs.access.Access.TheSendSync.{the_send as access_send}
use Rattle.tatp_rows.proofs.facility.Facility.TheSendSync.{the_send as facility_send}
use Rattle.tatp_rows.proofs.forwarding.Forwarding.TheSendSync.{the_send as forwarding_send}
use Rattle.tatp_rows.proofs.subscriber.Subscriber.TheSendSync.{the_send as subscriber_send}
use Rattle.tatp_rows.specs.contracts.access.AccessDefault.TheImpl.{ghosts as empty_access}
use Rattle.tatp_rows.specs.contracts.facility.FacilityDefault.TheImpl.{ghosts as empty_facility}
use Rattle.tatp_rows.specs.contracts.forwarding.ForwardingDefault.TheImpl.{ghosts as empty_forwarding}

pub trees_send : IsSend the_row
trees_send =
    let subscribers = tree_send _ subscriber_send in let access = groups_send _ _ access_row empty_access access_group empty_accesses access_send accesses_send in
    let facilities = groups_send _ _ facility_row empty_facility facility_group empty_facilities facility_send facilities_send in
    let forwardings = groups_send _ _ forwarding_row empty_forwarding forwarding_group empty_forwardings forwarding_send forwardings_send in
    search sendable depth 20
