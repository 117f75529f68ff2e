use Rattle.row_groups.proofs.Common.{between_is, facility_ranges, facility_row_back}
use Rattle.row_groups.proofs.facilities.FacilityData.of.Goals as goal

pub returns-clause-back : goal.returns-clause-back
returns-clause-back c =
    let few = (between_is 0 1 c.args.row.now.is_active (facility_ranges c.args.row.now c.s_id-s_id.ensures.in_range).is_active_between).1 in
    rw (c.is_active.ensures, c.error_cntrl.ensures, c.data_a.ensures, c.data_b.ensures) (facility_row_back c.args.row.now few)
