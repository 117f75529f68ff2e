-- A facility that is changed where it lies in its group; no public clause cites these.
use Rattle.std.specs.Prelude.{ℕ, ◌==◌, ◌&&◌, List, Option, None, Some, option_map, if◌then◌else◌}
use Rattle.tatp_rows.specs.Ordered.{row_at, with_row_at}
use Rattle.tatp_rows.specs.Rows.{SpecialFacilityRow, is_between}
use Rattle.tatp_rows.specs.declared.ranges.TheConstants.{LAST_SUBSCRIBER}
use Rattle.row_groups.specs.Groups.{facility_type, facility_with}
use Rattle.group_tree.specs.Tables.{s_id_in, start_time_in, type_in}

-- the facility at a key in the group of its subscriber
abbrev pub facility_in : ℕ → List SpecialFacilityRow → Option SpecialFacilityRow
facility_in key group =
    if start_time_in key == 0 && is_between 1 LAST_SUBSCRIBER (s_id_in key) then option_map (facility_with (s_id_in key)) (row_at facility_type (type_in key) group) else None

-- a group whose facility that was found is changed
abbrev pub group_changed : (SpecialFacilityRow → SpecialFacilityRow) → Option SpecialFacilityRow → List SpecialFacilityRow → List SpecialFacilityRow
group_changed change None group = group
group_changed change (Some row) group = with_row_at facility_type (change row).sf_type (facility_with 0 (change row)) group

-- what changes it, after that
abbrev pub change_spent : {E : Type 0} → (E → SpecialFacilityRow → E) → E → Option SpecialFacilityRow → E
change_spent spent change None = change
change_spent spent change (Some row) = spent change row

-- the row that was made of it, or the one that was made before
abbrev pub row_made : (SpecialFacilityRow → SpecialFacilityRow) → Option SpecialFacilityRow → Option SpecialFacilityRow → Option SpecialFacilityRow
row_made change before None = before
row_made change before (Some row) = Some (change row)
