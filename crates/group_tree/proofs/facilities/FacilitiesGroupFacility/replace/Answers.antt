use Rattle.group_tree.proofs.TypedLemmas.{facilities, typed_replaced, holds_replaced}
use Rattle.tatp_rows.proofs.RowLemmas as ranges
use Rattle.group_tree.proofs.facilities.FacilitiesGroupFacility.replace.Goals as goal

pub returns-clause-rows : goal.returns-clause-rows
returns-clause-rows c = typed_replaced facilities c.args.row.now (ranges.facility_type c.args.row.now c.s_id-s_id.ensures.in_range) c.args.self.now c.replace.new.self c.replace.result c.replace.ensures.value c.replace.ensures.rows

pub returns-clause-rules : goal.returns-clause-rules
returns-clause-rules c = holds_replaced facilities c.args.row.now (ranges.facility_type c.args.row.now c.s_id-s_id.ensures.in_range) _ c.args.self.now c.replace.new.self c.requires c.replace.ensures.rows
