use Rattle.group_tree.proofs.TypedLemmas.{accesses, typed_put, holds_put}
use Rattle.tatp_rows.proofs.RowLemmas as ranges
use Rattle.group_tree.proofs.accesses.AccessesGroupAccess.insert.Goals as goal

pub returns-clause-rows : goal.returns-clause-rows
returns-clause-rows c = rw c.is_ok.ensures.value (typed_put accesses c.args.row.now (ranges.access_type c.args.row.now c.s_id-s_id.ensures.in_range) c.args.self.now c.insert.new.self c.insert.result c.insert.ensures)

pub returns-clause-rules : goal.returns-clause-rules
returns-clause-rules c = holds_put accesses c.args.row.now (ranges.access_type c.args.row.now c.s_id-s_id.ensures.in_range) _ c.args.self.now c.insert.new.self c.insert.result c.requires c.insert.ensures
