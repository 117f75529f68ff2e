use Rattle.group_tree.proofs.TypedLemmas.{accesses, typed_replaced, holds_replaced}
use Rattle.tatp_rows.proofs.RowLemmas as ranges
use Rattle.group_tree.proofs.accesses.AccessesGroupAccess.replace.Goals as goal

pub returns-clause-rows : goal.returns-clause-rows
returns-clause-rows c = typed_replaced accesses c.args.row.now (ranges.access_type c.args.row.now c.s_id-s_id.ensures.in_range) c.args.self.now c.replace.new.self c.replace.result c.replace.ensures.value c.replace.ensures.rows

pub returns-clause-rules : goal.returns-clause-rules
returns-clause-rules c = holds_replaced accesses c.args.row.now (ranges.access_type c.args.row.now c.s_id-s_id.ensures.in_range) _ c.args.self.now c.replace.new.self c.requires c.replace.ensures.rows
