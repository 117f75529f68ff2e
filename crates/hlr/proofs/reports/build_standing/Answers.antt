use Rattle.hlr.proofs.Common.{◌∙◌, sym, w64, to_z-of_z}
use Rattle.hlr.proofs.ReportFacts.{built_count, built_len, built_lines, built_more, built_none, built_skip}
use Rattle.hlr.proofs.reports.build_standing.Goals.{then-stands, else-stands}
use Rattle.hlr.proofs.reports.build_standing.Goals as goal

pub loop-cell-init : goal.loop-cell-init
loop-cell-init c = built_none _ _ _

pub loop-cell-preserved : goal.loop-cell-preserved
loop-cell-preserved c =
    let first = to_z-of_z w64 c.count_at-published.result (record { sfits = c.count_at-published.type_inv }) in
    let second = to_z-of_z w64 c.count_at-unposted.result (record { sfits = c.count_at-unposted.type_inv }) in
    let p = c.count_at-published.ensures in
    let u = c.count_at-unposted.ensures in
    let test = rw (first, second) at c.stands.ensures in
    elim c.if-stands.branch [
      | then-stands w ↦
          rw (w.line-is, w.lines-is) (built_more _ _ _ _ _ _ _ c.loop-cell-test.true c.loop-cell.invariant (rw (← p, ← u) (sym test ∙ w.if-stands.true))
          (rw (← p, ← u) (rw (first, second, w.from.ensures) at w.put_cell.ensures.bytes)) w.put_cell.ensures.len)
      | else-stands w ↦
          rw (w.line-is, w.lines-is) (built_skip _ _ _ _ _ _ c.loop-cell-test.true c.loop-cell.invariant (rw (← p, ← u) (sym test ∙ w.if-stands.false)))
    ]

pub returns-clause-lines : goal.returns-clause-lines
returns-clause-lines c = built_lines _ _ _ _ _ _ c.loop-cell-test.false c.loop-cell.invariant

pub returns-clause-count : goal.returns-clause-count
returns-clause-count c = built_count _ _ _ _ _ _ c.loop-cell-test.false c.loop-cell.invariant

pub returns-clause-len : goal.returns-clause-len
returns-clause-len c = built_len _ _ _ _ _ _ c.loop-cell-test.false c.loop-cell.invariant
