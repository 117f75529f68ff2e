use Rattle.hlr.proofs.Common.{◌≡◌, ◌==◌, not, true, false, arith, nat_tests}
use Rattle.hlr.proofs.ReportFacts.{built_count, built_len, built_lines, built_more, built_none, built_skip}
use Rattle.hlr.proofs.reports.build_counted.Goals.{then-count-ne0, else-count-ne0}
use Rattle.hlr.proofs.reports.build_counted.Goals as goal

pub loop-cell-init : goal.loop-cell-init
loop-cell-init c = built_none _ _ _

pub loop-cell-preserved : goal.loop-cell-preserved
loop-cell-preserved c = elim c.if-count-ne0.branch [
  | then-count-ne0 w ↦
      let some = w.if-count-ne0.true in
      let marked : not (c.get-count.result == 0) ≡ true = grind (arith, nat_tests) in
      let n = c.get-count.ensures in
      rw (w.line-is, w.lines-is) (built_more _ _ _ _ _ _ _ c.loop-cell-test.true c.loop-cell.invariant (rw (← n) marked) (rw (← n) (rw w.from.ensures at w.put_counted.ensures.bytes)) w.put_counted.ensures.len)
  | else-count-ne0 w ↦
      let none = w.if-count-ne0.false in
      let unmarked : not (c.get-count.result == 0) ≡ false = grind (arith, nat_tests) in
      rw (w.line-is, w.lines-is) (built_skip _ _ _ _ _ _ c.loop-cell-test.true c.loop-cell.invariant (rw (← c.get-count.ensures) unmarked))
]

pub returns-clause-lines : goal.returns-clause-lines
returns-clause-lines c = built_lines _ _ _ _ _ _ c.loop-cell-test.false c.loop-cell.invariant

pub returns-clause-count : goal.returns-clause-count
returns-clause-count c = built_count _ _ _ _ _ _ c.loop-cell-test.false c.loop-cell.invariant

pub returns-clause-len : goal.returns-clause-len
returns-clause-len c = built_len _ _ _ _ _ _ c.loop-cell-test.false c.loop-cell.invariant
