use Rattle.hlr.proofs.Common.{is_standing, standing_line, signed_at}
use Rattle.hlr.proofs.ReportFacts.{AreBuilt}
use Rattle.hlr.proofs.reports.build_standing.Given as goal

abbrev pub invariant-loop-cell : goal.invariant-loop-cell
invariant-loop-cell l =
    AreBuilt (standing_line (signed_at l.fn.published) (signed_at l.fn.unposted)) (is_standing (signed_at l.fn.published) (signed_at l.fn.unposted)) l.fn.line.items l.cell l.line.items l.lines
