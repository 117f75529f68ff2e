use Rattle.hlr.proofs.Common.{ℕ, drop, Reply, reply_line, outgoing}
use Rattle.hlr.proofs.ReportFacts.{ReportTo}
use Rattle.hlr.proofs.owed.write_replies.Given as goal

abbrev pub invariant-loop-one : goal.invariant-loop-one
invariant-loop-one g l =
    ReportTo (λ (one : ℕ × Reply). reply_line one.1) l.replies (drop l.one-index l.replies) (outgoing l.fn.line.items (g.S.Sink.taken l.fn.sink)) (outgoing l.line.items (g.S.Sink.taken l.sink))
