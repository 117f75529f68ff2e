use Rattle.hlr.proofs.Common.{length, ◌≡◌, ◌≤◌, ◌-◌, ◌+◌, ◌*◌, false}
use Rattle.hlr.proofs.SinkFacts.{IsLeft}
use Rattle.hlr.proofs.sink.put_all.Given as goal

abbrev pub invariant-loop-rest : goal.invariant-loop-rest
invariant-loop-rest g l = record {
  few : l.tries ≤ 100;
  left : IsLeft (g.S.Sink.taken l.fn.sink) (g.S.Sink.taken l.sink) l.piece l.rest;
  quiet : g.S.Sink.has_stalled l.sink ≡ false → g.S.Sink.has_stalled l.fn.sink ≡ false;
}

abbrev pub decreases-loop-rest : goal.decreases-loop-rest
decreases-loop-rest g l = length l.rest * 101 + (100 - l.tries)
