use Rattle.hlr.proofs.Common.{◌≤◌, ◌<◌, length, store_in, outgoing}
use Rattle.hlr.proofs.OwedFacts.{SoFarOwed}
use Rattle.hlr.proofs.owed.take_all.Given as goal

abbrev pub invariant-loop-count : goal.invariant-loop-count
invariant-loop-count g l = record {
  open_still : g.T.Source.is_open l.source;
  few : l.count ≤ 1048576;
  room : length l.engine.replies < 4096;
  so_far : SoFarOwed (store_in l.fn.engine.register) (g.T.Source.seen.unread l.fn.source).bytes (g.T.Source.seen.unread l.source) l.engine (outgoing l.fn.line.items (g.S.Sink.taken l.fn.sink)) (outgoing l.line.items (g.S.Sink.taken l.sink)) l.count;
}
