use Rattle.hlr.proofs.Common.{◌≤◌, IfSome, AllHome, store_in, outgoing, HasRoom}
use Rattle.hlr.proofs.RunFacts.{SoFar}
use Rattle.hlr.proofs.run.answer_records.Given as goal

abbrev pub invariant-loop-count : goal.invariant-loop-count
invariant-loop-count g l = record {
  open_still : g.T.Source.is_open l.source;
  few : l.count ≤ 1048576;
  home : AllHome l.register.owners;
  room : HasRoom l.line.items;
  so_far : IfSome (g.T.Source.seen.unread l.fn.source).bytes (λ bytes.
      SoFar (store_in l.fn.register) bytes (g.T.Source.seen.unread l.source) l.register (outgoing l.fn.line.items (g.S.Sink.taken l.fn.sink)) (outgoing l.line.items (g.S.Sink.taken l.sink)) l.count);
}
