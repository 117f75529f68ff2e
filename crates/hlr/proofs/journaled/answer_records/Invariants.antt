use Rattle.hlr.proofs.Common.{◌≤◌, IsReady, store_in, outgoing, HasRoom}
use Rattle.hlr.proofs.JournaledFacts.{SoFarKept}
use Rattle.hlr.proofs.journaled.answer_records.Given as goal

abbrev pub invariant-loop-count : goal.invariant-loop-count
invariant-loop-count g l = record {
  open_still : g.T.Source.is_open l.source;
  few : l.count ≤ 1048576;
  ready : IsReady g.D.Device.seen g.D.Device.may_leave l.journaled;
  room : HasRoom l.line.items;
  so_far : SoFarKept g.D.Device.seen g.D.Device.may_leave g.D.Device.moment g.D.Device.left_since (store_in l.fn.journaled.register) l.fn.journaled.journal.tape.device (g.T.Source.seen.unread l.fn.source).bytes (g.T.Source.seen.unread l.source) l.journaled
      (outgoing l.fn.line.items (g.S.Sink.taken l.fn.sink)) (outgoing l.line.items (g.S.Sink.taken l.sink)) l.count;
}
