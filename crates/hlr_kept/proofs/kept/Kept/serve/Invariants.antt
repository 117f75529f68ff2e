use Rattle.std.proofs.Common.{◌≡◌, List, ◌++◌, None, Some, take}
use Rattle.journal_file.specs.declared.fault.JournalFault.{JournalFault}
use Rattle.hlr_owners.specs.Store.{Store}
use Rattle.hlr_core.specs.declared.order.Order.{Order}
use Rattle.hlr_kept.specs.UnderWay.{AreHeld, IsReady}
use Rattle.hlr_kept.proofs.kept.Kept.serve.Given as goal

abbrev pub invariant-loop-order : goal.invariant-loop-order
invariant-loop-order g l =
    let seen = g.D.Device.seen in
    let may_leave = g.D.Device.may_leave in
    record {
      ready : IsReady seen may_leave l.self.journaled;
      held : (stored : Store) (earlier : List Order) → AreHeld seen may_leave stored earlier l.fn.self → AreHeld seen may_leave stored (earlier ++ take l.order-index l.orders) l.self;
      tape : l.self.journaled.journal.tape ≡ l.fn.self.journaled.journal.tape;
      works : l.fn.self.journaled.journal.fault ≡ None → l.self.journaled.journal.fault ≡ None;
      broken : (why : JournalFault) → l.fn.self.journaled.journal.fault ≡ Some why → l.self.journaled.journal.fault ≡ Some why;
    }
