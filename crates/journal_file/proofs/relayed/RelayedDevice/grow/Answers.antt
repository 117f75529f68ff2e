use Rattle.std.proofs.Common.{List, true}
use Rattle.journal_file.specs.Calls.{Call, left_after}
use Rattle.journal_file.specs.Device.{Follows, IsFront}
use Rattle.journal_file.proofs.ByteLemmas.{front_same}
use Rattle.journal_file.proofs.CallLemmas.{noted_or_same, grew_follows}
use Rattle.journal_file.proofs.relayed.RelayedDevice.grow.Goals as goal

pub returns-clause-crash : goal.returns-clause-crash
returns-clause-crash c =
    let calls = c.args.self.now.log.calls in
    noted_or_same c.owe.result (λ (l : List Call). Follows IsFront (left_after calls) (left_after l))
    c.owe.ensures.noted c.owe.ensures.same (grew_follows calls c.args.more true c.new.result.items)
    (λ f left. (f, left, front_same f))
