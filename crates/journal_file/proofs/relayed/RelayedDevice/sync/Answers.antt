use Rattle.std.proofs.Common.{List, true}
use Rattle.journal_file.specs.Calls.{Call, left_after}
use Rattle.journal_file.proofs.CallLemmas.{noted_or_same, synced_leaves}
use Rattle.journal_file.proofs.relayed.RelayedDevice.sync.Goals as goal

pub returns-clause-crash : goal.returns-clause-crash
returns-clause-crash c =
    let calls = c.args.self.now.log.calls in
    λ f. noted_or_same c.owe.result (λ (l : List Call). left_after l f → left_after calls f)
    c.owe.ensures.noted c.owe.ensures.same (synced_leaves calls true c.new.result.items f) (λ left. left)
