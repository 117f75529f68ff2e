use Rattle.std.proofs.Common.{List, true}
use Rattle.journal_file.specs.Calls.{Call, left_after}
use Rattle.journal_file.specs.Device.{Follows, Fades}
use Rattle.journal_file.proofs.ByteLemmas.{fades_same}
use Rattle.journal_file.proofs.CallLemmas.{noted_or_same, blanked_follows}
use Rattle.journal_file.proofs.relayed.RelayedDevice.blank.Goals as goal

pub returns-clause-crash : goal.returns-clause-crash
returns-clause-crash c =
    let calls = c.args.self.now.log.calls in
    noted_or_same c.owe.result (λ (l : List Call). Follows (Fades c.args.from) (left_after calls) (left_after l))
    c.owe.ensures.noted c.owe.ensures.same (blanked_follows calls c.args.from true c.new.result.items c.requires.fits)
    (λ f left. (f, left, fades_same c.args.from f))
