use Rattle.std.proofs.Common.{◌≡◌, ◌∙◌, List, true, rules}
use Rattle.journal_file.specs.Calls.{Call, left_after}
use Rattle.journal_file.specs.Device.{Follows, Mixes}
use Rattle.journal_file.proofs.ByteLemmas.{mixes_same, over_length}
use Rattle.journal_file.proofs.CallLemmas.{noted_or_same, wrote_follows}
use Rattle.journal_file.proofs.relayed.RelayedDevice.write_at.Goals as goal

pub returns-in_err-extend_from_slice-clause-crash : goal.returns-in_err-extend_from_slice-clause-crash
returns-in_err-extend_from_slice-clause-crash c = λ f left. (f, left, mixes_same c.args.at c.args.bytes.now f)

pub owe-requires-clause-len : goal.owe-requires-clause-len
owe-requires-clause-len c = c.args.self.now.whole_len ∙ over_length c.args.at c.extend_from_slice.new.self.items _

pub returns-clause-crash : goal.returns-clause-crash
returns-clause-crash c =
    let calls = c.args.self.now.log.calls in
    let content = c.extend_from_slice.new.self.items in
    let is : content ≡ c.args.bytes.now = search rules in
    noted_or_same c.owe.result (λ (l : List Call). Follows (Mixes c.args.at c.args.bytes.now) (left_after calls) (left_after l))
    c.owe.ensures.noted c.owe.ensures.same (rw (← is) (wrote_follows calls c.args.at true content))
    (λ f left. (f, left, mixes_same c.args.at c.args.bytes.now f))
