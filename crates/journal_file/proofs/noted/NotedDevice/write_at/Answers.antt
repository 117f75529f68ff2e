use Rattle.std.proofs.Common.{List, true, false, subst}
use Rattle.journal_file.specs.Calls.{Call, left_after}
use Rattle.journal_file.proofs.CallLemmas.{wrote_follows}
use Rattle.journal_file.proofs.noted.NotedDevice.write_at.Goals as goal

pub returns-then-is_err-clause-crash : goal.returns-then-is_err-clause-crash
returns-then-is_err-clause-crash g c = λ f left. wrote_follows c.args.self.now.log.calls c.args.at false c.args.bytes.now f (subst (λ (l : List Call). left_after l f) c.note.ensures.noted left)

pub returns-clause-crash : goal.returns-clause-crash
returns-clause-crash g c = λ f left. wrote_follows c.args.self.now.log.calls c.args.at true c.args.bytes.now f (subst (λ (l : List Call). left_after l f) c.note-2.ensures.noted left)
