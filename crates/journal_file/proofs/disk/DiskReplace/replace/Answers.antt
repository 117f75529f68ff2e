use Rattle.std.proofs.Common.{List, false, subst}
use Rattle.journal_file.specs.Calls.{Call, seen_after, left_after}
use Rattle.journal_file.proofs.CallLemmas.{replaced_leaves}
use Rattle.journal_file.proofs.disk.DiskReplace.replace.Goals as goal

pub returns-then-is_err-clause-crash : goal.returns-then-is_err-clause-crash
returns-then-is_err-clause-crash c =
    λ f left. replaced_leaves c.args.self.now.log.calls false (seen_after c.args.next.log.calls) f
    (subst (λ (l : List Call). left_after l f) c.with-self.ensures left)
