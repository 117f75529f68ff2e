use Rattle.std.proofs.Common.{refl}
use Rattle.journal_file.specs.Laws.{one_more_read}
use Rattle.journal_file.proofs.noted.UnreadNotedUnread.read_on.Goals as goal

pub returns-in_default-clause-same : goal.returns-in_default-clause-same
returns-in_default-clause-same g c = (one_more_read _ c.args.self.now.log.calls _ tt c.with-self.ensures, refl)

pub returns-then-not-is_empty-clause-same : goal.returns-then-not-is_empty-clause-same
returns-then-not-is_empty-clause-same g c = (one_more_read _ c.args.self.now.log.calls _ tt c.with-self-2.ensures, refl)

pub returns-else-n-eq0-clause-same : goal.returns-else-n-eq0-clause-same
returns-else-n-eq0-clause-same g c = (one_more_read _ c.args.self.now.log.calls _ tt c.with-self-2.ensures, refl)
