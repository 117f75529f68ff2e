use Rattle.hlr_c.proofs.Common.{Option, Some, refl, subst, FileJournal, IsJournaled}
use Rattle.hlr_c.proofs.owing.note_made.Goals as goal

pub returns-clause-journaled : goal.returns-clause-journaled
returns-clause-journaled c =
    c.note.ensures.journaled c.args.opened.now.lender (subst (λ (o : Option FileJournal). IsJournaled c.args.opened.now.lender o) c.in-Some.is c.requires.journaled)

pub returns-clause-answer : goal.returns-clause-answer
returns-clause-answer c = rw c.in-Some.is (refl, c.note.ensures.made)
