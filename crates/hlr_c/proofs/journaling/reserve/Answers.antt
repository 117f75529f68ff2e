use Rattle.hlr_c.proofs.Common.{Option, Some, inl, inr, refl, subst, FileJournal, IsJournaled}
use Rattle.hlr_c.proofs.journaling.reserve.Goals as goal

pub returns-in-Ok-clause-journaled : goal.returns-in-Ok-clause-journaled
returns-in-Ok-clause-journaled c =
    c.reserve_file.ensures.journaled c.args.opened.now.lender (subst (λ (o : Option FileJournal). IsJournaled c.args.opened.now.lender o) c.in-Some.is c.requires.journaled)

pub returns-in-Ok-clause-answer : goal.returns-in-Ok-clause-answer
returns-in-Ok-clause-answer c = rw c.in-Some.is (refl, c.reserve_file.ensures.like, c.reserve_file.ensures.old, inl refl)

pub returns-in-Err-clause-journaled : goal.returns-in-Err-clause-journaled
returns-in-Err-clause-journaled c =
    c.reserve_file.ensures.journaled c.args.opened.now.lender (subst (λ (o : Option FileJournal). IsJournaled c.args.opened.now.lender o) c.in-Some.is c.requires.journaled)

pub returns-in-Err-clause-answer : goal.returns-in-Err-clause-answer
returns-in-Err-clause-answer c =
    rw c.in-Some.is (refl, c.reserve_file.ensures.like, c.reserve_file.ensures.old, inr (c.in-Err.fault, c.code_of_fault.ensures, c.in-Err.ensures.cause))
