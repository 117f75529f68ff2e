use Rattle.hlr_c.proofs.Common.{Some, refl, subst, IsJournaled}
use Rattle.std.specs.Prelude.{IfSome}
use Rattle.hlr_c.proofs.JournaledLemmas.{synced_done, synced_failed}
use Rattle.hlr_c.specs.Held.{StandsAs}
use Rattle.hlr_owners.specs.Owners.{book_in}
use Rattle.hlr_c.proofs.journaling.sync.Goals as goal
use Rattle.hlr_c.proofs.journaling.sync.Goals.{In-Some}

-- the journal, which is there, keeps the register
kept : (c : In-Some) → IsJournaled c.args.opened.now.lender (Some c.in-Some.journal)
kept c = subst (λ o. IsJournaled c.args.opened.now.lender o) c.in-Some.is c.requires.journaled

pub sync_file-requires : goal.sync_file-requires
sync_file-requires c = record { stands = (book_in c.args.opened.now.lender.owners, (kept (goal.at.sync_file-requires c).In-Some).1) }

pub returns-in-Ok-clause-journaled : goal.returns-in-Ok-clause-journaled
returns-in-Ok-clause-journaled c =
    let is = kept (goal.at.returns-in-Ok-clause-journaled c).In-Some in
    (is.0, c.sync_file.ensures.stands (book_in c.args.opened.now.lender.owners) is.1, rw c.sync_file.ensures.before tt)

pub returns-in-Err-clause-journaled : goal.returns-in-Err-clause-journaled
returns-in-Err-clause-journaled c =
    let is = kept (goal.at.returns-in-Err-clause-journaled c).In-Some in
    (is.0, c.sync_file.ensures.stands (book_in c.args.opened.now.lender.owners) is.1, rw c.sync_file.ensures.before tt)

pub returns-in-Ok-clause-answer : goal.returns-in-Ok-clause-answer
returns-in-Ok-clause-answer c =
    let book = book_in c.args.opened.now.lender.owners in let is = kept (goal.at.returns-in-Ok-clause-answer c).In-Some in
    rw c.in-Some.is (
      refl,
      synced_done c.args.opened.now.lender c.in-Some.journal c.sync_file.new.journal c.sync_file.result (c.sync_file.ensures.any_moment book is.1) c.sync_file.ensures.stays c.sync_file.ensures.owner c.sync_file.ensures.before c.in-Ok.field-0 c.in-Ok.is c.in-Ok.ensures.settled (c.sync_file.ensures.stands book is.1),
    )

pub returns-in-Err-clause-answer : goal.returns-in-Err-clause-answer
returns-in-Err-clause-answer c =
    let book = book_in c.args.opened.now.lender.owners in let is = kept (goal.at.returns-in-Err-clause-answer c).In-Some in
    rw c.in-Some.is (
      refl,
      synced_failed c.args.opened.now.lender c.in-Some.journal c.sync_file.new.journal c.sync_file.result (c.sync_file.ensures.any_moment book is.1) c.sync_file.ensures.stays c.sync_file.ensures.owner c.sync_file.ensures.before c.in-Err.fault c.code_of_fault.result c.in-Err.is c.code_of_fault.ensures c.in-Err.ensures.broken c.in-Err.ensures.refused,
    )
