use Rattle.hlr_c.proofs.Common.{◌∙◌, Some, subst, sym, FileJournal, IsJournaled}
use Rattle.hlr_c.proofs.JournaledLemmas.{fallen_journaled, handed_journaled, made_done, made_failed, made_stays}
use Rattle.hlr_c.proofs.owing.note.Goals as goal

pub returns-in-Some-clause-made : goal.returns-in-Some-clause-made
returns-in-Some-clause-made c =
    made_stays c.args.is_done c.args.journal.now c.code_of_fault.result c.in-Some.fault (sym c.fault.ensures ∙ c.in-Some.is) c.code_of_fault.ensures

pub returns-then-is_done-eq0-clause-made : goal.returns-then-is_done-eq0-clause-made
returns-then-is_done-eq0-clause-made c =
    made_failed c.args.is_done c.args.journal.now c.fall_back.new.journal c.if-is_done-eq0.true (sym c.fault.ensures ∙ c.in_default.is) c.fall_back.ensures

pub returns-then-is_done-eq0-clause-journaled : goal.returns-then-is_done-eq0-clause-journaled
returns-then-is_done-eq0-clause-journaled c = λ register is.
    subst (λ (j : FileJournal). IsJournaled register (Some j)) (sym c.fall_back.ensures) (fallen_journaled register c.args.journal.now (sym c.fault.ensures ∙ c.in_default.is) is)

pub returns-clause-made : goal.returns-clause-made
returns-clause-made c =
    made_done c.args.is_done c.args.journal.now c.settle.new.journal c.if-is_done-eq0.false (sym c.fault.ensures ∙ c.in_default.is) c.settle.ensures.handed c.settle.ensures.before

pub returns-clause-journaled : goal.returns-clause-journaled
returns-clause-journaled c = λ register is.
    handed_journaled register c.args.journal.now c.settle.new.journal c.settle.ensures.stands c.settle.ensures.before is
