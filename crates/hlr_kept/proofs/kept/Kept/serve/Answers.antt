use Rattle.std.proofs.Common.{◌≡◌, ◌∙◌, ◌<◌, [], ◌++◌, subst}
use Rattle.std.proofs.lemmas.Result.{err_from_is_err_and}
use Rattle.journal_file.specs.declared.fault.JournalFault.{JournalFault}
use Rattle.journal_file.specs.declared.fault.JournalFault.TheVariants.{BadLine, Failed, Locked, Memory, NoJournal}
use Rattle.hlr_kept.proofs.HeldLemmas.{none_stand, only_memory}
use Rattle.hlr_kept.proofs.UnderWayLemmas.{stands_still}
use Rattle.hlr_kept.proofs.kept.Kept.serve.Goals as goal

pub returns-in_err-submit-clause-any_moment : goal.returns-in_err-submit-clause-any_moment
returns-in_err-submit-clause-any_moment g c = λ stored earlier was.
    let all = earlier ++ c.args.orders.now in
    let before = c.args.self.now.journaled.journal.tape in
    let after = c.submit.new.self.journaled.journal.tape in
    none_stand g.D.Device.moment g.D.Device.left_since before after stored all
    (stands_still g.D.Device.seen g.D.Device.may_leave g.D.Device.moment g.D.Device.left_since g.met.D.Device.only_now
    stored all [] before after (c.submit.ensures.tape ∙ c.loop-order.invariant.tape) was.disk)

pub returns-in_err-submit-clause-failed : goal.returns-in_err-submit-clause-failed
returns-in_err-submit-clause-failed g c = λ none failed.
    let passed = err_from_is_err_and c.from_residual.result c.from_residual.ensures.1 in
    let wrong : Failed ≡ Memory = only_memory c.from_residual.result _ passed.0 c.in_err-submit.field-0.0 Failed (c.loop-order.invariant.works none) c.in_err-submit.ensures.cause passed.1 passed.2 failed in
    absurd cc

pub returns-in_err-submit-clause-no_other : goal.returns-in_err-submit-clause-no_other
returns-in_err-submit-clause-no_other g c = λ none.
    let passed = err_from_is_err_and c.from_residual.result c.from_residual.ensures.1 in
    let only = λ (other : JournalFault). only_memory c.from_residual.result _ passed.0 c.in_err-submit.field-0.0 other (c.loop-order.invariant.works none) c.in_err-submit.ensures.cause passed.1 passed.2 in (
      λ told. let wrong : NoJournal ≡ Memory = only NoJournal told in cc,
      λ told. let wrong : BadLine ≡ Memory = only BadLine told in cc,
      λ told. let wrong : Locked ≡ Memory = only Locked told in cc,
    )

pub returns-clause-failed : goal.returns-clause-failed
returns-clause-failed g c = λ none failed.
    subst (λ tape. g.D.Device.faults tape.device < g.D.Device.faults c.sync.new.self.journaled.journal.tape.device) c.loop-order.invariant.tape
    (c.sync.ensures.failed (c.loop-order.invariant.works none) failed)

pub returns-clause-no_other : goal.returns-clause-no_other
returns-clause-no_other g c = λ none. c.sync.ensures.no_other (c.loop-order.invariant.works none)
