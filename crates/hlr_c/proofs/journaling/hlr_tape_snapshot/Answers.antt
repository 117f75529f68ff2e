use mir.Syntax.{w32}
use Rattle.std.specs.Prelude.{ℤ}
use Rattle.std.proofs.lemmas.Int.{to_z-of_z}
use Rattle.hlr_c.proofs.Common.{Some, ap, subst, sym, ◌∙◌}
use Rattle.hlr_c.proofs.JournaledLemmas.{called}
use Rattle.hlr_c.specs.Journaled.{IsSnapshot}
use Rattle.hlr_c.specs.declared.codes.TheConstants.{NOT_OPEN}
use Rattle.hlr_c.specs.declared.opened.Opened.{Opened}
use Rattle.hlr_c.proofs.journaling.hlr_tape_snapshot.Goals as goal

pub returns : goal.returns
returns c =
    let was = c.deref_mut.result.now in let now = c.snapshot-answer.new.opened in let lent = sym c.deref_mut.ensures.value in
    called NOT_OPEN (IsSnapshot c.args.fd) c.args.handle.now.kept c.put.new.self.kept (was.lender, was.journal) (now.lender, now.journal) c.snapshot-answer.result
    (c.in-Some.ensures.taken ∙ ap (λ (o : Opened). Some o.lender) lent) (c.in-Some.ensures.journal ∙ ap (λ (o : Opened). o.journal) lent)
    c.put.ensures.register c.put.ensures.journal
    (subst (λ (f : ℤ). IsSnapshot f (was.lender, was.journal) c.snapshot-answer.result (now.lender, now.journal)) (to_z-of_z w32 c.args.fd c.ranges.fd) c.snapshot-answer.ensures.answer)
