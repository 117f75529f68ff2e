use Rattle.hlr_c.proofs.Common.{refl, subst, sym}
use Rattle.hlr_c.specs.Journaled.{IsEnding}
use Rattle.hlr_c.specs.declared.opened.Opened.{Opened}
use Rattle.hlr_c.proofs.JournaledLemmas.{done_with, ended}
use Rattle.hlr_c.proofs.journaling.end.Goals as goal

pub let_go-requires : goal.let_go-requires
let_go-requires c =
    done_with c.args.opened.now.lender c.args.opened.now.journal c.in-Some.journal c.in-Some.is c.requires.journaled (c.if-not-is_all_made.ensures.yes refl)

pub returns-clause-answer : goal.returns-clause-answer
returns-clause-answer c =
    let now = c.args.opened.now in
    subst (λ (o : Opened). IsEnding (now.lender, now.journal) 0 (o.lender, o.journal)) (sym c.let_go.ensures)
    (ended now.lender now.journal c.in-Some.journal c.in-Some.is c.requires.journaled (c.if-not-is_all_made.ensures.yes refl))
