use Rattle.hlr_c.proofs.Common.{◌∙◌, ap, refl, sym, Give, asks, given_told}
use Rattle.hlr_c.proofs.AnswerLemmas.{refused_told}
use Rattle.hlr_c.proofs.parts.give.Goals as goal

pub returns-in-Err : goal.returns-in-Err
returns-in-Err c =
    refused_told _ (given_told c.args.given.now) c.args.given.now c.in-Err.why c.args.register.now c.code.result refl
    (ap (asks (λ side. Give c.args.part side c.args.at)) (sym c.side_of.ensures ∙ c.in-Err.is)) c.code.ensures
