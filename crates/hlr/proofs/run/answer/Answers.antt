use Rattle.hlr.proofs.Common.{◌≡◌, ◌∙◌, refl, sym, Err, None, fields_of, Syntax, field, word_named}
use Rattle.hlr.specs.Records.{command_of}
use Rattle.hlr.proofs.RunFacts.{answered}
use Rattle.hlr.proofs.run.answer.Goals as goal

pub returns-in-None-clause-text : goal.returns-in-None-clause-text
unfolding command_of
returns-in-None-clause-text g c =
    let none : word_named (field (fields_of c.args.row.now) 0) ≡ None = rw c.field.ensures at (sym c.word_of.ensures ∙ c.in-None.is) in
    let asked : Err Syntax ≡ command_of (fields_of c.args.row.now) = rw none refl in
    answered _ (Err Syntax) _ _ _ _ _ asked (record { text = _; answer = (refl, refl); grew = c.build_refused.ensures }) _
