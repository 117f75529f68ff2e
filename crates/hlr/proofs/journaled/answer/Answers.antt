use Rattle.hlr.proofs.Common.{◌≡◌, ◌∙◌, refl, sym, Err, None, fields_of, Syntax, field, word_named}
use Rattle.hlr.specs.Records.{command_of}
use Rattle.hlr.proofs.JournaledFacts.{command_kept, refusal_joins}
use Rattle.hlr.proofs.journaled.answer.Goals as goal

pub returns-in-None-clause-text : goal.returns-in-None-clause-text
unfolding command_of
returns-in-None-clause-text g c =
    let none : word_named (field (fields_of c.args.row.now) 0) ≡ None = rw c.field.ensures at (sym c.word_of.ensures ∙ c.in-None.is) in
    let asked : command_of (fields_of c.args.row.now) ≡ Err Syntax = rw none refl in
    command_kept g.D.Device.seen g.D.Device.may_leave g.D.Device.moment g.D.Device.left_since _ _ _ _ _ _ _ asked (refusal_joins _ _ _ _ _ _ _ _ (refl, refl) c.build_refused.ensures)
