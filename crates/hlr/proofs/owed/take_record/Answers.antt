use Rattle.hlr.proofs.Common.{◌≡◌, ◌∙◌, refl, sym, Err, None, fields_of, Syntax, field, word_named}
use Rattle.hlr.specs.Records.{command_of}
use Rattle.hlr.proofs.OwedFacts.{answered_taken}
use Rattle.hlr.proofs.owed.take_record.Goals as goal

pub returns-in-None : goal.returns-in-None
unfolding command_of
returns-in-None g c =
    let none : word_named (field (fields_of c.args.row.now) 0) ≡ None = rw c.field.ensures at (sym c.word_of.ensures ∙ c.in-None.is) in
    let asked : command_of (fields_of c.args.row.now) ≡ Err Syntax = rw none refl in
    λ rows start old under. answered_taken rows _ start _ old _ _ c.refuse.result _ (c.refuse.ensures (fields_of c.args.row.now) asked rows start old under) c.sink_fault.ensures
