use Rattle.hlr.proofs.Common.{sym, Ok}
use Rattle.hlr.specs.Command.{Command as command}
use Rattle.hlr.proofs.OwedFacts.{answered_next}
use Rattle.hlr.proofs.RunFacts.{answered}
use Rattle.hlr.proofs.owed.recut.Goals as goal

pub returns : goal.returns
returns g c = λ rows start old under.
    answered_next rows _ start _ c.build_recut_by.new.engine old _ _ (g.S.Sink.has_stalled c.write_owed.new.sink) _ (c.in_ok-write_owed.ensures.text rows start old under)
    (answered _ (Ok command.Recut) _ _ _ _ _ (sym c.requires.named) c.build_recut_by.ensures.text _) c.build_recut_by.ensures.rest
