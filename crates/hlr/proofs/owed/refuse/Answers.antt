use Rattle.hlr.proofs.Common.{refl, sym, Err}
use Rattle.hlr.proofs.OwedFacts.{answered_next}
use Rattle.hlr.proofs.RunFacts.{answered}
use Rattle.hlr.proofs.owed.refuse.Goals as goal

pub returns : goal.returns
returns g c = λ fields is rows start old under.
    answered_next rows fields start _ c.write_owed.new.engine old _ _ (g.S.Sink.has_stalled c.write_owed.new.sink) _ (c.in_ok-write_owed.ensures.text rows start old under)
    (answered fields (Err c.args.why) _ _ _ _ _ (sym is) (record { text = _; answer = (refl, refl); grew = c.build_refused.ensures }) _) c.write_owed.ensures.rest
