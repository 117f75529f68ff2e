use Rattle.hlr_core.proofs.Common.{◌≡◌, refl, dissolved_reply}
use Rattle.hlr_core.proofs.HomeLemmas.{homes_dissolved}
use Rattle.hlr_core.proofs.WhileOutLemmas.{dissolved_while_out}
use Rattle.hlr_core.proofs.register.Register.dissolve.Goals as goal
use Rattle.hlr_core.proofs.register.Register.dissolve.Goals.{in-Ok, in-Err}

pub returns : goal.returns
returns c =
    let told : c.match-dissolve.result ≡ dissolved_reply c.dissolve.result = elim c.match-dissolve.branch [
      | in-Ok w ↦ rw (w.result-is, w.in-Ok.is) refl
      | in-Err w ↦ rw (w.result-is, w.in-Err.is) refl
    ] in
    rw (← c.self.view_is) (record {
      step = (c.dissolve.result, c.dissolve.ensures.answer, told, c.dissolve.ensures.after);
      homes = rw told (homes_dissolved c.args.part c.dissolve.result c.self.inside.owners c.dissolve.new.self c.dissolve.ensures.homes);
      while_out = dissolved_while_out c.self.inside.owners c.dissolve.new.self c.args.part c.dissolve.result c.match-dissolve.result c.dissolve.ensures.answer told c.dissolve.ensures.while_out;
    })
