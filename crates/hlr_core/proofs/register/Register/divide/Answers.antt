use Rattle.hlr_core.proofs.Common.{◌≡◌, refl, divided_reply}
use Rattle.hlr_core.proofs.HomeLemmas.{homes_divided}
use Rattle.hlr_core.proofs.WhileOutLemmas.{divided_while_out}
use Rattle.hlr_core.proofs.register.Register.divide.Goals as goal
use Rattle.hlr_core.proofs.register.Register.divide.Goals.{in-Ok, in-Err}

pub returns : goal.returns
returns c =
    let told : c.match-divide.result ≡ divided_reply c.divide.result = elim c.match-divide.branch [
      | in-Ok w ↦ rw (w.result-is, w.in-Ok.is) refl
      | in-Err w ↦ rw (w.result-is, w.in-Err.is) refl
    ] in
    rw (← c.self.view_is) (record {
      step = (c.divide.result, c.divide.ensures.answer, told, c.divide.ensures.after);
      homes = rw told (homes_divided c.args.part c.args.at c.divide.result c.self.inside.owners c.divide.new.self c.divide.ensures.homes);
      while_out = divided_while_out c.self.inside.owners c.divide.new.self c.args.part c.divide.result c.match-divide.result c.args.at c.divide.ensures.answer told c.divide.ensures.while_out;
    })
