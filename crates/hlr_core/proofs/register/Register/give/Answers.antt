use Rattle.hlr_core.proofs.Common.{◌≡◌, refl, given_reply}
use Rattle.hlr_core.proofs.HomeLemmas.{homes_moved}
use Rattle.hlr_core.proofs.WhileOutLemmas.{given_while_out}
use Rattle.hlr_core.proofs.register.Register.give.Goals as goal
use Rattle.hlr_core.proofs.register.Register.give.Goals.{in-Ok, in-Err}

pub returns : goal.returns
returns c =
    let told : c.match-give.result ≡ given_reply c.give.result = elim c.match-give.branch [
      | in-Ok w ↦ rw (w.result-is, w.in-Ok.is) refl
      | in-Err w ↦ rw (w.result-is, w.in-Err.is) refl
    ] in
    rw (← c.self.view_is) (record {
      step = (c.give.result, c.give.ensures.answer, told, c.give.ensures.after);
      homes = homes_moved c.self.inside.owners c.give.new.self c.give.ensures.homes c.give.ensures.outs c.give.ensures.same;
      while_out = given_while_out c.self.inside.owners c.give.new.self c.give.ensures.while_out c.args.part c.args.side c.args.at c.give.result c.match-give.result c.give.ensures.answer told c.give.ensures.after;
    })
