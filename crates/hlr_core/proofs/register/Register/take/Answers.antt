use Rattle.hlr_core.proofs.Common.{◌≡◌, refl, arith, taken_reply}
use Rattle.hlr_core.proofs.HomeLemmas.{homes_moved}
use Rattle.hlr_core.proofs.WhileOutLemmas.{taken_while_out}
use Rattle.hlr_core.proofs.PresentLemmas.{taken_small}
use Rattle.hlr_core.proofs.register.Register.take.Goals as goal
use Rattle.hlr_core.proofs.register.Register.take.Goals.{in-Ok, in-Err}

pub overflow_cast-result : goal.overflow_cast-result
overflow_cast-result c =
    let regions = c.rules.ensures.ruled.are in
    let small = taken_small c.args.piece c.args.part c.in-Ok.field-0 c.self.inside.owners.regions regions c.in-Ok.ensures.answer in
    omega (arith, small.0)

pub overflow_cast-result-in-Ok : goal.overflow_cast-result-in-Ok
overflow_cast-result-in-Ok c =
    let regions = c.rules.ensures.ruled.are in
    let small = taken_small c.args.piece c.args.part c.in-Ok.field-0 c.self.inside.owners.regions regions c.in-Ok.ensures.answer in
    omega (arith, small.1)

pub returns : goal.returns
returns c =
    let told : c.match-take.result ≡ taken_reply c.args.piece c.args.part c.take.result = elim c.match-take.branch [
      | in-Ok w ↦ rw (w.result-is, w.in-Ok.is) refl
      | in-Err w ↦ rw (w.result-is, w.in-Err.is) refl
    ] in
    rw (← c.self.view_is) (record {
      step = (c.take.result, c.take.ensures.answer, told, c.take.ensures.after);
      homes = homes_moved c.self.inside.owners c.take.new.self c.take.ensures.homes c.take.ensures.outs c.take.ensures.same;
      while_out = taken_while_out c.self.inside.owners c.take.new.self c.take.ensures.while_out c.args.piece c.args.part c.take.result c.match-take.result c.take.ensures.answer told c.take.ensures.after;
    })
