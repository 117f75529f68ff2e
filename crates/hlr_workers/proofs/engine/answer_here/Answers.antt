use Rattle.hlr_workers.proofs.EngineLemmas.{here_after}
use Rattle.hlr_workers.proofs.engine.answer_here.Goals as goal

pub returns : goal.returns
returns g c = here_after _ _ _ _ c.bring_workers_home.ensures.brought c.apply.new.self c.apply.result c.apply.ensures.changed c.args.event c.apply.ensures.step c.apply.ensures.spare c.apply.ensures.desk
