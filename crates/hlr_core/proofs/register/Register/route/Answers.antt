use Rattle.hlr_core.proofs.register.Register.route.Goals as goal

pub returns : goal.returns
returns c = rw c.to_route.ensures c.route_task.ensures
