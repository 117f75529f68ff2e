use Rattle.hlr_workers.proofs.Common.{rules, ◌∙◌, view}
use Rattle.hlr_workers.proofs.WorkLemmas.{sends_stop, stop_may, stop_same}
use Rattle.hlr_workers.proofs.worker.Worker.stop.Goals as goal

pub push-requires-clause-sends : goal.push-requires-clause-sends
push-requires-clause-sends g c = c.self.invariant.may.log

pub push-requires-clause-right : goal.push-requires-clause-right
push-requires-clause-right g c = sends_stop (view c.self.inside.pass) c.self.inside.held c.self.invariant.may

pub invariant_of-self : goal.invariant_of-self
invariant_of-self g c = record {
  pass = search (rules, c.push.ensures.pass, c.deref.ensures);
  may = stop_may (view c.self.inside.pass) c.self.inside.held c.self.invariant.may (view c.push.new.pass) c.push.ensures.sent;
  thread = c.self.invariant.thread;
}

pub returns : goal.returns
returns g c = stop_same (view c.self.inside.pass) c.self.inside.held c.self.invariant.may (view c.push.new.pass) c.push.ensures.sent ∙ c.self.view_is
