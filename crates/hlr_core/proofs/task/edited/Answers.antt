use Rattle.hlr_core.proofs.Common.{done_reply}
use Rattle.hlr_core.proofs.RegisterLemmas.{edited_is}
use Rattle.hlr_core.proofs.task.edited.Goals as goal

pub returns : goal.returns
returns g c = rw c.edited_reply.ensures (record {
  rows = done_reply c.edit.result;
  outcome = c.edit.ensures.outcome;
  answered = edited_is c.edit.result;
  range = c.edit.ensures.range;
  desk = c.edit.ensures.desk;
  rules = c.edit.ensures.after;
})
