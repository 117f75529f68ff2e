use Rattle.hlr_core.proofs.TaskLemmas.{subscriber_acted}
use Rattle.hlr_core.proofs.task.read_subscriber.Goals as goal

pub returns : goal.returns
returns c =
    subscriber_acted c.args.s_id c.args.holding.now c.rules.ensures c.requires c.lend_subscriber.result c.row_reply.result c.lend_subscriber.ensures
    (rw c.ok_or.ensures.value at c.row_reply.ensures)
