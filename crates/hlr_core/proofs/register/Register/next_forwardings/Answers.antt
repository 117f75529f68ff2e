use Rattle.tatp_actions.proofs.ListedLemmas.{filled_same}
use Rattle.hlr_core.proofs.register.Register.next_forwardings.Goals as goal

pub returns : goal.returns
returns c = filled_same _ c.args.rows.now c.write_rows.result c.write_rows.new.rows c.write_rows.ensures
