use Rattle.tatp_actions.proofs.ListedLemmas.{filled}
use Rattle.hlr_owners.proofs.owners.Owners.write_rows.Goals as goal

pub returns : goal.returns
returns g c = rw (← c.self.view_is) (filled _ c.args.rows.now c.write_rows_in.result c.write_rows_in.new.rows (rw c.deref.ensures.value at c.write_rows_in.ensures))
