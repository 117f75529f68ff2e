use Rattle.hlr_c.proofs.Common.{None}
use Rattle.hlr_c.proofs.JournaledLemmas.{if_err, not_synced}
use Rattle.hlr_c.proofs.journaling.sync_file.Goals as goal

pub returns-clause-refused : goal.returns-clause-refused
returns-clause-refused c =
    if_err c.sync.result _
    (λ why is works.
    not_synced c.args.journal.now (record { current = c.sync.new.self; before = None }) c.sync.result (c.sync.ensures.failed works) (c.sync.ensures.full works) (c.sync.ensures.no_other works) why is)
