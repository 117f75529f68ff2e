use Rattle.std.proofs.Common.{refl}
use Rattle.hlr_kept.proofs.JournalLemmas.{put_stands}
use Rattle.hlr_kept.proofs.keeping.Journal.put.Goals as goal

pub returns-clause-put : goal.returns-clause-put
returns-clause-put g c = record { tape = refl; group = c.put_line.ensures.items; fault = refl }

pub returns-clause-stands : goal.returns-clause-stands
returns-clause-stands g c = λ a b step.
    put_stands g.D.Device.seen g.D.Device.may_leave c.args.event.now c.args.reply.now a b c.args.self.now _ (returns-clause-put g c) c.put_line.ensures.fits step
