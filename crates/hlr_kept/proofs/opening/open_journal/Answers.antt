use Rattle.std.proofs.Common.{◌∙◌, ap, refl}
use Rattle.hlr_owners.specs.Owners.{store_in}
use Rattle.hlr_kept.specs.Rows.{book_of}
use Rattle.hlr_kept.proofs.RestoredLemmas.{back_given_up, back_moments, read_moments}
use Rattle.hlr_kept.proofs.opening.open_journal.Goals as goal

pub returns-in-Ok-resume-clause-rows : goal.returns-in-Ok-resume-clause-rows
returns-in-Ok-resume-clause-rows g c =
    let last = c.restore.new.unread in
    let device = c.into_device.result in
    record {
      last = last;
      same = c.restore.ensures.same;
      whole = c.in-Ok.ensures.whole;
      rows = c.in-Ok.ensures.rows;
      leaves = read_moments g.U.File.Device.seen g.U.File.Device.moment g.U.File.Device.left_since (g.U.Unread.file last) device device c.in-Ok-resume.journal.tape.device
          (g.U.Unread.read last) refl c.into_device.ensures.file c.into_device.ensures.seen c.in-Ok-resume.ensures.any_moment;
    }

pub returns-in-Ok-resume-clause-stands : goal.returns-in-Ok-resume-clause-stands
returns-in-Ok-resume-clause-stands g c =
    c.in-Ok-resume.ensures.stands (store_in c.in-Ok.restored.0) (ap book_of c.into_device.ensures.seen ∙ c.in-Ok.ensures.rows)

pub returns-in-Err-resume-clause-given_back : goal.returns-in-Err-resume-clause-given_back
returns-in-Err-resume-clause-given_back g c =
    let last = c.restore.new.unread in
    let device = c.into_device.result in
    let back = c.in-Err-resume in
    record {
      last = last;
      same = c.restore.ensures.same;
      whole = c.in-Ok.ensures.whole;
      leaves = back_moments g.U.File.Device.seen g.U.File.Device.moment g.U.File.Device.left_since (g.U.Unread.file last) device back.device
          (g.U.Unread.read last) c.into_device.ensures.file c.into_device.ensures.seen back.ensures.handed_back;
      cause = back_given_up _ _ _ _ _ back.why c.into_device.ensures.faults c.into_device.ensures.seen back.ensures.refused;
    }
