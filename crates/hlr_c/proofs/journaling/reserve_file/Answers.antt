use Rattle.hlr_c.proofs.JournaledLemmas.{like_journaled}
use Rattle.hlr_c.proofs.journaling.reserve_file.Goals as goal

pub returns-clause-journaled : goal.returns-clause-journaled
returns-clause-journaled c = λ register is.
    like_journaled register c.args.journal.now c.make_sync_room.new.self c.make_sync_room.ensures.like c.make_sync_room.ensures.stands is
