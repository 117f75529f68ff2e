use Rattle.hlr_kept.proofs.SnapshotLemmas.{stands_for_book}
use Rattle.hlr_kept.proofs.snapshots.snapshots_stand_for_books.Goals as goal

pub returns : goal.returns
returns c = λ book rules single. stands_for_book book rules single
