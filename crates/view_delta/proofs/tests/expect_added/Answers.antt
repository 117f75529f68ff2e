use Rattle.view_delta.proofs.Common.{arith, replicate, pos, ints, CELLS, blank_at}
use Rattle.view_delta.proofs.NoteLemmas.{notes_fit}
use Rattle.view_delta.proofs.tests.expect_added.Goals as goal

pub note-requires : goal.note-requires
note-requires c = λ d. rw d.zero-pending.ensures (notes_fit (replicate CELLS (pos 0)) _ d.notes-notes.ensures.small d.notes-notes.ensures.few (λ k below. rw (blank_at CELLS k (pos 0)) (omega (arith, ints), omega (arith, ints))))
