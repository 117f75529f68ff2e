use Rattle.view_delta.proofs.Common.{ℕ, arith, blank_at, CELLS}
use Rattle.view_delta.proofs.SumLemmas.{one_at_most}
use Rattle.view_delta.proofs.tests.counts_of.Goals as goal

pub count_one-requires-clause-room : goal.count_one-requires-clause-room
count_one-requires-clause-room c = rw (c.zero-counts.ensures, blank_at {A = ℕ} CELLS c.args.cell 0) (omega arith)

pub returns : goal.returns
returns c = λ k below. rw (c.count_one.ensures, c.zero-counts.ensures, blank_at {A = ℕ} CELLS c.args.cell 0) (one_at_most CELLS c.args.cell k c.requires)
