use Rattle.hlr_owners.proofs.Common.{arith, ints}
use Rattle.hlr_owners.proofs.HeldLemmas.{nobody_net}
use Rattle.hlr_owners.proofs.counts.add_published.Goals as goal

pub returns-in-Piece : goal.returns-in-Piece
returns-in-Piece c = λ k below. rw c.in-Piece.is (let none = nobody_net k in omega (arith, ints))
