-- What the owner of a part is once a borrow of its holding ends.
use Rattle.std.specs.Borrow.{Lends, MutBor, Fml}
use Rattle.holding.specs.Held.{HoldingState}
use Rattle.holding.specs.contracts.holding.Holding
use Rattle.tatp_actions.specs.contracts.trees.Trees
use Rattle.tatp_actions.specs.contracts.trees.TreesRows.TheImpl.{ghosts}
use Rattle.hlr_owners.specs.PartOwnerState.{PartOwnerState}
use Rattle.hlr_owners.specs.contracts.part_owner.PartOwner.{the_row}

-- the owner as it was, with the holding as it was written last
abbrev pub lends_holding : MutBor PartOwnerState → MutBor HoldingState → Fml
lends_holding owner holding = Lends the_row (Holding.the_row Trees.the_row ghosts) owner holding (λ last. record owner.now { holding = last })
