use Rattle.hlr_owners.proofs.Common.{IsMovedAlone}
use Rattle.hlr_owners.proofs.WhileOutLemmas.{moved_after}
use Rattle.hlr_owners.proofs.owners.Owners.hand_over.Goals.{After-take}
use Rattle.hlr_owners.proofs.owners.Owners.hand_over.Goals as goal

pub take-requires : goal.take-requires
take-requires c = record { home = rw c.in_ok-piece.ensures.homes c.requires.taker }

-- the give and the take, one after another
moved : (c : After-take) → IsMovedAlone c.args.self.now c.take.new.self
moved c = moved_after c.args.self.now c.give.new.self c.take.new.self
    (record { homes = c.give.ensures.homes; outs = c.give.ensures.outs; same = c.give.ensures.same; while_out = c.give.ensures.while_out })
    (record { homes = c.take.ensures.homes; outs = c.take.ensures.outs; same = c.take.ensures.same; while_out = c.take.ensures.while_out })

pub returns-in_err-take-clause-moved : goal.returns-in_err-take-clause-moved
returns-in_err-take-clause-moved c = moved (goal.at.returns-in_err-take-clause-moved c).After-take

pub returns-clause-moved : goal.returns-clause-moved
returns-clause-moved c = moved (goal.at.returns-clause-moved c).After-take
