-- Right runs: which answer an order may have, and a list of orders carried out one after another.
use Rattle.std.specs.Prelude.{◌≡◌, List, [], ◌∷◌}
use Rattle.hlr_owners.specs.Recut.{IsRecut}
use Rattle.hlr_core.specs.Step.{IsStep}
use Rattle.hlr_owners.specs.Store.{Store}
use Rattle.hlr_core.specs.declared.order.Answer.{Answer}
use Rattle.hlr_core.specs.declared.order.Answer.TheVariants as answer
use Rattle.hlr_core.specs.declared.order.Order.{Order}
use Rattle.hlr_core.specs.declared.order.Order.TheVariants as order

-- an order may have this answer in the first store, and lead to the second one: an event takes a right step, and a
-- recut is a right one
abbrev pub IsOrderStep : Order → Store → Answer → Store → Type 0
IsOrderStep (order.Event event) before (answer.Reply reply) after = IsStep event before reply after
IsOrderStep (order.Event event) before (answer.Recut done) after = ⊥
IsOrderStep (order.Recut bounds) before (answer.Recut done) after = IsRecut bounds.items before done after
IsOrderStep (order.Recut bounds) before (answer.Reply reply) after = ⊥

-- the orders, carried out one after another from the first store on, may have these answers and lead to the second one
abbrev pub IsRun : List Order → Store → List Answer → Store → Type 0
IsRun [] before [] after = after ≡ before
IsRun (first ∷ orders) before (told ∷ answers) after =
    (next : Store) × IsOrderStep first before told next × IsRun orders next answers after
IsRun [] before (told ∷ answers) after = ⊥
IsRun (first ∷ orders) before [] after = ⊥
