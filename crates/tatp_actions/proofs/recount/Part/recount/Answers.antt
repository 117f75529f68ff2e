use Rattle.tatp_actions.proofs.Common.{◌≡◌, subst, rules, slice_index, cell, PartState, Tables}
use Rattle.tatp_actions.proofs.RecountLemmas.{recounted}
use Rattle.tatp_actions.proofs.recount.Part.recount.Goals as goal

pub returns : goal.returns
returns c = λ k within.
    let part = c.self.invariant.0 in
    let rows = c.self.inside.rows in
    let tables : Tables = record { subscribers = rows.subscribers.rows; access = rows.access.rows; facilities = rows.facilities.rows; forwardings = rows.forwardings.rows } in
    subst (λ (is : PartState). slice_index c.cells.result k ≡ cell is.width k is.book) c.self.view_is
    (rw c.cells.ensures (recounted c.self.inside.width k c.self.inside.lo c.self.inside.hi tables c.zero-tally.result c.walk.new.so_far c.walk-2.new.so_far c.walk-3.new.so_far c.walk-4.new.so_far _ _ _ _
    (λ a key row b step. (search rules, search rules)) (λ a key row b step. search rules) (λ a key row b step. search rules) (λ a key row b step. (search rules, search rules))
    c.zero-tally.ensures c.walk.ensures c.walk-2.ensures c.walk-3.ensures c.walk-4.ensures within c.self.invariant.1 part.rows))
