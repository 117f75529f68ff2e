use Rattle.tatp_actions.proofs.Common.{◌≡◌, ℕ, ◌+◌, ◌<◌, arith, ◌+ℤ◌, covering, in_span, signed, CELLS, delta_at}
use Rattle.tatp_actions.proofs.DeltaLemmas.{added, first_fits, signed_more, partial_fits, second_fits, three_spans}
use Rattle.tatp_actions.proofs.change.Change.add_to.Goals.{After-add_span-3}
use Rattle.tatp_actions.proofs.change.Change.add_to.Goals as goal

pub add_span-requires-clause-fit : goal.add_span-requires-clause-fit
add_span-requires-clause-fit c = λ at below. (c.requires at below).0

pub add_span-requires-clause-fits : goal.add_span-requires-clause-fits
add_span-requires-clause-fits c = λ at below.
    partial_fits c.self.inside c.self.invariant c.args.deltas.now (rw c.self.view_is c.requires) at below (in_span 0 c.self.inside.hours.from_0 at) (omega arith)

pub add_span-requires-2-clause-fit : goal.add_span-requires-2-clause-fit
add_span-requires-2-clause-fit c = λ at below.
    rw (c.add_span.ensures at below) (partial_fits c.self.inside c.self.invariant c.args.deltas.now (rw c.self.view_is c.requires) at below (in_span 0 c.self.inside.hours.from_0 at) (omega arith))

pub add_span-requires-2-clause-fits : goal.add_span-requires-2-clause-fits
add_span-requires-2-clause-fits c = λ at below.
    let hours = c.self.inside.hours in
    rw (c.add_span.ensures at below, signed_more c.self.inside.up (delta_at c.args.deltas.now at) (in_span 0 hours.from_0 at) (in_span 8 hours.from_8 at))
    (partial_fits c.self.inside c.self.invariant c.args.deltas.now (rw c.self.view_is c.requires) at below (in_span 0 hours.from_0 at + in_span 8 hours.from_8 at) (omega arith))

pub add_span-requires-3-clause-fit : goal.add_span-requires-3-clause-fit
add_span-requires-3-clause-fit c = λ at below.
    let hours = c.self.inside.hours in
    rw (c.add_span-2.ensures at below, c.add_span.ensures at below, signed_more c.self.inside.up (delta_at c.args.deltas.now at) (in_span 0 hours.from_0 at) (in_span 8 hours.from_8 at))
    (partial_fits c.self.inside c.self.invariant c.args.deltas.now (rw c.self.view_is c.requires) at below (in_span 0 hours.from_0 at + in_span 8 hours.from_8 at) (omega arith))

pub add_span-requires-3-clause-fits : goal.add_span-requires-3-clause-fits
add_span-requires-3-clause-fits c = λ at below.
    let hours = c.self.inside.hours in
    rw (c.add_span-2.ensures at below, c.add_span.ensures at below, signed_more c.self.inside.up (delta_at c.args.deltas.now at) (in_span 0 hours.from_0 at) (in_span 8 hours.from_8 at), signed_more c.self.inside.up (delta_at c.args.deltas.now at) (in_span 0 hours.from_0 at + in_span 8 hours.from_8 at) (in_span 16 hours.from_16 at))
    (partial_fits c.self.inside c.self.invariant c.args.deltas.now (rw c.self.view_is c.requires) at below (in_span 0 hours.from_0 at + in_span 8 hours.from_8 at + in_span 16 hours.from_16 at) (omega arith))

-- what the three spans have made of the deltas
spanned : (c : After-add_span-3) → (at : ℕ) → at < CELLS → delta_at c.add_span-3.new.deltas at ≡ delta_at c.args.deltas.now at +ℤ signed c.self.inside.up (covering c.self.inside.hours at)
spanned c = three_spans c.self.inside c.self.invariant c.args.deltas.now (rw c.self.view_is c.requires) c.add_span.new.deltas c.add_span-2.new.deltas c.add_span-3.new.deltas c.add_span.ensures c.add_span-2.ensures c.add_span-3.ensures

pub add_note-requires-clause-fits : goal.add_note-requires-clause-fits
add_note-requires-clause-fits c = first_fits c.self.inside c.self.invariant c.args.deltas.now (rw c.self.view_is c.requires) c.add_span-3.new.deltas (spanned (goal.at.add_note-requires-clause-fits c).After-add_span-3)

pub add_note-requires-2-clause-fits : goal.add_note-requires-2-clause-fits
add_note-requires-2-clause-fits c =
    rw c.add_note.ensures
    (second_fits c.self.inside c.self.invariant c.args.deltas.now (rw c.self.view_is c.requires) c.add_span-3.new.deltas (spanned (goal.at.add_note-requires-2-clause-fits c).After-add_span-3) (delta_at c.add_span-3.new.deltas c.self.inside.first.cell +ℤ c.self.inside.first.amount))

pub returns : goal.returns
returns c =
    rw (← c.self.view_is)
    (added c.self.inside c.self.invariant c.args.deltas.now (rw c.self.view_is c.requires) c.add_span-3.new.deltas (spanned (goal.at.returns c).After-add_span-3) c.add_span-3.array_long _ _ c.add_note.ensures c.add_note-2.ensures)
