use Rattle.tatp_actions.proofs.Common.{◌≡◌, ◌∙◌, absent_past, absent_here, found_here}
use Rattle.tatp_actions.proofs.table.Table.get.Goals as goal

pub returns-in_err-entry : goal.returns-in_err-entry
returns-in_err-entry g c =
    let e : c.deref.result.now ≡ c.args.self.now = c.deref.ensures.value ∙ c.self.view_is in
    let past = rw e at c.in_err-entry.ensures.lookup.3 in
    rw (c.from_residual.ensures, absent_past (λ pair. pair.0) c.args.key c.place_of-at.result c.args.self.now c.place_of-at.ensures.ordered c.place_of-at.ensures.place past)

pub returns-then-entry-key : goal.returns-then-entry-key
returns-then-entry-key g c =
    let e : c.deref.result.now ≡ c.args.self.now = c.deref.ensures.value ∙ c.self.view_is in
    let is = rw e at c.in_ok-entry.ensures.lookup.1 in
    let within = rw e at c.in_ok-entry.ensures.lookup.3.0 in
    rw (found_here (λ pair. pair.0) c.args.key c.place_of-at.result c.args.self.now c.in_ok-entry.entry.now c.place_of-at.ensures.ordered c.place_of-at.ensures.place within is c.if-entry-key.true)

pub returns-else-entry-key : goal.returns-else-entry-key
returns-else-entry-key g c =
    let e : c.deref.result.now ≡ c.args.self.now = c.deref.ensures.value ∙ c.self.view_is in
    let is = rw e at c.in_ok-entry.ensures.lookup.1 in
    rw (absent_here (λ pair. pair.0) c.args.key c.place_of-at.result c.args.self.now c.in_ok-entry.entry.now c.place_of-at.ensures.ordered c.place_of-at.ensures.place is c.if-entry-key.false)
