use Rattle.row_groups.proofs.Common.{◌∙◌, arith, sym}
use Rattle.row_groups.proofs.ForwardingLemmas.{hour_put, hour_refused}
use Rattle.row_groups.proofs.forwardings.Forwardings.insert.Goals as goal

pub returns-then-is_taken : goal.returns-then-is_taken
returns-then-is_taken c =
    let within = c.place_of-place.ensures.within in
    rw (← c.self.view_is)
    (hour_refused c.args.row.now c.place_of-place.result c.self.inside.words c.place_of-place.ensures.place (omega (arith, c.self.invariant)) c.index-self-place.result c.index-self-place.is (sym c.is_taken.ensures ∙ c.if-is_taken.true))

pub returns : goal.returns
returns c =
    let within = c.place_of-place.ensures.within in
    rw (← c.self.view_is, c.of.ensures)
    (hour_put c.args.row.now c.place_of-place.result c.self.inside.words c.place_of-place.ensures.place (omega (arith, c.self.invariant)) c.index-self-place.result c.index-self-place.is (sym c.is_taken.ensures ∙ c.if-is_taken.false))
