use Rattle.row_groups.proofs.Common.{arith, sym}
use Rattle.row_groups.proofs.FilledLemmas.{read_place}
use Rattle.row_groups.proofs.ForwardingLemmas.{hour_found, no_start}
use Rattle.row_groups.proofs.forwardings.Forwardings.fields_at.Goals as goal

pub returns-then-not-is_start_time-clause-found : goal.returns-then-not-is_start_time-clause-found
returns-then-not-is_start_time-clause-found c =
    rw (← c.self.view_is) (sym (no_start c.args.start_time c.self.inside.words c.self.invariant (rw (← c.from.ensures) (sym c.if-not-is_start_time.ensures))))

pub returns-clause-found : goal.returns-clause-found
returns-clause-found c =
    let within = c.place_at.ensures.within in
    let read = read_place c.self.inside.words c.place_at.result c.index-words-place_at.result (omega (arith, c.self.invariant)) c.index-words-place_at.is in
    rw (← c.self.view_is, c.fields.ensures.value, ← c.index-words-place_at.is, read) (hour_found c.place_at.result c.args.start_time c.self.inside.words c.place_at.ensures.place)
