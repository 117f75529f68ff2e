use Rattle.row_groups.proofs.Common.{◌*◌, arith, forwarding_back, forwarding_keys, forwarding_places, forwarding_row, forwarding_start, is_in_time}
use Rattle.row_groups.proofs.GroupLemmas.{chosen_more, chosen_whole}
use Rattle.row_groups.proofs.forwardings.Forwardings.destinations.Goals as goal

pub loop-place-preserved : goal.loop-place-preserved
loop-place-preserved c = record {
  few = omega (arith, c.loop-place.invariant.few, c.push_number.ensures.few);
  chosen = rw (← c.self.view_is)
      (chosen_more forwarding_row forwarding_start (λ place. 8 * place) forwarding_keys (λ row. row.numberx) forwarding_places (is_in_time c.args.start_time c.args.end_time) 0 c.self.inside.words (forwarding_back c.self.inside.words c.self.invariant)
      c.loop-place.place c.loop-place.place c.loop-place.numbers.items _ _ (omega arith) (omega (arith, c.self.invariant, c.loop-place-test.true)) (rw (← c.self.view_is) at c.loop-place.invariant.chosen)
      (rw (← c.self.view_is) at c.number_at.ensures) c.push_number.ensures.items);
}

pub returns : goal.returns
returns c =
    rw (← c.self.view_is)
    (chosen_whole forwarding_row forwarding_start (λ place. 8 * place) forwarding_keys (λ row. row.numberx) forwarding_places (is_in_time c.args.start_time c.args.end_time) 0 c.self.inside.words (forwarding_back c.self.inside.words c.self.invariant)
    c.loop-place.place c.loop-place.numbers.items (omega (arith, c.self.invariant, c.loop-place-test.false)) (rw (← c.self.view_is) at c.loop-place.invariant.chosen))
