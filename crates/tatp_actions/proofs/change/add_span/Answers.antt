use Rattle.tatp_actions.proofs.Common.{◌≡◌, ◌<◌, ◌∙◌, arith, w8, w64, ints, to_z-of_z, signed, CELLS}
use Rattle.tatp_actions.proofs.DeltaLemmas.{one_spanned, plain_sum, span_fits, step_fits, span_end}
use Rattle.tatp_actions.proofs.change.add_span.Goals as goal

pub overflow_add-deltas : goal.overflow_add-deltas
overflow_add-deltas c =
    let low = c.signed.ensures.low in
    let high = c.signed.ensures.high in
    let step : c.from-amount.result ≡ signed c.args.up 1 = c.from-amount.ensures ∙ to_z-of_z w8 c.signed.result (omega (arith, ints)) ∙ c.signed.ensures.value in
    let both = span_fits _ _ c.args.up c.args.from c.args.to c.loop-hour.hour c.loop-hour.invariant.1 c.loop-hour.auto.hour c.loop-hour-test.true (omega (arith, c.loop-hour-test.true, c.requires.to)) c.requires.fit c.requires.fits in
    rw (c.from.ensures, step, to_z-of_z w64 _ both.0, to_z-of_z w64 _ (step_fits c.args.up)) both.1

pub loop-hour-preserved : goal.loop-hour-preserved
loop-hour-preserved c =
    let low = c.signed.ensures.low in
    let high = c.signed.ensures.high in
    let step : c.from-amount.result ≡ signed c.args.up 1 = c.from-amount.ensures ∙ to_z-of_z w8 c.signed.result (omega (arith, ints)) ∙ c.signed.ensures.value in
    let within : c.loop-hour.hour < CELLS = omega (arith, c.loop-hour-test.true, c.requires.to) in
    let both = span_fits _ _ c.args.up c.args.from c.args.to c.loop-hour.hour c.loop-hour.invariant.1 c.loop-hour.auto.hour c.loop-hour-test.true within c.requires.fit c.requires.fits in (
      omega (arith, c.loop-hour-test.true),
      rw (c.from.ensures, step) (one_spanned _ _ c.args.up c.args.from c.loop-hour.hour _ c.loop-hour.auto.hour within c.loop-hour.invariant.1 (plain_sum _ _ both.0 (step_fits c.args.up) both.1)),
    )

pub returns : goal.returns
returns c = span_end _ _ c.args.up c.args.from c.args.to c.loop-hour.hour c.loop-hour.invariant.1 c.loop-hour.invariant.0 c.loop-hour.auto.hour c.loop-hour-test.false
