use Rattle.mr_node.proofs.Common.{rules, arith, ◌≡◌, ◌++◌, [], ◌∷◌, take, length, length-append, ap, ◌∙◌, pairs_of, zip}
use Rattle.mr_node.proofs.FrontLemmas.{front_moved, rest_next}
use Rattle.mr_node.proofs.entry_lists.move_front.Goals as goal

pub loop-place-preserved : goal.loop-place-preserved
loop-place-preserved g c =
    let kept = c.loop-place.invariant in
    let to = c.loop-place.to in
    let long : length to.keys ≡ 32 = search rules in
    let step = front_moved c.loop-place.place c.len.result c.take_value.result c.args.keys.now to.keys c.loop-place.values.items c.args.values.now.items to.values.items c.push.new.self.items (pairs_of c.args.to.now) c.requires.entries kept.0 long (omega (arith, kept.1, c.requires.room, c.loop-place-test.true)) c.len.ensures.value (omega (arith, c.loop-place-test.true, c.requires.some)) kept.4 c.take_value.ensures.value c.push.ensures.items kept.2 in
    (step.0, omega (arith, kept.1, ap length c.push.ensures.items, length-append to.values.items (c.take_value.result ∷ [])), step.1, c.take_value.ensures.len ∙ kept.3, c.take_value.ensures.rest ∙ rest_next c.loop-place.place c.loop-place.values.items c.args.values.now.items kept.4)

pub returns-clause-moved : goal.returns-clause-moved
returns-clause-moved g c =
    let stop : c.loop-place.place ≡ c.args.count = omega (arith, c.loop-place-test.false, c.loop-place.auto.place-end) in
    c.loop-place.invariant.2 ∙ ap (λ j. pairs_of c.args.to.now ++ take j (zip c.args.keys.now c.args.values.now.items)) stop
