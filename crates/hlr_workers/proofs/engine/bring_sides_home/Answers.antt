use Rattle.hlr_workers.proofs.Common.{◌≡◌, ◌∙◌, ap, arith, get_or, set, sym, List, None, Ok, get_or_default, recut_answer, CutMove, Region, outs_in, OwnersState}
use Rattle.hlr_workers.proofs.EngineLemmas.{brought_itself, brought_twice, none_still, sides_cut, sides_next}
use Rattle.hlr_workers.proofs.engine.bring_sides_home.Goals as goal

pub loop-bound_move-init : goal.loop-bound_move-init
loop-bound_move-init g c =
    rw (c.stop_sides.ensures, c.hand_on.ensures)
    (record { brought = brought_itself _ _ c.requires.kept; home = λ i d low. absurd (omega arith); still = λ none. none })

pub returns-in_default-clause-brought : goal.returns-in_default-clause-brought
returns-in_default-clause-brought g c = brought_itself _ _ c.requires.kept

pub loop-bound_move-preserved : goal.loop-bound_move-preserved
loop-bound_move-preserved g c =
    let was = c.loop-bound_move.invariant in
    let one = c.join.ensures in
    let two = c.join-in-loop-bound_move.ensures in
    let moves = c.as_slice-bound_move-items.result.now in
    let move : CutMove = get_or moves c.loop-bound_move.bound_move-index (record { bound = 0; from = 0; to = 0 }) in
    let there = c.loop-bound_move-test.true in
    record {
      brought = brought_twice _ _ _ _ _ _ was.brought (brought_twice _ _ _ _ _ _ one.brought two.brought);
      home = λ i d low. rw (two.home, one.home, c.saturating_sub.ensures)
          (sides_next (outs_in c.loop-bound_move.workers.register.owners) moves c.loop-bound_move.bound_move-index move there (get_or_default moves c.loop-bound_move.bound_move-index (record { bound = 0; from = 0; to = 0 }) move there) was.home i d low);
      still = λ none. rw (two.home, one.home) (none_still (set (outs_in c.loop-bound_move.workers.register.owners) c.saturating_sub.result None) move.bound
          (none_still (outs_in c.loop-bound_move.workers.register.owners) c.saturating_sub.result (was.still none)));
    }

pub returns-clause-home : goal.returns-clause-home
returns-clause-home g c =
    let was = c.loop-bound_move.invariant in
    let h = c.loop-bound_move.workers.register in
    let regions : h.regions ≡ c.regions.result.now =
    ap (λ (s : OwnersState). s.regions) was.brought.register ∙ sym (c.regions.ensures.value ∙ ap (λ (s : OwnersState). s.regions) c.register.ensures.value) in
    let answer : recut_answer h.regions c.args.bounds.now ≡ Ok c.as_slice-bound_move-items.result.now =
    ap (λ (rs : List Region). recut_answer rs c.args.bounds.now) regions ∙ c.in-Ok.ensures.answer ∙ ap Ok (sym c.as_slice-bound_move-items.ensures.value) in
    let past = c.loop-bound_move-test.false in
    sides_cut c.args.bounds.now h c.as_slice-bound_move-items.result.now answer (λ i d low. was.home i d (omega arith))
