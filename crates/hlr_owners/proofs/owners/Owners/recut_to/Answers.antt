use Rattle.hlr_owners.proofs.Common.{sym, ap, length, ◌∙◌, err_from_is_err_and, OwnersState}
use Rattle.hlr_owners.proofs.WhileOutLemmas.{moved_after, moved_none}
use Rattle.hlr_owners.proofs.HomeLemmas.{cut_move_home}
use Rattle.hlr_owners.proofs.RecutLemmas.{moving_begins, move_can, moving_more, moving_stopped, all_moves}
use Rattle.hlr_owners.proofs.owners.Owners.recut_to.Goals as goal

pub loop-bound_move-init : goal.loop-bound_move-init
loop-bound_move-init c = (rw (← c.self.view_is, c.as_slice-bound_move-items.ensures.value) (moving_begins _ _ _ c.in_ok-moves.ensures.done), moved_none _)

pub move_bound-requires : goal.move_bound-requires
move_bound-requires c =
    let answer = rw (← c.as_slice-bound_move-items.ensures.value) at c.in_ok-moves.ensures.answer in
    let same = rw (← c.self.view_is) at c.loop-bound_move.invariant.1.homes in
    let began : OwnersState = record { regions = c.self.inside.regions; owners = c.self.inside.owners.items; spare = c.self.inside.spare; width = c.self.inside.width } in
    record {
      can = move_can _ _ _ _ _ _ c.loop-bound_move-test.true c.loop-bound_move.invariant.0;
      home = cut_move_home c.args.bounds.now began c.loop-bound_move.self _ _ _ answer (rw (← c.self.view_is) at c.requires.home) c.loop-bound_move-test.true same;
    }

pub returns-in_err-move_bound : goal.returns-in_err-move_bound
returns-in_err-move_bound c =
    let why = err_from_is_err_and c.from_residual-in_err-move_bound.result c.from_residual-in_err-move_bound.ensures.1 in
    let answer = rw (← c.as_slice-bound_move-items.ensures.value) at c.in_ok-moves.ensures.answer in
    let moving = rw (← c.self.view_is) at c.loop-bound_move.invariant.0 in
    let all = moved_after _ _ _ c.loop-bound_move.invariant.1 c.in_err-move_bound.ensures.moved in
    record {
      recut = rw (← c.self.view_is, why.1, why.2, answer) (moving_stopped _ _ _ _ _ _ c.loop-bound_move-test.true moving _ _ c.in_err-move_bound.ensures.handed);
      homes = all.homes;
      outs = all.outs;
      same = all.same;
      while_out = all.while_out;
    }

pub loop-bound_move-preserved : goal.loop-bound_move-preserved
loop-bound_move-preserved c =
    (moving_more _ _ _ _ _ _ c.loop-bound_move-test.true c.loop-bound_move.invariant.0 _ c.in_ok-move_bound.ensures.handed, moved_after _ _ _ c.loop-bound_move.invariant.1 c.in_ok-move_bound.ensures.moved)

pub returns-clause-recut : goal.returns-clause-recut
returns-clause-recut c =
    let answer = rw (← c.as_slice-bound_move-items.ensures.value) at c.in_ok-moves.ensures.answer in
    let moving = rw (← c.self.view_is) at c.loop-bound_move.invariant.0 in
    rw (← c.self.view_is, answer) (c.len.ensures.value ∙ ap length (sym c.as_slice-bound_move-items.ensures.value), all_moves _ _ _ _ _ c.loop-bound_move-test.false moving)
