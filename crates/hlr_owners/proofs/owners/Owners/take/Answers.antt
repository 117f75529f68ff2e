use Rattle.hlr_owners.proofs.Common.{refl, arith, inl}
use Rattle.hlr_owners.proofs.EditLemmas.{only_memory, may_refuse}
use Rattle.hlr_owners.proofs.TakeLemmas.{piece_there, taken_is_piece, taker_there, taker_is_part, taker_home, taken_width, taken_touch, put_again, all_taken}
use Rattle.hlr_owners.proofs.owners.Owners.take.Goals as goal

pub remove-requires : goal.remove-requires
remove-requires c = rw c.self.inside.owners.ok.0 (piece_there _ c.self.invariant.0 _ _ _ _ c.in_ok-i.ensures.index c.in_ok-i.ensures.answer)

pub unreachable-requires : goal.unreachable-requires
unreachable-requires c = taken_is_piece _ c.self.invariant.0 _ _ _ _ c.in_ok-i.ensures.index c.in_ok-i.ensures.answer c.in_default.field-0 c.in_default.ensures.value

pub index_mut-requires : goal.index_mut-requires
index_mut-requires c = rw (c.taker.ensures, c.remove.new.self.ok.0, c.remove.ensures.items) (taker_there _ c.self.invariant.0 _ _ _ _ c.in_ok-i.ensures.index c.in_ok-i.ensures.answer)

pub holding_mut-requires : goal.holding_mut-requires
holding_mut-requires c =
    taker_home _ c.self.invariant.0 _ _ _ _ c.in_ok-i.ensures.index c.in_ok-i.ensures.answer c.in-Part.part_owner (rw (c.in-Part.is, c.taker.ensures, c.remove.ensures.items) at c.index_mut.ensures.value) (rw (← c.self.view_is) at c.requires.home)

pub take-done-requires : goal.take-done-requires
take-done-requires c = rw c.holding_mut.ensures.value (taken_width _ c.self.invariant.0 _ _ _ _ c.in_ok-i.ensures.index c.in_ok-i.ensures.answer c.in-Piece.taken c.in-Piece.ensures.value c.in-Part.part_owner (rw (c.in-Part.is, c.taker.ensures, c.remove.ensures.items) at c.index_mut.ensures.value))

pub unreachable-requires-in-Piece-index_mut : goal.unreachable-requires-in-Piece-index_mut
unreachable-requires-in-Piece-index_mut c =
    taker_is_part _ c.self.invariant.0 _ _ _ _ c.in_ok-i.ensures.index c.in_ok-i.ensures.answer c.in-Piece-index_mut.field-0 (rw (c.in-Piece-index_mut.is, c.taker.ensures, c.remove.ensures.items) at c.index_mut.ensures.value)

pub invariant_of-self : goal.invariant_of-self
invariant_of-self c =
    let back = put_again _ c.self.invariant.0 _ _ _ _ c.in_ok-i.ensures.index c.in_ok-i.ensures.answer c.in-Piece.taken c.in-Piece.ensures.value c.in-Part.part_owner (rw (c.in-Part.is, c.taker.ensures, c.remove.ensures.items) at c.index_mut.ensures.value) c.take-done.new.self c.in-Err.back.item (rw c.holding_mut.ensures.value at c.in-Err.ensures.refused.1) c.in-Err.ensures.refused.0 in
    let longer = c.insert_reserved.ensures.capacity in
    let long = c.remove.ensures.capacity in
    (rw (c.insert_reserved.ensures.items, c.remove.ensures.items, c.taker.ensures, back) (c.self.invariant.0, c.self.invariant.1, omega (arith, c.self.invariant.2)))

pub returns-in-Err : goal.returns-in-Err
returns-in-Err c =
    let touch = taken_touch _ c.self.invariant.0 _ _ _ _ c.in_ok-i.ensures.index c.in_ok-i.ensures.answer c.in-Piece.taken c.in-Piece.ensures.value c.in-Part.part_owner (rw (c.in-Part.is, c.taker.ensures, c.remove.ensures.items) at c.index_mut.ensures.value) in
    let back = put_again _ c.self.invariant.0 _ _ _ _ c.in_ok-i.ensures.index c.in_ok-i.ensures.answer c.in-Piece.taken c.in-Piece.ensures.value c.in-Part.part_owner (rw (c.in-Part.is, c.taker.ensures, c.remove.ensures.items) at c.index_mut.ensures.value) c.take-done.new.self c.in-Err.back.item (rw c.holding_mut.ensures.value at c.in-Err.ensures.refused.1) c.in-Err.ensures.refused.0 in
    rw (← c.self.view_is, c.insert_reserved.ensures.items, c.remove.ensures.items, c.taker.ensures, back) (record {
      answer = may_refuse _ _ _ _ c.in_ok-i.ensures.answer refl (only_memory _ _ touch (rw c.holding_mut.ensures.value at c.in-Err.ensures.why));
      after = refl;
      same = refl;
      homes = refl;
      outs = refl;
      while_out = λ ks become. refl;
    })

pub take_at-requires : goal.take_at-requires
take_at-requires c = (c.args.piece, c.args.part, c.in_ok-i.ensures.index, c.in_ok-i.ensures.answer)

pub invariant_of-self-2 : goal.invariant_of-self-2
invariant_of-self-2 c =
    let all = all_taken _ c.self.invariant.0 _ _ _ _ c.in_ok-i.ensures.index c.in_ok-i.ensures.answer c.in-Piece.taken c.in-Piece.ensures.value c.in-Part.part_owner (rw (c.in-Part.is, c.taker.ensures, c.remove.ensures.items) at c.index_mut.ensures.value)
    (rw (← c.self.view_is) at c.requires.home) c.take-done.new.self (rw c.holding_mut.ensures.value at c.in_default-done.ensures.taken) c.in_default-done.ensures.after in
    rw (c.take_at.ensures c.args.piece c.args.part c.in_ok-i.ensures.index c.in_ok-i.ensures.answer, c.remove.ensures.items, c.taker.ensures, all.desks) (all.ruled, c.self.invariant.1, rw c.remove.ensures.capacity c.self.invariant.2)

pub returns : goal.returns
returns c =
    let all = all_taken _ c.self.invariant.0 _ _ _ _ c.in_ok-i.ensures.index c.in_ok-i.ensures.answer c.in-Piece.taken c.in-Piece.ensures.value c.in-Part.part_owner (rw (c.in-Part.is, c.taker.ensures, c.remove.ensures.items) at c.index_mut.ensures.value)
    (rw (← c.self.view_is) at c.requires.home) c.take-done.new.self (rw c.holding_mut.ensures.value at c.in_default-done.ensures.taken) c.in_default-done.ensures.after in
    rw (← c.self.view_is, c.take_at.ensures c.args.piece c.args.part c.in_ok-i.ensures.index c.in_ok-i.ensures.answer, c.remove.ensures.items, c.taker.ensures) (record {
      answer = rw c.in_ok-i.ensures.answer (inl refl);
      after = all.store;
      same = refl;
      homes = all.alone.homes;
      outs = all.alone.outs;
      while_out = all.alone.while_out;
    })
