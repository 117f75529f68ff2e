use Rattle.hlr_owners.proofs.Common.{refl, arith, inl, err_from_is_err_and, Part}
use Rattle.hlr_owners.proofs.EditLemmas.{only_memory, may_refuse, room_for_piece, giver_inside, piece_index-le, all_given}
use Rattle.hlr_owners.proofs.ListLemmas.{set_same}
use Rattle.hlr_owners.proofs.PartLemmas.{part_has_place, owner_is_part, part_is_home}
use Rattle.hlr_owners.proofs.owners.Owners.give.Goals as goal

pub index_mut-requires : goal.index_mut-requires
index_mut-requires c = rw c.self.inside.owners.ok.0 (part_has_place _ c.self.invariant.0 c.args.part _ c.in_ok-i.ensures.index)

pub holding_mut-requires : goal.holding_mut-requires
holding_mut-requires c = part_is_home _ c.self.invariant.0 c.args.part _ c.in_ok-i.ensures.index c.in-Part.part_owner (rw c.in-Part.is at c.index_mut.ensures.value) (rw (← c.self.view_is) at c.requires.home)

pub unreachable-requires : goal.unreachable-requires
unreachable-requires c = owner_is_part _ c.self.invariant.0 c.args.part _ c.in_ok-i.ensures.index c.in-Piece.field-0 (rw c.in-Piece.is at c.index_mut.ensures.value)

pub invariant_of-self : goal.invariant_of-self
invariant_of-self c =
    rw (c.in_err-piece-in-Part.ensures.refused, c.holding_mut.ensures.value, set_same c.self.inside.owners.items c.in_ok-i.i (Part c.in-Part.part_owner) (rw c.in-Part.is at c.index_mut.ensures.value)) c.self.invariant

pub returns-in_err-piece-in-Part : goal.returns-in_err-piece-in-Part
returns-in_err-piece-in-Part c =
    let is = rw c.in-Part.is at c.index_mut.ensures.value in
    let why = err_from_is_err_and c.from_residual-in_err-piece-in-Part.result c.from_residual-in_err-piece-in-Part.ensures.1 in
    let inside = giver_inside _ c.self.invariant.0 _ _ _ _ c.in_ok-i.ensures.answer _ c.in_ok-i.ensures.index c.in-Part.part_owner is in
    rw (← c.self.view_is, why.1, why.2, c.in_err-piece-in-Part.ensures.refused, c.holding_mut.ensures.value, set_same c.self.inside.owners.items c.in_ok-i.i (Part c.in-Part.part_owner) is) (record {
      answer = may_refuse _ _ _ c.in_err-piece-in-Part.field-0.0 c.in_ok-i.ensures.answer refl (only_memory _ _ inside (rw c.holding_mut.ensures.value at c.in_err-piece-in-Part.ensures.why));
      after = refl;
      same = refl;
      homes = refl;
      outs = refl;
      while_out = λ ks become. refl;
    })

pub piece_index-requires : goal.piece_index-requires
piece_index-requires c =
    let there = part_has_place _ c.self.invariant.0 c.args.part _ c.in_ok-i.ensures.index in
    let room = room_for_piece _ c.self.invariant.0 _ _ _ _ c.in_ok-i.ensures.answer in
    omega (arith, there, room)

pub insert_reserved-requires-clause-inside : goal.insert_reserved-requires-clause-inside
insert_reserved-requires-clause-inside c =
    rw (c.piece_index.ensures, c.self.inside.owners.ok.0) (piece_index-le c.args.side _ _ (part_has_place _ c.self.invariant.0 c.args.part _ c.in_ok-i.ensures.index))

pub insert_reserved-requires-clause-room : goal.insert_reserved-requires-clause-room
insert_reserved-requires-clause-room c =
    let room = room_for_piece _ c.self.invariant.0 _ _ _ _ c.in_ok-i.ensures.answer in
    omega (arith, room, c.self.inside.owners.ok.0, c.self.invariant.2)

pub give_at-requires : goal.give_at-requires
give_at-requires c = (c.args.part, c.in_ok-i.ensures.index, c.in_ok-i.ensures.answer)

pub invariant_of-self-2 : goal.invariant_of-self-2
invariant_of-self-2 c =
    let all = all_given _ c.self.invariant.0 _ _ _ _ c.in_ok-i.ensures.answer _ c.in_ok-i.ensures.index c.in-Part.part_owner (rw c.in-Part.is at c.index_mut.ensures.value) (rw (← c.self.view_is) at c.requires.home)
    c.give.new.self c.in_ok-piece-in-Part.piece (rw c.holding_mut.ensures.value at c.in_ok-piece-in-Part.ensures.given) c.in_ok-piece-in-Part.ensures.piece c.in_ok-piece-in-Part.ensures.after in
    rw (c.give_at.ensures c.args.part c.in_ok-i.ensures.index, c.insert_reserved.ensures.items, c.piece_index.ensures, all.desks) (all.ruled, c.self.invariant.1, omega (arith, c.self.invariant.2, c.insert_reserved.ensures.capacity))

pub returns : goal.returns
returns c =
    let all = all_given _ c.self.invariant.0 _ _ _ _ c.in_ok-i.ensures.answer _ c.in_ok-i.ensures.index c.in-Part.part_owner (rw c.in-Part.is at c.index_mut.ensures.value) (rw (← c.self.view_is) at c.requires.home)
    c.give.new.self c.in_ok-piece-in-Part.piece (rw c.holding_mut.ensures.value at c.in_ok-piece-in-Part.ensures.given) c.in_ok-piece-in-Part.ensures.piece c.in_ok-piece-in-Part.ensures.after in
    rw (← c.self.view_is, c.give_at.ensures c.args.part c.in_ok-i.ensures.index, c.insert_reserved.ensures.items, c.piece_index.ensures) (record {
      answer = rw c.in_ok-i.ensures.answer (inl refl);
      after = all.store;
      same = refl;
      homes = all.alone.homes;
      outs = all.alone.outs;
      while_out = all.alone.while_out;
    })
