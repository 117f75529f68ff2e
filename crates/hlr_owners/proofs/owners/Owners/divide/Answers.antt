use Rattle.hlr_owners.proofs.Common.{refl, inl, arith, Part}
use Rattle.hlr_owners.proofs.DivideLemmas.{room_for_part, few_desks, divider_inside, divider_home, all_divided, spare_again}
use Rattle.hlr_owners.proofs.ListLemmas.{set_same}
use Rattle.hlr_owners.proofs.PartLemmas.{part_has_place, owner_is_part}
use Rattle.hlr_owners.proofs.PartDeskLemmas.{has_free, blank}
use Rattle.hlr_owners.proofs.EditLemmas.{only_memory, may_refuse}
use Rattle.hlr_owners.proofs.owners.Owners.divide.Goals as goal

pub unreachable-requires : goal.unreachable-requires
unreachable-requires c =
    let free = has_free _ _ _ c.self.invariant.1 (few_desks _ c.self.invariant.0 _ _ _ c.in_ok-i.ensures.answer) in
    c.in_default.ensures.none refl free.0 free.1

pub index_mut-requires : goal.index_mut-requires
index_mut-requires c = rw c.self.inside.owners.ok.0 (part_has_place _ c.self.invariant.0 c.args.part _ c.in_ok-i.ensures.index)

pub holding_mut-requires : goal.holding_mut-requires
holding_mut-requires c =
    divider_home _ c.self.invariant.0 _ _ _ c.in_ok-i.ensures.answer _ c.in_ok-i.ensures.index c.in-Part.part_owner (rw c.in-Part.is at c.index_mut.ensures.value) (rw (← c.self.view_is) at c.requires.home)

pub divide-divided-requires : goal.divide-divided-requires
divide-divided-requires c = rw c.in_ok-desk.ensures.ok.0 (blank _ _ _ c.self.invariant.1 c.in-Some.slot c.in-Some.ensures.least.0 c.in-Some.ensures.least.1)

pub unreachable-requires-in-Piece : goal.unreachable-requires-in-Piece
unreachable-requires-in-Piece c = owner_is_part _ c.self.invariant.0 c.args.part _ c.in_ok-i.ensures.index c.in-Piece.field-0 (rw c.in-Piece.is at c.index_mut.ensures.value)

pub invariant_of-self-in-Err : goal.invariant_of-self-in-Err
invariant_of-self-in-Err c =
    let is = rw c.in-Part.is at c.index_mut.ensures.value in
    let spare = spare_again _ c.self.invariant.0 _ _ _ c.in_ok-i.ensures.answer _ c.in_ok-i.ensures.index c.in-Part.part_owner is _ c.self.invariant.1 c.in-Some.slot c.in-Some.ensures.least.0 c.in-Some.ensures.least.1
    c.in_ok-desk.ensures.once _ _ _ _ c.in_ok-desk.ensures.ok.0 c.in_ok-desk.ensures.ok.1 c.in-Err.ensures.refused.0 c.join.ensures.both in
    rw (c.in-Err.ensures.refused.1, c.holding_mut.ensures.value, set_same c.self.inside.owners.items c.in_ok-i.i (Part c.in-Part.part_owner) is, spare) c.self.invariant

pub returns-in-Err : goal.returns-in-Err
returns-in-Err c =
    let is = rw c.in-Part.is at c.index_mut.ensures.value in
    let inside = divider_inside _ c.self.invariant.0 _ _ _ c.in_ok-i.ensures.answer _ c.in_ok-i.ensures.index c.in-Part.part_owner is in
    let spare = spare_again _ c.self.invariant.0 _ _ _ c.in_ok-i.ensures.answer _ c.in_ok-i.ensures.index c.in-Part.part_owner is _ c.self.invariant.1 c.in-Some.slot c.in-Some.ensures.least.0 c.in-Some.ensures.least.1
    c.in_ok-desk.ensures.once _ _ _ _ c.in_ok-desk.ensures.ok.0 c.in_ok-desk.ensures.ok.1 c.in-Err.ensures.refused.0 c.join.ensures.both in
    rw (← c.self.view_is, c.in-Err.ensures.refused.1, c.holding_mut.ensures.value, set_same c.self.inside.owners.items c.in_ok-i.i (Part c.in-Part.part_owner) is, spare) (record {
      answer = may_refuse _ _ _ _ c.in_ok-i.ensures.answer refl (only_memory _ _ inside (rw c.holding_mut.ensures.value at c.in-Err.ensures.why));
      after = refl;
      homes = refl;
      while_out = λ ks become. refl;
    })

pub overflow_add-i : goal.overflow_add-i
overflow_add-i c =
    let there = part_has_place _ c.self.invariant.0 c.args.part _ c.in_ok-i.ensures.index in
    let room = room_for_part _ c.self.invariant.0 _ _ _ c.in_ok-i.ensures.answer in
    omega (arith, there, room)

pub insert_reserved-requires-clause-inside : goal.insert_reserved-requires-clause-inside
insert_reserved-requires-clause-inside c =
    let there = part_has_place _ c.self.invariant.0 c.args.part _ c.in_ok-i.ensures.index in
    rw c.self.inside.owners.ok.0 (omega (arith, there))

pub insert_reserved-requires-clause-room : goal.insert_reserved-requires-clause-room
insert_reserved-requires-clause-room c =
    let room = room_for_part _ c.self.invariant.0 _ _ _ c.in_ok-i.ensures.answer in
    omega (arith, room, c.self.inside.owners.ok.0, c.self.invariant.2)

pub invariant_of-self-2 : goal.invariant_of-self-2
invariant_of-self-2 c =
    let all = all_divided _ c.self.invariant.0 _ _ _ c.in_ok-i.ensures.answer _ c.in_ok-i.ensures.index c.in-Part.part_owner (rw c.in-Part.is at c.index_mut.ensures.value)
    _ c.self.invariant.1 c.in-Some.slot c.in-Some.ensures.least.0 c.in-Some.ensures.least.1 c.divide-divided.new.self c.of.result _
    (rw (← c.of.ensures.0, c.holding_mut.ensures.value) at c.in-Ok.ensures.divided) (rw (← c.of.ensures.0) at c.in-Ok.ensures.new) c.in-Ok.ensures.after c.in_ok-desk.ensures.ok.0
    (rw (← c.self.view_is) at c.requires.home) c.of.ensures.1 _ c.in_ok-desk.ensures.ok.1 in
    rw (c.divide_at.ensures c.args.part c.in_ok-i.ensures.index, c.insert_reserved.ensures.items) (all.ruled, all.desks, omega (arith, c.self.invariant.2, c.insert_reserved.ensures.capacity))

pub returns : goal.returns
returns c =
    let all = all_divided _ c.self.invariant.0 _ _ _ c.in_ok-i.ensures.answer _ c.in_ok-i.ensures.index c.in-Part.part_owner (rw c.in-Part.is at c.index_mut.ensures.value)
    _ c.self.invariant.1 c.in-Some.slot c.in-Some.ensures.least.0 c.in-Some.ensures.least.1 c.divide-divided.new.self c.of.result _
    (rw (← c.of.ensures.0, c.holding_mut.ensures.value) at c.in-Ok.ensures.divided) (rw (← c.of.ensures.0) at c.in-Ok.ensures.new) c.in-Ok.ensures.after c.in_ok-desk.ensures.ok.0
    (rw (← c.self.view_is) at c.requires.home) c.of.ensures.1 _ c.in_ok-desk.ensures.ok.1 in
    rw (← c.self.view_is, c.divide_at.ensures c.args.part c.in_ok-i.ensures.index, c.insert_reserved.ensures.items) (record {
      answer = rw c.in_ok-i.ensures.answer (inl refl);
      after = all.store;
      homes = all.homes;
      while_out = all.while_out;
    })
