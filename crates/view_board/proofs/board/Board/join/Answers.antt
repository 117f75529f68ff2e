use Rattle.view_board.proofs.Common.{◌≡◌, ◌∙◌, sym, ap, refl, arith, Me, View, AreApart, both, numbers_of_both, NetAdds, DeskState}
use Rattle.view_board.proofs.StepLemmas.{checks}
use Rattle.view_board.proofs.JoinLemmas.{joins, told, joined_agrees}
use Rattle.view_board.proofs.SumLemmas.{net_both}
use Rattle.view_board.proofs.board.Board.join.Goals as goal

pub join_seat-requires : goal.join_seat-requires
join_seat-requires c =
    let board = ap (λ (d : DeskState). d.board) c.desk.view_is ∙ (c.requires.board ∙ sym c.self.view_is) in
    let other = ap (λ (d : DeskState). d.board) c.other.view_is ∙ (c.requires.other ∙ sym c.self.view_is) in
    (board, other, c.other.invariant.hand, rw c.self.invariant.0 (omega arith), joins _ _ _ _)

pub load-requires : goal.load-requires
load-requires c =
    let board = ap (λ (d : DeskState). d.board) c.desk.view_is ∙ (c.requires.board ∙ sym c.self.view_is) in
    (c.join_seat.ensures.0 ∙ board, rw c.self.invariant.0 (omega arith), checks _ _ _ _)

pub invariant_of-desk : goal.invariant_of-desk
invariant_of-desk c =
    let checked = c.load.ensures.2 in
    let numbers : c.take_numbers.new.numbers ≡ numbers_of_both c.desk.inside.numbers.value c.other.inside.numbers.value c.other.inside.owned = c.take_numbers.ensures ∙ rw (c.deref_mut.ensures.value, c.deref.ensures) refl in
    joined_agrees c.desk.inside.seat.me c.other.inside.seat.me c.load.new.seat.me c.desk.inside.owned c.other.inside.owned c.take_slots.new.owned c.desk.inside.numbers.value c.other.inside.numbers.value c.take_numbers.new.numbers c.desk.invariant c.other.invariant
    (checked.same ∙ c.join_seat.ensures.2) (rw checked.same checked.was_apart) c.take_slots.ensures numbers

-- the two desks were apart, as the look right after tells
apart : (c : goal.After-drop-numbers) → AreApart c.desk.inside.seat.me.0 c.other.inside.seat.me.0
apart c =
    let checked = c.load.ensures.2 in
    let joined = ap (λ (m : Me (Unit {0}) View). m.0) c.join_seat.ensures.2 in
    told c.desk.inside.seat.me.0 c.other.inside.seat.me.0 c.join_seat.new.seat.me.0 c.desk.invariant.wide c.other.invariant.wide joined checked.within checked.was_apart

pub returns-clause-told : goal.returns-clause-told
returns-clause-told c =
    let v : c.desk.inside.seat.me.0 ≡ c.args.desk.now.view = ap (λ (d : DeskState). d.view) c.desk.view_is in
    let other : c.other.inside.seat.me.0 ≡ c.args.other.view = ap (λ (d : DeskState). d.view) c.other.view_is in
    rw (← v, ← other) (apart c)

pub returns-clause-net : goal.returns-clause-net
returns-clause-net c =
    let v : c.desk.inside.seat.me.0 ≡ c.args.desk.now.view = ap (λ (d : DeskState). d.view) c.desk.view_is in
    let other : c.other.inside.seat.me.0 ≡ c.args.other.view = ap (λ (d : DeskState). d.view) c.other.view_is in
    let after = ap (λ (m : Me (Unit {0}) View). m.0) (c.load.ensures.2.same ∙ c.join_seat.ensures.2) in
    let sum : NetAdds (both c.desk.inside.seat.me.0 c.other.inside.seat.me.0) c.desk.inside.seat.me.0 c.other.inside.seat.me.0 = net_both c.desk.inside.seat.me.0 c.other.inside.seat.me.0 c.desk.invariant.wide c.other.invariant.wide (apart c).slots in
    rw (after, ← v, ← other) sum
