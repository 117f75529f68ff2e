use Rattle.hlr_owners.proofs.Common.{◌≡◌, ◌∙◌, refl, sym, ap, true, false, HoldingState, PartOwnerState}
use Rattle.hlr_owners.proofs.LendLemmas.{lent_from, lent_states}
use Rattle.hlr_owners.proofs.PartLemmas.{part_has_place, owner_is_part, none_home, at_number, get_number, set_number, part_within}
use Rattle.hlr_owners.proofs.PostedLemmas.{posted_before}
use Rattle.hlr_owners.proofs.RegionOwnerLemmas.{exchanged, parts-kept}
use Rattle.hlr_owners.proofs.owners.Owners.lend.Goals as goal

pub unreachable-requires : goal.unreachable-requires
unreachable-requires c =
    let none = none_home _ c.self.invariant.0 c.args.part (rw c.from.ensures at (sym c.in_default.ensures)) in
    let no : false ≡ true = sym none ∙ rw (← c.self.view_is) at c.requires in
    cc

pub index_mut-requires : goal.index_mut-requires
index_mut-requires c = rw c.self.inside.owners.ok.0 (part_has_place _ c.self.invariant.0 c.args.part _ (rw c.from.ensures at (sym c.index_of_part.ensures ∙ c.in-Some.is)))

pub lend-requires : goal.lend-requires
lend-requires c =
    let home = rw (← c.self.view_is) at c.requires in
    (at_number _ c.self.invariant.0 c.args.part _ (rw c.from.ensures at (sym c.index_of_part.ensures ∙ c.in-Some.is)) (λ (o : PartOwnerState). o.home) c.in-Part.part_owner (rw c.in-Part.is at c.index_mut.ensures.value) false).1 ∙ home

pub unreachable-requires-in-Piece : goal.unreachable-requires-in-Piece
unreachable-requires-in-Piece c = owner_is_part _ c.self.invariant.0 c.args.part _ (rw c.from.ensures at (sym c.index_of_part.ensures ∙ c.in-Some.is)) c.in-Piece.field-0 (rw c.in-Piece.is at c.index_mut.ensures.value)

pub invariant_of-self : goal.invariant_of-self
invariant_of-self c =
    let same = ap (λ (m : PartOwnerState). m.holding) c.lend.ensures.owner in
    let keeps = rw c.lend.ensures.holding at c.lend.ensures.rules in
    let there = part_has_place _ c.self.invariant.0 c.args.part _ (rw c.from.ensures at (sym c.index_of_part.ensures ∙ c.in-Some.is)) in
    rw (parts-kept (λ (o : PartOwnerState). o.holding.desk) c.self.inside.owners.items _ c.in-Part.part_owner c.lend.new.self (ap (λ (k : HoldingState). k.desk) same) (rw c.in-Part.is at c.index_mut.ensures.value)) (
      exchanged _ c.self.invariant.0 _ c.in-Part.part_owner c.lend.new.self (rw c.in-Part.is at c.index_mut.ensures.value) there
          (ap (λ (k : HoldingState). k.part.lo) same, ap (λ (k : HoldingState). k.part.hi) same, ap (λ (k : HoldingState). k.part.width) same) (rw same keeps),
      c.self.invariant.1,
      c.self.invariant.2,
    )

pub returns : goal.returns
returns c =
    let at = rw c.from.ensures at (sym c.index_of_part.ensures ∙ c.in-Some.is) in
    let is = rw c.in-Part.is at c.index_mut.ensures.value in
    let there = part_has_place _ c.self.invariant.0 c.args.part _ at in
    let home = (at_number _ c.self.invariant.0 c.args.part _ at (λ (o : PartOwnerState). o.home) c.in-Part.part_owner is false).1 ∙ rw (← c.self.view_is) at c.requires in
    let same = ap (λ (m : PartOwnerState). m.holding) c.lend.ensures.owner in
    let states = lent_states c.self.inside.owners.items _ c.in-Part.part_owner c.lend.new.self is same in
    let desks = parts-kept (λ (o : PartOwnerState). o.holding.desk) c.self.inside.owners.items _ c.in-Part.part_owner c.lend.new.self (ap (λ (k : HoldingState). k.desk) same) is in
    rw (← c.self.view_is) (record {
      lent = lent_from _ c.args.part c.in-Some.i c.in-Part.part_owner c.lend.new.self c.lend.result.value at there is c.lend.ensures.holding home c.lend.ensures.owner;
      holding = rw c.lend.ensures.holding (get_number _ c.self.invariant.0 c.args.part _ at (λ (o : PartOwnerState). o.holding) c.in-Part.part_owner is);
      away = rw (← ap (λ (m : PartOwnerState). m.home) c.lend.ensures.owner) (set_number _ c.self.invariant.0 c.args.part _ at (λ (o : PartOwnerState). o.home) c.in-Part.part_owner is c.lend.new.self);
      holdings = parts-kept (λ (o : PartOwnerState). o.holding) c.self.inside.owners.items _ c.in-Part.part_owner c.lend.new.self same is;
      states = states;
      store = rw (states, desks) refl;
      same = refl;
      board = rw c.lend.ensures.holding (posted_before _ c.self.invariant.0 _ c.self.invariant.1 c.args.part _ at c.in-Part.part_owner is ∙ sym c.self.invariant.1.of_board.0.same);
      within = λ s_id placed. rw c.lend.ensures.holding (part_within _ c.self.invariant.0 c.args.part _ at s_id c.in-Part.part_owner is placed);
      rules = c.lend.ensures.rules;
    })
