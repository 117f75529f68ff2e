use Rattle.hlr_owners.proofs.Common.{◌∙◌, sym, refl, PartOwnerState, out_of}
use Rattle.hlr_owners.proofs.WhileOutLemmas.{none_posted_while_out, posted_while_out}
use Rattle.hlr_owners.proofs.OutLemmas.{none_out}
use Rattle.hlr_owners.proofs.PartLemmas.{part_has_place, owner_is_part, part_is_home}
use Rattle.hlr_owners.proofs.PostedLemmas.{none_posted, posted_before, posted_desks, posted_ruled, posted_right}
use Rattle.hlr_owners.proofs.RegionOwnerLemmas.{parts-kept}
use Rattle.hlr_owners.proofs.owners.Owners.post.Goals as goal

pub returns-in_default : goal.returns-in_default
returns-in_default c = rw (← c.self.view_is) (record {
  posted = none_posted _ c.self.invariant.0 c.args.part c.args.limit (sym c.in_default.ensures);
  same = refl;
  homes = refl;
  outs = refl;
  while_out = none_posted_while_out _ c.self.invariant.0 c.args.part c.args.limit (sym c.in_default.ensures);
})

pub index_mut-requires : goal.index_mut-requires
index_mut-requires c = rw c.self.inside.owners.ok.0 (part_has_place _ c.self.invariant.0 c.args.part _ (sym c.index_of_part.ensures ∙ c.in-Some.is))

pub unreachable-requires : goal.unreachable-requires
unreachable-requires c = owner_is_part _ c.self.invariant.0 c.args.part _ (sym c.index_of_part.ensures ∙ c.in-Some.is) c.in-Piece.field-0 (rw c.in-Piece.is at c.index_mut.ensures.value)

pub holding_mut-requires : goal.holding_mut-requires
holding_mut-requires c =
    part_is_home _ c.self.invariant.0 c.args.part _ (sym c.index_of_part.ensures ∙ c.in-Some.is) c.in-Part.part_owner (rw c.in-Part.is at c.index_mut.ensures.value) (rw (← c.self.view_is) at c.requires.home)

pub post-requires : goal.post-requires
post-requires c =
    rw c.holding_mut.ensures.value (posted_before _ c.self.invariant.0 _ c.self.invariant.1 c.args.part _ (sym c.index_of_part.ensures ∙ c.in-Some.is) c.in-Part.part_owner (rw c.in-Part.is at c.index_mut.ensures.value) ∙ sym c.deref.ensures)

pub invariant_of-self : goal.invariant_of-self
invariant_of-self c =
    let is = rw c.in-Part.is at c.index_mut.ensures.value in
    let index = sym c.index_of_part.ensures ∙ c.in-Some.is in
    let done = rw c.holding_mut.ensures.value at c.post.ensures in
    let m : PartOwnerState = record c.in-Part.part_owner { holding = c.post.new.self } in
    let ruled = posted_ruled _ c.self.invariant.0 _ c.self.invariant.1 c.args.part _ index c.in-Part.part_owner is m c.args.limit c.post.result done.before done.posted done.part done.desk done.after in
    let desks = posted_desks _ c.self.invariant.0 _ c.self.invariant.1 c.args.part _ index c.in-Part.part_owner is m c.args.limit c.post.result done.before done.posted done.part done.desk in
    (ruled, desks, c.self.invariant.2)

pub returns : goal.returns
returns c =
    let index = sym c.index_of_part.ensures ∙ c.in-Some.is in
    let is = rw c.in-Part.is at c.index_mut.ensures.value in
    let was = part_is_home _ c.self.invariant.0 c.args.part _ index c.in-Part.part_owner is (rw (← c.self.view_is) at c.requires.home) in
    let done = rw c.holding_mut.ensures.value at c.post.ensures in
    let m : PartOwnerState = record c.in-Part.part_owner { holding = c.post.new.self } in
    rw (← c.self.view_is) (record {
      posted = posted_right _ c.self.invariant.0 _ c.self.invariant.1 c.args.part _ index c.in-Part.part_owner is m c.args.limit c.post.result done.before done.posted done.part done.desk;
      same = refl;
      homes = parts-kept (λ (o : PartOwnerState). o.home) c.self.inside.owners.items _ c.in-Part.part_owner m refl is;
      outs = parts-kept out_of c.self.inside.owners.items _ c.in-Part.part_owner m (none_out _ _ was) is;
      while_out = posted_while_out _ c.self.invariant.0 _ c.self.invariant.1 c.args.part _ index c.in-Part.part_owner is was c.post.new.self c.args.limit c.post.result done.before done.posted done.part done.desk;
    })
