use Rattle.hlr_owners.proofs.Common.{refl, PartOwnerState, out_of, Part}
use Rattle.hlr_owners.proofs.WhileOutLemmas.{acted_while_out, refused_while_out}
use Rattle.hlr_owners.proofs.HomeLemmas.{owner_home}
use Rattle.hlr_owners.proofs.ListLemmas.{set_same}
use Rattle.hlr_owners.proofs.OutLemmas.{none_out}
use Rattle.hlr_owners.proofs.RegionOwnerLemmas.{owner_there, owner_within, exchanged, parts-kept, acted_answer, piece_answer, ruled_rows}
use Rattle.hlr_owners.proofs.owners.Owners.edit_in.Goals as goal
use Rattle.hlr_owners.proofs.owners.Owners.edit_in.Goals.{in-Part, in-Piece}

pub holding_mut-requires : goal.holding_mut-requires
holding_mut-requires g c =
    let at = rw (← c.self.view_is) at c.requires.owner in
    owner_home _ c.self.invariant.0 _ _ at c.in-Part.part_owner (rw c.in-Part.is at c.index_mut.ensures.value) (rw (← c.self.view_is) at c.requires.home)

pub edit-requires : goal.edit-requires
edit-requires g c =
    let at = rw (← c.self.view_is) at c.requires.owner in
    rw c.holding_mut.ensures.value (owner_within _ c.self.invariant.0 _ _ at (Part c.in-Part.part_owner) (rw c.in-Part.is at c.index_mut.ensures.value))

pub index_mut-requires : goal.index_mut-requires
index_mut-requires g c = rw c.self.inside.owners.ok.0 (owner_there _ c.self.invariant.0 _ _ (rw (← c.self.view_is) at c.requires.owner))

pub invariant_of-self : goal.invariant_of-self
invariant_of-self g c =
    let at = rw (← c.self.view_is) at c.requires.owner in
    let there = owner_there _ c.self.invariant.0 _ _ at in
    elim c.match-index_mut.branch [
      | in-Part w ↦
          let is = rw w.in-Part.is at c.index_mut.ensures.value in
          let done = rw w.holding_mut.ensures.value at w.edit.ensures in
          let m : PartOwnerState = record w.in-Part.part_owner { holding = w.edit.new.self } in
          rw (w.self-inside-is, parts-kept (λ (o : PartOwnerState). o.holding.desk) c.self.inside.owners.items _ w.in-Part.part_owner m done.desk.0 is)
          (exchanged _ c.self.invariant.0 _ w.in-Part.part_owner m is there done.range done.after, c.self.invariant.1, c.self.invariant.2)
      | in-Piece w ↦ rw (w.self-inside-is, set_same c.self.inside.owners.items _ _ c.index_mut.ensures.value) c.self.invariant
    ]

pub returns : goal.returns
returns g c =
    let at = rw (← c.self.view_is) at c.requires.owner in
    let there = owner_there _ c.self.invariant.0 _ _ at in
    elim c.match-index_mut.branch [
      | in-Part w ↦
          let is = rw w.in-Part.is at c.index_mut.ensures.value in
          let done = rw w.holding_mut.ensures.value at w.edit.ensures in
          let m : PartOwnerState = record w.in-Part.part_owner { holding = w.edit.new.self } in
          let was = owner_home _ c.self.invariant.0 _ _ at w.in-Part.part_owner is (rw (← c.self.view_is) at c.requires.home) in
          let desks = parts-kept (λ (o : PartOwnerState). o.holding.desk) c.self.inside.owners.items _ w.in-Part.part_owner m done.desk.0 is in
          rw (w.self-inside-is, w.result-is, ← c.self.view_is) (record {
            answer = acted_answer _ c.self.invariant.0 _ _ at w.in-Part.part_owner is m (g.E.Edit.action c.args.edit) _ refl done.outcome;
            store = rw desks refl;
            rows = ruled_rows _ (exchanged _ c.self.invariant.0 _ w.in-Part.part_owner m is there done.range done.after);
            same = refl;
            homes = parts-kept (λ (o : PartOwnerState). o.home) c.self.inside.owners.items _ w.in-Part.part_owner m refl is;
            outs = parts-kept out_of c.self.inside.owners.items _ w.in-Part.part_owner m (none_out _ _ was) is;
            while_out = acted_while_out _ c.self.invariant.0 (g.E.Edit.action c.args.edit) _ at w.in-Part.part_owner w.edit.new.self is was done.desk.0 _ done.outcome;
          })
      | in-Piece w ↦
          let is = rw w.in-Piece.is at c.index_mut.ensures.value in
          let told = rw w.to_action.ensures at w.moving.ensures in
          rw (w.self-inside-is, w.result-is, ← c.self.view_is, set_same c.self.inside.owners.items _ _ c.index_mut.ensures.value) (record {
            answer = piece_answer _ c.self.invariant.0 _ _ at _ is (g.E.Edit.action c.args.edit) _ told;
            store = refl;
            rows = ruled_rows _ c.self.invariant.0;
            same = refl;
            homes = refl;
            outs = refl;
            while_out = refused_while_out _ c.self.invariant.0 (g.E.Edit.action c.args.edit) _ at _ is _ told;
          })
    ]
