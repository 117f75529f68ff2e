use Rattle.hlr_owners.proofs.Common.{◌∙◌, sym, false, PartOwnerState}
use Rattle.hlr_owners.proofs.PartLemmas.{part_has_place, owner_is_part, none_home, at_number}
use Rattle.hlr_owners.proofs.owners.Owners.at_home.Goals as goal

pub returns-in_default : goal.returns-in_default
returns-in_default c = rw (← c.self.view_is) (sym (none_home _ c.self.invariant.0 c.args.part (rw c.from.ensures at (sym c.in_default.ensures))))

pub index-requires : goal.index-requires
index-requires c = rw c.self.inside.owners.ok.0 (part_has_place _ c.self.invariant.0 c.args.part _ (rw c.from.ensures at (sym c.index_of_part.ensures ∙ c.in-Some.is)))

pub unreachable-requires : goal.unreachable-requires
unreachable-requires c = owner_is_part _ c.self.invariant.0 c.args.part _ (rw c.from.ensures at (sym c.index_of_part.ensures ∙ c.in-Some.is)) c.in-Piece.field-0 (rw c.in-Piece.is at c.index.ensures)

pub returns : goal.returns
returns c =
    rw (← c.self.view_is) (c.is_home.ensures ∙ (at_number _ c.self.invariant.0 c.args.part _ (rw c.from.ensures at (sym c.index_of_part.ensures ∙ c.in-Some.is)) (λ (o : PartOwnerState). o.home) c.in-Part.part_owner (rw c.in-Part.is at c.index.ensures) false).1)
