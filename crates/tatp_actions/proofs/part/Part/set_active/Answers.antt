use Rattle.tatp_actions.proofs.Common.{refl, sym, ◌∙◌, facility_at}
use Rattle.tatp_actions.proofs.AdministrationLemmas.{switch_stands, switch_done}
use Rattle.tatp_actions.proofs.part.Part.set_active.Goals as goal

pub returns-then-swap-up : goal.returns-then-swap-up
returns-then-swap-up g c =
    rw c.none.ensures
    (switch_stands c.args.self.now c.revise_facility.new.self c.args.s_id c.args.sf_type c.args.is_active (facility_at c.args.self.now.book c.args.s_id c.args.sf_type) c.revise_facility.new.revision
    c.revise_facility.ensures.rules c.requires (sym c.if-not-is_between.ensures) c.if-is_active-gt1.false refl (sym c.if-not-revise_facility.false ∙ c.revise_facility.ensures.found) c.revise_facility.ensures.spent c.if-swap-up.true c.revise_facility.ensures.kept
    c.revise_facility.ensures.asked)

pub returns : goal.returns
returns g c =
    switch_done c.args.self.now c.revise_facility.new.self _ _ _ c.args.s_id c.args.sf_type c.args.is_active (facility_at c.args.self.now.book c.args.s_id c.args.sf_type) c.revise_facility.new.revision
    (record { from_0 = c.forwarding_until-from_0.result; from_8 = c.forwarding_until-from_8.result; from_16 = c.forwarding_until-from_16.result }) _
    c.revise_facility.ensures.rules c.requires (sym c.if-not-is_between.ensures) c.ranges.sf_type.fits c.if-is_active-gt1.false refl (sym c.if-not-revise_facility.false ∙ c.revise_facility.ensures.found) c.revise_facility.ensures.spent c.if-swap-up.false
    c.revise_facility.ensures.kept c.revise_facility.ensures.asked c.forwarding_until-from_0.ensures.value c.forwarding_until-from_0.ensures.kept c.forwarding_until-from_8.ensures.value c.forwarding_until-from_8.ensures.kept
    c.forwarding_until-from_16.ensures.value c.forwarding_until-from_16.ensures.kept c.hours_moved.ensures
