use Rattle.hlr_lent.proofs.Common.{◌∙◌, refl, sym}
use Rattle.hlr_lent.proofs.EventLemmas.{nobody_home}
use Rattle.hlr_lent.proofs.lender.Lender.is_place_home.Goals as goal

pub returns-in_default : goal.returns-in_default
returns-in_default c =
    let home = nobody_home c.self.inside.register c.rules.ensures.ruled c.args.s_id c.in_default.field-0 (sym c.in_range.ensures ∙ c.in_default.is) in
    (λ yes. rw (← c.self.view_is) home, λ home. refl)
