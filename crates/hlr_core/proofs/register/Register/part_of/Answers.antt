use Rattle.hlr_core.proofs.Common.{◌∙◌, arith, sym}
use Rattle.hlr_core.proofs.PartsLemmas.{nobody_home, none_home}
use Rattle.hlr_core.proofs.register.Register.part_of.Goals as goal

pub returns-in_default-clause-home : goal.returns-in_default-clause-home
returns-in_default-clause-home c = λ h are regions.
    (λ none. nobody_home h are c.args.s_id c.in_default.field-0 (sym c.in_default.is ∙ c.in_range.ensures), λ home. none_home (record { first = 0; end = 0 }) h (omega arith))
