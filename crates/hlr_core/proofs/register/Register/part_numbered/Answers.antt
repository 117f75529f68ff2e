use Rattle.hlr_core.proofs.Common.{◌≤◌, arith, length, parts_of}
use Rattle.hlr_core.proofs.PartsLemmas.{none_home, past_home}
use Rattle.hlr_core.proofs.register.Register.part_numbered.Goals as goal

pub returns-then-part-from-clause-home : goal.returns-then-part-from-clause-home
returns-then-part-from-clause-home c = λ h are regions.
    let count : length (parts_of h.regions) ≤ c.args.part =
    rw regions (rw (← c.self.view_is, ← c.parts.ensures.value, ← c.from.ensures) c.if-part-from.true) in
    (λ none. past_home h are c.args.part count, λ home. none_home (record { first = 0; end = 0 }) h (omega arith))
