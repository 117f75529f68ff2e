use Rattle.hlr_core.proofs.Common.{◌≡◌, ◌≤◌, arith, length, parts_of}
use Rattle.hlr_core.proofs.PartsLemmas.{all_from, none_from, none_home}
use Rattle.hlr_core.proofs.register.Register.parts_from.Goals as goal

pub returns-then-part-from-clause-home : goal.returns-then-part-from-clause-home
returns-then-part-from-clause-home c = λ h are regions.
    let count : length (parts_of h.regions) ≤ c.args.part =
    rw regions (rw (← c.self.view_is, ← c.parts-end.ensures.value, ← c.from.ensures) c.if-part-from.true) in
    (λ none. none_from h are c.args.part count, λ home. none_home (record { first = 0; end = 0 }) h (omega arith))

pub returns-clause-home : goal.returns-clause-home
returns-clause-home c = λ h are regions.
    let count : c.parts-end.result ≡ length (parts_of h.regions) = rw (regions, ← c.self.view_is) c.parts-end.ensures.value in
    all_from (record { first = c.args.part; end = c.parts-end.result }) h are count
