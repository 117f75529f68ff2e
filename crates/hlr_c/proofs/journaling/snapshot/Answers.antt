use mir.Syntax.{w32}
use Rattle.std.specs.Prelude.{ℤ}
use Rattle.std.proofs.lemmas.Int.{to_z-of_z}
use Rattle.hlr_c.proofs.Common.{inl, refl, subst}
use Rattle.hlr_c.specs.Journaled.{IsSnapshotOf}
use Rattle.hlr_c.proofs.journaling.snapshot.Goals as goal

pub returns-in-Ok-clause-answer : goal.returns-in-Ok-clause-answer
returns-in-Ok-clause-answer c =
    let now = c.args.opened.now in let new = c.in-Ok.ensures.ok in
    inl (refl, c.in-Ok.ensures.register, new.0, new.1, subst (λ (f : ℤ). IsSnapshotOf f now.lender now.journal new.0) (to_z-of_z w32 c.args.fd c.ranges.fd) new.2)
