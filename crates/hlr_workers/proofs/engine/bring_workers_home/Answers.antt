use Rattle.hlr_workers.proofs.Common.{◌∙◌, sym, ap, OwnersState}
use Rattle.hlr_workers.proofs.EngineLemmas.{here_by_id, part_home}
use Rattle.hlr_workers.proofs.engine.bring_workers_home.Goals as goal

pub returns-clause-home : goal.returns-clause-home
returns-clause-home g c =
    let b = c.bring_parts_home in
    let h = b.new.workers.register in
    let regions = ap (λ (g : OwnersState). g.regions) b.ensures.brought.register ∙ sym (ap (λ (g : OwnersState). g.regions) c.register.ensures.value) in
    (c.parts_for-parts.ensures.here (here_by_id c.args.event.now c.requires.here) h c.rules.ensures.ruled regions).0
    (λ q from low. part_home h.owners q (b.ensures.home q from low))
