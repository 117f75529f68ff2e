use Rattle.hlr_workers.proofs.Common.{◌≡◌, ◌∙◌, ap, arith, length, parts_of, OwnersState}
use Rattle.hlr_workers.proofs.EngineLemmas.{all_idle, none_all}
use Rattle.hlr_workers.proofs.engine.bring_all_home.Goals as goal

pub returns-clause-home : goal.returns-clause-home
returns-clause-home g c =
    let b = c.bring_parts_home in
    let end : c.parts-end.result ≡ length (parts_of c.args.workers.now.register.regions) =
    c.parts-end.ensures.value ∙ ap (λ rs. length (parts_of rs)) (c.regions.ensures.value ∙ ap (λ (h : OwnersState). h.regions) c.register.ensures.value) in
    none_all c.args.workers.now b.new.workers b.ensures.brought.register c.rules.ensures.ruled _ end (λ q low. b.ensures.home q (omega arith) low)

pub returns-clause-jobs : goal.returns-clause-jobs
returns-clause-jobs g c =
    let b = c.bring_parts_home in
    let end : c.parts-end.result ≡ length (parts_of c.args.workers.now.register.regions) =
    c.parts-end.ensures.value ∙ ap (λ rs. length (parts_of rs)) (c.regions.ensures.value ∙ ap (λ (h : OwnersState). h.regions) c.register.ensures.value) in
    let none = none_all c.args.workers.now b.new.workers b.ensures.brought.register c.rules.ensures.ruled _ end (λ q low. b.ensures.home q (omega arith) low) in
    all_idle b.new.workers b.ensures.brought.kept.paired none c.rules.ensures.idle
