use Rattle.std.proofs.Common.{refl, sym}
use Rattle.std.proofs.lemmas.List.{append-nil}
use Rattle.hlr_core.proofs.HomeLemmas.{still_home}
use Rattle.hlr_owners.proofs.HomeLemmas.{cut_home_of_all}
use Rattle.hlr_core.specs.declared.order.Answer.TheVariants as answer
use Rattle.hlr_core.specs.declared.order.Order.TheVariants as order
use Rattle.hlr_kept.proofs.UnderWayLemmas.{carried, carried_ready}
use Rattle.hlr_kept.proofs.journaled.Journaled.recut_to.Goals as goal

pub recut_to-requires : goal.recut_to-requires
recut_to-requires g c = cut_home_of_all c.args.bounds.now c.args.self.now.register c.requires.ready.home

pub returns-clause-ready : goal.returns-clause-ready
returns-clause-ready g c =
    carried_ready g.D.Device.seen g.D.Device.may_leave c.args.self.now _ (order.Recut (record { items = c.args.bounds.now })) (answer.Recut c.recut_to.result) refl refl
    c.recut_to.ensures.recut (λ done. absurd cc) (sym (append-nil c.args.self.now.journal.group.items))
    (still_home c.args.self.now.register c.recut_to.new.self c.recut_to.ensures.homes c.requires.ready.home) c.requires.ready

pub returns-clause-ahead : goal.returns-clause-ahead
returns-clause-ahead g c =
    carried g.D.Device.seen g.D.Device.may_leave c.args.self.now _ (order.Recut (record { items = c.args.bounds.now })) (answer.Recut c.recut_to.result) refl refl
    c.recut_to.ensures.recut (λ done. absurd cc) (sym (append-nil c.args.self.now.journal.group.items))
