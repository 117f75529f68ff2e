use Rattle.std.proofs.Common.{◌∙◌, refl, ap, List, ℕ, ◌++◌}
use Rattle.hlr_core.proofs.HomeLemmas.{home_after, home_to_all}
use Rattle.hlr_core.specs.declared.order.Answer.TheVariants as answer
use Rattle.hlr_core.specs.declared.order.Order.TheVariants as order
use Rattle.hlr_owners.specs.Owners.{store_in}
use Rattle.hlr_kept.specs.Runs.{line_bytes}
use Rattle.hlr_kept.proofs.EventLemmas.{done_changes}
use Rattle.hlr_kept.proofs.UnderWayLemmas.{carried, carried_ready, unchanged_ready}
use Rattle.hlr_kept.proofs.journaled.Journaled.apply.Goals as goal

pub returns-in_err-make_room-clause-ready : goal.returns-in_err-make_room-clause-ready
returns-in_err-make_room-clause-ready g c =
    let same = c.make_room.ensures.same in
    unchanged_ready g.D.Device.seen g.D.Device.may_leave c.args.self.now _ (record { register = refl; tape = same.tape; group = same.group; fault = same.fault }) c.requires.ready

pub apply-reply-requires : goal.apply-reply-requires
apply-reply-requires g c = home_to_all c.args.event c.args.self.now.register c.requires.ready.home

pub put-requires-clause-change : goal.put-requires-clause-change
put-requires-clause-change g c = λ done.
    done_changes c.args.event (store_in c.args.self.now.register) (store_in c.apply-reply.new.self) c.apply-reply.result done c.apply-reply.ensures.step

pub returns-clause-ready : goal.returns-clause-ready
returns-clause-ready g c =
    let same = c.make_room.ensures.same in
    let put = c.put.ensures.put in
    carried_ready g.D.Device.seen g.D.Device.may_leave c.args.self.now _ (order.Event c.args.event) (answer.Reply c.apply-reply.result)
    (put.tape ∙ same.tape) (put.fault ∙ same.fault) c.apply-reply.ensures.step c.put.ensures.fits
    (put.group ∙ ap (λ (g : List ℕ). g ++ line_bytes (order.Event c.args.event) (answer.Reply c.apply-reply.result)) same.group)
    (home_after c.args.event c.apply-reply.result c.args.self.now.register c.apply-reply.new.self c.apply-reply.ensures.homes c.requires.ready.home)
    c.requires.ready

pub returns-clause-ahead : goal.returns-clause-ahead
returns-clause-ahead g c =
    let same = c.make_room.ensures.same in
    let put = c.put.ensures.put in
    carried g.D.Device.seen g.D.Device.may_leave c.args.self.now _ (order.Event c.args.event) (answer.Reply c.apply-reply.result)
    (put.tape ∙ same.tape) (put.fault ∙ same.fault) c.apply-reply.ensures.step c.put.ensures.fits
    (put.group ∙ ap (λ (g : List ℕ). g ++ line_bytes (order.Event c.args.event) (answer.Reply c.apply-reply.result)) same.group)

pub returns-clause-tape : goal.returns-clause-tape
returns-clause-tape g c = c.put.ensures.put.tape ∙ c.make_room.ensures.same.tape
