use Rattle.hlr_workers.proofs.Common.{desk_after}
use Rattle.hlr_workers.proofs.WorkersChangeLemmas.{applied, spare_after}
use Rattle.hlr_workers.proofs.workers.Workers.apply.Goals as goal

pub part_workers-requires : goal.part_workers-requires
part_workers-requires c =
    let did = c.apply-reply in
    (applied c.args.self.now c.self.inside.register c.self.inside.by_part.items c.self.view_is c.rules.ensures.ruled c.self.invariant c.args.event did.result did.new.self c.requires did.ensures.step did.ensures.homes).room

pub invariant_of-self : goal.invariant_of-self
invariant_of-self c =
    let did = c.apply-reply in
    rw c.part_workers.ensures
    (applied c.args.self.now c.self.inside.register c.self.inside.by_part.items c.self.view_is c.rules.ensures.ruled c.self.invariant c.args.event did.result did.new.self c.requires did.ensures.step did.ensures.homes).each

pub returns-clause-changed : goal.returns-clause-changed
returns-clause-changed c =
    let did = c.apply-reply in
    rw c.part_workers.ensures
    (applied c.args.self.now c.self.inside.register c.self.inside.by_part.items c.self.view_is c.rules.ensures.ruled c.self.invariant c.args.event did.result did.new.self c.requires did.ensures.step did.ensures.homes).now

pub returns-clause-spare : goal.returns-clause-spare
returns-clause-spare c =
    rw (← c.self.view_is) (spare_after c.args.event c.apply-reply.result c.self.inside.register c.apply-reply.new.self c.apply-reply.ensures.homes)

pub returns-clause-desk : goal.returns-clause-desk
returns-clause-desk c = rw (← c.self.view_is) (desk_after c.args.event c.apply-reply.result c.self.inside.register c.apply-reply.new.self c.apply-reply.ensures.homes)
