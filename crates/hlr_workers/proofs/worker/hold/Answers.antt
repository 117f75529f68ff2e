use Rattle.hlr_workers.proofs.Common.{◌∙◌, ◌<◌, [], ◌∷◌, ◌++◌, ap, length, subst, sym, view, IsWithinJob, job_of, Sent, MOST_PENDING}
use Rattle.hlr_workers.proofs.WorkLemmas.{held_may, held_more}
use Rattle.hlr_workers.proofs.worker.hold.Goals as goal

pub returns-clause-may : goal.returns-clause-may
returns-clause-may g c =
    held_may (view c.make_room.new.pass) c.make_room.new.held c.make_room.ensures.may c.args.number c.args.task c.push.new.self c.push.ensures.items
    (subst (λ (s : Sent). IsWithinJob s.lent (job_of c.args.task)) (sym c.make_room.ensures.same) c.requires.within)
    (subst (λ (s : Sent). length s.jobs < MOST_PENDING) (sym c.make_room.ensures.same) c.requires.room)

pub returns-clause-lent : goal.returns-clause-lent
returns-clause-lent g c = ap (λ (s : Sent). s.lent) c.make_room.ensures.same

pub returns-clause-jobs : goal.returns-clause-jobs
returns-clause-jobs g c =
    let more = held_more (view c.make_room.new.pass) c.make_room.new.held c.make_room.ensures.may c.args.number c.args.task c.push.new.self c.push.ensures.items in
    ap (λ (s : Sent). s.jobs) more ∙ ap (λ (s : Sent). s.jobs ++ (c.args.number, job_of c.args.task) ∷ []) c.make_room.ensures.same
