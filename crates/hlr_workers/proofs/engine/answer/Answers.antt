use Rattle.hlr_workers.proofs.Common.{◌≡◌, ◌∙◌, ℕ, arith, length, subst, OwnersState, IsRightNow, IsRouted, job_of, To, IsSentTo}
use Rattle.hlr_core.specs.declared.event.Reply.TheVariants as reply
use Rattle.hlr_workers.proofs.EngineLemmas.{few_jobs, part_there, sent_after, told_after}
use Rattle.hlr_workers.proofs.engine.answer.Goals as goal

pub send-requires-clause-there : goal.send-requires-clause-there
send-requires-clause-there g c κs within =
    let to : IsRouted c.args.event c.args.workers.now.register (To c.in-To.part (job_of c.in-To.task)) = subst (λ (h : OwnersState). IsRouted c.args.event h (To c.in-To.part (job_of c.in-To.task))) c.register.ensures.value c.in-To.ensures in
    part_there c.args.workers.now c.args.replies.now.items c.requires.kept c.register.ensures.ruled c.in-To.part to.0

pub send-requires-clause-room : goal.send-requires-clause-room
send-requires-clause-room g c κs within =
    omega (arith, few_jobs c.args.workers.now c.args.replies.now.items c.requires.kept c.in-To.part, c.requires.room)

pub returns-in-Refused-clause-answered : goal.returns-in-Refused-clause-answered
returns-in-Refused-clause-answered g c =
    told_after _ _ c.requires.kept c.args.event (reply.Refused c.in-Refused.why)
    (subst (λ (h : OwnersState). IsRightNow c.args.event h (reply.Refused c.in-Refused.why)) c.register.ensures.value c.in-Refused.ensures.0)

pub returns-in_ok-send-in-To-clause-answered : goal.returns-in_ok-send-in-To-clause-answered
returns-in_ok-send-in-To-clause-answered g c =
    let to : IsRouted c.args.event c.args.workers.now.register (To c.in-To.part (job_of c.in-To.task)) = subst (λ (h : OwnersState). IsRouted c.args.event h (To c.in-To.part (job_of c.in-To.task))) c.register.ensures.value c.in-To.ensures in
    let number : c.len-number.result ≡ length c.args.replies.now.items = c.len-number.ensures ∙ c.args.replies.now.ok.0 in
    let sent = subst (λ (n : ℕ). IsSentTo c.in-To.part (n, (job_of c.in-To.task)) c.args.workers.now c.send.new.self) number (rw c.in_ok-send-in-To.was at c.send.ensures.sent) in
    sent_after c.args.workers.now c.args.replies.now c.requires.kept c.register.ensures.ruled c.in-To.part c.args.event (job_of c.in-To.task) to.1 to.3 c.blank.result c.send.new.self sent
