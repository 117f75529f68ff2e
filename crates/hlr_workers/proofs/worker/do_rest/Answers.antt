use Rattle.hlr_workers.proofs.Common.{◌≡◌, ◌∙◌, List, ap, sym, true, view, log, Log, Message}
use Rattle.hlr_workers.proofs.worker.do_rest.Goals as goal

pub pop_rest-requires-clause-both : goal.pop_rest-requires-clause-both
pop_rest-requires-clause-both g c =
    let both = c.loop.invariant.both in
    let sent : (view c.loop.pass).sent ≡ (view c.args.pass.now).sent = ap (λ (v : Log). v.sent) both in
    both ∙ ap (λ (messages : List Message). log true true messages (view c.loop.pass).got) (sym sent)

pub do_left-requires-clause-left : goal.do_left-requires-clause-left
do_left-requires-clause-left g c κs lives = ((view c.loop.pass).got, c.loop.invariant.work, c.in-Some-pop_rest.ensures.right)
