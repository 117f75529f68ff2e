use Rattle.hlr_workers.proofs.EngineLemmas.{looked_stands}
use Rattle.hlr_workers.proofs.engine.Engine.sight.Goals as goal

pub returns-clause-stands : goal.returns-clause-stands
returns-clause-stands g c = rw (← c.self.view_is, c.look.ensures.seen, c.offer.ensures) (looked_stands c.self.inside.workers c.self.inside.replies.items c.look.result.words)
