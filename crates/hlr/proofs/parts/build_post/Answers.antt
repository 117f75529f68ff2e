use Rattle.hlr.proofs.Common.{rules}
use Rattle.hlr.proofs.parts.build_post.Goals as goal

pub returns-in-Ok-clause-text : goal.returns-in-Ok-clause-text
returns-in-Ok-clause-text c = record { text = _; answer = search rules; grew = c.build_reply.ensures }

pub returns-in-Err-clause-text : goal.returns-in-Err-clause-text
returns-in-Err-clause-text c = record { text = _; answer = search rules; grew = c.build_refused.ensures }
