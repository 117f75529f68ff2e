use Rattle.tatp_actions.proofs.Common.{◌∙◌, subscriber_key}
use Rattle.tatp_actions.proofs.StoredLemmas.{found_in}
use Rattle.tatp_actions.proofs.part.Part.subscriber.Goals as goal

pub returns-clause-found : goal.returns-clause-found
returns-clause-found g c =
    rw (← c.self.view_is) (found_in subscriber_key _ _ _ _ c.self.invariant.1.subscribers c.subscriber_key.ensures (c.copied.ensures ∙ c.get_s.ensures.value))
