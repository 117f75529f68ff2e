use Rattle.tatp_actions.proofs.Common.{sym, ap, ◌∙◌, is_some, subscriber_key}
use Rattle.tatp_actions.proofs.StoredLemmas.{found_in, some_mapped}
use Rattle.tatp_actions.proofs.part.Part.has_subscriber.Goals as goal

pub returns-clause-value : goal.returns-clause-value
returns-clause-value g c =
    rw (← c.self.view_is) (c.is_some.ensures ∙ sym (some_mapped (λ r. r.now) c.get_s.result) ∙ ap is_some (found_in subscriber_key _ _ _ _ c.self.invariant.1.subscribers c.subscriber_key.ensures c.get_s.ensures.value))
