use Rattle.tatp_actions.proofs.Common.{map, ap, ◌∙◌, value_at, key_of, subscriber_key}
use Rattle.tatp_actions.proofs.ManyLemmas.{all_found}
use Rattle.tatp_actions.proofs.many.Part.copy_subscribers.Goals as goal

pub returns : goal.returns
returns c =
    let pairs = c.self.inside.rows.subscribers.rows in
    rw (← c.self.view_is)
    (c.copy_many.ensures ∙ ap (map (λ key. value_at key pairs)) (c.as_slice.ensures.value ∙ c.subscriber_keys-keys.ensures) ∙ all_found subscriber_key (λ s_id. key_of s_id 0 0) pairs c.args.s_ids.now c.self.invariant.1.subscribers)
