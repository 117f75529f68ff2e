use Rattle.tatp_actions.proofs.Common.{map, ap, ◌∙◌, value_at, key_of, access_key}
use Rattle.tatp_actions.proofs.ManyLemmas.{all_found}
use Rattle.tatp_actions.proofs.many.Part.copy_access.Goals as goal

pub returns : goal.returns
returns c =
    let pairs = c.self.inside.rows.access.rows in
    rw (← c.self.view_is)
    (c.copy_many.ensures ∙ ap (map (λ key. value_at key pairs)) (c.as_slice.ensures.value ∙ c.access_keys-keys.ensures) ∙ all_found access_key (λ a. key_of a.0 a.1 0) pairs c.args.asked.now c.self.invariant.1.access)
