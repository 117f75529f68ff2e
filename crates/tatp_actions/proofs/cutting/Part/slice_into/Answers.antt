use Rattle.tatp_actions.proofs.Common.{◌∙◌, ap, low_part, high_part}
use Rattle.tatp_actions.proofs.CutTablesLemmas.{base_of_subscriber, low_is, low_holds, high_is, high_holds}
use Rattle.tatp_actions.proofs.StoredLemmas.{own_heights}
use Rattle.tatp_actions.proofs.cutting.Part.slice_into.Goals as goal

pub cut_into-steps-requires-clause-key : goal.cut_into-steps-requires-clause-key
cut_into-steps-requires-clause-key c = base_of_subscriber _ c.args.at c.subscriber_key.ensures

pub invariant_of-self : goal.invariant_of-self
invariant_of-self c =
    let high = rw c.in-Low.is at c.cut_into-steps.ensures.kept in
    high_holds _ _ _ _ _ _ _ _ _ _ c.self.view_is c.self.invariant c.requires.inside c.subscriber_key.ensures high _ _

pub invariant_of-given : goal.invariant_of-given
invariant_of-given c =
    let low = rw c.in-Low.is at c.cut_into-steps.ensures.given in
    low_holds _ _ _ _ _ _ _ _ _ _ c.self.view_is c.self.invariant c.requires.inside c.subscriber_key.ensures low _ _

pub returns-in-Low-clause-given : goal.returns-in-Low-clause-given
returns-in-Low-clause-given c =
    let low = rw c.in-Low.is at c.cut_into-steps.ensures.given in
    rw c.in-Low.is (own_heights _ (record (low_part c.args.at c.args.self.now) { asked = 0; steps = 0 }) _
    (low_is _ _ _ _ _ _ _ _ _ _ c.self.view_is c.self.invariant c.requires.inside c.subscriber_key.ensures low _ _ _ c.cut_into-steps.ensures.given_asked))

pub returns-in-Low-clause-kept : goal.returns-in-Low-clause-kept
returns-in-Low-clause-kept c =
    let high = rw c.in-Low.is at c.cut_into-steps.ensures.kept in
    let asked = c.cut_into-steps.ensures.asked ∙ ap (λ part. part.asked) c.self.view_is in
    rw c.in-Low.is (high_is _ _ _ _ _ _ _ _ _ _ c.self.view_is c.self.invariant c.requires.inside c.subscriber_key.ensures high _ _ _ asked)

pub returns-in-Low-clause-after : goal.returns-in-Low-clause-after
returns-in-Low-clause-after c =
    let high = rw c.in-Low.is at c.cut_into-steps.ensures.kept in
    (high_holds _ _ _ _ _ _ _ _ _ _ c.self.view_is c.self.invariant c.requires.inside c.subscriber_key.ensures high _ _).0

pub returns-in-Low-clause-rules : goal.returns-in-Low-clause-rules
returns-in-Low-clause-rules c =
    let low = rw c.in-Low.is at c.cut_into-steps.ensures.given in
    (low_holds _ _ _ _ _ _ _ _ _ _ c.self.view_is c.self.invariant c.requires.inside c.subscriber_key.ensures low _ _).0

pub invariant_of-self-in-High : goal.invariant_of-self-in-High
invariant_of-self-in-High c =
    let low = rw c.in-High.is at c.cut_into-steps.ensures.kept in
    low_holds _ _ _ _ _ _ _ _ _ _ c.self.view_is c.self.invariant c.requires.inside c.subscriber_key.ensures low _ _

pub invariant_of-given-in-High : goal.invariant_of-given-in-High
invariant_of-given-in-High c =
    let high = rw c.in-High.is at c.cut_into-steps.ensures.given in
    high_holds _ _ _ _ _ _ _ _ _ _ c.self.view_is c.self.invariant c.requires.inside c.subscriber_key.ensures high _ _

pub returns-in-High-clause-given : goal.returns-in-High-clause-given
returns-in-High-clause-given c =
    let high = rw c.in-High.is at c.cut_into-steps.ensures.given in
    rw c.in-High.is (own_heights _ (record (high_part c.args.at c.args.self.now) { asked = 0; steps = 0 }) _
    (high_is _ _ _ _ _ _ _ _ _ _ c.self.view_is c.self.invariant c.requires.inside c.subscriber_key.ensures high _ _ _ c.cut_into-steps.ensures.given_asked))

pub returns-in-High-clause-kept : goal.returns-in-High-clause-kept
returns-in-High-clause-kept c =
    let low = rw c.in-High.is at c.cut_into-steps.ensures.kept in
    let asked = c.cut_into-steps.ensures.asked ∙ ap (λ part. part.asked) c.self.view_is in
    rw c.in-High.is (low_is _ _ _ _ _ _ _ _ _ _ c.self.view_is c.self.invariant c.requires.inside c.subscriber_key.ensures low _ _ _ asked)

pub returns-in-High-clause-after : goal.returns-in-High-clause-after
returns-in-High-clause-after c =
    let low = rw c.in-High.is at c.cut_into-steps.ensures.kept in
    (low_holds _ _ _ _ _ _ _ _ _ _ c.self.view_is c.self.invariant c.requires.inside c.subscriber_key.ensures low _ _).0

pub returns-in-High-clause-rules : goal.returns-in-High-clause-rules
returns-in-High-clause-rules c =
    let high = rw c.in-High.is at c.cut_into-steps.ensures.given in
    (high_holds _ _ _ _ _ _ _ _ _ _ c.self.view_is c.self.invariant c.requires.inside c.subscriber_key.ensures high _ _).0
