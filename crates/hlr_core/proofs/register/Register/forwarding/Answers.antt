use Rattle.hlr_core.proofs.Common.{◌≡◌, ◌∙◌, sym, true, is_start_time, between_ok, both_from, LAST_SUBSCRIBER, with_outs, is_typed, ◌&&◌}
use Rattle.hlr_core.proofs.LaterLemmas.{each_owner}
use Rattle.hlr_core.proofs.register.Register.forwarding.Goals.{After-forwarding}
use Rattle.hlr_core.proofs.register.Register.forwarding.Goals as goal

-- the fields in range are those that were given
same : (c : After-forwarding) → (c.in_ok-s_id.s_id ≡ c.args.s_id) × (c.in_ok-sf_type.sf_type ≡ c.args.sf_type)
same c = ((between_ok 1 LAST_SUBSCRIBER c.args.s_id c.in_ok-s_id.s_id c.in_ok-s_id.ensures).0, (between_ok 1 4 c.args.sf_type c.in_ok-sf_type.sf_type c.in_ok-sf_type.ensures).0)

typed : (c : After-forwarding) → is_typed c.args.s_id c.args.sf_type ≡ true
typed c = both_from _ _ (between_ok 1 LAST_SUBSCRIBER c.args.s_id c.in_ok-s_id.s_id c.in_ok-s_id.ensures).1 (between_ok 1 4 c.args.sf_type c.in_ok-sf_type.sf_type c.in_ok-sf_type.ensures).1

fits : (c : After-forwarding) → (is_typed c.args.s_id c.args.sf_type && is_start_time c.args.start_time) ≡ true
fits c = both_from _ _ (typed c) (sym c.is_start_time.ensures ∙ c.if-not-is_start_time.false)

pub returns-clause-value : goal.returns-clause-value
returns-clause-value c = rw (fits c, ← (same c).0, ← (same c).1, ← c.self.view_is) c.forwarding.ensures.value

pub returns-clause-while_out : goal.returns-clause-while_out
returns-clause-while_out c =
    rw (fits c, ← (same c).0, ← (same c).1, ← c.self.view_is) (λ ks later. c.forwarding.ensures.while_out ks (each_owner c.self.inside.owners.owners (with_outs c.self.inside.owners.owners ks) later))
