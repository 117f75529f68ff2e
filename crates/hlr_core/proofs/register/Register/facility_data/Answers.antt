use Rattle.hlr_core.proofs.Common.{◌≡◌, true, between_ok, both_from, LAST_SUBSCRIBER, with_outs, is_typed}
use Rattle.hlr_core.proofs.LaterLemmas.{each_owner}
use Rattle.hlr_core.proofs.register.Register.facility_data.Goals.{After-facility}
use Rattle.hlr_core.proofs.register.Register.facility_data.Goals as goal

-- the fields in range are those that were given
same : (c : After-facility) → (c.in_ok-s_id.s_id ≡ c.args.s_id) × (c.in_ok-sf_type.sf_type ≡ c.args.sf_type)
same c = ((between_ok 1 LAST_SUBSCRIBER c.args.s_id c.in_ok-s_id.s_id c.in_ok-s_id.ensures).0, (between_ok 1 4 c.args.sf_type c.in_ok-sf_type.sf_type c.in_ok-sf_type.ensures).0)

typed : (c : After-facility) → is_typed c.args.s_id c.args.sf_type ≡ true
typed c = both_from _ _ (between_ok 1 LAST_SUBSCRIBER c.args.s_id c.in_ok-s_id.s_id c.in_ok-s_id.ensures).1 (between_ok 1 4 c.args.sf_type c.in_ok-sf_type.sf_type c.in_ok-sf_type.ensures).1

pub returns-clause-value : goal.returns-clause-value
returns-clause-value c = rw (typed c, ← (same c).0, ← (same c).1, ← c.self.view_is) c.facility.ensures.value

pub returns-clause-while_out : goal.returns-clause-while_out
returns-clause-while_out c =
    rw (typed c, ← (same c).0, ← (same c).1, ← c.self.view_is) (λ ks later. c.facility.ensures.while_out ks (each_owner c.self.inside.owners.owners (with_outs c.self.inside.owners.owners ks) later))
