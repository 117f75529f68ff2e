-- What a part that is out is asked for.
use Rattle.hlr_c.proofs.Common.{◌≡◌, ◌∙◌, ◌<◌, refl, ℕ, arith, length, get_or, Bool, true, false, Ok, Err, inl, get_or_default, Result, code_of, Refusal, Field, by_test, is_in_range, s_id_of, Action, parts_of, HoldingState, IsHolding, Act, PartOwnerState, AreOwners, IsPartHome, OwnersState, homes_in, count_parts, IsAskedAlone, IsJobDone, IsPartEdit, IsPartStep, has}
use Rattle.tatp_actions.specs.declared.action.RowReply.TheVariants as row_reply
use Rattle.hlr_core.specs.declared.event.Reply.TheVariants as reply

-- a field out of its range is refused as a job of the part would refuse it
field_job : (act : Action) (h : HoldingState) → IsHolding h → is_in_range act ≡ false → IsJobDone (Act act) h (reply.Refused Field) h
field_job act h rules misfit = record {
  rows = row_reply.Refused Field;
  outcome = inl (misfit, refl, refl);
  answered = refl;
  range = (refl, refl, refl);
  desk = (refl, refl);
  rules = rules;
}

refused_step : (here : Bool) (act : Action) (h g : HoldingState) (code : ℕ) → IsHolding h → is_in_range act ≡ false → code ≡ code_of Field → g ≡ h → IsPartStep here act h code g
refused_step true act h g code rules misfit is same = (reply.Refused Field, rw same (field_job act h rules misfit), is)
refused_step false act h g code rules misfit is same = (rw misfit is, same)

-- so a change is answered that asks by numbers, whether these have room or not
pub asked_edit : (act : Action) (asked : Result Action Refusal) (h : HoldingState) (code : ℕ) (g : HoldingState) → IsHolding h → IsAskedAlone act asked
    → IsPartEdit asked h code g → IsPartEdit (Ok act) h code g
asked_edit act (Ok other) h code g rules is done = let same : act ≡ other = (let one = is.0 in cc) in rw same done
asked_edit act (Err why) h code g rules is done = by_test (is_in_range act)
    (λ fits. absurd (rw fits at is))
    (λ misfit. let field : why ≡ Field = rw misfit at is in refused_step (has (s_id_of act) h) act h g code rules misfit (rw field at done.0) done.1)

-- a part that is there and counts as at home is at home
pub home_there : (h : OwnersState) → AreOwners h → (p : ℕ) → p < length (parts_of h.regions) → IsPartHome p h → get_or (homes_in h.owners) p false ≡ true
home_there h are p below home =
    let count = count_parts (λ (o : PartOwnerState). o.home) h.width h.regions h.owners are.each in
    get_or_default (homes_in h.owners) p false true (omega arith) ∙ home
