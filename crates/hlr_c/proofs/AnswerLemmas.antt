-- Answers to what waits for a part, and to what is refused without it.
use Rattle.hlr_c.proofs.Common.{◌≡◌, ◌∙◌, ap, sym, refl, ℕ, Ok, Err, inl, inr, Result, code_of, Refusal, OwnersState, Event, Reply, IsAnswer, IsAway, IsAwayCode, IsHomeTo, code_told, AWAY}
use Rattle.hlr_core.specs.declared.event.Reply.TheVariants as reply

-- the code alone answers a change
pub away_code : (event : Event) (h : OwnersState) (code : ℕ) → IsAwayCode event h code → IsAnswer (Ok event) code_told AWAY h code h
away_code event h code is = elim is [
  | inl out ↦ inl (out.0, out.1, refl)
  | inr known ↦ inr (known.0, reply.Refused known.1, known.2, known.3)
]

-- the refusal of a field answers what asks by it
pub refused_code : (asked : Result Event Refusal) (why : Refusal) (h : OwnersState) (code : ℕ) → asked ≡ Err why → code ≡ code_of why → IsAnswer asked code_told AWAY h code h
refused_code asked why h code is coded = rw is (inr ((λ waits. waits), reply.Refused why, (refl, refl), coded))

pub refused_told : {X : Type 0} (asked : Result Event Refusal) (told : Reply → ℕ × X) (before : X) (why : Refusal) (h : OwnersState) (code : ℕ)
    → told (reply.Refused why) ≡ (code_of why, before) → asked ≡ Err why → code ≡ code_of why → IsAnswer asked told (AWAY, before) h (code, before) h
refused_told asked told before why h code refused is coded =
    rw is (inr ((λ waits. waits), reply.Refused why, (refl, refl), ap (λ n. (n, before)) coded ∙ sym refused))

-- what finds the parts at home on which it works doesn't wait
pub waits_not : (event : Event) (h : OwnersState) → IsHomeTo event h → IsAway event h → ⊥
waits_not event h home away = away.out home
