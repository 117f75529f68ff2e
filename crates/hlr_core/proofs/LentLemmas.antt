-- What is read where its row lies is a right step.
use Rattle.hlr_core.proofs.Common.{◌≡◌, refl, None, Result, IfOk, IfErr, MatchResult, Refusal, is_in_range, Action, RowReply, IsReadWhileOut, with_outs, IsRead, OwnersState, store_in, Store, IsStepWhileOut, register_with, IsRowStep, IsRowStepWhileOut, IsStep, given_number, reply_of, Event, Reply, Ok, Err, Some}
use Rattle.tatp_actions.specs.declared.action.RowReply.TheVariants as row_reply
use Rattle.hlr_core.specs.declared.event.Reply.TheVariants as reply
use Rattle.hlr_core.proofs.WhileOutLemmas.{own_step}
use Rattle.hlr_core.proofs.LaterLemmas.{each_owner}
use Rattle.hlr_core.proofs.RegisterLemmas.{asked_step}

-- what is read is a right step, which changes nothing
pub read_step : (act : Action) (store : Store) (answer : RowReply) → given_number act ≡ None → IsRead act store answer → IsRowStep (is_in_range act) (Some act) store (reply_of answer) store
read_step act store answer gives read = asked_step (is_in_range act) (Some act) act store store answer (reply_of answer) gives (refl, refl) read refl refl

-- so it is whatever the holdings that are out have become
answer_while_out : (act : Action) (h : OwnersState) → given_number act ≡ None → (answer : RowReply) → IsReadWhileOut act h answer → IsRowStepWhileOut (is_in_range act) (Some act) h (reply_of answer) h
answer_while_out act h gives answer read = λ ks later. read_step act (store_in (register_with h ks)) answer gives (read ks (each_owner h.owners (with_outs h.owners ks) later))

pub read_while_out : {A : Type 0} (act : Action) (h : OwnersState) → given_number act ≡ None → (reply_to : A → RowReply) (r : Result A Refusal)
    → MatchResult r (λ x. IsReadWhileOut act h (reply_to x)) (λ why. IsReadWhileOut act h (row_reply.Refused why))
    → MatchResult r (λ x. IsRowStepWhileOut (is_in_range act) (Some act) h (reply_of (reply_to x)) h) (λ why. IsRowStepWhileOut (is_in_range act) (Some act) h (reply.Refused why) h)
read_while_out act h gives reply_to (Ok x) read = answer_while_out act h gives (reply_to x) read
read_while_out act h gives reply_to (Err why) read = answer_while_out act h gives (row_reply.Refused why) read

-- and so as they were
pub read_own : {A : Type 0} (event : Event) (h : OwnersState) (reply_to : A → Reply) (r : Result A Refusal)
    → MatchResult r (λ x. IsStepWhileOut event h (reply_to x) h) (λ why. IsStepWhileOut event h (reply.Refused why) h)
    → IfOk r (λ x. IsStep event (store_in h) (reply_to x) (store_in h)) × IfErr r (λ why. IsStep event (store_in h) (reply.Refused why) (store_in h))
read_own event h reply_to (Ok x) right = (own_step event h h (reply_to x) refl right, tt)
read_own event h reply_to (Err why) right = (tt, own_step event h h (reply.Refused why) refl right)
