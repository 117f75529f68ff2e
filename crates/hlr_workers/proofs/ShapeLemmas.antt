-- Messages in their shape: one more at the end, and what is known of it.
use Rattle.hlr_workers.proofs.Common.{◌≡◌, ◌∙◌, refl, sym, ap, ℕ, ◌≤◌, List, [], ◌∷◌, ◌++◌, length, arith, length-append, append_assoc, append-nil, ArrayVec, HoldingState, Job, AreJobs, AreWithin, IsInShape, IsStarted, IsWellSent, jobs_in, jobs_of, lent_of, Lent, Message, Begin, Do, Stop, Numbered}

-- jobs, and more of them, or that the thread is to end
jobs_more : (holding : HoldingState) (messages : List Message) (batch : ArrayVec Numbered) → AreWithin holding (jobs_in batch) → AreJobs holding messages → AreJobs holding (messages ++ Do batch ∷ [])
jobs_more holding [] batch within are = (within, tt)
jobs_more holding (Begin lent ∷ messages) batch within are = absurd are
jobs_more holding (Do own ∷ messages) batch within are = (are.0, jobs_more holding messages batch within are.1)
jobs_more holding (Stop ∷ messages) batch within are = jobs_more holding messages batch within are

jobs_end : (holding : HoldingState) (messages : List Message) → AreJobs holding messages → AreJobs holding (messages ++ Stop ∷ [])
jobs_end holding [] are = tt
jobs_end holding (Begin lent ∷ messages) are = absurd are
jobs_end holding (Do own ∷ messages) are = (are.0, jobs_end holding messages are.1)
jobs_end holding (Stop ∷ messages) are = jobs_end holding messages are

-- what comes first among jobs, and what comes then, are jobs
jobs_first : (holding : HoldingState) (messages rest : List Message) → AreJobs holding (messages ++ rest) → AreJobs holding messages
jobs_first holding [] rest are = tt
jobs_first holding (Begin lent ∷ messages) rest are = absurd are
jobs_first holding (Do own ∷ messages) rest are = (are.0, jobs_first holding messages rest are.1)
jobs_first holding (Stop ∷ messages) rest are = jobs_first holding messages rest are

jobs_then : (holding : HoldingState) (messages rest : List Message) → AreJobs holding (messages ++ rest) → AreJobs holding rest
jobs_then holding [] rest are = are
jobs_then holding (Begin lent ∷ messages) rest are = absurd are
jobs_then holding (Do own ∷ messages) rest are = jobs_then holding messages rest are.1
jobs_then holding (Stop ∷ messages) rest are = jobs_then holding messages rest are

-- the same of all that was sent
pub started_do : (messages : List Message) (batch : ArrayVec Numbered) → AreWithin (lent_of messages) (jobs_in batch) → IsStarted messages → IsStarted (messages ++ Do batch ∷ [])
started_do [] batch within is = absurd is
started_do (Begin lent ∷ messages) batch within is = jobs_more lent.holding.value messages batch within is
started_do (Do own ∷ messages) batch within is = absurd is
started_do (Stop ∷ messages) batch within is = absurd is

pub started_stop : (messages : List Message) → IsStarted messages → IsStarted (messages ++ Stop ∷ [])
started_stop [] is = absurd is
started_stop (Begin lent ∷ messages) is = jobs_end lent.holding.value messages is
started_stop (Do own ∷ messages) is = absurd is
started_stop (Stop ∷ messages) is = absurd is

pub started_shape : (messages : List Message) → IsStarted messages → IsInShape messages
started_shape [] is = absurd is
started_shape (message ∷ messages) is = is

-- what is known of a message that comes behind a holding and jobs
pub shape_within : (messages : List Message) (batch : ArrayVec Numbered) → IsStarted messages → IsInShape (messages ++ Do batch ∷ []) → AreWithin (lent_of messages) (jobs_in batch)
shape_within [] batch is shape = absurd is
shape_within (Begin lent ∷ messages) batch is shape = (jobs_then lent.holding.value messages (Do batch ∷ []) shape).0
shape_within (Do own ∷ messages) batch is shape = absurd is
shape_within (Stop ∷ messages) batch is shape = absurd is

pub not_again : (messages : List Message) (lent : Lent) → IsStarted messages → IsInShape (messages ++ Begin lent ∷ []) → ⊥
not_again [] lent is shape = is
not_again (Begin first ∷ messages) lent is shape = jobs_then first.holding.value messages (Begin lent ∷ []) shape
not_again (Do own ∷ messages) lent is shape = is
not_again (Stop ∷ messages) lent is shape = is

-- the jobs, and the holding, of one message more
pub jobs_do : (messages : List Message) (batch : ArrayVec Numbered) → jobs_of (messages ++ Do batch ∷ []) ≡ jobs_of messages ++ jobs_in batch
jobs_do [] batch = append-nil (jobs_in batch)
jobs_do (Begin lent ∷ messages) batch = jobs_do messages batch
jobs_do (Do own ∷ messages) batch =
    ap (λ (rest : List (ℕ × Job)). jobs_in own ++ rest) (jobs_do messages batch) ∙ sym (append_assoc (jobs_in own) (jobs_of messages) (jobs_in batch))
jobs_do (Stop ∷ messages) batch = jobs_do messages batch

pub jobs_stop : (messages : List Message) → jobs_of (messages ++ Stop ∷ []) ≡ jobs_of messages
jobs_stop [] = refl
jobs_stop (Begin lent ∷ messages) = jobs_stop messages
jobs_stop (Do own ∷ messages) = ap (λ (rest : List (ℕ × Job)). jobs_in own ++ rest) (jobs_stop messages)
jobs_stop (Stop ∷ messages) = jobs_stop messages

pub lent_more : (messages : List Message) (message : Message) → IsStarted messages → lent_of (messages ++ message ∷ []) ≡ lent_of messages
lent_more [] message is = absurd is
lent_more (Begin lent ∷ messages) message is = refl
lent_more (Do own ∷ messages) message is = absurd is
lent_more (Stop ∷ messages) message is = absurd is

-- what is in shape is so up to any message
shape_before : (messages rest : List Message) → IsInShape (messages ++ rest) → IsInShape messages
shape_before [] rest shape = tt
shape_before (Begin lent ∷ messages) rest shape = jobs_first lent.holding.value messages rest shape
shape_before (Do own ∷ messages) rest shape = absurd shape
shape_before (Stop ∷ messages) rest shape = absurd shape

few_before : (messages rest : List Message) → length (jobs_of messages) ≤ length (jobs_of (messages ++ rest))
few_before [] rest = omega arith
few_before (Begin lent ∷ messages) rest = few_before messages rest
few_before (Do own ∷ messages) rest =
    omega (arith, few_before messages rest, length-append (jobs_in own) (jobs_of messages), length-append (jobs_in own) (jobs_of (messages ++ rest)))
few_before (Stop ∷ messages) rest = few_before messages rest

pub well_before : (messages rest : List Message) → IsWellSent (messages ++ rest) → IsWellSent messages
well_before messages rest well = (shape_before messages rest well.0, let few = few_before messages rest in let all = well.1 in omega (arith, few, all))
