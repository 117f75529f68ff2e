-- `Stands` relates an engine to what it was asked for so far. Because its workers may be at any point of their jobs, it
-- holds for every right session of these jobs.
use Rattle.std.specs.Prelude.{◌≡◌, ◌==◌, ◌+◌, ℕ, Bool, true, false, List, [], ◌∷◌, ◌++◌, length, Option, Some, None, Result, if◌then◌else◌, slice_get, slice_index_or, ⊤}
use Rattle.tatp_rows.specs.declared.refusal.Refusal.{Refusal}
use Rattle.holding.specs.Held.{HoldingState}
use Rattle.holding.specs.declared.job.Job.{Job}
use Rattle.hlr_owners.specs.Out.{outs_in}
use Rattle.hlr_owners.specs.Owners.{OwnersState, homes_in, store_in}
use Rattle.hlr_owners.specs.Store.{Store}
use Rattle.hlr_core.specs.WhileOut.{register_with}
use Rattle.hlr_core.specs.Route.{IsRouted}
use Rattle.hlr_core.specs.Run.{IsRun}
use Rattle.hlr_core.specs.Session.{IsJobDone}
use Rattle.hlr_core.specs.declared.event.Event.{Event}
use Rattle.hlr_core.specs.declared.event.Event.TheVariants.{Divide, Dissolve}
use Rattle.hlr_core.specs.declared.event.Reply.{Reply}
use Rattle.hlr_core.specs.declared.order.Answer.{Answer}
use Rattle.hlr_core.specs.declared.order.Answer.TheVariants as answer
use Rattle.hlr_core.specs.declared.order.Order.{Order}
use Rattle.hlr_core.specs.declared.order.Order.TheVariants as order
use Rattle.hlr_core.specs.declared.route.Route.TheVariants.{To}

-- a right session of a part's numbered jobs, done one after another, where `reply k` is the reply to job number k
abbrev pub IsSessionBy : (ℕ → Reply) → HoldingState → List (ℕ × Job) → HoldingState → Type 0
IsSessionBy reply before [] after = after ≡ before
IsSessionBy reply before (job ∷ jobs) after =
    (next : HoldingState) × IsJobDone job.1 before (reply job.0) next × IsSessionBy reply next jobs after

-- a right session of a lent part's jobs makes this holding of it; a part that is home may have any
abbrev pub IsEnd : (ℕ → Reply) → Option HoldingState → List (ℕ × Job) → HoldingState → Type 0
IsEnd reply (Some lent) jobs end = IsSessionBy reply lent jobs end
IsEnd reply None jobs end = ⊤

-- each part, by its number, has such a holding
abbrev pub AreEnds : (ℕ → Reply) → List (Option HoldingState) → List (List (ℕ × Job)) → List HoldingState → Type 0
AreEnds reply [] [] [] = ⊤
AreEnds reply (lent ∷ outs) (own ∷ jobs) (end ∷ ends) = IsEnd reply lent own end × AreEnds reply outs jobs ends
AreEnds reply _ _ _ = ⊥

-- how many of a part's jobs have this number
abbrev pub numbered : ℕ → List (ℕ × Job) → ℕ
numbered k [] = 0
numbered k (job ∷ jobs) = (if job.0 == k then 1 else 0) + numbered k jobs

-- how many of the jobs of all parts have this number
abbrev pub numbered_in : ℕ → List (List (ℕ × Job)) → ℕ
numbered_in k [] = 0
numbered_in k (own ∷ jobs) = numbered k own + numbered_in k jobs

-- what an engine has: the register, in which a lent part is as it was when it was lent; the jobs that were sent to each
-- lent part, by the parts' numbers; and for each event since the last settle its number with its reply, which may be
-- any while a job has that number
pub record Engaged : Type 0 where
  pub register : OwnersState
  pub jobs : List (List (ℕ × Job))
  pub replies : List (ℕ × Reply)

-- `reply k` is the reply that is kept for event number k, unless a job has that number
abbrev pub HasKept : (ℕ → Reply) → List (List (ℕ × Job)) → List (ℕ × Reply) → Type 0
HasKept reply jobs replies =
    (k : ℕ) (kept : ℕ × Reply) → slice_get replies k ≡ Some kept → numbered_in k jobs ≡ 0 → reply k ≡ kept.1

-- what an engine was asked for: an event that it took, or a recut to bounds with its answer
pub data Asked : Type 0 where
  Took : Event → Asked
  Cut : List ℕ → Result ℕ Refusal → Asked

-- the same as a list of orders for a register
abbrev pub orders_of : List Asked → List Order
orders_of [] = []
orders_of (Took event ∷ asked) = order.Event event ∷ orders_of asked
orders_of (Cut bounds done ∷ asked) = order.Recut (record { items = bounds }) ∷ orders_of asked

-- how many events are among them
abbrev pub events_in : List Asked → ℕ
events_in [] = 0
events_in (Took event ∷ asked) = 1 + events_in asked
events_in (Cut bounds done ∷ asked) = events_in asked

-- the answers to these orders, where the first event has number k and `reply k` is the reply to event number k
abbrev pub answers_by : (ℕ → Reply) → ℕ → List Asked → List Answer
answers_by reply k [] = []
answers_by reply k (Took event ∷ asked) = answer.Reply (reply k) ∷ answers_by reply (k + 1) asked
answers_by reply k (Cut bounds done ∷ asked) = answer.Recut done ∷ answers_by reply k asked

-- the answers to these orders, given the replies to the events in order
abbrev pub answers_with : List (ℕ × Reply) → List Asked → List Answer
answers_with replies [] = []
answers_with [] (Took event ∷ asked) = []
answers_with (one ∷ replies) (Took event ∷ asked) = answer.Reply one.1 ∷ answers_with replies asked
answers_with replies (Cut bounds done ∷ asked) = answer.Recut done ∷ answers_with replies asked

-- the store of a register in which these holdings are in the places of the lent ones, with what was seen of the words
-- in another store
abbrev pub store_at : Store → OwnersState → List HoldingState → Store
store_at before h ends = record (store_in (register_with h ends)) { sight = before.sight }

-- after what was asked for, from a store on, the engine has what it should: for each right session of the jobs that
-- were sent to lent parts, the answers by the kept replies and the session's replies are those of a right run from that
-- store, which leads to the store of the register with the holdings that the session leaves
abbrev pub Stands : Engaged → Store → List Asked → Type 0
Stands e before asked =
    (events_in asked ≡ length e.replies)
    × ((reply : ℕ → Reply) (ends : List HoldingState) → HasKept reply e.jobs e.replies
    → AreEnds reply (outs_in e.register.owners) e.jobs ends
    → IsRun (orders_of asked) before (answers_by reply 0 asked) (store_at before e.register ends))

-- the engine after a call has taken the same requests as the one before it
abbrev pub IsAsBefore : Engaged → Engaged → Type 0
IsAsBefore before after = (start : Store) (asked : List Asked) → Stands before start asked → Stands after start asked

-- the engine after a call has taken one more request than the one before it, this one
abbrev pub TookNext : Asked → Engaged → Engaged → Type 0
TookNext next before after = (start : Store) (asked : List Asked) → Stands before start asked → Stands after start (asked ++ next ∷ [])

-- all that was asked for is a right run, which gives these replies to the events in their order, and leads to this
-- register
abbrev pub IsSettled : Engaged → List (ℕ × Reply) → OwnersState → Type 0
IsSettled before replies register =
    (start : Store) (asked : List Asked) → Stands before start asked
    → IsRun (orders_of asked) start (answers_with replies asked) (record (store_in register) { sight = start.sight })

-- an event is a job of a part that is home, and so has no worker yet
abbrev pub WantsWorker : Event → OwnersState → Type 0
WantsWorker event h = (part : ℕ) × (job : Job) × IsRouted event h (To part job) × (slice_index_or (homes_in h.owners) part false ≡ true)

-- an event makes or dissolves a part
abbrev pub changes_parts : Event → Bool
changes_parts (Divide part at) = true
changes_parts (Dissolve part) = true
changes_parts _ = false

-- each reply has the number of its place
abbrev pub AreNumbered : List (ℕ × Reply) → Type 0
AreNumbered replies = (k : ℕ) (one : ℕ × Reply) → slice_get replies k ≡ Some one → one.0 ≡ k
