-- A right step is one whatever has been seen of the words.
use Rattle.hlr_workers.proofs.Common.{ap, ℕ, ◌≤◌, List, [], ◌∷◌, arith, true, false, Bool, Some, None, Ok, Err, Option, Result, slice_index, Refusal, s_id_of, Action, recut_answer, CutMove, is_loose, IsDissolved, IsDivided, IsPosting, IsRecut, IsRecutBy, Store, slots_of, IsOrderStep, IsRun, IsAskedStep, IsOwnedStep, IsStep, action_for, Event, SubscriberData, NewDestination, AccessData, UpdateSubscriber, UpdateLocation, InsertForwarding, DeleteForwarding, AddSubscriber, AddAccess, AddFacility, SetActive, SetNumber, Give, Take, Divide, Dissolve, Reply, Answer, Order, Asked, Engaged, Stands, answers_by, orders_of, store_at}
use Rattle.hlr_core.specs.declared.event.Event.TheVariants.{Post}
use Rattle.hlr_core.specs.declared.order.Answer.TheVariants as answer
use Rattle.hlr_core.specs.declared.order.Order.TheVariants as order

-- a store of which this was seen
abbrev pub seen_as : List ℕ → Store → Store
seen_as sight store = record store { sight = sight }

owned_unseen : (w : List ℕ) (loose : Bool) (act : Action) (b : Store) (r : Reply) (c : Store) → IsOwnedStep loose act b r c → IsOwnedStep loose act (seen_as w b) r (seen_as w c)
owned_unseen w true act b r c step = (step.0, ap (seen_as w) step.1)
owned_unseen w false act b r c step = (step.0, step.1, step.2, step.3, ap (seen_as w) step.4)

asked_unseen : (w : List ℕ) (asked : Result Action Refusal) (b : Store) (r : Reply) (c : Store) → IsAskedStep asked b r c → IsAskedStep asked (seen_as w b) r (seen_as w c)
asked_unseen w (Ok act) b r c step = owned_unseen w (is_loose (s_id_of act) b.regions) act b r c step
asked_unseen w (Err why) b r c step = (step.0, ap (seen_as w) step.1)

posting_unseen : (w : List ℕ) (slots : Option (List ℕ)) (p limit : ℕ) (b : Store) (done : Result ℕ Refusal) (c : Store) → IsPosting slots p limit b done c → IsPosting slots p limit (seen_as w b) done (seen_as w c)
posting_unseen w None p limit b done c posting = (posting.0, ap (seen_as w) posting.1)
posting_unseen w (Some slots) p limit b done c posting = (posting.0, ap (seen_as w) posting.1)

divided_unseen : (w : List ℕ) (p at : ℕ) (done : Result (ℕ × ℕ × ℕ) Refusal) (b c : Store) → IsDivided p at done b c → IsDivided p at done (seen_as w b) (seen_as w c)
divided_unseen w p at (Ok told) b c is = ap (seen_as w) is
divided_unseen w p at (Err why) b c is = ap (seen_as w) is

dissolved_unseen : (w : List ℕ) (p : ℕ) (done : Result (ℕ × ℕ × ℕ) Refusal) (b c : Store) → IsDissolved p done b c → IsDissolved p done (seen_as w b) (seen_as w c)
dissolved_unseen w p (Ok told) b c is = (ap (seen_as w) is.0, λ k. (let same : slice_index w k ≤ slice_index w k = omega arith in same))
dissolved_unseen w p (Err why) b c is = ap (seen_as w) is

pub step_unseen : (w : List ℕ) (event : Event) (b : Store) (r : Reply) (c : Store) → IsStep event b r c → IsStep event (seen_as w b) r (seen_as w c)
step_unseen w (Post p limit) b r c step = (step.0, posting_unseen w (slots_of b p) p limit b step.0 c step.1, step.2)
step_unseen w (Give p side at) b r c step = (step.0, step.1, step.2, ap (seen_as w) step.3)
step_unseen w (Take n p) b r c step = (step.0, step.1, step.2, ap (seen_as w) step.3)
step_unseen w (Divide p at) b r c step = (step.0, step.1, step.2, divided_unseen w p at step.0 b c step.3)
step_unseen w (Dissolve p) b r c step = (step.0, step.1, step.2, dissolved_unseen w p step.0 b c step.3)
step_unseen w (SubscriberData s_id) b r c step = asked_unseen w (action_for (SubscriberData s_id) b.book) b r c step
step_unseen w (NewDestination s_id t a e) b r c step = asked_unseen w (action_for (NewDestination s_id t a e) b.book) b r c step
step_unseen w (AccessData s_id t) b r c step = asked_unseen w (action_for (AccessData s_id t) b.book) b r c step
step_unseen w (UpdateSubscriber s_id t bit d) b r c step = asked_unseen w (action_for (UpdateSubscriber s_id t bit d) b.book) b r c step
step_unseen w (UpdateLocation n v) b r c step = asked_unseen w (action_for (UpdateLocation n v) b.book) b r c step
step_unseen w (InsertForwarding n t a e x) b r c step = asked_unseen w (action_for (InsertForwarding n t a e x) b.book) b r c step
step_unseen w (DeleteForwarding n t a) b r c step = asked_unseen w (action_for (DeleteForwarding n t a) b.book) b r c step
step_unseen w (AddSubscriber row) b r c step = asked_unseen w (action_for (AddSubscriber row) b.book) b r c step
step_unseen w (AddAccess row) b r c step = asked_unseen w (action_for (AddAccess row) b.book) b r c step
step_unseen w (AddFacility row) b r c step = asked_unseen w (action_for (AddFacility row) b.book) b r c step
step_unseen w (SetActive s_id t v) b r c step = asked_unseen w (action_for (SetActive s_id t v) b.book) b r c step
step_unseen w (SetNumber s_id n) b r c step = asked_unseen w (action_for (SetNumber s_id n) b.book) b r c step

recut_by_unseen : (w : List ℕ) (moves : Result (List CutMove) Refusal) (bounds : List ℕ) (b : Store) (done : Result ℕ Refusal) (c : Store) → IsRecutBy moves bounds b done c
    → IsRecutBy moves bounds (seen_as w b) done (seen_as w c)
recut_by_unseen w (Ok moves) bounds b (Ok count) c cut = (cut.0, ap (seen_as w) cut.1)
recut_by_unseen w (Ok moves) bounds b (Err why) c cut = (cut.0, ap (seen_as w) cut.1, cut.2)
recut_by_unseen w (Err why) bounds b done c cut = (cut.0, ap (seen_as w) cut.1)

pub recut_unseen : (w : List ℕ) (bounds : List ℕ) (b : Store) (done : Result ℕ Refusal) (c : Store) → IsRecut bounds b done c → IsRecut bounds (seen_as w b) done (seen_as w c)
recut_unseen w bounds b done c cut = recut_by_unseen w (recut_answer b.regions bounds) bounds b done c cut

-- so is a run
order_unseen : (w : List ℕ) (one : Order) (b : Store) (told : Answer) (c : Store) → IsOrderStep one b told c → IsOrderStep one (seen_as w b) told (seen_as w c)
order_unseen w (order.Event event) b (answer.Reply r) c step = step_unseen w event b r c step
order_unseen w (order.Event event) b (answer.Recut done) c step = absurd step
order_unseen w (order.Recut bounds) b (answer.Recut done) c step = recut_unseen w bounds.items b done c step
order_unseen w (order.Recut bounds) b (answer.Reply r) c step = absurd step

pub run_unseen : (w : List ℕ) (orders : List Order) (b : Store) (answers : List Answer) (c : Store) → IsRun orders b answers c → IsRun orders (seen_as w b) answers (seen_as w c)
run_unseen w [] b [] c run = ap (seen_as w) run
run_unseen w [] b (told ∷ answers) c run = absurd run
run_unseen w (one ∷ orders) b [] c run = absurd run
run_unseen w (one ∷ orders) b (told ∷ answers) c run = (seen_as w run.0, order_unseen w one b told run.0 run.1, run_unseen w orders run.0 answers c run.2)

-- and where an engine stands
pub stands_unseen : (w : List ℕ) (e : Engaged) (start : Store) (asked : List Asked) → Stands e start asked → Stands e (seen_as w start) asked
stands_unseen w e start asked stands = (
  stands.0,
  λ reply ends kept are. run_unseen w (orders_of asked) start (answers_by reply 0 asked) (store_at start e.register ends) (stands.1 reply ends kept are),
)
