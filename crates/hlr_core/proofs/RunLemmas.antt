-- Runs: one more order.
use Rattle.hlr_core.proofs.Common.{take_more, ℕ, ◌<◌, ◌+◌, length, get_or, take, ◌≡◌, refl, List, [], ◌∷◌, ◌++◌, IsOrderStep, IsRun, Store, Answer, Order}

-- a run, and one more step
pub run_more : (orders : List Order) (one : Order) (answers : List Answer) (told : Answer) (a b c : Store) → IsRun orders a answers b → IsOrderStep one b told c
    → IsRun (orders ++ one ∷ []) a (answers ++ told ∷ []) c
run_more [] one [] told a b c run step = let same : b ≡ a = run in (c, rw same at step, refl)
run_more (first ∷ orders) one (said ∷ answers) told a b c run step = (run.0, run.1, run_more orders one answers told run.0 b c run.2 step)
run_more orders one answers told a b c run step = absurd run

-- a run over the first orders of a list, and the next of them
pub run_next : (all : List Order) (i : ℕ) (one : Order) (answers answers' : List Answer) (told : Answer) (a b c : Store) → i < length all → one ≡ get_or all i one
    → IsRun (take i all) a answers b → IsOrderStep one b told c → answers' ≡ answers ++ told ∷ [] → IsRun (take (i + 1) all) a answers' c
run_next all i one answers answers' told a b c within is run step more =
    rw (take_more all i one within, ← is, more) (run_more (take i all) one answers told a b c run step)
