-- What a session keeps.
use Rattle.hlr_workers.proofs.Common.{◌≡◌, ◌∙◌, refl, ap, subst, ℕ, suc, List, [], ◌∷◌, ◌++◌, length, DeskState, PartState, HoldingState, Job, Act, Post, IsSameOwner, IsJobDone, IsWithinJob, Reply, AreNumberless, IsNumberless, IsSession}

-- one job more
pub session_more : (a : HoldingState) (jobs : List (ℕ × Job)) (answers : List (ℕ × Reply)) (b : HoldingState) (job : ℕ × Job) (answer : ℕ × Reply) (c : HoldingState)
    → IsSession a jobs answers b → answer.0 ≡ job.0 → IsJobDone job.1 b answer.1 c → IsSession a (jobs ++ job ∷ []) (answers ++ answer ∷ []) c
session_more a [] [] b job answer c so_far numbered done = (numbered, (c, subst (λ (x : HoldingState). IsJobDone job.1 x answer.1 c) so_far done, refl))
session_more a [] (x ∷ answers) b job answer c so_far numbered done = absurd so_far
session_more a (y ∷ jobs) [] b job answer c so_far numbered done = absurd so_far
session_more a (y ∷ jobs) (x ∷ answers) b job answer c so_far numbered done =
    (so_far.0, (so_far.1.0, so_far.1.1, session_more so_far.1.0 jobs answers b job answer c so_far.1.2 numbered done))

-- each job has its reply
pub session_length : (a : HoldingState) (jobs : List (ℕ × Job)) (answers : List (ℕ × Reply)) (b : HoldingState) → IsSession a jobs answers b → length answers ≡ length jobs
session_length a [] [] b session = refl
session_length a [] (x ∷ answers) b session = absurd session
session_length a (y ∷ jobs) [] b session = absurd session
session_length a (y ∷ jobs) (x ∷ answers) b session = ap suc (session_length session.1.0 jobs answers b session.1.2)

-- a job leaves the range, the zones, the board and the slots, and so do several
pub job_same : (job : Job) (a : HoldingState) (answer : Reply) (b : HoldingState) → IsJobDone job a answer b → IsSameOwner a b
job_same (Act act) a answer b done = record {
  lo = done.range.0;
  hi = done.range.1;
  width = done.range.2;
  board = ap (λ (d : DeskState). d.board) done.desk.0;
  owned = ap (λ (d : DeskState). d.view.owned) done.desk.0;
}
job_same (Post limit) a answer b done = record {
  lo = ap (λ (p : PartState). p.lo) done.part;
  hi = ap (λ (p : PartState). p.hi) done.part;
  width = ap (λ (p : PartState). p.width) done.part;
  board = done.desk.0;
  owned = done.desk.1;
}

pub same_twice : (a b c : HoldingState) → IsSameOwner a b → IsSameOwner b c → IsSameOwner a c
same_twice a b c one two = record {
  lo = two.lo ∙ one.lo;
  hi = two.hi ∙ one.hi;
  width = two.width ∙ one.width;
  board = two.board ∙ one.board;
  owned = two.owned ∙ one.owned;
}

pub itself : (a b : HoldingState) → b ≡ a → IsSameOwner a b
itself a b is = rw is (record { lo = refl; hi = refl; width = refl; board = refl; owned = refl })

pub session_same : (a : HoldingState) (jobs : List (ℕ × Job)) (answers : List (ℕ × Reply)) (b : HoldingState) → IsSession a jobs answers b → IsSameOwner a b
session_same a [] [] b session = itself a b session
session_same a [] (x ∷ answers) b session = absurd session
session_same a (y ∷ jobs) [] b session = absurd session
session_same a (y ∷ jobs) (x ∷ answers) b session =
    same_twice a session.1.0 b (job_same y.1 a x.1 session.1.0 session.1.1) (session_same session.1.0 jobs answers b session.1.2)

-- so a job that a holding may be asked for it may be asked for later
pub within_later : (a b : HoldingState) (job : Job) → IsSameOwner a b → IsWithinJob a job → IsWithinJob b job
within_later a b (Act act) same within = rw (same.lo, same.hi) within
within_later a b (Post limit) same within = tt

-- one more job that gives no number
pub numberless_more : (jobs : List (ℕ × Job)) (job : ℕ × Job) → AreNumberless jobs → IsNumberless job.1 → AreNumberless (jobs ++ job ∷ [])
numberless_more [] job each one = (one, tt)
numberless_more (j ∷ jobs) job each one = (each.0, numberless_more jobs job each.1 one)
