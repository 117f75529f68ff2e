-- One message more of a worker, and all of them.
use Rattle.hlr_workers.proofs.Common.{◌≡◌, ◌∙◌, refl, sym, ap, ℕ, ◌+◌, ◌<◌, ◌≤◌, true, false, List, [], ◌∷◌, ◌++◌, length, get_or, map, take, zero, suc, arith, length-append, append_assoc, append-nil, length-map, map-append, take_more, ArrayVec, HoldingState, Job, IsSameOwner, IsJobDone, IsWithinJob, job_of, Reply, Task, HasDone, IsAtWork, IsSessionMore, MaySend, sent_with, AreWithin, IsWellSent, job_pair, jobs_in, jobs_of, lent_of, log, Log, Message, Do, Stop, Numbered, MOST_PENDING}
use Rattle.hlr_workers.proofs.SessionLemmas.{session_length, session_more, session_same, within_later}
use Rattle.hlr_workers.proofs.ShapeLemmas.{jobs_do, jobs_stop, lent_more, shape_within, started_do, started_shape, started_stop}

-- jobs that a holding may be asked for it may be asked for later
all_later : (a b : HoldingState) → IsSameOwner a b → (jobs : List (ℕ × Job)) → AreWithin a jobs → AreWithin b jobs
all_later a b same [] within = tt
all_later a b same (job ∷ jobs) within = (within_later a b job.1 same within.0, all_later a b same jobs within.1)

-- and so one of them
pub one_within : (a : HoldingState) (items : List Numbered) (i : ℕ) (one : Numbered) → AreWithin a (map job_pair items) → i < length items → one ≡ get_or items i one → IsWithinJob a (job_of one.task)
one_within a [] i one within low is = absurd (omega arith)
one_within a (own ∷ items) zero one within low is = rw is within.0
one_within a (own ∷ items) (suc i) one within low is = one_within a items i one within.1 (omega arith) is

-- one job more of a message
pub more_next : (items : List Numbered) (i : ℕ) (one : Numbered) (answers answers' answers'' : List (ℕ × Reply)) (reply : Reply) (a b c : HoldingState) → i < length items → one ≡ get_or items i one
    → IsSessionMore (map job_pair (take i items)) answers a answers' b → IsJobDone (job_of one.task) b reply c → answers'' ≡ answers' ++ (one.number, reply) ∷ []
    → IsSessionMore (map job_pair (take (i + 1) items)) answers a answers'' c
more_next items i one answers answers' answers'' reply a b c low is so_far done grew = λ lent jobs session.
    let front = map job_pair (take i items) in
    let list : map job_pair (take (i + 1) items) ≡ front ++ job_pair one ∷ [] = ap (λ (l : List Numbered). map job_pair l) (take_more items i one low) ∙ rw (← is) (map-append job_pair (take i items) (one ∷ [])) in
    rw (grew, list, ← append_assoc jobs front (job_pair one ∷ []))
    (session_more lent (jobs ++ front) answers' b (job_pair one) (one.number, reply) c (so_far lent jobs session) refl done)

pub more_none : (answers : List (ℕ × Reply)) (a : HoldingState) → IsSessionMore [] answers a answers a
more_none answers a = λ lent jobs session. rw (append-nil jobs) session

-- jobs came to a worker at work
module _ (got : List Message) (answers : List (ℕ × Reply)) (holding : HoldingState) (batch : ArrayVec Numbered) (at : HasDone got answers holding) (well : IsWellSent (got ++ Do batch ∷ [])) where
  -- there is room for their replies
  pub room : length answers + length batch.items ≤ MOST_PENDING
  room =
      let same = session_length (lent_of got) (jobs_of got) answers holding at.1 in
      omega (arith, ap length (jobs_do got batch), length-append (jobs_of got) (jobs_in batch), length-map batch.items job_pair, well.1)

  -- and the holding as it is now may be asked for them
  pub within : AreWithin holding (jobs_in batch)
  within = all_later (lent_of got) holding (session_same (lent_of got) (jobs_of got) answers holding at.1) (jobs_in batch) (shape_within got batch at.0 well.0)

  -- once they are done
  pub batch_done : (answers' : List (ℕ × Reply)) (after : HoldingState) → IsSessionMore (jobs_in batch) answers holding answers' after → HasDone (got ++ Do batch ∷ []) answers' after
  batch_done answers' after more = (
    started_do got batch (shape_within got batch at.0 well.0) at.0,
    rw (lent_more got (Do batch) at.0, jobs_do got batch) (more (lent_of got) (jobs_of got) at.1),
  )

-- and that it is to end
pub stop_done : (got : List Message) (answers : List (ℕ × Reply)) (holding : HoldingState) → HasDone got answers holding → HasDone (got ++ Stop ∷ []) answers holding
stop_done got answers holding at = (started_stop got at.0, rw (lent_more got Stop at.0, jobs_stop got) at.1)

-- what a pass knows that is at work
pub at_work : (w : Log) (got : List Message) (answers : List (ℕ × Reply)) (holding : HoldingState) → w ≡ log false true [] got → HasDone got answers holding → IsAtWork w answers holding
at_work w got answers holding is done = rw is (refl, done)

-- nothing waits
pub none_left : {A : Type 0} (items : List A) → length items ≡ 0 → items ≡ []
none_left [] none = refl
none_left (x ∷ items) none = absurd (omega arith)

-- what is held may be sent
module _ (v : Log) (held : ArrayVec Numbered) (may : MaySend v held) where
  pub sends_do : IsWellSent (v.sent ++ Do held ∷ [])
  sends_do = (started_shape (v.sent ++ Do held ∷ []) (started_do v.sent held may.within may.started), rw (jobs_do v.sent held) may.room)

  -- once it is, nothing is held
  module _ (w : Log) (is : w ≡ log true false (v.sent ++ Do held ∷ []) []) (rest : ArrayVec Numbered) (none : rest.items ≡ []) where
    sent : w.sent ≡ v.sent ++ Do held ∷ []
    sent = ap (λ (l : Log). l.sent) is

    nothing_held : jobs_in rest ≡ []
    nothing_held = ap (λ (items : List Numbered). map job_pair items) none

    all_sent : jobs_of w.sent ++ jobs_in rest ≡ jobs_of v.sent ++ jobs_in held
    all_sent = ap (λ (l : List (ℕ × Job)). jobs_of w.sent ++ l) nothing_held ∙ (append-nil (jobs_of w.sent) ∙ (ap jobs_of sent ∙ jobs_do v.sent held))

    pub do_may : MaySend w rest
    do_may = record {
      log = is ∙ ap (λ (l : List Message). log true false l []) (sym sent);
      started = rw sent (started_do v.sent held may.within may.started);
      within = rw nothing_held tt;
      room = rw all_sent may.room;
    }

    pub do_same : sent_with w rest ≡ sent_with v held
    do_same =
        let lent : lent_of w.sent ≡ lent_of v.sent = ap lent_of sent ∙ lent_more v.sent (Do held) may.started in
        rw (lent, all_sent) refl

  -- that a thread is to end
  pub sends_stop : IsWellSent (v.sent ++ Stop ∷ [])
  sends_stop =
      let all = length-append (jobs_of v.sent) (jobs_in held) in
      let room = may.room in
      (started_shape (v.sent ++ Stop ∷ []) (started_stop v.sent may.started), rw (jobs_stop v.sent) (omega (arith, all, room)))

  module _ (w : Log) (is : w ≡ log true false (v.sent ++ Stop ∷ []) []) where
    stopped : w.sent ≡ v.sent ++ Stop ∷ []
    stopped = ap (λ (l : Log). l.sent) is

    lent_still : lent_of w.sent ≡ lent_of v.sent
    lent_still = ap lent_of stopped ∙ lent_more v.sent Stop may.started

    jobs_still : jobs_of w.sent ≡ jobs_of v.sent
    jobs_still = ap jobs_of stopped ∙ jobs_stop v.sent

    pub stop_may : MaySend w held
    stop_may = record {
      log = is ∙ ap (λ (l : List Message). log true false l []) (sym stopped);
      started = rw stopped (started_stop v.sent may.started);
      within = rw lent_still may.within;
      room = rw jobs_still may.room;
    }

    pub stop_same : sent_with w held ≡ sent_with v held
    stop_same = rw (lent_still, jobs_still) refl

  -- one job more is held
  module _ (number : ℕ) (task : Task) (held' : ArrayVec Numbered) (grew : held'.items ≡ held.items ++ record { number = number; task = task } ∷ []) where
    more_in : jobs_in held' ≡ jobs_in held ++ (number, job_of task) ∷ []
    more_in = ap (λ (items : List Numbered). map job_pair items) grew ∙ map-append job_pair held.items (record { number = number; task = task } ∷ [])

    more_jobs : jobs_of v.sent ++ jobs_in held' ≡ (jobs_of v.sent ++ jobs_in held) ++ (number, job_of task) ∷ []
    more_jobs = ap (λ (l : List (ℕ × Job)). jobs_of v.sent ++ l) more_in ∙ sym (append_assoc (jobs_of v.sent) (jobs_in held) ((number, job_of task) ∷ []))

    pub held_may : IsWithinJob (lent_of v.sent) (job_of task) → length (jobs_of v.sent ++ jobs_in held) < MOST_PENDING → MaySend v held'
    held_may within few = record {
      log = may.log;
      started = may.started;
      within = rw more_in (all_more (lent_of v.sent) (jobs_in held) may.within within);
      room = rw more_jobs (let long = length-append (jobs_of v.sent ++ jobs_in held) ((number, job_of task) ∷ []) in omega (arith, long, few));
    }
      where
        all_more : (a : HoldingState) (jobs : List (ℕ × Job)) → AreWithin a jobs → IsWithinJob a (job_of task) → AreWithin a (jobs ++ (number, job_of task) ∷ [])
        all_more a [] are one = (one, tt)
        all_more a (own ∷ jobs) are one = (are.0, all_more a jobs are.1 one)

    pub held_more : sent_with v held' ≡ record { lent = lent_of v.sent; jobs = (jobs_of v.sent ++ jobs_in held) ++ (number, job_of task) ∷ [] }
    held_more = rw more_jobs refl

-- what is held may be done by a holding that has done all that was sent
pub held_within : (v : Log) (held : ArrayVec Numbered) → MaySend v held → (answers : List (ℕ × Reply)) (holding : HoldingState) → HasDone v.sent answers holding → AreWithin holding (jobs_in held)
held_within v held may answers holding done =
    all_later (lent_of v.sent) holding (session_same (lent_of v.sent) (jobs_of v.sent) answers holding done.1) (jobs_in held) may.within

pub held_room : (v : Log) (held : ArrayVec Numbered) → MaySend v held → (answers : List (ℕ × Reply)) (holding : HoldingState) → HasDone v.sent answers holding → length answers + length held.items ≤ MOST_PENDING
held_room v held may answers holding done =
    omega (arith, session_length (lent_of v.sent) (jobs_of v.sent) answers holding done.1, length-append (jobs_of v.sent) (jobs_in held), length-map held.items job_pair, may.room)
