-- A part goes out to a worker, has jobs sent to it, and comes home.
use Rattle.hlr_workers.proofs.Common.{◌≡◌, ◌∙◌, refl, sym, ap, subst, ℕ, zero, suc, ◌<◌, List, [], ◌∷◌, ◌++◌, length, get_or, set, map, replicate, arith, true, false, Bool, Some, None, inl, inr, Option, IsSome, IfSome, is_some, slice_get, if◌then◌else◌, AllByRecursion, AllZip, get_or-map, get_or_past, length-map, length-replicate, map-set, set-get_or, cases_lt, none-some, same_Some, slice_get_within, slice_get-get_or, slice_get_read, get_or_from_slice_get, AllZip-long, by_test, parts_of, Region, HoldingState, Job, Act, Post, PartOwnerState, out_of, outs_in, AllHome, AreOwners, IsLent, OwnersState, homes_in, RegionOwner, Part, Piece, at_number, count_parts, part_within, set_number, zip_at, zip_set, IsBackWith, IsJobOf, IsWithinJob, Reply, within_job, Sent, AreIdle, IsHomeAgain, IsOut, IsSentTo, is_sent_more, WorkersState, HasWorker, jobs_at, AreNumberless, IsNumberless, IsSession, MOST_PENDING}
use Rattle.hlr_workers.proofs.BackLemmas.{session_back}
use Rattle.hlr_workers.proofs.RegisterLemmas.{IsPartAt, part_at, part_with_number}
use Rattle.hlr_workers.proofs.SessionLemmas.{numberless_more}
use Rattle.hlr_workers.proofs.StandingLemmas.{set_again}

-- nobody is out
pub outs_home : (owners : List RegionOwner) → AllHome owners → AllByRecursion (λ (out : Option HoldingState). out ≡ None) (outs_in owners)
outs_home [] all = tt
outs_home (Piece b ∷ owners) all = outs_home owners all
outs_home (Part l ∷ owners) all =
    (let home = all.0 in ap (λ (b : Bool). if b then None else Some l.holding) home, outs_home owners all.1)

pub none_each : (outs : List (Option HoldingState)) → AllByRecursion (λ (out : Option HoldingState). out ≡ None) outs → AllZip HasWorker outs (replicate (length outs) None)
none_each [] none = tt
none_each (out ∷ outs) none = (rw none.0 tt, none_each outs none.1)

pub none_sent : (n : ℕ) → AllByRecursion (λ (own : List (ℕ × Job)). own ≡ []) (map jobs_at (replicate n None))
none_sent zero = tt
none_sent (suc n) = (refl, none_sent n)

pub none_long : (n : ℕ) → length (map jobs_at (replicate n None)) ≡ n
none_long n = let none : Option Sent = None in length-map (replicate n none) jobs_at ∙ length-replicate n none

module _ (h : OwnersState) (are : AreOwners h) where
  pub as_parts : length (outs_in h.owners) ≡ length (parts_of h.regions)
  as_parts = count_parts out_of h.width h.regions h.owners are.each

  -- there are as many places for what is out as for who is at home
  pub as_homes : length (homes_in h.owners) ≡ length (outs_in h.owners)
  as_homes = count_parts (λ (o : PartOwnerState). o.home) h.width h.regions h.owners are.each ∙ sym as_parts

  module _ (p i : ℕ) (l : PartOwnerState) (at : IsPartAt h p i l) where
    -- what of a part is out, and whether it is at home
    pub out_is : slice_get (outs_in h.owners) p ≡ Some (out_of l)
    out_is =
        let there = at_number h are p i at.region out_of l at.owner (out_of l) in
        slice_get_read (outs_in h.owners) (length (outs_in h.owners)) p (out_of l) refl there.0 there.1

    pub home_is : (d : Bool) → get_or (homes_in h.owners) p d ≡ l.home
    home_is d = sym (at_number h are p i at.region (λ (o : PartOwnerState). o.home) l at.owner d).1

  -- a part that isn't out is at home
  pub home_there : (p : ℕ) → p < length (outs_in h.owners) → get_or (outs_in h.owners) p None ≡ None → get_or (homes_in h.owners) p false ≡ true
  home_there p low none =
      let long = as_homes in
      let found = part_with_number h are p (omega arith) in
      let l = found.1 in
      let out : out_of l ≡ None = sym (get_or_from_slice_get (outs_in h.owners) p (out_of l) None (out_is p found.0 l found.2)) ∙ none in
      home_is p found.0 l found.2 false ∙ here l out
    where
      here : (l : PartOwnerState) → out_of l ≡ None → l.home ≡ true
      here l none = by_test l.home (λ e. e) (λ e. absurd (none-some l.holding (sym none ∙ ap (λ (b : Bool). if b then None else Some l.holding) e)))

  -- one that is out is known as it was lent
  pub out_part : (p : ℕ) (lent : HoldingState) → slice_get (outs_in h.owners) p ≡ Some (Some lent) → (i : ℕ) × IsPartAt h p i (record { holding = lent; home = false })
  out_part p lent out =
      let long = as_homes in
      let within = slice_get_within (outs_in h.owners) p (Some lent) out in
      let found = part_with_number h are p (omega arith) in
      let l = found.1 in
      let has : out_of l ≡ Some lent = same_Some (out_of l) (Some lent) (sym (out_is p found.0 l found.2) ∙ out) in
      let is : l ≡ record { holding = lent; home = false } = part_owner_state l has in
      (found.0, rw (← is) found.2)
    where
      part_owner_state : (l : PartOwnerState) → out_of l ≡ Some lent → l ≡ record { holding = lent; home = false }
      part_owner_state l has =
          by_test l.home
          (λ e. absurd (none-some lent (sym (ap (λ (b : Bool). if b then None else Some l.holding) e) ∙ has)))
          (λ e. let same : l.holding ≡ lent = same_Some l.holding lent (sym (ap (λ (b : Bool). if b then None else Some l.holding) e) ∙ has) in rw (← e, ← same) refl)

  -- a part goes out
  pub lent_outs : (p : ℕ) (k : HoldingState) (g : OwnersState) → IsLent p h k g → (slice_get (outs_in h.owners) p ≡ Some None) × (outs_in g.owners ≡ set (outs_in h.owners) p (Some k))
  lent_outs p k g lent =
      let found = part_at h are p lent.index lent.region in
      let l = found.0 in
      let at = found.1 in
      let same : l ≡ record { holding = k; home = true } =
      (let one : ◌≡◌ {A = Option RegionOwner} (Some (Part l)) (Some (Part (record { holding = k; home = true }))) =
      sym (slice_get_read h.owners (length h.owners) lent.index (Part l) refl at.there at.owner) ∙ lent.owner in
      cc) in
      let goes : out_of l ≡ None = ap out_of same in (
        out_is p lent.index l at ∙ ap (λ (o : Option HoldingState). Some o) goes,
        rw lent.away (set_number h are p lent.index lent.region out_of l at.owner (record { holding = k; home = false })),
      )

-- workers, one for each part that is out
module _ (outs : List (Option HoldingState)) (ws : List (Option Sent)) (each : AllZip HasWorker outs ws) where
  pub as_outs : length (map jobs_at ws) ≡ length outs
  as_outs = length-map ws jobs_at ∙ AllZip-long HasWorker outs ws each

  worker_of : (p : ℕ) (out : Option HoldingState) → slice_get outs p ≡ Some out → HasWorker out (get_or ws p None)
  worker_of p out is =
      subst (λ (o : Option HoldingState). HasWorker o (get_or ws p None)) (get_or_from_slice_get outs p out None is)
      (zip_at HasWorker outs ws p None None each (slice_get_within outs p out is))

  -- the worker of a part at home, and of one that is out
  pub no_worker : (p : ℕ) → slice_get outs p ≡ Some None → get_or ws p None ≡ None
  no_worker p is = none (get_or ws p None) (worker_of p None is)
    where
      none : (w : Option Sent) → HasWorker None w → w ≡ None
      none None has = refl
      none (Some sent) has = absurd has

  pub worker_there : (p : ℕ) (lent : HoldingState) → slice_get outs p ≡ Some (Some lent) → (sent : Sent) × (get_or ws p None ≡ Some sent) × (sent.lent ≡ lent) × AreNumberless sent.jobs
  worker_there p lent is = some (get_or ws p None) refl (worker_of p (Some lent) is)
    where
      some : (w : Option Sent) → get_or ws p None ≡ w → HasWorker (Some lent) w → (sent : Sent) × (get_or ws p None ≡ Some sent) × (sent.lent ≡ lent) × AreNumberless sent.jobs
      some None e has = absurd has
      some (Some sent) e has = (sent, e, has.0, has.1)

  pub jobs_of_part : (p : ℕ) → get_or (map jobs_at ws) p [] ≡ jobs_at (get_or ws p None)
  jobs_of_part p = get_or-map jobs_at ws p None

  -- and whose it is
  pub whose_worker : (p : ℕ) (w : Sent) → get_or ws p None ≡ Some w → (lent : HoldingState) × (slice_get outs p ≡ Some (Some lent)) × (w.lent ≡ lent) × AreNumberless w.jobs
  whose_worker p w is = elim (cases_lt p (length ws)) [
    | inl below ↦ cases below (get_or outs p None) refl (zip_at HasWorker outs ws p None None each (low below))
    | inr past ↦ absurd (none-some w (sym (get_or_past ws p None past) ∙ is))
  ]
    where
      low : p < length ws → p < length outs
      low below = let long = AllZip-long HasWorker outs ws each in omega arith

      cases : p < length ws → (o : Option HoldingState) → get_or outs p None ≡ o → HasWorker (get_or outs p None) (get_or ws p None) → (lent : HoldingState) × (slice_get outs p ≡ Some (Some lent)) × (w.lent ≡ lent) × AreNumberless w.jobs
      cases below None e has = absurd (rw (e, is) at has)
      cases below (Some lent) e has =
          let two : HasWorker (Some lent) (Some w) = rw (e, is) at has in
          (lent, slice_get-get_or outs p None (low below) ∙ ap Some e, two.0, two.1)

  -- a part that has a worker is out
  pub worker_out : (p : ℕ) → is_some (get_or ws p None) ≡ true → (lent : HoldingState) × (slice_get outs p ≡ Some (Some lent))
  worker_out p has = some (get_or ws p None) refl has
    where
      some : (w : Option Sent) → get_or ws p None ≡ w → is_some w ≡ true → (lent : HoldingState) × (slice_get outs p ≡ Some (Some lent))
      some None e has = absurd cc
      some (Some w) e has = let found = whose_worker p w e in (found.0, found.1)

  pub nobodys_worker : (p : ℕ) → get_or ws p None ≡ None → get_or outs p None ≡ None
  nobodys_worker p is = elim (cases_lt p (length outs)) [
    | inl below ↦ cases (get_or outs p None) refl (zip_at HasWorker outs ws p None None each below)
    | inr past ↦ get_or_past outs p None past
  ]
    where
      cases : (o : Option HoldingState) → get_or outs p None ≡ o → HasWorker (get_or outs p None) (get_or ws p None) → get_or outs p None ≡ None
      cases None e has = e
      cases (Some lent) e has = absurd (rw (e, is) at has)

-- a part that isn't out has no jobs
pub idle_parts : (h : OwnersState) (ws : List (Option Sent)) → AllZip HasWorker (outs_in h.owners) ws → AreIdle (record { register = h; jobs = map jobs_at ws })
idle_parts h ws each = λ p none. idle (outs_in h.owners) ws p each none
  where
    idle : (outs : List (Option HoldingState)) (ws : List (Option Sent)) (p : ℕ) → AllZip HasWorker outs ws → get_or outs p None ≡ None → get_or (map jobs_at ws) p [] ≡ []
    idle [] [] p each none = refl
    idle [] (w ∷ ws) p each none = absurd each
    idle (o ∷ outs) [] p each none = absurd each
    idle (o ∷ outs) (None ∷ ws) zero each none = refl
    idle (None ∷ outs) (Some w ∷ ws) zero each none = absurd each.0
    idle (Some x ∷ outs) (Some w ∷ ws) zero each none = absurd (none-some x (sym none))
    idle (o ∷ outs) (w ∷ ws) (suc p) each none = idle outs ws p each.1 none

-- a job of a part gives no number
pub numberless_of : (regions : List Region) (p : ℕ) (job : Job) → IsJobOf regions p job → IsNumberless job
numberless_of regions p (Act act) of = of.1
numberless_of regions p (Post limit) of = tt

-- a worker was started
module _ (h : OwnersState) (are : AreOwners h) (ws : List (Option Sent)) (each : AllZip HasWorker (outs_in h.owners) ws) (p : ℕ) where
  module _ (k : HoldingState) (g : OwnersState) (lent : IsLent p h k g) (w : Sent) (has : w.lent ≡ k) (none : w.jobs ≡ []) where
    pub started_each : AllZip HasWorker (outs_in g.owners) (set ws p (Some w))
    started_each = rw (lent_outs h are p k g lent).1 (zip_set HasWorker (outs_in h.owners) ws p (Some k) (Some w) each (has, rw none tt))

    pub started_out : IsOut p (record { register = h; jobs = map jobs_at ws }) (record { register = g; jobs = map jobs_at (set ws p (Some w)) })
    started_out =
        let outs = lent_outs h are p k g lent in
        let low = slice_get_within (outs_in h.owners) p None outs.0 in
        let long = as_outs (outs_in h.owners) ws each in
        let idle : get_or (map jobs_at ws) p [] ≡ [] = jobs_of_part (outs_in h.owners) ws each p ∙ ap jobs_at (no_worker (outs_in h.owners) ws each p outs.0) in
        let had : slice_get (map jobs_at ws) p ≡ Some [] = slice_get-get_or (map jobs_at ws) p [] (omega arith) ∙ ap Some idle in (
          map-set jobs_at ws p (Some w) ∙ ap (λ (own : List (ℕ × Job)). set (map jobs_at ws) p own) none ∙ set_again (map jobs_at ws) p [] had,
          inr (k, lent, idle),
          (k, rw outs.1 (there (outs_in h.owners) p (Some k) low)),
        )
      where
        there : (outs : List (Option HoldingState)) (q : ℕ) (o : Option HoldingState) → q < length outs → slice_get (set outs q o) q ≡ Some o
        there [] q o low = absurd (omega arith)
        there (x ∷ outs) zero o low = refl
        there (x ∷ outs) (suc q) o low = there outs q o (omega arith)

  -- a part without a worker is at home
  pub without_worker : p < length (map jobs_at ws) → is_some (get_or ws p None) ≡ false → get_or (homes_in h.owners) p false ≡ true
  without_worker low none =
      let long = as_outs (outs_in h.owners) ws each in
      home_there h are p (omega arith) (nobodys_worker (outs_in h.owners) ws each p (no (get_or ws p None) none))
    where
      no : (w : Option Sent) → is_some w ≡ false → w ≡ None
      no None e = refl
      no (Some w) e = absurd cc

  -- a part that is out may be asked for its jobs
  pub may_send : (lent : HoldingState) → slice_get (outs_in h.owners) p ≡ Some (Some lent) → (job : Job) → IsJobOf h.regions p job → IsWithinJob lent job
  may_send lent out job of =
      let found = out_part h are p lent out in
      within_job h.regions p lent (λ s_id placed. part_within h are p found.0 found.1.region s_id (record { holding = lent; home = false }) found.1.owner placed) job of

  -- a job more
  module _ (lent : HoldingState) (out : slice_get (outs_in h.owners) p ≡ Some (Some lent)) (number : ℕ) (job : Job) (of : IsJobOf h.regions p job) where
    pub sent_each : AllZip HasWorker (outs_in h.owners) (set ws p (is_sent_more (get_or ws p None) (number, job)))
    sent_each =
        let found = worker_there (outs_in h.owners) ws each p lent out in
        let one : HasWorker (Some lent) (is_sent_more (get_or ws p None) (number, job)) = rw found.1 (found.2, numberless_more found.0.jobs (number, job) found.3 (numberless_of h.regions p job of)) in
        subst (λ (outs : List (Option HoldingState)). AllZip HasWorker outs (set ws p (is_sent_more (get_or ws p None) (number, job)))) (set_again (outs_in h.owners) p (Some lent) out)
        (zip_set HasWorker (outs_in h.owners) ws p (Some lent) (is_sent_more (get_or ws p None) (number, job)) each one)

    pub sent_jobs : map jobs_at (set ws p (is_sent_more (get_or ws p None) (number, job))) ≡ set (map jobs_at ws) p (get_or (map jobs_at ws) p [] ++ (number, job) ∷ [])
    sent_jobs =
        let found = worker_there (outs_in h.owners) ws each p lent out in
        map-set jobs_at ws p (is_sent_more (get_or ws p None) (number, job))
        ∙ rw (jobs_of_part (outs_in h.owners) ws each p, found.1) refl

  -- a part came home
  module _ (w : Sent) (is : get_or ws p None ≡ Some w) (answers : List (ℕ × Reply)) (home : HoldingState) (session : IsSession w.lent w.jobs answers home) where
    whose : (lent : HoldingState) × (slice_get (outs_in h.owners) p ≡ Some (Some lent)) × (w.lent ≡ lent) × AreNumberless w.jobs
    whose = whose_worker (outs_in h.owners) ws each p w is

    part : (i : ℕ) × IsPartAt h p i (record { holding = whose.0; home = false })
    part = out_part h are p whose.0 whose.1

    pub home_with : (i : ℕ) × IsBackWith (slice_get h.owners i) home
    home_with =
        let told : IsSession whose.0 w.jobs answers home = subst (λ (k : HoldingState). IsSession k w.jobs answers home) whose.2 session in
        let at = slice_get_read h.owners (length h.owners) part.0 (Part (record { holding = whose.0; home = false })) refl part.1.there part.1.owner in
        (part.0, rw at (session_back whose.0 w.jobs answers home whose.3 told))

    pub home_outs : outs_in (set h.owners home_with.0 (Part (record { holding = home; home = true }))) ≡ set (outs_in h.owners) p None
    unfolding home_with part
    home_outs = set_number h are p part.0 part.1.region out_of (record { holding = whose.0; home = false }) part.1.owner (record { holding = home; home = true })

    pub home_each : AllZip HasWorker (outs_in (set h.owners home_with.0 (Part (record { holding = home; home = true })))) (set ws p None)
    home_each = rw home_outs (zip_set HasWorker (outs_in h.owners) ws p None None each tt)

    pub home_again : IsHomeAgain p (record { register = h; jobs = map jobs_at ws }) (Some answers)
        (record { register = record h { owners = set h.owners home_with.0 (Part (record { holding = home; home = true })) }; jobs = map jobs_at (set ws p None) })
    unfolding home_with part
    home_again = (
      whose.0,
      home,
      home_with.0,
      whose.1,
      rw (jobs_of_part (outs_in h.owners) ws each p, is) (subst (λ (k : HoldingState). IsSession k w.jobs answers home) whose.2 session),
      part.1.region,
      rw (map-set jobs_at ws p None) refl,
    )

  pub home_still : get_or ws p None ≡ None → (ws' : List (Option Sent)) → ws' ≡ set ws p None
      → IsHomeAgain p (record { register = h; jobs = map jobs_at ws }) None (record { register = h; jobs = map jobs_at ws' })
  home_still is ws' same =
      let again : set ws p None ≡ ws = ap (λ (w : Option Sent). set ws p w) (sym is) ∙ set-get_or ws p None in
      (rw (same, again) refl, nobodys_worker (outs_in h.owners) ws each p is)

-- all that is known where a job is sent to a part that is out
pub record IsSending (old : WorkersState) (h : OwnersState) (ws : List (Option Sent)) (p number : ℕ) (job : Job) : Type 0 where
  pub may : IfSome (get_or ws p None) (λ (sent : Sent). (length sent.jobs < MOST_PENDING) × IsWithinJob sent.lent job)
  pub some : IsSome (get_or ws p None)
  pub each : AllZip HasWorker (outs_in h.owners) (set ws p (is_sent_more (get_or ws p None) (number, job)))
  pub sent : IsSentTo p (number, job) old (record { register = h; jobs = map jobs_at (set ws p (is_sent_more (get_or ws p None) (number, job))) })

pub sends : (old : WorkersState) (h : OwnersState) (are : AreOwners h) (ws : List (Option Sent)) (each : AllZip HasWorker (outs_in h.owners) ws) (p number : ℕ) (job : Job)
    → IsOut p old (record { register = h; jobs = map jobs_at ws }) → IsJobOf old.register.regions p job → length (get_or old.jobs p []) < MOST_PENDING → IsSending old h ws p number job
sends old h are ws each p number job out of room =
    let lent = out.2.0 in
    let found = worker_there (outs_in h.owners) ws each p lent out.2.1 in
    let regions : h.regions ≡ old.register.regions = elim out.1 [
      | inl same ↦ ap (λ (g : OwnersState). g.regions) same
      | inr goes ↦ ap (λ (g : OwnersState). g.regions) goes.1.away
    ] in
    let now : IsJobOf h.regions p job = rw regions of in
    let own : get_or (map jobs_at ws) p [] ≡ found.0.jobs = jobs_of_part (outs_in h.owners) ws each p ∙ ap jobs_at found.1 in
    let had : get_or old.jobs p [] ≡ found.0.jobs = ap (λ (jobs : List (List (ℕ × Job))). get_or jobs p []) (sym out.0) ∙ own in
    record {
      may = rw found.1 (rw had at room, rw (found.2) (may_send h are ws each p lent out.2.1 job now));
      some = rw found.1 refl;
      each = sent_each h are ws each p lent out.2.1 number job now;
      sent = (record { register = h; jobs = map jobs_at ws }, out, ap (λ (jobs : List (List (ℕ × Job))). record { register = h; jobs = jobs }) (sent_jobs h are ws each p lent out.2.1 number job now));
    }
