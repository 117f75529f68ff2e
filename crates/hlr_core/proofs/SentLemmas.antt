-- What a job does to the holding of a part, and answers, is a right step of the whole store.
use Rattle.hlr_core.proofs.Common.{◌≡◌, refl, ℕ, List, get_or, set, true, Some, None, Ok, position, TableId, IsOutcome, is_in_range, s_id_of, IsWithin, Action, RowReply, is_part, place_of, Region, part_has, blank, HoldingState, Job, AreDesks, of_holding, PartOwnerState, OwnersState, AreOwners, book_in, desks_in, states_in, store_in, slots_of, Part, part_has_place, posted_right, acts_at, owned, state_is, states-set, parts-kept, region_there, with_owners, IsActed, IsJobOf, IsPosted, IsWithinJob, IsAskedStep, IsStep, given_number, Post, Reply}
use Rattle.part_table.specs.declared.region.Place.TheVariants as place
use Rattle.holding.specs.declared.job.Job.TheVariants as jobs
use Rattle.hlr_core.proofs.RegisterLemmas.{acted_step, posted_step}

module _ (h : OwnersState) (are : AreOwners h) (p i : ℕ) (index : position (is_part p) h.regions ≡ Some i) (l m : PartOwnerState) (is : Part l ≡ get_or h.owners i (Part l)) where
  -- an action on a subscriber of the part
  module _ (act : Action) (placed : place_of (s_id_of act) h.regions ≡ Some (place.Part p)) where
    sent_outcome : (rows : RowReply) → IsOutcome act l.holding.part.book rows m.holding.part.book → IsOutcome act (book_in h.owners) rows (book_in (set h.owners i (Part m)))
    sent_outcome rows outcome =
        rw (states-set h.owners i (Part m))
        (acts_at h.width 1 h.regions (states_in h.owners) i blank act (of_holding l.holding) (of_holding m.holding) rows (owned h.width h.regions h.owners are.each) are.are.consecutive
        (region_there h are i (Part l) is (part_has_place h are p i index)) (state_is h.owners i (Part l) is) (part_has (s_id_of act) p i h.regions are.are index placed) outcome)

    pub acted_sent : (answer : Reply) → given_number act ≡ None → is_in_range act ≡ true → IsActed act l.holding answer m.holding
        → IsAskedStep (Ok act) (store_in h) answer (store_in (with_owners h (set h.owners i (Part m))))
    acted_sent answer none fits done =
        let desks = parts-kept (λ (o : PartOwnerState). o.holding.desk) h.owners i l m done.desk.0 is in
        acted_step act (store_in h) (store_in (with_owners h (set h.owners i (Part m)))) done.rows answer fits (rw placed refl) (rw none refl) (sent_outcome done.rows done.outcome) (rw desks refl) done.answered

  -- a posting of the part
  pub posted_sent : (board : TableId) → AreDesks board h.spare (desks_in h.owners) → (limit : ℕ) (answer : Reply) → IsPosted limit l.holding answer m.holding
      → IsStep (Post p limit) (store_in h) answer (store_in (with_owners h (set h.owners i (Part m))))
  posted_sent board rules limit answer done =
      rw done.answered
      (posted_step (slots_of (store_in h) p) p limit (store_in h) (store_in (with_owners h (set h.owners i (Part m)))) done.posted
      (posted_right h are board rules p i index l is m limit done.posted done.lawful done.done done.part done.desk))

-- a part's holding may be asked for each job of the part
pub within_job : (regions : List Region) (p : ℕ) (holding : HoldingState) → ((s_id : ℕ) → place_of s_id regions ≡ Some (place.Part p) → IsWithin holding.part.lo holding.part.hi s_id)
    → (job : Job) → IsJobOf regions p job → IsWithinJob holding job
within_job regions p holding within (jobs.Act act) sent = within (s_id_of act) sent.0
within_job regions p holding within (jobs.Post limit) sent = tt
