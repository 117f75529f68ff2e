-- The register does an event itself: which parts come or go by it, and what that leaves of the workers.
use Rattle.hlr_workers.proofs.Common.{◌≡◌, ◌∙◌, refl, sym, ap, subst, ℕ, zero, suc, ◌+◌, ◌<◌, ◌≤◌, List, [], ◌∷◌, length, get_or, drop, map, arith, true, false, Bool, Some, None, Ok, Err, inl, inr, Option, Result, ◌-◌, ◌==◌, ◌&&◌, not, nat_lt, position, ◌⊎◌, AllByRecursion, AllZip, find, nat_tests, none-some, slice_get_within, AllZip-long, by_test, Refusal, s_id_of, Action, RowReply, dissolve_answer, dissolve_answer_of, part_before, divide_answer, divide_answer_of, is_part, parts_of, Region, Side, MOST_PARTS, find_none, HoldingState, MayAnswer, is_loose, out_of, outs_in, AreOwners, IsHomeFrom, OwnersState, homes_in, store_in, Store, RegionOwner, Part, Piece, IsHomeTo, AreHomesAfter, HaveSameHomes, IsAskedStep, IsOwnedStep, IsStep, action_for, dissolved_reply, divided_reply, given_reply, posted_reply, reply_of, taken_reply, Event, SubscriberData, NewDestination, AccessData, UpdateSubscriber, UpdateLocation, InsertForwarding, DeleteForwarding, AddSubscriber, AddAccess, AddFacility, SetActive, SetNumber, Give, Take, Divide, Dissolve, Reply, Sent, IsBehind, AreWorkersChanged, IsPlace, New, PartChange, Same, with_part_change, part_change_of, WorkersState, HasWorker, jobs_at, changes_parts}
use Rattle.tatp_actions.specs.declared.action.RowReply.TheVariants as row
use Rattle.hlr_core.specs.declared.event.Event.TheVariants.{Post}
use Rattle.hlr_workers.proofs.WorkersLemmas.{as_parts, idle_parts, out_is, outs_home}
use Rattle.hlr_workers.proofs.RegisterLemmas.{part_at}
use Rattle.hlr_workers.proofs.PartChangeLemmas.{map_changed, changed_zip}

-- a reply to anything but a divide and a dissolve tells of no part that came or went
rows_told : (rows : RowReply) → part_change_of (reply_of rows) ≡ Same
rows_told row.Done = refl
rows_told (row.Row subscriber) = refl
rows_told (row.Numbers numbers) = refl
rows_told (row.AccessRow data1 data2 data3 data4) = refl
rows_told (row.Refused why) = refl

owned_told : (loose : Bool) (act : Action) (b : Store) (r : Reply) (c : Store) → IsOwnedStep loose act b r c → part_change_of r ≡ Same
owned_told true act b r c step = ap part_change_of step.0
owned_told false act b r c step = ap part_change_of step.3 ∙ rows_told step.0

asked_told : (asked : Result Action Refusal) (b : Store) (r : Reply) (c : Store) → IsAskedStep asked b r c → part_change_of r ≡ Same
asked_told (Ok act) b r c step = owned_told (is_loose (s_id_of act) b.regions) act b r c step
asked_told (Err why) b r c step = ap part_change_of step.0

posted_told : (done : Result ℕ Refusal) → part_change_of (posted_reply done) ≡ Same
posted_told (Ok n) = refl
posted_told (Err why) = refl

given_told : (done : Result (ℕ × ℕ × ℕ) Refusal) → part_change_of (given_reply done) ≡ Same
given_told (Ok piece) = refl
given_told (Err why) = refl

taken_told : (piece part : ℕ) (done : Result Side Refusal) → part_change_of (taken_reply piece part done) ≡ Same
taken_told piece part (Ok side) = refl
taken_told piece part (Err why) = refl

-- what is so of each other event
record IsOther (event : Event) : Type 0 where
  register : (r : Reply) (h g : OwnersState) → AreHomesAfter event r h g → HaveSameHomes h g
  told : (b : Store) (r : Reply) (c : Store) → IsStep event b r c → part_change_of r ≡ Same

rows_other : (event : Event) → ((r : Reply) (h g : OwnersState) → AreHomesAfter event r h g → HaveSameHomes h g)
    → ((b : Store) (r : Reply) (c : Store) → IsStep event b r c → IsAskedStep (action_for event b.book) b r c) → IsOther event
rows_other event register step = record { register = register; told = λ b r c is. asked_told (action_for event b.book) b r c (step b r c is) }

-- an event is a divide, a dissolve or another one
kind : (event : Event) → ((part : ℕ) × (at : ℕ) × (event ≡ Divide part at)) ⊎ (((part : ℕ) × (event ≡ Dissolve part)) ⊎ IsOther event)
kind (Divide part at) = inl (part, at, refl)
kind (Dissolve part) = inr (inl (part, refl))
kind (Post part limit) = inr (inr (record { register = λ r h g is. is; told = λ b r c step. ap part_change_of step.2 ∙ posted_told step.0 }))
kind (Give part side at) = inr (inr (record { register = λ r h g is. is; told = λ b r c step. ap part_change_of step.2 ∙ given_told step.0 }))
kind (Take piece part) = inr (inr (record { register = λ r h g is. is; told = λ b r c step. ap part_change_of step.2 ∙ taken_told piece part step.0 }))
kind (SubscriberData s_id) = inr (inr (rows_other (SubscriberData s_id) (λ r h g is. is) (λ b r c step. step)))
kind (NewDestination s_id t a e) = inr (inr (rows_other (NewDestination s_id t a e) (λ r h g is. is) (λ b r c step. step)))
kind (AccessData s_id t) = inr (inr (rows_other (AccessData s_id t) (λ r h g is. is) (λ b r c step. step)))
kind (UpdateSubscriber s_id t bit d) = inr (inr (rows_other (UpdateSubscriber s_id t bit d) (λ r h g is. is) (λ b r c step. step)))
kind (UpdateLocation n v) = inr (inr (rows_other (UpdateLocation n v) (λ r h g is. is) (λ b r c step. step)))
kind (InsertForwarding n t a e x) = inr (inr (rows_other (InsertForwarding n t a e x) (λ r h g is. is) (λ b r c step. step)))
kind (DeleteForwarding n t a) = inr (inr (rows_other (DeleteForwarding n t a) (λ r h g is. is) (λ b r c step. step)))
kind (AddSubscriber s) = inr (inr (rows_other (AddSubscriber s) (λ r h g is. is) (λ b r c step. step)))
kind (AddAccess a) = inr (inr (rows_other (AddAccess a) (λ r h g is. is) (λ b r c step. step)))
kind (AddFacility f) = inr (inr (rows_other (AddFacility f) (λ r h g is. is) (λ b r c step. step)))
kind (SetActive s_id t v) = inr (inr (rows_other (SetActive s_id t v) (λ r h g is. is) (λ b r c step. step)))
kind (SetNumber s_id n) = inr (inr (rows_other (SetNumber s_id n) (λ r h g is. is) (λ b r c step. step)))

-- where no part may come or go, the spare desk stays
pub spare_after : (event : Event) (r : Reply) (h g : OwnersState) → AreHomesAfter event r h g → changes_parts event ≡ false → g.spare ≡ h.spare
spare_after event r h g register calm = elim (kind event) [
  | inl divide ↦ absurd (let clash : true ≡ false = ap changes_parts (sym divide.2) ∙ calm in cc)
  | inr rest ↦ elim rest [
    | inl dissolve ↦ absurd (let clash : true ≡ false = ap changes_parts (sym dissolve.1) ∙ calm in cc)
    | inr other ↦ (other.register r h g register).spare
  ]
]

-- who is out, and who is at home
none_at : (outs : List (Option HoldingState)) (q : ℕ) → AllByRecursion (λ (out : Option HoldingState). out ≡ None) outs → get_or outs q None ≡ None
none_at [] q none = refl
none_at (o ∷ outs) zero none = none.0
none_at (o ∷ outs) (suc q) none = none_at outs q none.1

outs_from : (owners : List RegionOwner) (first : ℕ) → AllByRecursion (λ (home : Bool). home ≡ true) (drop first (homes_in owners)) → (q : ℕ) → first ≤ q → get_or (outs_in owners) q None ≡ None
outs_from owners zero all q from = none_at (outs_in owners) q (outs_home owners all)
outs_from [] (suc first) all q from = refl
outs_from (Piece b ∷ owners) (suc first) all q from = outs_from owners (suc first) all q from
outs_from (Part l ∷ owners) (suc first) all zero from = absurd (omega arith)
outs_from (Part l ∷ owners) (suc first) all (suc q) from = outs_from owners first all q (omega arith)

module _ (h : OwnersState) (are : AreOwners h) where
  -- a part whose region is found has its place among all parts
  found_low : (p : ℕ) (region : Region) → find (is_part p) h.regions ≡ Some region → p < length (outs_in h.owners)
  found_low p region found = cases (position (is_part p) h.regions) refl
    where
      cases : (o : Option ℕ) → position (is_part p) h.regions ≡ o → p < length (outs_in h.owners)
      cases None none = absurd (none-some region (sym (find_none (is_part p) h.regions none) ∙ found))
      cases (Some i) index = let at = part_at h are p i index in slice_get_within (outs_in h.owners) p (out_of at.0) (out_is h are p i at.0 at.1)

  -- a divide that is done makes the part behind a part that is there, and there was room
  divided_there : (p at : ℕ) (found : Option Region) (told : ℕ × ℕ × ℕ) → find (is_part p) h.regions ≡ found → MayAnswer (divide_answer_of found p at h.regions) (Ok told)
      → (told.0 ≡ p + 1) × IsPlace (New (p + 1)) (length (outs_in h.owners))
  divided_there p at None told is may = absurd cc
  divided_there p at (Some part) told is may =
      let low = found_low p part is in
      let count = as_parts h are in
      let few = are.are.few_parts in
      by_test (not (nat_lt part.lo at && nat_lt at part.hi))
      (λ e. let clash = rw e at may in absurd cc)
      (λ e.
      by_test (length (parts_of h.regions) == MOST_PARTS)
      (λ full. let clash = rw (e, full) at may in absurd cc)
      (λ room.
      let parts : length (parts_of h.regions) < MOST_PARTS = grind (arith, nat_tests) in
      elim (rw (e, room) at may) [
        | inl done ↦ (let one : told ≡ (p + 1, at, part.hi) = cc in ap (λ (t : ℕ × ℕ × ℕ). t.0) one, (omega arith, omega arith))
        | inr memory ↦ absurd cc
      ]))

  -- and a dissolve that is done has a part go that is there, and tells the one in front
  dissolved_there : (p : ℕ) (found front : Option Region) (told : ℕ × ℕ × ℕ) → find (is_part p) h.regions ≡ found → part_before p h.regions ≡ front → MayAnswer (dissolve_answer_of found front p) (Ok told)
      → (told.0 + 1 ≡ p) × (p < length (outs_in h.owners))
  dissolved_there p None front told is before may = absurd cc
  dissolved_there p (Some part) None told is before may = absurd cc
  dissolved_there zero (Some part) (Some front) told is before may = absurd (none-some front before)
  dissolved_there (suc p) (Some part) (Some front) told is before may =
      by_test (front.hi == part.lo)
      (λ e.
      elim (rw e at may) [
        | inl done ↦ (let one : told ≡ (suc p - 1, front.lo, part.hi) = cc in let number = ap (λ (t : ℕ × ℕ × ℕ). t.0) one in omega arith, found_low (suc p) part is)
        | inr memory ↦ absurd cc
      ])
      (λ e. let clash = rw e at may in absurd cc)

-- what the register leaves of who is out, where the parts that work on an event were at home
record AreHomesChanged (told : PartChange) (h g : OwnersState) : Type 0 where
  pub outs : outs_in g.owners ≡ with_part_change told None (outs_in h.owners)
  pub place : IsPlace told (length (outs_in h.owners))
  pub home : (q : ℕ) → IsBehind told q → get_or (outs_in h.owners) q None ≡ None

same_changed : (h g : OwnersState) → outs_in g.owners ≡ outs_in h.owners → AreHomesChanged Same h g
same_changed h g same = record { outs = same; place = tt; home = λ q behind. absurd behind }

module _ (h : OwnersState) (are : AreOwners h) (g : OwnersState) where
  divide_changed : (p at : ℕ) (done : Result (ℕ × ℕ × ℕ) Refusal) → MayAnswer (divide_answer p at h.regions) done → AreHomesAfter (Divide p at) (divided_reply done) h g → IsHomeFrom p h
      → AreHomesChanged (part_change_of (divided_reply done)) h g
  divide_changed p at (Err why) may register home = same_changed h g register.outs
  divide_changed p at (Ok new) may register home =
      let there = divided_there h are p at (find (is_part p) h.regions) new refl may in
      rw (there.0) (record { outs = register.outs; place = there.1; home = λ q behind. outs_from h.owners p home q (omega arith) })

  dissolve_changed : (p : ℕ) (done : Result (ℕ × ℕ × ℕ) Refusal) → MayAnswer (dissolve_answer p h.regions) done → AreHomesAfter (Dissolve p) (dissolved_reply done) h g → IsHomeFrom (p - 1) h
      → AreHomesChanged (part_change_of (dissolved_reply done)) h g
  dissolve_changed p (Err why) may register home = same_changed h g register.outs
  dissolve_changed p (Ok front) may register home =
      let there = dissolved_there h are p (find (is_part p) h.regions) (part_before p h.regions) front refl refl may in
      rw (there.0) (record { outs = register.outs; place = there.1; home = λ q behind. outs_from h.owners (p - 1) home q (omega arith) })

  register_changed : (event : Event) (r : Reply) → IsStep event (store_in h) r (store_in g) → AreHomesAfter event r h g → IsHomeTo event h → AreHomesChanged (part_change_of r) h g
  register_changed event r step register home = elim (kind event) [
    | inl divide ↦ divided (divide.0) (divide.1) (rw divide.2 at step) (rw divide.2 at register) (rw divide.2 at home)
    | inr rest ↦ elim rest [
      | inl dissolve ↦ dissolved (dissolve.0) (rw dissolve.1 at step) (rw dissolve.1 at register) (rw dissolve.1 at home)
      | inr other ↦ rw (other.told (store_in h) r (store_in g) step) (same_changed h g (other.register r h g register).outs)
    ]
  ]
    where
      divided : (p at : ℕ) → IsStep (Divide p at) (store_in h) r (store_in g) → AreHomesAfter (Divide p at) r h g → IsHomeFrom p h → AreHomesChanged (part_change_of r) h g
      divided p at step register home = rw (step.2) (divide_changed p at step.0 step.1 (rw (step.2) at register) home)

      dissolved : (p : ℕ) → IsStep (Dissolve p) (store_in h) r (store_in g) → AreHomesAfter (Dissolve p) r h g → IsHomeFrom (p - 1) h → AreHomesChanged (part_change_of r) h g
      dissolved p step register home = rw (step.2) (dissolve_changed p step.0 step.1 (rw (step.2) at register) home)

-- what that leaves of workers: each part that is out keeps its worker
pub record IsApplied (old : WorkersState) (g : OwnersState) (ws : List (Option Sent)) (told : PartChange) : Type 0 where
  pub room : IsPlace told (length ws)
  pub each : AllZip HasWorker (outs_in g.owners) (with_part_change told None ws)
  pub now : AreWorkersChanged told old (record { register = g; jobs = map jobs_at (with_part_change told None ws) })

workers_applied : (h : OwnersState) (ws : List (Option Sent)) → AllZip HasWorker (outs_in h.owners) ws → (told : PartChange) (g : OwnersState) → AreHomesChanged told h g
    → IsApplied (record { register = h; jobs = map jobs_at ws }) g ws told
workers_applied h ws each told g is = record {
  room = subst (λ (n : ℕ). IsPlace told n) (sym (AllZip-long HasWorker (outs_in h.owners) ws each)) is.place;
  each = rw (is.outs) (changed_zip HasWorker told None None (outs_in h.owners) ws tt each);
  now = record {
    outs = is.outs;
    jobs = map_changed jobs_at told None ws;
    place = is.place;
    home = is.home;
    idle = idle_parts h ws each;
  };
}

pub applied : (old : WorkersState) (h : OwnersState) (ws : List (Option Sent)) → record { register = h; jobs = map jobs_at ws } ≡ old → AreOwners h → AllZip HasWorker (outs_in h.owners) ws
    → (event : Event) (r : Reply) (g : OwnersState) → IsHomeTo event old.register → IsStep event (store_in h) r (store_in g) → AreHomesAfter event r h g → IsApplied old g ws (part_change_of r)
applied old h ws view are each event r g home step register =
    subst (λ (workers : WorkersState). IsApplied workers g ws (part_change_of r)) view
    (workers_applied h ws each (part_change_of r) g (register_changed h are g event r step register (subst (λ (workers : WorkersState). IsHomeTo event workers.register) (sym view) home)))
