-- Where an event goes: what it asks for, and what may be answered to it at once, are the same whatever jobs are done.
use Rattle.hlr_core.proofs.Common.{◌≡◌, ◌∙◌, refl, sym, ℕ, ◌<◌, ◌≤◌, arith, List, [], ◌∷◌, length, map, true, false, Bool, Option, Some, None, Ok, Err, IfSome, option_map, inl, inr, ◌↔◌, position, list_any, length-map, slice_get_past, get_or_from_slice_get, TableId, by_test, Refusal, s_id_of, Book, is_part, lies_in, place_of, parts_of, Region, none_passes, is_part_there, Job, AreDesks, slots_in, PartOwnerState, OwnersState, AreOwners, book_in, desks_in, homes_in, store_in, Store, slots_of, RegionOwner, Part, desks_later, at_number, count_parts, part_state_at, AsksFor, IsOn, is_on_rows, AreLater, with_owners, bearer_id, IsRouted, IsAskedStep, IsStep, action_for, checked, Action, IsAskedJob, is_here, IsHomeFor, IsHomeTo, Event, SubscriberData, NewDestination, AccessData, UpdateSubscriber, AddSubscriber, AddAccess, AddFacility, SetActive, SetNumber, UpdateLocation, InsertForwarding, DeleteForwarding, Post, Give, Take, Divide, Dissolve, Reply, Now, To}
use Rattle.tatp_rows.specs.declared.refusal.Refusal.TheVariants as refusal
use Rattle.part_table.specs.declared.region.Place.TheVariants as place
use Rattle.std.proofs.lemmas.List.{get_or_past}
use Rattle.holding.specs.declared.job.Job.TheVariants as jobs
use Rattle.tatp_actions.specs.declared.action.Action.TheVariants as action
use Rattle.hlr_core.specs.declared.event.Reply.TheVariants as reply
use Rattle.hlr_core.proofs.LaterLemmas.{all_ruled_later, bearer_later, each_owner}
use Rattle.hlr_core.proofs.SentLemmas.{acted_sent, posted_sent}

-- a right step of an event on rows is one of what it asks for
pub row_step : (event : Event) (before : Store) (answer : Reply) (after : Store) → is_on_rows event ≡ true → IsStep event before answer after ↔ IsAskedStep (action_for event before.book) before answer after
row_step (Post part limit) before answer after rows = absurd cc
row_step (Give part side at) before answer after rows = absurd cc
row_step (Take piece part) before answer after rows = absurd cc
row_step (Divide part at) before answer after rows = absurd cc
row_step (Dissolve part) before answer after rows = absurd cc
row_step _ before answer after rows = (λ step. step, λ step. step)

-- what an event asks for is of who has a number alone
asked_same : (event : Event) (book other : Book) → ((n : ℕ) → bearer_id other.subscribers n ≡ bearer_id book.subscribers n) → action_for event other ≡ action_for event book
asked_same (UpdateLocation sub_nbr vlr_location) book other same = rw (same sub_nbr) refl
asked_same (InsertForwarding sub_nbr sf_type start_time end_time numberx) book other same = rw (same sub_nbr) refl
asked_same (DeleteForwarding sub_nbr sf_type start_time) book other same = rw (same sub_nbr) refl
asked_same _ book other same = refl

-- the part of a place is there
part_stands : (s_id p : ℕ) (regions : List Region) → place_of s_id regions ≡ Some (place.Part p) → list_any (is_part p) regions ≡ true
part_stands s_id p [] placed = absurd cc
part_stands s_id p (r ∷ regions) placed =
    by_test (is_part p r)
    (λ e. rw e refl)
    (λ e. rw e (part_stands s_id p regions (behind r placed e)))
  where
    behind : (r : Region) → place_of s_id (r ∷ regions) ≡ Some (place.Part p) → is_part p r ≡ false → place_of s_id regions ≡ Some (place.Part p)
    behind r placed other =
        by_test (lies_in s_id r)
        (λ e. let here : Some r.place ≡ Some (place.Part p) = rw e at placed in
        let clash : true ≡ false = sym (is_part_there p r cc) ∙ other in absurd cc)
        (λ e. rw e at placed)

pub part_index : (s_id p : ℕ) (regions : List Region) → place_of s_id regions ≡ Some (place.Part p) → (i : ℕ) × (position (is_part p) regions ≡ Some i)
part_index s_id p regions placed =
    (elim (position (is_part p) regions) as (λ o. position (is_part p) regions ≡ o → (i : ℕ) × (position (is_part p) regions ≡ Some i)) [
      | Some i ↦ λ e. (i, e)
      | None ↦ λ e. let clash : true ≡ false = sym (part_stands s_id p regions placed) ∙ none_passes (is_part p) regions e in absurd cc
    ]) refl

part_low : (h : OwnersState) (are : AreOwners h) (p i : ℕ) → position (is_part p) h.regions ≡ Some i → p < length (homes_in h.owners)
part_low h are p i index =
    let stands = part_state_at h are p i index in
    (at_number h are p i index (λ (o : PartOwnerState). o.home) stands.0 stands.1 false).0

-- the subscriber of the action that an event asks for is the one on whose rows the event works
named_home : (fits : Bool) (act own : Action) (h : OwnersState) → checked fits (Some own) ≡ Ok act → IsHomeFor (s_id_of act) h → IsHomeFor (s_id_of own) h
named_home false act own h is home = absurd cc
named_home true act own h is home = let same : own ≡ act = cc in rw same home

bearer_named_home : (fits : Bool) (act : Action) (wanted : ℕ → Action) (bearer : Option ℕ) (h : OwnersState) → ((s_id : ℕ) → s_id_of (wanted s_id) ≡ s_id) → checked fits (option_map wanted bearer) ≡ Ok act
    → IsHomeFor (s_id_of act) h → IfSome bearer (λ s_id. IsHomeFor s_id h)
bearer_named_home fits act wanted None h own is home = tt
bearer_named_home false act wanted (Some s_id) h own is home = absurd cc
bearer_named_home true act wanted (Some s_id) h own is home =
    let same : wanted s_id ≡ act = cc in
    let named : s_id ≡ s_id_of act = rw same at (sym (own s_id)) in
    rw named home

home_of_action : (event : Event) (h : OwnersState) (act : Action) → is_on_rows event ≡ true → action_for event (book_in h.owners) ≡ Ok act → IsHomeFor (s_id_of act) h → IsHomeTo event h
home_of_action (SubscriberData s_id) h act rows is home = named_home _ act (action.SubscriberData s_id) h is home
home_of_action (NewDestination s_id t a e) h act rows is home = named_home _ act (action.NewDestination s_id t a e) h is home
home_of_action (AccessData s_id t) h act rows is home = named_home _ act (action.AccessData s_id t) h is home
home_of_action (UpdateSubscriber s_id t bit d) h act rows is home = named_home _ act (action.UpdateSubscriber s_id t bit d) h is home
home_of_action (UpdateLocation n v) h act rows is home = bearer_named_home _ act _ _ h (λ s_id. refl) is home
home_of_action (InsertForwarding n t a e x) h act rows is home = bearer_named_home _ act _ _ h (λ s_id. refl) is home
home_of_action (DeleteForwarding n t a) h act rows is home = bearer_named_home _ act _ _ h (λ s_id. refl) is home
home_of_action (AddSubscriber row) h act rows is home = named_home true act (action.AddSubscriber row) h is home
home_of_action (AddAccess row) h act rows is home = named_home true act (action.AddAccess row) h is home
home_of_action (AddFacility row) h act rows is home = named_home true act (action.AddFacility row) h is home
home_of_action (SetActive s_id t v) h act rows is home = named_home _ act (action.SetActive s_id t v) h is home
home_of_action (SetNumber s_id n) h act rows is home = named_home _ act (action.SetNumber s_id n) h is home
home_of_action (Post part limit) h act rows is home = absurd cc
home_of_action (Give part side at) h act rows is home = absurd cc
home_of_action (Take piece part) h act rows is home = absurd cc
home_of_action (Divide part at) h act rows is home = absurd cc
home_of_action (Dissolve part) h act rows is home = absurd cc

-- a job that an event on rows asks for is an action
no_action : (event : Event) (h : OwnersState) (why : Refusal) (part : ℕ) (job : Job) → is_on_rows event ≡ true → action_for event (book_in h.owners) ≡ Err why → IsAskedJob event h part job → ⊥
no_action event h why part (jobs.Act act) rows refused asked = let clash : Err why ≡ Ok act = sym refused ∙ asked in cc
no_action event h why part (jobs.Post limit) rows refused asked = let clash : false ≡ true = rw asked at rows in cc

-- what an event asks for is what it asked for when it was routed
pub asks_later : (event : Event) (h : OwnersState) (rows : is_on_rows event ≡ true) (ks : List RegionOwner) → AreLater h.owners ks → action_for event (book_in ks) ≡ action_for event (book_in h.owners)
asks_later event h rows ks later = asked_same event (book_in h.owners) (book_in ks) (bearer_later h.owners ks later)

module _ (event : Event) (h : OwnersState) (rows : is_on_rows event ≡ true) (elsewhere : is_here event ≡ false) where
  -- it is refused at once
  pub now_refused : (why : Refusal) → action_for event (book_in h.owners) ≡ Err why → IsRouted event h (Now (reply.Refused why))
  now_refused why asked = (
    λ ks later.
        (row_step event (store_in (with_owners h ks)) (reply.Refused why) (store_in (with_owners h ks)) rows).1 (rw (asks_later event h rows ks later, asked) (refl, refl)),
    λ work. elim work [
      | inl here ↦ absurd (let clash : true ≡ false = sym here ∙ elsewhere in cc)
      | inr job ↦ absurd (no_action event h why job.0 job.1 rows asked job.2)
    ],
  )

  module _ (s_id : ℕ) where
    -- the part of its subscriber does the job that it asks for
    pub job_to : (job : Job) → AsksFor (action_for event (book_in h.owners)) job → IsOn s_id job → (p : ℕ) → AreOwners h → place_of s_id h.regions ≡ Some (place.Part p) → IsRouted event h (To p job)
    job_to (jobs.Act act) asks on p are here =
        let placed : place_of (s_id_of act) h.regions ≡ Some (place.Part p) = rw on at here in (
          (let there = part_index (s_id_of act) p h.regions placed in part_low h are p there.0 there.1),
          (placed, asks.1.1),
          asks.0,
          λ ks after answer later done.
              (row_step event (store_in (with_owners h ks)) answer (store_in (with_owners h after)) rows).1
              (rw (asks_later event h rows ks later, asks.0, done.is)
              (acted_sent (with_owners h ks) (all_ruled_later h ks are later) p done.index done.region done.part_owner_state (record done.part_owner_state { holding = done.holding })
              (sym (get_or_from_slice_get ks done.index (Part done.part_owner_state) (Part done.part_owner_state) done.owner)) act placed answer asks.1.1 asks.2 done.done)),
        )
    job_to (jobs.Post limit) asks on p are here = absurd asks

    -- its subscriber lies in a loose piece
    pub job_moving : (job : Job) → AsksFor (action_for event (book_in h.owners)) job → IsOn s_id job → (n : ℕ) → place_of s_id h.regions ≡ Some (place.Piece n) → IsRouted event h (Now (reply.Refused refusal.Moving))
    job_moving (jobs.Act act) asks on n here =
        let placed : place_of (s_id_of act) h.regions ≡ Some (place.Piece n) = rw on at here in (
          λ ks later.
              (row_step event (store_in (with_owners h ks)) (reply.Refused refusal.Moving) (store_in (with_owners h ks)) rows).1 (rw (asks_later event h rows ks later, asks.0, placed) (refl, refl)),
          λ work. home_of_action event h act rows asks.0 (rw placed tt),
        )
    job_moving (jobs.Post limit) asks on n here = absurd asks

-- a posting goes to its part, if there is such a part
pub post_to : (h : OwnersState) (are : AreOwners h) (board : TableId) → AreDesks board h.spare (desks_in h.owners) → (p limit : ℕ) → p < length (parts_of h.regions)
    → IsRouted (Post p limit) h (To p (jobs.Post limit))
post_to h are board rules p limit low = (
  (let count = count_parts (λ (o : PartOwnerState). o.home) h.width h.regions h.owners are.each in omega arith),
  tt,
  refl,
  λ ks after answer later done.
      rw done.is
      (posted_sent (with_owners h ks) (all_ruled_later h ks are later) p done.index done.region done.part_owner_state (record done.part_owner_state { holding = done.holding })
      (sym (get_or_from_slice_get ks done.index (Part done.part_owner_state) (Part done.part_owner_state) done.owner)) board (desks_later board h.spare h.owners ks (each_owner h.owners ks later) rules) limit answer done.done),
)

pub post_nowhere : (h : OwnersState) (are : AreOwners h) (p limit : ℕ) → length (parts_of h.regions) ≤ p → IsRouted (Post p limit) h (Now (reply.Refused refusal.NoPart))
post_nowhere h are p limit past = (
  λ ks later.
      let now = all_ruled_later h ks are later in
      let count = count_parts (λ (o : PartOwnerState). o.holding.desk) h.width h.regions ks now.each in
      let long = length-map (desks_in ks) slots_in in
      let none : slots_of (store_in (with_owners h ks)) p ≡ None = slice_get_past (map slots_in (desks_in ks)) p (omega arith) in
      rw none (Err refusal.NoPart, (refl, refl), refl),
  λ work.
      let count = count_parts (λ (o : PartOwnerState). o.home) h.width h.regions h.owners are.each in
      get_or_past (homes_in h.owners) p true (omega arith),
)
