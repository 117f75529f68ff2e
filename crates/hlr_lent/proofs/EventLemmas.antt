-- Whether the parts are at home on which something works, and what an event leaves of who is out.
use Rattle.hlr_lent.proofs.Common.{◌≡◌, ◌∙◌, refl, sym, ap, ℕ, zero, suc, ◌<◌, ◌≤◌, ◌+◌, List, [], ◌∷◌, length, get_or, drop, arith, true, false, Bool, Some, None, Ok, Err, inl, inr, Option, IfSome, Result, ◌≢◌, ◌⊎◌, ◌-◌, insert, remove, AllByRecursion, result_err, cases_lt, nat_tests, by_test, between, is_between, LAST_SUBSCRIBER, Refusal, recut_answer, lies_in, IsConsecutive, place_of, CutMove, Region, END, Action, Act, MayAnswer, outs_in, IsHomeToCut, IsHomeToMove, AreOwners, IsHomeFor, IsHomeFrom, OwnersState, book_in, homes_in, store_in, Store, lies_within, IsHomeTo, AreHomesAfter, HaveSameHomes, is_here, IsStep, action_for, dissolved_reply, divided_reply, given_reply, taken_reply, Event, SubscriberData, NewDestination, AccessData, UpdateSubscriber, UpdateLocation, InsertForwarding, DeleteForwarding, AddSubscriber, AddAccess, AddFacility, SetActive, SetNumber, Give, Take, Divide, Dissolve, Reply, all_later_self, IsAsking, IsAskedJob, IsAway, IsRegisterStep, IsRouted, Now, Job, is_on_rows, with_outs, allowed, refusal_of, HaveRings}
use Rattle.holding.specs.declared.job.Job.TheVariants.{Post as Posting}
use Rattle.hlr_core.specs.declared.event.Event.TheVariants.{Post}
use Rattle.tatp_rows.specs.declared.refusal.Refusal.TheVariants.{Field}
use Rattle.hlr_core.specs.declared.event.Reply.TheVariants as reply
use Rattle.hlr_lent.proofs.RingLemmas.{Ring, none_out}

-- all parts from one on are at home where each is
each_from : (homes : List Bool) (p : ℕ) → AllByRecursion (λ (home : Bool). home ≡ true) (drop p homes) → (q : ℕ) → p ≤ q → get_or homes q true ≡ true
each_from [] p all q from = refl
each_from (home ∷ homes) zero all zero from = all.0
each_from (home ∷ homes) zero all (suc q) from = each_from homes zero all.1 q (omega arith)
each_from (home ∷ homes) (suc p) all zero from = absurd (omega arith)
each_from (home ∷ homes) (suc p) all (suc q) from = each_from homes p all q (omega arith)

-- nobody is out from a part on
nobody_from : (p : ℕ) (h : OwnersState) → IsHomeFrom p h → (q : ℕ) → p ≤ q → get_or (outs_in h.owners) q None ≡ None
nobody_from p h all q from = none_out h.owners q (each_from (homes_in h.owners) p all q from)

-- a place more or less among places where nobody is out
insert_none : {X : Type 0} (xs : List (Option X)) (i : ℕ) → ((q : ℕ) → i ≤ q → get_or xs q None ≡ None) → (q : ℕ) → get_or (insert xs i None) q None ≡ get_or xs q None
insert_none xs zero none zero = sym (none 0 (omega arith))
insert_none xs zero none (suc q) = none q (omega arith) ∙ sym (none (suc q) (omega arith))
insert_none [] (suc i) none zero = refl
insert_none [] (suc i) none (suc q) = refl
insert_none (x ∷ xs) (suc i) none zero = refl
insert_none (x ∷ xs) (suc i) none (suc q) = insert_none xs i (λ r from. none (suc r) (omega arith)) q

remove_none : {X : Type 0} (xs : List (Option X)) (i : ℕ) → ((q : ℕ) → i ≤ q → get_or xs q None ≡ None) → (q : ℕ) → get_or (remove xs i) q None ≡ get_or xs q None
remove_none [] zero none q = refl
remove_none [] (suc i) none q = refl
remove_none (x ∷ xs) zero none q = none (suc q) (omega arith) ∙ sym (none q (omega arith))
remove_none (x ∷ xs) (suc i) none zero = refl
remove_none (x ∷ xs) (suc i) none (suc q) = remove_none xs i (λ r from. none (suc r) (omega arith)) q

-- so an event leaves who is out
module _ (h g : OwnersState) where
  abbrev OutsKept : Type 0
  OutsKept = (q : ℕ) → get_or (outs_in g.owners) q None ≡ get_or (outs_in h.owners) q None

  same_outs : HaveSameHomes h g → OutsKept
  same_outs homes q = ap (λ outs. get_or outs q None) homes.outs

  divided_outs : (part at : ℕ) (r : Reply) → IsHomeFrom part h → AreHomesAfter (Divide part at) r h g → OutsKept
  divided_outs part at (reply.Divided new lo hi) home homes q =
      ap (λ outs. get_or outs q None) homes.outs ∙ insert_none (outs_in h.owners) (part + 1) (λ r from. nobody_from part h home r (omega arith)) q
  divided_outs part at (reply.Rows rows) home homes q = same_outs homes q
  divided_outs part at (reply.Posted count) home homes q = same_outs homes q
  divided_outs part at (reply.Given piece lo hi) home homes q = same_outs homes q
  divided_outs part at (reply.Taken piece p) home homes q = same_outs homes q
  divided_outs part at (reply.Dissolved front lo hi) home homes q = same_outs homes q
  divided_outs part at (reply.Refused why) home homes q = same_outs homes q

  dissolved_outs : (part : ℕ) (r : Reply) → IsHomeFrom (part - 1) h → AreHomesAfter (Dissolve part) r h g → OutsKept
  dissolved_outs part (reply.Dissolved front lo hi) home homes q =
      ap (λ outs. get_or outs q None) homes.outs ∙ remove_none (outs_in h.owners) part (λ r from. nobody_from (part - 1) h home r (omega arith)) q
  dissolved_outs part (reply.Rows rows) home homes q = same_outs homes q
  dissolved_outs part (reply.Posted count) home homes q = same_outs homes q
  dissolved_outs part (reply.Given piece lo hi) home homes q = same_outs homes q
  dissolved_outs part (reply.Taken piece p) home homes q = same_outs homes q
  dissolved_outs part (reply.Divided new lo hi) home homes q = same_outs homes q
  dissolved_outs part (reply.Refused why) home homes q = same_outs homes q

  outs_after : (event : Event) (r : Reply) → IsHomeTo event h → AreHomesAfter event r h g → OutsKept
  outs_after (Divide part at) r home homes = divided_outs part at r home homes
  outs_after (Dissolve part) r home homes = dissolved_outs part r home homes
  outs_after (SubscriberData s_id) r home homes = same_outs homes
  outs_after (NewDestination s_id t a e) r home homes = same_outs homes
  outs_after (AccessData s_id t) r home homes = same_outs homes
  outs_after (UpdateSubscriber s_id t bit d) r home homes = same_outs homes
  outs_after (UpdateLocation n v) r home homes = same_outs homes
  outs_after (InsertForwarding n t a e x) r home homes = same_outs homes
  outs_after (DeleteForwarding n t a) r home homes = same_outs homes
  outs_after (AddSubscriber row) r home homes = same_outs homes
  outs_after (AddAccess row) r home homes = same_outs homes
  outs_after (AddFacility row) r home homes = same_outs homes
  outs_after (SetActive s_id t v) r home homes = same_outs homes
  outs_after (SetNumber s_id n) r home homes = same_outs homes
  outs_after (Post part limit) r home homes = same_outs homes
  outs_after (Give part side at) r home homes = same_outs homes
  outs_after (Take piece part) r home homes = same_outs homes

  pub rings_after : (event : Event) (r : Reply) (rings : List (Option Ring)) → IsHomeTo event h → AreHomesAfter event r h g → HaveRings (outs_in h.owners) rings → HaveRings (outs_in g.owners) rings
  rings_after event r rings home homes have q = rw (outs_after event r home homes q) (have q)

-- a refusal changes nobody's being at home or out
refused_homes : (event : Event) (why : Refusal) (h : OwnersState) → AreHomesAfter event (reply.Refused why) h h
refused_homes (Divide part at) why h = record { homes = refl; outs = refl; spare = refl }
refused_homes (Dissolve part) why h = record { homes = refl; outs = refl; spare = refl }
refused_homes _ why h = record { homes = refl; outs = refl; spare = refl }

-- a refusal that is known at once is right, and nothing waits then
pub refused_here : (event : Event) (why : Refusal) (h : OwnersState) → IsRouted event h (Now (reply.Refused why)) → IsRegisterStep event h (reply.Refused why) h
refused_here event why h routed = record {
  step = routed.0 h.owners (all_later_self h.owners);
  homes = refused_homes event why h;
  while_out = λ holdings later. routed.0 (with_outs h.owners holdings) later;
}

pub not_away : (event : Event) (why : Refusal) (h : OwnersState) → IsRouted event h (Now (reply.Refused why)) → IsAway event h → ⊥
not_away event why h routed away = away.out (routed.1 (elim away.asking [
  | inl here ↦ inl here.0
  | inr job ↦ inr job
]))

-- what the regions refuse is a right step, which changes nothing
barred_by : {A : Type 0} (wanted : Result A Refusal) (why : Refusal) → refusal_of wanted ≡ Err why → MayAnswer wanted (Err why)
barred_by (Ok done) why is = absurd (let clash : Ok tt ≡ Err why = is in cc)
barred_by (Err other) why is = let same : other ≡ why = cc in ap Err (sym same)

module _ (h : OwnersState) (why : Refusal) where
  abbrev pub IsBarred : Event → Type 0
  IsBarred event = ((s : Store) → s.regions ≡ h.regions → IsStep event s (reply.Refused why) s) × AreHomesAfter event (reply.Refused why) h h

  same_homes : HaveSameHomes h h
  same_homes = record { homes = refl; outs = refl; spare = refl }

  not_barred : {B : Type 0} (r : Result (Unit {0}) Refusal) → r ≡ Ok tt → r ≡ Err why → B
  not_barred r allows refuses = absurd (let clash = sym allows ∙ refuses in cc)

  pub barred : (event : Event) → allowed event h.regions ≡ Err why → IsBarred event
  barred (Give part side at) is = (λ s same. (Err why, rw same (barred_by _ why is), refl, refl), same_homes)
  barred (Take piece part) is = (λ s same. (Err why, rw same (barred_by _ why is), refl, refl), same_homes)
  barred (Divide part at) is = (λ s same. (Err why, rw same (barred_by _ why is), refl, refl), same_homes)
  barred (Dissolve part) is = (λ s same. (Err why, rw same (barred_by _ why is), refl, refl), same_homes)
  barred (SubscriberData s_id) is = not_barred _ refl is
  barred (NewDestination s_id t a e) is = not_barred _ refl is
  barred (AccessData s_id t) is = not_barred _ refl is
  barred (UpdateSubscriber s_id t bit d) is = not_barred _ refl is
  barred (UpdateLocation n v) is = not_barred _ refl is
  barred (InsertForwarding n t a e x) is = not_barred _ refl is
  barred (DeleteForwarding n t a) is = not_barred _ refl is
  barred (AddSubscriber row) is = not_barred _ refl is
  barred (AddAccess row) is = not_barred _ refl is
  barred (AddFacility row) is = not_barred _ refl is
  barred (SetActive s_id t v) is = not_barred _ refl is
  barred (SetNumber s_id n) is = not_barred _ refl is
  barred (Post part limit) is = not_barred _ refl is

-- what the regions refuse asks for nothing
module _ (h : OwnersState) (why : Refusal) where
  no_work : (event : Event) → allowed event h.regions ≡ Err why → ((part : ℕ) (job : Job) → IsAskedJob event h part job → ⊥) → IsAsking event h → ⊥
  no_work event is none (inl here) = not_barred h why (allowed event h.regions) here.1 is
  no_work event is none (inr job) = none job.0 job.1 job.2

  no_job : (event : Event) (part : ℕ) (job : Job) → is_on_rows event ≡ false → ((p l : ℕ) → event ≢ Post p l) → action_for event (book_in h.owners) ≡ Err Field → IsAskedJob event h part job → ⊥
  no_job event part (Act act) rows other refused asked = let clash : Err Field ≡ Ok act = sym refused ∙ asked in cc
  no_job event part (Posting limit) rows other refused asked = other part limit asked

  asks_nothing : (event : Event) → allowed event h.regions ≡ Err why → IsAsking event h → ⊥
  asks_nothing (Give part side at) is = no_work (Give part side at) is (λ p job. no_job (Give part side at) p job refl (λ q l clash. cc) refl)
  asks_nothing (Take piece part) is = no_work (Take piece part) is (λ p job. no_job (Take piece part) p job refl (λ q l clash. cc) refl)
  asks_nothing (Divide part at) is = no_work (Divide part at) is (λ p job. no_job (Divide part at) p job refl (λ q l clash. cc) refl)
  asks_nothing (Dissolve part) is = no_work (Dissolve part) is (λ p job. no_job (Dissolve part) p job refl (λ q l clash. cc) refl)
  asks_nothing (SubscriberData s_id) is = not_barred h why _ refl is
  asks_nothing (NewDestination s_id t a e) is = not_barred h why _ refl is
  asks_nothing (AccessData s_id t) is = not_barred h why _ refl is
  asks_nothing (UpdateSubscriber s_id t bit d) is = not_barred h why _ refl is
  asks_nothing (UpdateLocation n v) is = not_barred h why _ refl is
  asks_nothing (InsertForwarding n t a e x) is = not_barred h why _ refl is
  asks_nothing (DeleteForwarding n t a) is = not_barred h why _ refl is
  asks_nothing (AddSubscriber row) is = not_barred h why _ refl is
  asks_nothing (AddAccess row) is = not_barred h why _ refl is
  asks_nothing (AddFacility row) is = not_barred h why _ refl is
  asks_nothing (SetActive s_id t v) is = not_barred h why _ refl is
  asks_nothing (SetNumber s_id n) is = not_barred h why _ refl is
  asks_nothing (Post part limit) is = not_barred h why _ refl is

-- so the refusal of the regions is right, if they refuse, and nothing waits then; else the event asks for what the
-- register does
module _ (h : OwnersState) (event : Event) (r : Result (Unit {0}) Refusal) (is : r ≡ allowed event h.regions) where
  pub here_refused : IfSome (result_err r) (λ why. IsRegisterStep event h (reply.Refused why) h)
  here_refused = refused r is
    where
      refused : (r : Result (Unit {0}) Refusal) → r ≡ allowed event h.regions → IfSome (result_err r) (λ why. IsRegisterStep event h (reply.Refused why) h)
      refused (Ok done) is = tt
      refused (Err why) is =
          let right = barred h why event (sym is) in
          record { step = right.0 _ refl; homes = right.1; while_out = λ holdings later. right.0 _ refl }

  pub here_known : IfSome (result_err r) (λ why. IsAway event h → ⊥)
  here_known = known r is
    where
      known : (r : Result (Unit {0}) Refusal) → r ≡ allowed event h.regions → IfSome (result_err r) (λ why. IsAway event h → ⊥)
      known (Ok done) is = tt
      known (Err why) is = λ away. asks_nothing h why event (sym is) away.asking

  pub here_asks : is_here event ≡ true → result_err r ≡ None → IsAsking event h
  here_asks here none = asks r is none
    where
      asks : (r : Result (Unit {0}) Refusal) → r ≡ allowed event h.regions → result_err r ≡ None → IsAsking event h
      asks (Ok done) is none = inl (here, sym is)
      asks (Err why) is none = absurd (let clash : Some why ≡ None = none in cc)

-- a number out of range lies in no region, so nobody is out who has it
regions_end : (from : ℕ) (regions : List Region) → IsConsecutive from regions → from ≤ END
regions_end from [] is = let end : from ≡ END = is in omega arith
regions_end from (r ∷ regions) is =
    omega (arith, is.0, is.1, regions_end r.hi regions is.2)

nowhere : (from s_id : ℕ) (regions : List Region) → IsConsecutive from regions → (s_id < from) ⊎ (END ≤ s_id) → place_of s_id regions ≡ None
nowhere from s_id [] is out = refl
nowhere from s_id (r ∷ regions) is out =
    let lo = is.0 in
    let some = is.1 in
    let end = regions_end r.hi regions is.2 in
    by_test (lies_in s_id r)
    (λ lies. let within = lies_within s_id r lies in absurd (elim out [
      | inl below ↦ (let from_lo = within.0 in omega arith)
      | inr above ↦ (let under = within.1 in omega arith)
    ]))
    (λ while_out. rw while_out (nowhere r.hi s_id regions is.2 (elim out [
      | inl below ↦ inl (omega arith)
      | inr above ↦ inr above
    ])))

out_of_range : (s_id : ℕ) → is_between 1 LAST_SUBSCRIBER s_id ≡ false → (s_id < 1) ⊎ (END ≤ s_id)
out_of_range s_id out = elim (cases_lt s_id 1) [
  | inl below ↦ inl below
  | inr from ↦ elim (cases_lt s_id END) [
    | inl to ↦ absurd (let yes : is_between 1 LAST_SUBSCRIBER s_id ≡ true = grind (arith, nat_tests, from, to) in cc)
    | inr above ↦ inr above
  ]
]

refused_out : (s_id : ℕ) (why : Refusal) → between 1 LAST_SUBSCRIBER s_id ≡ Err why → is_between 1 LAST_SUBSCRIBER s_id ≡ false
refused_out s_id why is = by_test (is_between 1 LAST_SUBSCRIBER s_id) (λ yes. let ok : Ok s_id ≡ Err why = rw yes at is in absurd cc) (λ e. e)

pub nobody_home : (h : OwnersState) (are : AreOwners h) (s_id : ℕ) (why : Refusal) → between 1 LAST_SUBSCRIBER s_id ≡ Err why → IsHomeFor s_id h
nobody_home h are s_id why is = rw (nowhere 1 s_id h.regions are.are.consecutive (out_of_range s_id (refused_out s_id why is))) tt

-- a re-cut finds at home the parts on which it works, where each move does
moves_from : (h : OwnersState) (moves : List CutMove) → ((i : ℕ) (d : CutMove) → i < length moves → IsHomeToMove h (get_or moves i d)) → AllByRecursion (IsHomeToMove h) moves
moves_from h [] each = tt
moves_from h (move ∷ moves) each = (each 0 move (omega arith), moves_from h moves (λ i d low. each (suc i) d (omega arith)))

pub cut_from : (bounds : List ℕ) (h : OwnersState) (moves : List CutMove) → recut_answer h.regions bounds ≡ Ok moves → ((i : ℕ) (d : CutMove) → i < length moves → IsHomeToMove h (get_or moves i d)) → IsHomeToCut bounds h
cut_from bounds h moves answer each = rw answer (moves_from h moves each)
