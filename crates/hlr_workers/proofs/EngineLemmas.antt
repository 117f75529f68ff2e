-- The moves of an engine: where it stands after each.
use Rattle.hlr_workers.proofs.Common.{◌≡◌, ◌∙◌, refl, sym, ap, subst, ℕ, zero, suc, ◌+◌, ◌<◌, ◌≤◌, List, [], ◌∷◌, ◌++◌, length, get_or, set, arith, true, false, Bool, Some, None, inl, inr, Option, Result, Ok, Vec, slice_get, vec_capacity, if◌then◌else◌, ◌-◌, AllByRecursion, get_or_default, get_or_past, length-set, set-get_or, set-set, cases_lt, none-some, same_Some, slice_get_within, slice_get-get_or, slice_get_read, by_test, Refusal, HoldingState, Job, DeskState, with_view, looked, PartOwnerState, out_of, outs_in, with_out, with_outs, recut_answer, CutMove, parts_of, IsHomeToCut, IsHomeToMove, AllHome, AreOwners, IsLent, OwnersState, desks_in, part_holdings, homes_in, of_parts, store_in, Store, RegionOwner, Part, Piece, ahead, set_number, words_looked, IsRecutWhileOut, IsStepWhileOut, register_with, IsLaterDesk, HaveSameHomes, is_by_number, AreLater, IsLater, with_owners, IsRun, IsRightNow, IsRightSent, is_here, IsJobDone, IsJobOf, IsStep, Event, SubscriberData, NewDestination, AccessData, UpdateSubscriber, UpdateLocation, InsertForwarding, DeleteForwarding, AddSubscriber, AddAccess, AddFacility, SetActive, SetNumber, Give, Take, Divide, Dissolve, Reply, desk_same, all_later_after, all_later_self, all_ruled_later, put_later, AreBrought, AreIdle, IsAnswered, IsBehind, IsHomeAgain, IsOut, AreWorkersChanged, IsSentTo, PartChange, put_answers, with_part_change, part_change_of, AllNumberless, WorkersState, IsKept, NoneOut, engaged, nothing, AreNumberless, AreEnds, Cut, IsAsBefore, IsSettled, Stands, Took, TookNext, answers_by, answers_with, changes_parts, orders_of, store_at}
use Rattle.hlr_core.specs.declared.event.Event.TheVariants.{Post}
use Rattle.hlr_workers.proofs.WorkersLemmas.{as_homes, as_parts, lent_outs, numberless_of, out_part}
use Rattle.hlr_workers.proofs.RegisterLemmas.{IsPartAt, ends_later, out_done, out_ends, out_owners, part_at, owner_store, with_outs_same}
use Rattle.hlr_workers.proofs.PartChangeLemmas.{all_changed, ends_alike, ends_changed, numbered_changed, order_changed, changed_long, undone}
use Rattle.hlr_workers.proofs.SessionLemmas.{numberless_more}
use Rattle.hlr_workers.proofs.StandingLemmas.{CameHome, came_home, ends_long, get_there, put_answers-length, leads_back, leads_cut, leads_lent, leads_new, leads_sent, leads_settled, leads_told, order_new, order_sent, order_told}
use Rattle.hlr_workers.proofs.UnseenLemmas.{recut_unseen, seen_as, step_unseen}

-- jobs of all parts that give no number, with those of one part changed
numberless_set : (jobs : List (List (ℕ × Job))) (p : ℕ) (own : List (ℕ × Job)) → AllNumberless jobs → AreNumberless own → AllNumberless (set jobs p own)
numberless_set [] p own none one = tt
numberless_set (js ∷ jobs) zero own none one = (one, none.1)
numberless_set (js ∷ jobs) (suc p) own none one = (none.0, numberless_set jobs p own none.1 one)

numberless_at : (jobs : List (List (ℕ × Job))) (p : ℕ) → AllNumberless jobs → AreNumberless (get_or jobs p [])
numberless_at [] p none = tt
numberless_at (js ∷ jobs) zero none = none.0
numberless_at (js ∷ jobs) (suc p) none = numberless_at jobs p none.1

-- a part that isn't out is at home
at_home : (l : PartOwnerState) → out_of l ≡ None → l.home ≡ true
at_home l none = by_test l.home (λ e. e) (λ e. absurd (none-some l.holding (sym none ∙ ap (λ (b : Bool). if b then None else Some l.holding) e)))

-- a part in the place of another
module _ (h : OwnersState) (are : AreOwners h) (p i : ℕ) (l : PartOwnerState) (at : IsPartAt h p i l) where
  -- a part at home and one that is out, with the same holding, make the same store
  flag_store : (a : Store) (ends : List HoldingState) (m n : PartOwnerState) (y : HoldingState) → slice_get ends p ≡ Some y → (with_out m y).holding ≡ (with_out n y).holding
      → store_at a (record h { owners = set h.owners i (Part m) }) ends ≡ store_at a (record h { owners = set h.owners i (Part n) }) ends
  flag_store a ends m n y end same =
      let end_at : slice_get ends (ahead h.owners i) ≡ Some y = rw at.number end in
      let one : store_in (with_owners h (with_outs (set h.owners i (Part m)) ends)) ≡ store_in (with_owners h (with_outs (set h.owners i (Part n)) ends)) =
      rw (out_owners h.owners ends i l m y at.owner at.there end_at, out_owners h.owners ends i l n y at.owner at.there end_at)
      (owner_store h (with_outs h.owners ends) i (with_out m y) (with_out n y) same) in
      ap (seen_as a.sight) one

  set_own : set h.owners i (Part l) ≡ h.owners
  set_own = ap (set h.owners i) at.owner ∙ set-get_or h.owners i (Part l)

-- an event was answered at once, and changed nothing
module _ (workers : WorkersState) (replies : List (ℕ × Reply)) (kept : IsKept workers replies) where
  pub now_took : (event : Event) (r : Reply) → IsRightNow event workers.register r → TookNext (Took event) (engaged workers replies) (engaged workers (replies ++ (length replies, r) ∷ []))
  now_took event r right = λ start asked stands.
      leads_told (outs_in workers.register.owners) workers.jobs replies kept.order (store_at start workers.register) (store_at start workers.register) start asked
      (outs_in workers.register.owners) workers.jobs (λ ends. ends) (λ k. refl) (λ reply ends are. are) event r
      (λ reply ends are.
      let later = ends_later reply workers.register.owners workers.jobs ends kept.none are in
      step_unseen start.sight event (store_in (register_with workers.register ends)) r (store_in (register_with workers.register ends)) (right (with_outs workers.register.owners ends) later)) stands

  pub now_kept : (r : Reply) → IsKept workers (replies ++ (length replies, r) ∷ [])
  now_kept r = record { paired = kept.paired; none = kept.none; order = order_told (outs_in workers.register.owners) workers.jobs replies kept.order r }

  -- the register itself moved bounds
  module _ (after : WorkersState) (register : HaveSameHomes workers.register after.register) (jobs : after.jobs ≡ workers.jobs) where
    pub cut_took : (bounds : List ℕ) (done : Result ℕ Refusal) → IsRecutWhileOut bounds workers.register done after.register → TookNext (Cut bounds done) (engaged workers replies) (engaged after replies)
    cut_took bounds done right = λ start asked stands.
        rw (jobs, register.outs)
        (leads_cut (outs_in workers.register.owners) workers.jobs replies kept.order (store_at start workers.register) (store_at start after.register) start asked bounds done
        (λ reply ends are.
        let later = ends_later reply workers.register.owners workers.jobs ends kept.none are in
        recut_unseen start.sight bounds (store_in (register_with workers.register ends)) done (store_in (register_with after.register ends)) (right ends later)) stands)

    pub register_kept : IsKept after replies
    register_kept = record {
      paired = rw (jobs, register.outs) kept.paired;
      none = rw jobs kept.none;
      order = rw jobs kept.order;
    }

  -- the register itself did an event
  module _ (after : WorkersState) (told : PartChange) (is : AreWorkersChanged told workers after) where
    pub here_took : (event : Event) (r : Reply) → IsStepWhileOut event workers.register r after.register → TookNext (Took event) (engaged workers replies) (engaged after (replies ++ (length replies, r) ∷ []))
    here_took event r right = λ start asked stands.
        rw (is.jobs, is.outs)
        (leads_told (outs_in workers.register.owners) workers.jobs replies kept.order (store_at start workers.register) (store_at start after.register) start asked
        (with_part_change told None (outs_in workers.register.owners)) (with_part_change told [] workers.jobs) back (λ k. numbered_changed k told workers.jobs idle) ends_back event r
        (λ reply ends are.
        let later = ends_later reply workers.register.owners workers.jobs (back ends) kept.none (ends_back reply ends are) in
        let long = ends_long reply (with_part_change told None (outs_in workers.register.owners)) (with_part_change told [] workers.jobs) ends are in
        step_unseen start.sight event (store_in (register_with workers.register (back ends))) r (store_in (register_with after.register ends))
        (subst (λ (owners : List RegionOwner). IsStep event (store_in (register_with workers.register (back ends))) r (store_in (with_owners after.register owners))) (same ends long) (right (back ends) later))) stands)
      where
        idle : (q : ℕ) → IsBehind told q → get_or workers.jobs q [] ≡ []
        idle q behind = is.idle q (is.home q behind)

        back : List HoldingState → List HoldingState
        back ends = with_part_change (undone told) nothing ends

        ends_back : (reply : ℕ → Reply) (ends : List HoldingState) → AreEnds reply (with_part_change told None (outs_in workers.register.owners)) (with_part_change told [] workers.jobs) ends → AreEnds reply (outs_in workers.register.owners) workers.jobs (back ends)
        ends_back reply ends are = ends_changed reply told (outs_in workers.register.owners) workers.jobs ends kept.paired is.place is.home are

        same : (ends : List HoldingState) → length ends ≡ length (with_part_change told None (outs_in workers.register.owners)) → with_outs after.register.owners (back ends) ≡ with_outs after.register.owners ends
        same ends long = with_outs_same after.register.owners (back ends) ends (rw (is.outs) (ends_alike told (outs_in workers.register.owners) ends is.place long is.home))

    pub here_kept : (r : Reply) → IsKept after (replies ++ (length replies, r) ∷ [])
    here_kept r = record {
      paired = rw (is.jobs, is.outs) (changed_long told [] None workers.jobs (outs_in workers.register.owners) kept.paired);
      none = rw (is.jobs) (all_changed AreNumberless told [] workers.jobs tt kept.none);
      order = rw (is.jobs) (order_changed told workers.jobs (replies ++ (length replies, r) ∷ []) (λ q behind. is.idle q (is.home q behind)) (order_told (outs_in workers.register.owners) workers.jobs replies kept.order r));
    }

-- owners that differ in whether a part is at home
out_later : (p : ℕ) (workers mid : WorkersState) → IsOut p workers mid → AreLater workers.register.owners mid.register.owners × (mid.register ≡ with_owners workers.register mid.register.owners)
out_later p workers mid out = elim out.1 [
  | inl same ↦ (rw same (all_later_self workers.register.owners), rw same refl)
  | inr goes ↦
      let away = goes.1.away in
      let one = put_later workers.register.owners goes.1.index (Part (record { holding = goes.0; home = true })) (Part (record { holding = goes.0; home = false })) goes.1.owner (away_later goes.0) in
      (rw away one, away ∙ ap (λ (owners : List RegionOwner). with_owners workers.register owners) (sym (ap (λ (g : OwnersState). g.owners) away)))
]
  where
    away_later : (k : HoldingState) → IsLater (Part (record { holding = k; home = true })) (Part (record { holding = k; home = false }))
    away_later k = record { owner = (record { lo = refl; hi = refl; width = refl; board = refl; owned = refl }, λ lawful. lawful, λ wide. wide); numbers = refl }

module _ (workers : WorkersState) (replies : List (ℕ × Reply)) (kept : IsKept workers replies) (are : AreOwners workers.register) (p : ℕ) where
  -- a part went out
  lent_stands : (k : HoldingState) (g : OwnersState) → IsLent p workers.register k g → get_or workers.jobs p [] ≡ [] → IsAsBefore (engaged workers replies) (engaged (record { register = g; jobs = workers.jobs }) replies)
  lent_stands k g lent none = λ start asked stands.
      let outs = lent_outs workers.register are p k g lent in
      let found = part_at workers.register are p lent.index lent.region in
      let l = found.0 in
      let at = found.1 in
      let same : l ≡ record { holding = k; home = true } =
      (let one : ◌≡◌ {A = Option RegionOwner} (Some (Part l)) (Some (Part (record { holding = k; home = true }))) =
      sym (slice_get_read workers.register.owners (length workers.register.owners) lent.index (Part l) refl at.there at.owner) ∙ lent.owner in
      cc) in
      let low = slice_get_within (outs_in workers.register.owners) p None outs.0 in
      let paired = kept.paired in
      let jobs_at : slice_get workers.jobs p ≡ Some [] = slice_get-get_or workers.jobs p [] (omega arith) ∙ ap (λ (own : List (ℕ × Job)). Some own) none in
      rw outs.1
      (leads_lent (outs_in workers.register.owners) workers.jobs replies kept.order (store_at start workers.register) (store_at start g) start asked p k outs.0 jobs_at
      (λ ends end.
      rw lent.away
      (flag_store workers.register are p lent.index l at start ends (record { holding = k; home = false }) l k end (rw same refl)
      ∙ ap (λ (owners : List RegionOwner). store_at start (record workers.register { owners = owners }) ends) (set_own workers.register are p lent.index l at))) stands)

  out_as : (mid : WorkersState) → IsOut p workers mid → IsAsBefore (engaged workers replies) (engaged mid replies)
  out_as mid out = elim out.1 [
    | inl same ↦ λ start asked stands. rw (same, out.0) stands
    | inr goes ↦ λ start asked stands. rw out.0 (lent_stands goes.0 mid.register goes.1 goes.2 start asked stands)
  ]

  out_kept : (mid : WorkersState) → IsOut p workers mid → IsKept mid replies
  out_kept mid out = record {
    paired = (elim out.1 [
      | inl same ↦ rw (same, out.0) kept.paired
      | inr goes ↦ let outs = lent_outs workers.register are p goes.0 mid.register goes.1 in rw (out.0, outs.1, length-set (outs_in workers.register.owners) p (Some goes.0)) kept.paired
    ]);
    none = rw out.0 kept.none;
    order = rw out.0 kept.order;
  }

  -- a job was sent to a part that is out, and its place is blank
  module _ (mid : WorkersState) (out : IsOut p workers mid) (event : Event) (job : Job) (of : IsJobOf workers.register.regions p job) (right : IsRightSent event workers.register p job) (blank : Reply) where
    abbrev after : WorkersState
    after = record mid { jobs = set mid.jobs p (get_or mid.jobs p [] ++ (length replies, job) ∷ []) }

    low : p < length mid.jobs
    low =
        omega (arith, (out_kept mid out).paired, slice_get_within (outs_in mid.register.owners) p (Some out.2.0) out.2.1)

    sent_law : (start : Store) (reply : ℕ → Reply) (ends : List HoldingState) (m y : HoldingState) → AreEnds reply (outs_in mid.register.owners) mid.jobs ends → slice_get ends p ≡ Some m
        → IsJobDone job m (reply (length replies)) y → IsStep event (store_at start mid.register ends) (reply (length replies)) (store_at start mid.register (set ends p y))
    sent_law start reply ends m y ends_are end done =
        let later = out_later p workers mid out in
        let ruled : AreOwners mid.register = rw later.1 (all_ruled_later workers.register mid.register.owners are later.0) in
        let found = out_part mid.register ruled p out.2.0 out.2.1 in
        let owners = with_outs mid.register.owners ends in
        let next = with_outs mid.register.owners (set ends p y) in
        let ends_after : AreLater mid.register.owners owners = ends_later reply mid.register.owners mid.jobs ends (out_kept mid out).none ends_are in
        let from_first : AreLater workers.register.owners owners = all_later_after workers.register.owners mid.register.owners owners later.0 ends_after in
        let at = out_done mid.register p found.0 (record { holding = out.2.0; home = false }) found.1 refl ends m y end job (reply (length replies)) done in
        let regions : mid.register.regions ≡ workers.register.regions = ap (λ (g : OwnersState). g.regions) later.1 in
        let step = right owners next (reply (length replies)) from_first (rw regions at at) in
        let now = subst (λ (g : OwnersState). IsStep event (store_in (with_owners g owners)) (reply (length replies)) (store_in (with_owners g next))) (sym later.1) step in
        step_unseen start.sight event (store_in (with_owners mid.register owners)) (reply (length replies)) (store_in (with_owners mid.register next)) now

    pub sent_took : TookNext (Took event) (engaged workers replies) (engaged after (replies ++ (length replies, blank) ∷ []))
    sent_took = λ start asked stands.
        let order = (out_kept mid out).order in
        leads_sent (outs_in mid.register.owners) mid.jobs replies order (store_at start mid.register) start asked p out.2.0 job blank event out.2.1 low (sent_law start) (out_as mid out start asked stands)

    pub sent_kept : IsKept after (replies ++ (length replies, blank) ∷ [])
    sent_kept =
        let was = out_kept mid out in
        record {
          paired = length-set mid.jobs p (get_or mid.jobs p [] ++ (length replies, job) ∷ []) ∙ was.paired;
          none = numberless_set mid.jobs p (get_or mid.jobs p [] ++ (length replies, job) ∷ []) was.none
              (numberless_more (get_or mid.jobs p []) (length replies, job) (numberless_at mid.jobs p was.none) (numberless_of workers.register.regions p job of));
          order = order_sent (outs_in mid.register.owners) mid.jobs replies was.order p job blank low;
        }

  -- a part came home with its holding and its replies
  module _ (answers : List (ℕ × Reply)) (after : WorkersState) (again : IsHomeAgain p workers (Some answers) after) where
    abbrev x : HoldingState
    x = again.0

    abbrev y : HoldingState
    y = again.1

    out_low : p < length (outs_in workers.register.owners)
    out_low = slice_get_within (outs_in workers.register.owners) p (Some x) again.3

    own : slice_get workers.jobs p ≡ Some (get_or workers.jobs p [])
    own = let paired = kept.paired in let low = out_low in slice_get-get_or workers.jobs p [] (omega arith)

    -- at which index it stands
    owner : IsPartAt workers.register p again.2 (record { holding = x; home = false })
    owner =
        let found = out_part workers.register are p x again.3 in
        let same : found.0 ≡ again.2 = same_Some found.0 again.2 (sym found.1.region ∙ again.5) in
        subst (λ (i : ℕ). IsPartAt workers.register p i (record { holding = x; home = false })) same found.1

    pub home_outs : outs_in after.register.owners ≡ set (outs_in workers.register.owners) p None
    home_outs =
        let register : after.register ≡ record workers.register { owners = set workers.register.owners again.2 (Part (record { holding = y; home = true })) } = ap (λ (c : WorkersState). c.register) again.6 in
        rw register (set_number workers.register are p again.2 again.5 out_of (record { holding = x; home = false }) owner.owner (record { holding = y; home = true }))

    home_law : (start : Store) (ends : List HoldingState) → length ends ≡ length (set (outs_in workers.register.owners) p (Some y)) → store_at start after.register ends ≡ store_at start workers.register (set ends p y)
    home_law start ends long =
        let register : after.register ≡ record workers.register { owners = set workers.register.owners again.2 (Part (record { holding = y; home = true })) } = ap (λ (c : WorkersState). c.register) again.6 in
        let low = out_low in
        let same = length-set (outs_in workers.register.owners) p (Some y) in
        let z : HoldingState = get_or ends p y in
        let end : slice_get ends (ahead workers.register.owners again.2) ≡ Some z = rw (owner.number) (slice_get-get_or ends p y (omega arith)) in
        let one = out_owners workers.register.owners ends again.2 (record { holding = x; home = false }) (record { holding = y; home = true }) z owner.owner owner.there end in
        let two = rw owner.number at (out_ends workers.register.owners ends again.2 (record { holding = x; home = false }) y z owner.owner owner.there end) in
        let same_store : store_in (with_owners workers.register (with_outs (set workers.register.owners again.2 (Part (record { holding = y; home = true }))) ends)) ≡ store_in (with_owners workers.register (with_outs workers.register.owners (set ends p y))) =
        rw (one, two) (owner_store workers.register (with_outs workers.register.owners ends) again.2 (with_out (record { holding = y; home = true }) z) (with_out (record { holding = x; home = false }) y) refl) in
        ap (λ (g : OwnersState). store_at start g ends) register ∙ ap (seen_as start.sight) same_store

    came : CameHome (outs_in workers.register.owners) workers.jobs replies p answers y
    came = came_home (outs_in workers.register.owners) workers.jobs replies p (get_or workers.jobs p []) answers x y kept.order again.3 own again.4

    pub home_stands : IsAsBefore (engaged workers replies) (engaged after (put_answers replies answers))
    home_stands = λ start asked stands.
        let low = out_low in
        let paired = kept.paired in
        let out_y = get_there (outs_in workers.register.owners) p (Some y) low in
        let none = get_there workers.jobs p [] (omega arith) in
        let led = leads_back (set (outs_in workers.register.owners) p (Some y)) (set workers.jobs p []) (put_answers replies answers) came.0 (store_at start workers.register) (store_at start after.register) start asked p y out_y none
        (home_law start) (came.1 (store_at start workers.register) start asked stands) in
        let jobs : after.jobs ≡ set workers.jobs p [] = ap (λ (c : WorkersState). c.jobs) again.6 in
        rw (jobs, home_outs, sym (set-set (outs_in workers.register.owners) p (Some y) None)) led

    pub home_kept : IsKept after (put_answers replies answers)
    home_kept =
        let jobs : after.jobs ≡ set workers.jobs p [] = ap (λ (c : WorkersState). c.jobs) again.6 in
        record {
          paired = rw (jobs, home_outs, length-set workers.jobs p [], length-set (outs_in workers.register.owners) p None) kept.paired;
          none = rw jobs (numberless_set workers.jobs p [] kept.none tt);
          order = rw jobs came.0;
        }

-- the words were looked at
pub looked_stands : (workers : WorkersState) (replies : List (ℕ × Reply)) (words : List ℕ)
    → IsAsBefore (engaged workers replies) (engaged (record workers { register = record workers.register { spare = with_view workers.register.spare (looked workers.register.spare.view words) } }) replies)
looked_stands workers replies words = λ start asked stands. (
  stands.0,
  λ reply ends kept are.
      subst (λ (s : Store). IsRun (orders_of asked) start (answers_by reply 0 asked) s) (sym (same start ends)) (stands.1 reply ends kept are),
)
  where
    now : OwnersState
    now = record workers.register { spare = with_view workers.register.spare (looked workers.register.spare.view words) }

    same : (start : Store) (ends : List HoldingState) → store_at start now ends ≡ store_at start workers.register ends
    same start ends = ap (λ (all : List ℕ). record (store_at start workers.register ends) { words = all }) (words_looked workers.register.spare (desks_in (with_outs workers.register.owners ends)) words)

-- of each part one thing
parts_long : {X Y : Type 0} (f : PartOwnerState → X) (g : PartOwnerState → Y) (owners : List RegionOwner) → length (of_parts f owners) ≡ length (of_parts g owners)
parts_long f g [] = refl
parts_long f g (Part l ∷ owners) = ap suc (parts_long f g owners)
parts_long f g (Piece b ∷ owners) = parts_long f g owners

-- nobody is out
with_none : (owners : List RegionOwner) (ends : List HoldingState) → AllByRecursion (λ (out : Option HoldingState). out ≡ None) (outs_in owners) → with_outs owners ends ≡ owners
with_none [] ends none = refl
with_none (Piece b ∷ owners) ends none = ap (λ (rest : List RegionOwner). Piece b ∷ rest) (with_none owners ends none)
with_none (Part l ∷ owners) [] none = ap (λ (rest : List RegionOwner). Part l ∷ rest) (with_none owners [] none.1)
with_none (Part l ∷ owners) (k ∷ ends) none =
    let home = at_home l none.0 in
    let same : with_out l k ≡ l = ap (λ (b : Bool). record l { holding = if b then l.holding else k }) home in
    rw (same, with_none owners ends none.1) refl

pub all_home : (owners : List RegionOwner) → AllByRecursion (λ (out : Option HoldingState). out ≡ None) (outs_in owners) → AllHome owners
all_home [] none = tt
all_home (Piece b ∷ owners) none = all_home owners none
all_home (Part l ∷ owners) none = (at_home l none.0, all_home owners none.1)

module _ (workers : WorkersState) (none : NoneOut workers) where
  same_at : (start : Store) (ends : List HoldingState) → store_at start workers.register ends ≡ record (store_in workers.register) { sight = start.sight }
  same_at start ends = ap (λ (owners : List RegionOwner). seen_as start.sight (store_in (with_owners workers.register owners))) (with_none workers.register.owners ends none)

  pub new_stands : Stands (engaged workers []) (store_in workers.register) []
  new_stands = leads_new (store_at (store_in workers.register) workers.register) (outs_in workers.register.owners) workers.jobs (store_in workers.register) (λ ends. same_at (store_in workers.register) ends)

  pub settled : (replies : List (ℕ × Reply)) (blank : Reply) → IsKept workers replies → IsSettled (engaged workers replies) replies workers.register
  settled replies blank kept = λ start asked stands.
      let ends : List HoldingState = part_holdings workers.register.owners in
      let long : length ends ≡ length (outs_in workers.register.owners) = parts_long (λ (o : PartOwnerState). o.holding) out_of workers.register.owners in
      subst (λ (s : Store). IsRun (orders_of asked) start (answers_with replies asked) s) (same_at start ends)
      (leads_settled (store_at start workers.register) (outs_in workers.register.owners) workers.jobs replies start asked ends blank none kept.paired long stands)

-- a part that isn't out is at home, if there is such a part
pub part_home : (owners : List RegionOwner) (p : ℕ) → get_or (outs_in owners) p None ≡ None → get_or (homes_in owners) p true ≡ true
part_home [] p none = refl
part_home (Piece b ∷ owners) p none = part_home owners p none
part_home (Part l ∷ owners) zero none = at_home l none
part_home (Part l ∷ owners) (suc p) none = part_home owners p none

pub none_set : (outs : List (Option HoldingState)) (p q : ℕ) → get_or outs q None ≡ None → get_or (set outs p None) q None ≡ None
none_set [] p q none = none
none_set (o ∷ outs) zero zero none = refl
none_set (o ∷ outs) zero (suc q) none = none
none_set (o ∷ outs) (suc p) zero none = none
none_set (o ∷ outs) (suc p) (suc q) none = none_set outs p q none

pub none_put : (outs : List (Option HoldingState)) (p : ℕ) → get_or (set outs p None) p None ≡ None
none_put [] p = refl
none_put (o ∷ outs) zero = refl
none_put (o ∷ outs) (suc p) = none_put outs p

pub none_still : (outs : List (Option HoldingState)) (p : ℕ) → AllByRecursion (λ (out : Option HoldingState). out ≡ None) outs → AllByRecursion (λ (out : Option HoldingState). out ≡ None) (set outs p None)
none_still [] p none = tt
none_still (o ∷ outs) zero none = (refl, none.1)
none_still (o ∷ outs) (suc p) none = (none.0, none_still outs p none.1)

pub all_none : (outs : List (Option HoldingState)) → ((q : ℕ) → q < length outs → get_or outs q None ≡ None) → AllByRecursion (λ (out : Option HoldingState). out ≡ None) outs
all_none [] each = tt
all_none (o ∷ outs) each = (each 0 (omega arith), all_none outs (λ q low. each (suc q) (omega arith)))

-- parts are brought home that are out, and then others
module _ {Z : Type 0} where
  pub brought_itself : (workers : WorkersState) (replies : Vec (ℕ × Reply) Z) → IsKept workers replies.items → AreBrought workers replies workers replies
  brought_itself workers replies kept = record { kept = kept; stands = λ start asked stood. stood; places = refl; capacity = refl; register = refl }

  pub brought_some : (workers : WorkersState) (replies : Vec (ℕ × Reply) Z) → IsKept workers replies.items → AreOwners workers.register → (p : ℕ) (answers : List (ℕ × Reply)) (after : WorkersState) (filled : Vec (ℕ × Reply) Z)
      → IsHomeAgain p workers (Some answers) after → filled.items ≡ put_answers replies.items answers → vec_capacity filled ≡ vec_capacity replies → AreBrought workers replies after filled
  brought_some workers replies kept are p answers after filled again items capacity = record {
    kept = rw items (home_kept workers replies.items kept are p answers after again);
    stands = rw items (home_stands workers replies.items kept are p answers after again);
    places = rw items (put_answers-length replies.items answers);
    capacity = capacity;
    register = (let is = ap (λ (c : WorkersState). c.register) again.6 in is ∙ ap (λ (owners : List RegionOwner). record workers.register { owners = owners }) (sym (ap (λ (g : OwnersState). g.owners) is)));
  }

  pub brought_twice : (workers : WorkersState) (replies : Vec (ℕ × Reply) Z) (mid : WorkersState) (some : Vec (ℕ × Reply) Z) (after : WorkersState) (filled : Vec (ℕ × Reply) Z)
      → AreBrought workers replies mid some → AreBrought mid some after filled → AreBrought workers replies after filled
  brought_twice workers replies mid some after filled one two = record {
    kept = two.kept;
    stands = λ start asked stood. two.stands start asked (one.stands start asked stood);
    places = two.places ∙ one.places;
    capacity = two.capacity ∙ one.capacity;
    register = two.register ∙ ap (λ (h : OwnersState). record h { owners = after.register.owners }) one.register;
  }

-- the parts on both sides of a bound aren't out
abbrev pub AreSidesHome : List (Option HoldingState) → CutMove → Type 0
AreSidesHome outs move = (get_or outs (move.bound - 1) None ≡ None) × (get_or outs move.bound None ≡ None)

-- two more parts came home
pub sides_set : (outs : List (Option HoldingState)) (move : CutMove) (p q : ℕ) → AreSidesHome outs move → AreSidesHome (set (set outs p None) q None) move
sides_set outs move p q home =
    (none_set (set outs p None) q (move.bound - 1) (none_set outs p (move.bound - 1) home.0), none_set (set outs p None) q move.bound (none_set outs p move.bound home.1))

pub sides_put : (outs : List (Option HoldingState)) (move : CutMove) → AreSidesHome (set (set outs (move.bound - 1) None) move.bound None) move
sides_put outs move =
    (none_set (set outs (move.bound - 1) None) move.bound (move.bound - 1) (none_put outs (move.bound - 1)), none_put (set outs (move.bound - 1) None) move.bound)

-- so a re-cut finds the parts at home on which it works
sides_each : (h : OwnersState) (moves : List CutMove) → ((i : ℕ) (d : CutMove) → i < length moves → AreSidesHome (outs_in h.owners) (get_or moves i d)) → AllByRecursion (IsHomeToMove h) moves
sides_each h [] each = tt
sides_each h (move ∷ moves) each =
    let one = each 0 move (omega arith) in
    ((part_home h.owners (move.bound - 1) one.0, part_home h.owners move.bound one.1), sides_each h moves (λ i d low. each (suc i) d (omega arith)))

pub sides_cut : (bounds : List ℕ) (h : OwnersState) (moves : List CutMove) → recut_answer h.regions bounds ≡ Ok moves
    → ((i : ℕ) (d : CutMove) → i < length moves → AreSidesHome (outs_in h.owners) (get_or moves i d)) → IsHomeToCut bounds h
sides_cut bounds h moves answer each = rw answer (sides_each h moves each)

-- an event that the register does itself names no subscriber by a number
pub here_by_id : (event : Event) → is_here event ≡ true → is_by_number event ≡ false
here_by_id (SubscriberData _) here = refl
here_by_id (NewDestination _ _ _ _) here = refl
here_by_id (AccessData _ _) here = refl
here_by_id (UpdateSubscriber _ _ _ _) here = refl
here_by_id (UpdateLocation _ _) here = absurd cc
here_by_id (InsertForwarding _ _ _ _ _) here = absurd cc
here_by_id (DeleteForwarding _ _ _) here = absurd cc
here_by_id (AddSubscriber _) here = refl
here_by_id (AddAccess _) here = refl
here_by_id (AddFacility _) here = refl
here_by_id (SetActive _ _ _) here = refl
here_by_id (SetNumber _ _) here = refl
here_by_id (Post _ _) here = refl
here_by_id (Give _ _ _) here = refl
here_by_id (Take _ _) here = refl
here_by_id (Divide _ _) here = refl
here_by_id (Dissolve _) here = refl

-- one part after another
pub none_next : (outs : List (Option HoldingState)) (first p : ℕ) → ((q : ℕ) → first ≤ q → q < p → get_or outs q None ≡ None) → (q : ℕ) → first ≤ q → q < p + 1 → get_or (set outs p None) q None ≡ None
none_next outs first p each q from low = elim (cases_lt q p) [
  | inl below ↦ none_set outs p q (each q from below)
  | inr above ↦ let same : q ≡ p = omega arith in rw same (none_put outs p)
]

-- all came home
pub none_all : (before after : WorkersState) → after.register ≡ record before.register { owners = after.register.owners } → AreOwners after.register → (end : ℕ) → end ≡ length (parts_of before.register.regions)
    → ((q : ℕ) → q < end → get_or (outs_in after.register.owners) q None ≡ None) → NoneOut after
none_all before after register are end is each =
    let count = as_parts after.register are in
    let regions = ap (λ (h : OwnersState). length (parts_of h.regions)) register in
    all_none (outs_in after.register.owners) (λ q low. each q (omega arith))

pub sides_next : (outs : List (Option HoldingState)) (moves : List CutMove) (k : ℕ) (move : CutMove) → k < length moves → move ≡ get_or moves k move
    → ((i : ℕ) (d : CutMove) → i < k → AreSidesHome outs (get_or moves i d))
    → (i : ℕ) (d : CutMove) → i < k + 1 → AreSidesHome (set (set outs (move.bound - 1) None) move.bound None) (get_or moves i d)
sides_next outs moves k move there is each i d low = elim (cases_lt i k) [
  | inl below ↦ sides_set outs (get_or moves i d) (move.bound - 1) move.bound (each i d below)
  | inr from ↦
      let same : i ≡ k = omega arith in
      let one : get_or moves i d ≡ move = ap (λ (n : ℕ). get_or moves n d) same ∙ get_or_default moves k d move there ∙ sym is in
      rw one (sides_put outs move)
]

-- the register itself did an event, after the parts came home that work on it
pub here_after : {Z : Type 0} (workers : WorkersState) (replies : Vec (ℕ × Reply) Z) (mid : WorkersState) (filled : Vec (ℕ × Reply) Z) → AreBrought workers replies mid filled
    → (now : WorkersState) (r : Reply) → AreWorkersChanged (part_change_of r) mid now → (event : Event) → IsStepWhileOut event mid.register r now.register
    → (changes_parts event ≡ false → now.register.spare ≡ mid.register.spare) → IsLaterDesk mid.register.spare now.register.spare → IsAnswered event r workers replies now filled
here_after workers replies mid filled was now r is event step same later = record {
  kept = both.0;
  took = both.1;
  places = was.places;
  capacity = was.capacity;
  spare = λ none. same none ∙ spare;
  desk = subst (λ (s : DeskState). IsLaterDesk s now.register.spare) spare later;
}
  where
    spare : mid.register.spare ≡ workers.register.spare
    spare = ap (λ (h : OwnersState). h.spare) was.register

    both : IsKept now (filled.items ++ (length replies.items, r) ∷ []) × TookNext (Took event) (engaged workers replies.items) (engaged now (filled.items ++ (length replies.items, r) ∷ []))
    both =
        subst (λ (n : ℕ). IsKept now (filled.items ++ (n, r) ∷ []) × TookNext (Took event) (engaged workers replies.items) (engaged now (filled.items ++ (n, r) ∷ []))) was.places (
          here_kept mid filled.items was.kept now (part_change_of r) is r,
          λ start asked stood. here_took mid filled.items was.kept now (part_change_of r) is event r step start asked (was.stands start asked stood),
        )

-- an engine with no job out
pub all_idle : (workers : WorkersState) → length workers.jobs ≡ length (outs_in workers.register.owners) → NoneOut workers → AreIdle workers → AllByRecursion (λ (own : List (ℕ × Job)). own ≡ []) workers.jobs
all_idle workers paired none idle = each workers.jobs (λ p. idle p (nothing (outs_in workers.register.owners) p none))
  where
    nothing : (outs : List (Option HoldingState)) (p : ℕ) → AllByRecursion (λ (out : Option HoldingState). out ≡ None) outs → get_or outs p None ≡ None
    nothing [] p none = refl
    nothing (o ∷ outs) zero none = none.0
    nothing (o ∷ outs) (suc p) none = nothing outs p none.1

    each : (jobs : List (List (ℕ × Job))) → ((p : ℕ) → get_or jobs p [] ≡ []) → AllByRecursion (λ (own : List (ℕ × Job)). own ≡ []) jobs
    each [] empty = tt
    each (own ∷ jobs) empty = (empty 0, each jobs (λ p. empty (suc p)))

none_numberless : (jobs : List (List (ℕ × Job))) → AllByRecursion (λ (own : List (ℕ × Job)). own ≡ []) jobs → AllNumberless jobs
none_numberless [] none = tt
none_numberless (own ∷ jobs) none = (let one : own ≡ [] = none.0 in rw one tt, none_numberless jobs none.1)

pub new_kept : (workers : WorkersState) → length workers.jobs ≡ length (outs_in workers.register.owners) → AllByRecursion (λ (own : List (ℕ × Job)). own ≡ []) workers.jobs → IsKept workers []
new_kept workers paired none = record { paired = paired; none = none_numberless workers.jobs none; order = order_new workers.jobs none }

-- room for a job more
pub few_jobs : (workers : WorkersState) (replies : List (ℕ × Reply)) → IsKept workers replies → (p : ℕ) → length (get_or workers.jobs p []) ≤ length replies
few_jobs workers replies kept p = elim (cases_lt p (length workers.jobs)) [
  | inl below ↦ kept.order.few p (get_or workers.jobs p []) (slice_get-get_or workers.jobs p [] below)
  | inr past ↦ let none = ap length (get_or_past workers.jobs p [] past) in omega arith
]

-- a part that is there has a place for its jobs
pub part_there : (workers : WorkersState) (replies : List (ℕ × Reply)) → IsKept workers replies → AreOwners workers.register → (p : ℕ) → p < length (homes_in workers.register.owners) → p < length workers.jobs
part_there workers replies kept are p low = let homes = as_homes workers.register are in let paired = kept.paired in omega arith

-- it was answered at once
pub told_after : {Z : Type 0} (workers : WorkersState) (replies : Vec (ℕ × Reply) Z) → IsKept workers replies.items → (event : Event) (r : Reply) → IsRightNow event workers.register r → IsAnswered event r workers replies workers replies
told_after workers replies kept event r right = record {
  kept = now_kept workers replies.items kept r;
  took = now_took workers replies.items kept event r right;
  places = refl;
  capacity = refl;
  spare = λ none. refl;
  desk = desk_same workers.register.spare workers.register.spare refl;
}

-- a job was sent, and its place is blank
pub sent_after : {Z : Type 0} (workers : WorkersState) (replies : Vec (ℕ × Reply) Z) → IsKept workers replies.items → AreOwners workers.register → (p : ℕ) (event : Event) (job : Job) → IsJobOf workers.register.regions p job
    → IsRightSent event workers.register p job → (blank : Reply) (now : WorkersState) → IsSentTo p (length replies.items, job) workers now → IsAnswered event blank workers replies now replies
sent_after workers replies kept are p event job of right blank now sent = record {
  kept = rw (sent.2) (sent_kept workers replies.items kept are p sent.0 sent.1 event job of right blank);
  took = rw (sent.2) (sent_took workers replies.items kept are p sent.0 sent.1 event job of right blank);
  places = refl;
  capacity = refl;
  spare = λ none. spare;
  desk = desk_same workers.register.spare now.register.spare spare;
}
  where
    spare : now.register.spare ≡ workers.register.spare
    spare = ap (λ (c : WorkersState). c.register.spare) sent.2 ∙ ap (λ (g : OwnersState). g.spare) (out_later p workers sent.0 sent.1).1

-- no replies, where there were none
pub no_more : (replies filled : List (ℕ × Reply)) → length filled ≡ length replies → filled ≡ [] → replies ≡ []
no_more [] filled same none = refl
no_more (r ∷ replies) [] same none = absurd (omega arith)
no_more (r ∷ replies) (l ∷ filled) same none = absurd cc

pub none_yet : (replies filled : List (ℕ × Reply)) → length filled ≡ length replies → replies ≡ [] → filled ≡ []
none_yet replies filled same none = no_more filled replies (sym same) none

-- bounds were moved, after the parts beside them came home
pub cut_after : {Z : Type 0} (workers : WorkersState) (replies : Vec (ℕ × Reply) Z) (mid : WorkersState) (filled : Vec (ℕ × Reply) Z) → AreBrought workers replies mid filled → (now : WorkersState) → HaveSameHomes mid.register now.register → now.jobs ≡ mid.jobs → (bounds : List ℕ) (done : Result ℕ Refusal) → IsRecutWhileOut bounds mid.register done now.register
    → IsKept now filled.items × TookNext (Cut bounds done) (engaged workers replies.items) (engaged now filled.items)
cut_after workers replies mid filled was now register jobs bounds done right = (
  register_kept mid filled.items was.kept now register jobs,
  λ start asked stood. cut_took mid filled.items was.kept now register jobs bounds done right start asked (was.stands start asked stood),
)
