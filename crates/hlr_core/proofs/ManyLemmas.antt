-- Rows of many subscribers at once.
use Rattle.hlr_core.proofs.Common.{◌≡◌, ◌∙◌, refl, sym, ap, ℕ, suc, ◌+◌, ◌<◌, List, [], ◌∷◌, ◌++◌, length, get_or, map, take, arith, true, All, take-suc, get_or-map, length-map, map-append, All-more, ArrayVec, between_is, between_ok, both, both_from, SubscriberRow, AccessInfoRow, between, is_between, LAST_SUBSCRIBER, access_data, destinations, effect, is_in_range, new_destination, s_id_of, subscriber_data, IsWithin, access_at, subscriber_at, HoldingState, HasRowsWhileOut, with_outs, HasRowsOf, OwnersState, store_in, Store, is_read, subscriber_fits, IsStepWhileOut, register_with, AreFound, access_reply, numbers_reply, subscriber_reply, IsRowStep, IsStep, given_number, reply_of, Action, RowReply, Event, Reply, Option, Some, None, Ok}
use Rattle.tatp_rows.specs.declared.refusal.Refusal.TheVariants as refusal
use Rattle.tatp_actions.specs.declared.action.Action.TheVariants as action
use Rattle.tatp_actions.specs.declared.action.RowReply.TheVariants as row_reply
use Rattle.hlr_core.specs.declared.event.Event.TheVariants as event
use Rattle.hlr_core.proofs.WhileOutLemmas.{own_step}
use Rattle.hlr_core.proofs.LaterLemmas.{each_owner}
use Rattle.hlr_core.proofs.LentLemmas.{read_step}

module _ (store : Store) (holding : HoldingState) where
  -- what is found in the part that has a subscriber is what is read of them
  held_read : (act : Action) (answer : RowReply) → given_number act ≡ None → HasRowsOf (s_id_of act) store holding → is_in_range act ≡ true → effect act holding.part.book ≡ (answer, holding.part.book)
      → IsRowStep (is_in_range act) (Some act) store (reply_of answer) store
  held_read act answer gives has fits is = read_step act store answer gives (is_read act store holding has fits answer is)

  subscriber_read : (s_id : ℕ) → IsWithin 1 (LAST_SUBSCRIBER + 1) s_id → HasRowsOf s_id store holding → (o : Option SubscriberRow) → o ≡ subscriber_at holding.part.book s_id
      → IsStep (event.SubscriberData s_id) store (subscriber_reply o) store
  subscriber_read s_id within has (Some row) is =
      held_read (action.SubscriberData s_id) (row_reply.Row row) refl has (subscriber_fits s_id within) (ap (subscriber_data holding.part.book) (sym is))
  subscriber_read s_id within has None is =
      held_read (action.SubscriberData s_id) (row_reply.Refused refusal.NoSubscriber) refl has (subscriber_fits s_id within) (ap (subscriber_data holding.part.book) (sym is))

  access_read : (s_id t : ℕ) → IsWithin 1 (LAST_SUBSCRIBER + 1) s_id → is_between 1 4 t ≡ true → HasRowsOf s_id store holding → (o : Option AccessInfoRow) → o ≡ access_at holding.part.book s_id t
      → IsStep (event.AccessData s_id t) store (access_reply o) store
  access_read s_id t within kind has (Some row) is =
      held_read (action.AccessData s_id t) (row_reply.AccessRow row.data1 row.data2 row.data3 row.data4) refl has (both_from _ _ (subscriber_fits s_id within) kind) (ap (access_data holding.part.book) (sym is))
  access_read s_id t within kind has None is =
      held_read (action.AccessData s_id t) (row_reply.Refused refusal.NoAccess) refl has (both_from _ _ (subscriber_fits s_id within) kind) (ap (access_data holding.part.book) (sym is))

  destinations_read : (s_id t start end : ℕ) → is_in_range (action.NewDestination s_id t start end) ≡ true → HasRowsOf s_id store holding → (ns : List ℕ) → ns ≡ destinations holding.part.book s_id t start end
      → IsStep (event.NewDestination s_id t start end) store (numbers_reply ns) store
  destinations_read s_id t start end fits has [] is =
      held_read (action.NewDestination s_id t start end) (row_reply.Refused refusal.NoDestination) refl has fits (ap (new_destination holding.part.book) (sym is))
  destinations_read s_id t start end fits has (n ∷ ns) is =
      held_read (action.NewDestination s_id t start end) (row_reply.Numbers (record { items = n ∷ ns })) refl has fits (ap (new_destination holding.part.book) (sym is))

-- what is found for each question is the reply to its event, if the reply to each event is what is found for it
module _ {Q F : Type 0} (asks : Q → Event) (told : F → Reply) (find : Q → F) (h : OwnersState) where
  pub all_found : (asked : List Q) (rows : List F) → rows ≡ map find asked → All (λ q. IsStepWhileOut (asks q) h (told (find q)) h) asked → AreFound asks told h asked rows
  all_found asked rows found right =
      let each : (at : ℕ) (question : Q) (row : F) → at < length asked → IsStepWhileOut (asks (get_or asked at question)) h (told (get_or rows at row)) h =
      λ at question row below. rw (found, get_or-map find asked at question row below) (right at question below) in
      record {
        as_many = rw found (length-map asked find);
        steps = λ at question row below. own_step (asks (get_or asked at question)) h h (told (get_or rows at row)) refl (each at question row below);
        while_out = each;
      }

-- a number that is between the bounds of all subscribers
id_within : (s_id : ℕ) → is_between 1 LAST_SUBSCRIBER s_id ≡ true → IsWithin 1 (LAST_SUBSCRIBER + 1) s_id
id_within s_id fits =
    let range = between_is 1 LAST_SUBSCRIBER s_id fits in
    let above : s_id < LAST_SUBSCRIBER + 1 = omega (arith, range) in
    (range.0, above)

-- one more access that is in range, behind those that were looked at
module _ (asked : List (ℕ × ℕ)) (n s_id t : ℕ) (below : n < length asked) where
  pub one_more_taken : (accesses more : List (ℕ × ℕ)) → accesses ≡ take n asked → more ≡ accesses ++ (s_id, t) ∷ [] → Ok s_id ≡ between 1 LAST_SUBSCRIBER (get_or asked n (0, 0)).0 → Ok t ≡ between 1 4 (get_or asked n (0, 0)).1
      → more ≡ take (n + 1) asked
  one_more_taken accesses more so_far pushed id kind =
      let one = (between_ok 1 LAST_SUBSCRIBER (get_or asked n (0, 0)).0 s_id id).0 in
      let two = (between_ok 1 4 (get_or asked n (0, 0)).1 t kind).0 in
      let next : n + 1 ≡ suc n = omega arith in
      pushed ∙ rw (so_far, one, two, next) (sym (take-suc asked n (0, 0) below))

  pub one_access_within : All (λ a. IsWithin 1 (LAST_SUBSCRIBER + 1) a.0 × (is_between 1 4 a.1 ≡ true)) (take n asked) → Ok s_id ≡ between 1 LAST_SUBSCRIBER (get_or asked n (0, 0)).0 → Ok t ≡ between 1 4 (get_or asked n (0, 0)).1
      → All (λ a. IsWithin 1 (LAST_SUBSCRIBER + 1) a.0 × (is_between 1 4 a.1 ≡ true)) (take (n + 1) asked)
  one_access_within so_far id kind =
      All-more (λ (a : ℕ × ℕ). IsWithin 1 (LAST_SUBSCRIBER + 1) a.0 × (is_between 1 4 a.1 ≡ true)) asked n (0, 0) below so_far
      (id_within (get_or asked n (0, 0)).0 (between_ok 1 LAST_SUBSCRIBER (get_or asked n (0, 0)).0 s_id id).1, (between_ok 1 4 (get_or asked n (0, 0)).1 t kind).1)

-- one more call that is in range
module _ (asked : List (ℕ × ℕ × ℕ × ℕ)) (n : ℕ) (call : ℕ × ℕ × ℕ × ℕ) (below : n < length asked) (is : call ≡ get_or asked n (0, 0, 0, 0)) where
  pub one_more_call : (calls more : List (ℕ × ℕ × ℕ × ℕ)) → calls ≡ take n asked → more ≡ calls ++ call ∷ [] → more ≡ take (n + 1) asked
  one_more_call calls more so_far pushed =
      let next : n + 1 ≡ suc n = omega arith in
      pushed ∙ rw (so_far, is, next) (sym (take-suc asked n (0, 0, 0, 0) below))

  pub one_more_id : (ids more : List ℕ) → ids ≡ map (λ q. q.0) (take n asked) → more ≡ ids ++ call.0 ∷ [] → more ≡ map (λ q. q.0) (take (n + 1) asked)
  one_more_id ids more so_far pushed =
      let first = λ (q : ℕ × ℕ × ℕ × ℕ). q.0 in
      let next : n + 1 ≡ suc n = omega arith in
      pushed ∙ rw (so_far, is, next, take-suc asked n (0, 0, 0, 0) below) (sym (map-append first (take n asked) (get_or asked n (0, 0, 0, 0) ∷ [])))

  pub one_call_within : is_in_range (action.NewDestination (get_or asked n (0, 0, 0, 0)).0 (get_or asked n (0, 0, 0, 0)).1 (get_or asked n (0, 0, 0, 0)).2 (get_or asked n (0, 0, 0, 0)).3) ≡ true
      → All (λ q. IsWithin 1 (LAST_SUBSCRIBER + 1) q.0 × (is_in_range (action.NewDestination q.0 q.1 q.2 q.3) ≡ true)) (take n asked)
      → All (λ q. IsWithin 1 (LAST_SUBSCRIBER + 1) q.0 × (is_in_range (action.NewDestination q.0 q.1 q.2 q.3) ≡ true)) (take (n + 1) asked)
  one_call_within fits so_far =
      All-more (λ (q : ℕ × ℕ × ℕ × ℕ). IsWithin 1 (LAST_SUBSCRIBER + 1) q.0 × (is_in_range (action.NewDestination q.0 q.1 q.2 q.3) ≡ true)) asked n (0, 0, 0, 0) below so_far
      (id_within (get_or asked n (0, 0, 0, 0)).0 (both _ _ (both _ _ fits).0).0, fits)

-- what holds of what is made of each
module _ {A : Type 0} (make : A → ℕ) (d : A) (P : ℕ → Type 0) (asked : List A) where
  pub all_of_made : All P (map make asked) → All (λ a. P (make a)) asked
  all_of_made all = λ at question below. rw (get_or-map make asked at question 0 below) at (all at 0 (omega (arith, below, length-map asked make)))

-- so it is with what is found in the part that has all of these subscribers
module _ (h : OwnersState) (holding : HoldingState) where
  pub subscribers_found : (s_ids : List ℕ) (rows : List (Option SubscriberRow)) → All (IsWithin 1 (LAST_SUBSCRIBER + 1)) s_ids → All (λ s_id. HasRowsWhileOut s_id h holding) s_ids
      → rows ≡ map (subscriber_at holding.part.book) s_ids → AreFound event.SubscriberData subscriber_reply h s_ids rows
  subscribers_found s_ids rows within have found =
      all_found event.SubscriberData subscriber_reply (subscriber_at holding.part.book) h s_ids rows found
      (λ at d below ks later. subscriber_read (store_in (register_with h ks)) holding (get_or s_ids at d) (within at d below) (have at d below ks (each_owner h.owners (with_outs h.owners ks) later)) (subscriber_at holding.part.book (get_or s_ids at d)) refl)

  pub accesses_found : (asked : List (ℕ × ℕ)) (rows : List (Option AccessInfoRow)) → All (λ a. IsWithin 1 (LAST_SUBSCRIBER + 1) a.0 × (is_between 1 4 a.1 ≡ true)) asked
      → All (λ s_id. HasRowsWhileOut s_id h holding) (map (λ a. a.0) asked)
      → rows ≡ map (λ a. access_at holding.part.book a.0 a.1) asked → AreFound (λ a. event.AccessData a.0 a.1) access_reply h asked rows
  accesses_found asked rows within have found =
      all_found (λ a. event.AccessData a.0 a.1) access_reply (λ a. access_at holding.part.book a.0 a.1) h asked rows found
      (λ at d below ks later. let a = get_or asked at d in let fits = within at d below in
      access_read (store_in (register_with h ks)) holding a.0 a.1 fits.0 fits.1 (all_of_made (λ (a : ℕ × ℕ). a.0) d (λ s_id. HasRowsWhileOut s_id h holding) asked have at d below ks (each_owner h.owners (with_outs h.owners ks) later)) (access_at holding.part.book a.0 a.1) refl)

  pub destinations_found : (asked : List (ℕ × ℕ × ℕ × ℕ)) (numbers : List (ArrayVec ℕ)) → All (λ q. IsWithin 1 (LAST_SUBSCRIBER + 1) q.0 × (is_in_range (action.NewDestination q.0 q.1 q.2 q.3) ≡ true)) asked
      → All (λ s_id. HasRowsWhileOut s_id h holding) (map (λ q. q.0) asked)
      → numbers ≡ map (λ q. record { items = destinations holding.part.book q.0 q.1 q.2 q.3 }) asked → AreFound (λ q. event.NewDestination q.0 q.1 q.2 q.3) (λ (found : ArrayVec ℕ). numbers_reply found.items) h asked numbers
  destinations_found asked numbers within have found =
      all_found (λ (q : ℕ × ℕ × ℕ × ℕ). event.NewDestination q.0 q.1 q.2 q.3) (λ (found : ArrayVec ℕ). numbers_reply found.items) (λ (q : ℕ × ℕ × ℕ × ℕ). record { items = destinations holding.part.book q.0 q.1 q.2 q.3 }) h asked numbers found
      (λ at d below ks later. let q = get_or asked at d in
      destinations_read (store_in (register_with h ks)) holding q.0 q.1 q.2 q.3 (within at d below).1 (all_of_made (λ (q : ℕ × ℕ × ℕ × ℕ). q.0) d (λ s_id. HasRowsWhileOut s_id h holding) asked have at d below ks (each_owner h.owners (with_outs h.owners ks) later)) (destinations holding.part.book q.0 q.1 q.2 q.3) refl)
