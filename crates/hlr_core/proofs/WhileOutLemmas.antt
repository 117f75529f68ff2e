-- What the register does while holdings are out is right whatever these have become.
use Rattle.hlr_core.proofs.Common.{◌≡◌, ◌∙◌, refl, sym, ap, ℕ, List, Bool, true, false, Option, Some, None, Ok, Err, is_some, option_map, SubscriberRow, Refusal, pair_of, bearer_in, IsAdded, IsRenamed, is_in_range, s_id_of, subscriber_at, Action, RowReply, dissolve_answer, divide_answer, give_answer, after_give, recut_answer, take_answer, after_take, CutMove, Region, Side, HoldingState, MayAnswer, is_loose, IsAnsweredWhileOut, IsMovedWhileOut, IsPostedWhileOut, outs_in, with_outs, IsDissolvedWhileOut, IsDividedWhileOut, IsRecut, IsRecutBy, OwnersState, AreOwners, book_in, part_holdings, store_in, Store, own_outs, register_with, IsStepWhileOut, IsRecutWhileOut, IsRegister, IsAsked, IsRowStepWhileOut, is_on_rows, AreLater, IsAskedStep, IsStep, action_for, dissolved_reply, divided_reply, given_number, given_reply, posted_reply, taken_reply, reply_of, Event, Give, Take, Divide, Dissolve, Post, Reply, Result}
use Rattle.tatp_rows.specs.declared.refusal.Refusal.TheVariants as refusal
use Rattle.tatp_actions.specs.declared.action.Action.TheVariants as action
use Rattle.hlr_core.specs.declared.event.Reply.TheVariants as reply
use Rattle.hlr_core.proofs.LaterLemmas.{all_later_self, each_owner, number_later, registered_later}
use Rattle.hlr_core.proofs.RegisterLemmas.{IsHome, acted_step, asked_step, exists_step, free_to_take, moving_step, outcome_of_answer, posted_step, some_number, unadded_step, unasked_step}
use Rattle.hlr_core.proofs.RenamedLemmas.{renamed_step, unnumbered_step, unrenamed_step}
use Rattle.hlr_core.proofs.RouteLemmas.{asks_later, row_step}

-- a step that is right whatever they have become is right as they were
pub own_step : (event : Event) (before after : OwnersState) (answer : Reply) → outs_in after.owners ≡ outs_in before.owners → IsStepWhileOut event before answer after
    → IsStep event (store_in before) answer (store_in after)
own_step event before after answer same step =
    let own = own_outs before.owners before.owners refl in
    let later : AreLater before.owners (with_outs before.owners (part_holdings before.owners)) = rw own (all_later_self before.owners) in
    rw (own, own_outs before.owners after.owners same) at (step (part_holdings before.owners) later)

-- what an event on rows asks for, it asks for whatever they have become
pub step_while_out : (event : Event) (before after : OwnersState) (answer : Reply) → is_on_rows event ≡ true
    → ((ks : List HoldingState) → AreLater before.owners (with_outs before.owners ks) → IsAskedStep (action_for event (book_in before.owners)) (store_in (register_with before ks)) answer (store_in (register_with after ks)))
    → IsStepWhileOut event before answer after
step_while_out event before after answer rows step = λ ks later.
    (row_step event (store_in (register_with before ks)) answer (store_in (register_with after ks)) rows).1 (rw (asks_later event before rows (with_outs before.owners ks) later) (step ks later))

-- an edit is done or refused by the rows, or refused as it is asked for
pub asked_while_out : (fits : Bool) (wanted : Option Action) (act : Action) (before after : OwnersState) (rows : RowReply) (answer : Reply) → given_number act ≡ None
    → IsAsked fits wanted (Ok act) → IsAnsweredWhileOut act before rows after → answer ≡ reply_of rows → IsRowStepWhileOut fits wanted before answer after
asked_while_out fits wanted act before after rows answer gives asked done is = λ ks later.
    let answered = done ks (each_owner before.owners (with_outs before.owners ks) later) in
    asked_step fits wanted act (store_in (register_with before ks)) (store_in (register_with after ks)) rows answer gives asked answered.0 answered.1 is

pub unasked_while_out : (fits : Bool) (wanted : Option Action) (why : Refusal) (h : OwnersState) → IsAsked fits wanted (Err why) → IsRowStepWhileOut fits wanted h (reply.Refused why) h
unasked_while_out fits wanted why h asked = λ ks later. unasked_step fits wanted why (store_in (register_with h ks)) asked

-- a posting
pub posted_while_out : (before after : OwnersState) (part limit : ℕ) (posted : Result ℕ Refusal) → IsPostedWhileOut part limit before posted after → IsStepWhileOut (Post part limit) before (posted_reply posted) after
posted_while_out before after part limit posted is = λ ks later. posted_step _ part limit _ _ posted (is ks (each_owner before.owners (with_outs before.owners ks) later))

-- an action is a right step, whatever they have become
abbrev pub IsActedWhileOut : Action → OwnersState → Reply → OwnersState → Type 0
IsActedWhileOut act before answer after = IsRowStepWhileOut true (Some act) before answer after

pub moving_while_out : (act : Action) (h : OwnersState) → is_loose (s_id_of act) h.regions ≡ true → IsActedWhileOut act h (reply.Refused refusal.Moving) h
moving_while_out act h loose = λ ks later. moving_step act (store_in (register_with h ks)) (store_in (register_with h ks)) (reply.Refused refusal.Moving) loose refl refl

-- a subscriber is added, or is refused
module _ (h : OwnersState) (row : SubscriberRow) where
  home_while_out : (has : Bool) (ks : List HoldingState) → AreLater h.owners (with_outs h.owners ks) → IsHome row (store_in h) has → IsHome row (store_in (register_with h ks)) has
  home_while_out has ks later here = record {
    home = here.home;
    there = sym (some_number (subscriber_at (book_in (with_outs h.owners ks)) row.s_id)) ∙ ap is_some (number_later h.owners (with_outs h.owners ks) later row.s_id)
        ∙ some_number (subscriber_at (book_in h.owners) row.s_id) ∙ here.there;
  }

  pub exists_while_out : IsHome row (store_in h) true → IsActedWhileOut (action.AddSubscriber row) h (reply.Refused refusal.Exists) h
  exists_while_out here = λ ks later. exists_step row (store_in (register_with h ks)) (home_while_out true ks later here)

  module _ (are : AreOwners h) (pairs : List (ℕ × ℕ)) (register : IsRegister (book_in h.owners) pairs) (here : IsHome row (store_in h) false) where
    pub unadded_while_out : (new : List (ℕ × ℕ)) (why : Refusal) → IsAdded row.sub_nbr row.s_id pairs new (Err why) → IsActedWhileOut (action.AddSubscriber row) h (reply.Refused why) h
    unadded_while_out new why refused = λ ks later.
        unadded_step row (store_in (register_with h ks)) pairs new why (registered_later h (with_outs h.owners ks) pairs are later register) (home_while_out false ks later here) refused

    pub added_while_out : (after : OwnersState) (rows : RowReply) (answer : Reply) → is_in_range (action.AddSubscriber row) ≡ true → pair_of row.sub_nbr pairs ≡ None
        → IsAnsweredWhileOut (action.AddSubscriber row) h rows after → answer ≡ reply_of rows → IsActedWhileOut (action.AddSubscriber row) h answer after
    added_while_out after rows answer fits unpaired done is = λ ks later.
        let answered = done ks (each_owner h.owners (with_outs h.owners ks) later) in
        acted_step (action.AddSubscriber row) (store_in (register_with h ks)) (store_in (register_with after ks)) rows answer fits here.home
        (free_to_take (action.AddSubscriber row) row.s_id row.sub_nbr (book_in (with_outs h.owners ks)) pairs (registered_later h (with_outs h.owners ks) pairs are later register) refl unpaired)
        (outcome_of_answer (action.AddSubscriber row) _ _ _ rows here.home answered.0) answered.1 is

-- a subscriber's number becomes another one, or is refused
module _ (h : OwnersState) (s n : ℕ) (home : is_loose s h.regions ≡ false) where
  pub unnumbered_while_out : None ≡ option_map (λ (row : SubscriberRow). row.sub_nbr) (subscriber_at (book_in h.owners) s) → IsActedWhileOut (action.SetNumber s n) h (reply.Refused refusal.NoSubscriber) h
  unnumbered_while_out none = λ ks later. unnumbered_step s n (store_in (register_with h ks)) home (none ∙ sym (number_later h.owners (with_outs h.owners ks) later s))

  module _ (are : AreOwners h) (pairs : List (ℕ × ℕ)) (register : IsRegister (book_in h.owners) pairs) (old : ℕ)
      (number : Some old ≡ option_map (λ (row : SubscriberRow). row.sub_nbr) (subscriber_at (book_in h.owners) s)) (new : List (ℕ × ℕ)) where
    pub unrenamed_while_out : (why : Refusal) → IsRenamed old n pairs new (Err why) (bearer_in old pairs) → IsActedWhileOut (action.SetNumber s n) h (reply.Refused why) h
    unrenamed_while_out why changed = λ ks later.
        unrenamed_step s old n (store_in (register_with h ks)) pairs new why (registered_later h (with_outs h.owners ks) pairs are later register) home
        (number ∙ sym (number_later h.owners (with_outs h.owners ks) later s)) changed

    pub renamed_while_out : (after : OwnersState) (rows : RowReply) (answer : Reply) → IsRenamed old n pairs new (Ok tt) (bearer_in old pairs) → is_in_range (action.SetNumber s n) ≡ true
        → IsAnsweredWhileOut (action.SetNumber s n) h rows after → answer ≡ reply_of rows → IsActedWhileOut (action.SetNumber s n) h answer after
    renamed_while_out after rows answer changed fits done is = λ ks later.
        let answered = done ks (each_owner h.owners (with_outs h.owners ks) later) in
        renamed_step s old n (store_in (register_with h ks)) (store_in (register_with after ks)) pairs new rows answer (registered_later h (with_outs h.owners ks) pairs are later register) home
        (number ∙ sym (number_later h.owners (with_outs h.owners ks) later s)) changed fits (outcome_of_answer (action.SetNumber s n) _ _ _ rows home answered.0) answered.1 is

-- the regions alone move
module _ (before after : OwnersState) (moves : IsMovedWhileOut before after) where
  moved_to : (ks : List HoldingState) → AreLater before.owners (with_outs before.owners ks) → (regions : List Region) → store_in after ≡ record (store_in before) { regions = regions }
      → store_in (register_with after ks) ≡ record (store_in (register_with before ks)) { regions = regions }
  moved_to ks later regions same = moves ks (each_owner before.owners (with_outs before.owners ks) later) ∙ ap (λ (s : Store). record (store_in (register_with before ks)) { regions = s.regions }) same

  pub given_while_out : (part : ℕ) (side : Side) (at : ℕ) (done : Result (ℕ × ℕ × ℕ) Refusal) (answer : Reply) → MayAnswer (give_answer part side at before.regions) done → answer ≡ given_reply done
      → store_in after ≡ record (store_in before) { regions = after_give part side at done before.regions } → IsStepWhileOut (Give part side at) before answer after
  given_while_out part side at done answer may is same = λ ks later. (done, may, is, moved_to ks later (after_give part side at done before.regions) same)

  pub taken_while_out : (piece part : ℕ) (done : Result Side Refusal) (answer : Reply) → MayAnswer (take_answer piece part before.regions) done → answer ≡ taken_reply piece part done
      → store_in after ≡ record (store_in before) { regions = after_take piece part done before.regions } → IsStepWhileOut (Take piece part) before answer after
  taken_while_out piece part done answer may is same = λ ks later. (done, may, is, moved_to ks later (after_take piece part done before.regions) same)

  pub recut_while_out : (bounds : List ℕ) (answer : Result ℕ Refusal) → IsRecut bounds (store_in before) answer (store_in after) → IsRecutWhileOut bounds before answer after
  recut_while_out bounds answer done = λ ks later. cases (recut_answer before.regions bounds) answer done (store_in (register_with before ks)) (store_in (register_with after ks)) refl (moves ks (each_owner before.owners (with_outs before.owners ks) later))
    where
      cases : (told : Result (List CutMove) Refusal) (answer : Result ℕ Refusal) → IsRecutBy told bounds (store_in before) answer (store_in after)
          → (b a : Store) → b.regions ≡ before.regions → a ≡ record b { regions = after.regions } → IsRecutBy told bounds b answer a
      cases (Err why) answer done b a same moved = (done.0, moved ∙ ap (λ (r : List Region). record b { regions = r }) (ap (λ (s : Store). s.regions) done.1 ∙ sym same))
      cases (Ok moves) (Ok count) done b a same moved = (done.0, moved ∙ ap (λ (r : List Region). record b { regions = r }) (ap (λ (s : Store). s.regions) done.1))
      cases (Ok moves) (Err why) done b a same moved =
          let regions : a.regions ≡ after.regions = ap (λ (s : Store). s.regions) moved in
          (done.0, moved ∙ ap (λ (r : List Region). record b { regions = r }) (sym regions), rw (same, regions) done.2)

-- a part comes or goes
module _ (before after : OwnersState) (part : ℕ) (done : Result (ℕ × ℕ × ℕ) Refusal) (answer : Reply) where
  pub divided_while_out : (at : ℕ) → MayAnswer (divide_answer part at before.regions) done → answer ≡ divided_reply done → IsDividedWhileOut part at done before after → IsStepWhileOut (Divide part at) before answer after
  divided_while_out at may is moves = λ ks later. (done, may, is, moves ks (each_owner before.owners (with_outs before.owners ks) later))

  pub dissolved_while_out : MayAnswer (dissolve_answer part before.regions) done → answer ≡ dissolved_reply done → IsDissolvedWhileOut part done before after → IsStepWhileOut (Dissolve part) before answer after
  dissolved_while_out may is moves = λ ks later. (done, may, is, moves ks (each_owner before.owners (with_outs before.owners ks) later))
