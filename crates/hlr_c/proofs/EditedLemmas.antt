-- A change of rows is answered Done, or it is refused, so that its code says whether its line is written.
use Rattle.std.specs.Prelude.{◌==◌, ◌&&◌, IfSome, option_map}
use Rattle.hlr_c.proofs.Common.{◌≡◌, ◌∙◌, ap, refl, sym, ℕ, Bool, true, false, List, [], ◌∷◌, inl, inr, Ok, Err, Option, None, Some, Result, ◌⊎◌, by_test, code_of, Refusal, Action, Book, effect, Event, Reply, code_told}
use Rattle.tatp_rows.specs.declared.refusal.Refusal.TheVariants as refusal
use Rattle.hlr_core.proofs.RouteLemmas.{row_step}
use Rattle.hlr_core.specs.Kept.{is_on_rows}
use Rattle.tatp_actions.specs.Action.{s_id_of, add_access, add_facility, add_subscriber, delete_forwarding, insert_forwarding, set_active, set_number, update_location, update_subscriber}
use Rattle.tatp_actions.specs.Book.{access_at, facility_at, forwarding_at, subscriber_at}
use Rattle.tatp_actions.specs.declared.action.Action.TheVariants as action
use Rattle.tatp_actions.specs.declared.action.RowReply.{RowReply}
use Rattle.tatp_actions.specs.declared.action.RowReply.TheVariants as row_reply
use Rattle.hlr_owners.specs.Answered.{is_loose}
use Rattle.hlr_owners.specs.Store.{Store}
use Rattle.hlr_core.specs.Numbers.{bearer_id}
use Rattle.hlr_core.specs.Step.{IsAskedStep, IsOwnedStep, IsStep, action_for, checked, given_number, is_done, reply_of, takes_number, whole_effect}
use Rattle.hlr_core.specs.declared.event.Event.TheVariants as event
use Rattle.hlr_core.specs.declared.event.Reply.TheVariants as reply
use Rattle.hlr_core.specs.declared.order.Answer.TheVariants as answer
use Rattle.hlr_core.specs.declared.order.Order.TheVariants as order
use Rattle.hlr_kept.specs.Runs.{line_bytes, tells_done}
use Rattle.hlr_c.specs.Inside.{changes_rows}
use Rattle.hlr_c.specs.Journaled.{line_written}
use Rattle.hlr_c.specs.declared.codes.TheConstants.{DONE}

-- an action that changes rows, if it is done
abbrev is_edit : Action → Bool
is_edit (action.SubscriberData s_id) = false
is_edit (action.NewDestination s_id sf_type start_time end_time) = false
is_edit (action.AccessData s_id ai_type) = false
is_edit _ = true

-- rows answer that it was done, or refuse it
abbrev AreEdited : RowReply → Type 0
AreEdited rows = (rows ≡ row_reply.Done) ⊎ ((why : Refusal) × (rows ≡ row_reply.Refused why))

-- the same of the reply
abbrev IsEdited : Reply → Type 0
IsEdited said = (said ≡ reply.Rows row_reply.Done) ⊎ ((why : Refusal) × (said ≡ reply.Refused why))

effect_edited : (act : Action) (book : Book) → is_edit act ≡ true → AreEdited (effect act book).0
effect_edited (action.SubscriberData s_id) book edit = absurd cc
effect_edited (action.NewDestination s_id sf_type start_time end_time) book edit = absurd cc
effect_edited (action.AccessData s_id ai_type) book edit = absurd cc
effect_edited (action.UpdateSubscriber s_id sf_type bit_1 data_a) book edit =
    elim (subscriber_at book s_id) as (λ o. AreEdited (update_subscriber book s_id sf_type bit_1 data_a o (facility_at book s_id sf_type)).0) [
      | None ↦ inr (refusal.NoSubscriber, refl)
      | Some row ↦ elim (facility_at book s_id sf_type) as (λ f. AreEdited (update_subscriber book s_id sf_type bit_1 data_a (Some row) f).0) [ None ↦ inr (refusal.NoFacility, refl) | Some facility ↦ inl refl ]
    ]
effect_edited (action.UpdateLocation s_id vlr_location) book edit =
    elim (subscriber_at book s_id) as (λ o. AreEdited (update_location book s_id vlr_location o).0) [ None ↦ inr (refusal.NoSubscriber, refl) | Some row ↦ inl refl ]
effect_edited (action.InsertForwarding row) book edit =
    elim (facility_at book row.s_id row.sf_type) as (λ o. AreEdited (insert_forwarding book row o (forwarding_at book row.s_id row.sf_type row.start_time)).0) [
      | None ↦ inr (refusal.NoFacility, refl)
      | Some facility ↦ elim (forwarding_at book row.s_id row.sf_type row.start_time) as (λ o. AreEdited (insert_forwarding book row (Some facility) o).0) [ None ↦ inl refl | Some other ↦ inr (refusal.Exists, refl) ]
    ]
effect_edited (action.DeleteForwarding s_id sf_type start_time) book edit =
    elim (forwarding_at book s_id sf_type start_time) as (λ o. AreEdited (delete_forwarding book s_id sf_type start_time o).0) [ None ↦ inr (refusal.NoForwarding, refl) | Some row ↦ inl refl ]
effect_edited (action.AddSubscriber row) book edit =
    elim (subscriber_at book row.s_id) as (λ o. AreEdited (add_subscriber book row o).0) [ None ↦ inl refl | Some other ↦ inr (refusal.Exists, refl) ]
effect_edited (action.AddAccess row) book edit =
    elim (subscriber_at book row.s_id) as (λ o. AreEdited (add_access book row o (access_at book row.s_id row.ai_type)).0) [
      | None ↦ inr (refusal.NoSubscriber, refl)
      | Some subscriber ↦ elim (access_at book row.s_id row.ai_type) as (λ o. AreEdited (add_access book row (Some subscriber) o).0) [ None ↦ inl refl | Some other ↦ inr (refusal.Exists, refl) ]
    ]
effect_edited (action.AddFacility row) book edit =
    elim (subscriber_at book row.s_id) as (λ o. AreEdited (add_facility book row o (facility_at book row.s_id row.sf_type)).0) [
      | None ↦ inr (refusal.NoSubscriber, refl)
      | Some subscriber ↦ elim (facility_at book row.s_id row.sf_type) as (λ o. AreEdited (add_facility book row (Some subscriber) o).0) [ None ↦ inl refl | Some other ↦ inr (refusal.Exists, refl) ]
    ]
effect_edited (action.SetActive s_id sf_type is_active) book edit =
    elim (facility_at book s_id sf_type) as (λ o. AreEdited (set_active book s_id sf_type is_active o).0) [ None ↦ inr (refusal.NoFacility, refl) | Some row ↦ inl refl ]
effect_edited (action.SetNumber s_id sub_nbr) book edit =
    elim (subscriber_at book s_id) as (λ o. AreEdited (set_number book s_id sub_nbr o).0) [ None ↦ inr (refusal.NoSubscriber, refl) | Some row ↦ inl refl ]

whole_edited : (act : Action) (book : Book) → is_edit act ≡ true → AreEdited (whole_effect act book).0
whole_edited act book edit =
    by_test (takes_number (given_number act) book && is_done (effect act book).0)
    (λ e. rw e (inr (refusal.NumberTaken, refl)))
    (λ e. rw e (effect_edited act book edit))

-- the reply that carries the answer
reply_edited : (rows : RowReply) (said : Reply) → said ≡ reply_of rows → AreEdited rows → IsEdited said
reply_edited rows said is (inl done) = inl (is ∙ ap reply_of done)
reply_edited rows said is (inr refused) = inr (refused.0, is ∙ ap reply_of refused.1)

module _ (before after : Store) (said : Reply) where
  owned_edited : (loose : Bool) (act : Action) → is_edit act ≡ true → IsOwnedStep loose act before said after → IsEdited said
  owned_edited true act edit step = inr (refusal.Moving, step.0)
  owned_edited false act edit step =
      elim step.2 [
        | inl same ↦ reply_edited step.0 said step.3 (rw (ap (λ (p : RowReply × Book). p.0) same) (whole_edited act before.book edit))
        | inr memory ↦ reply_edited step.0 said step.3 (inr (refusal.Memory, memory.2))
      ]

  -- what is asked for changes rows
  asked_edited : (asked : Result Action Refusal) → ((act : Action) → asked ≡ Ok act → is_edit act ≡ true) → IsAskedStep asked before said after → IsEdited said
  asked_edited (Err why) edits step = inr (why, step.0)
  asked_edited (Ok act) edits step = owned_edited (is_loose (s_id_of act) before.regions) act (edits act refl) step

checked_edit : (fits : Bool) (wanted : Option Action) → IfSome wanted (λ act. is_edit act ≡ true) → (act : Action) → checked fits wanted ≡ Ok act → is_edit act ≡ true
checked_edit false wanted edit act asked = absurd cc
checked_edit true None edit act asked = absurd cc
checked_edit true (Some wanted) edit act asked = let same : wanted ≡ act = cc in rw same at edit

bearer_edit : (wanted : ℕ → Action) (bearer : Option ℕ) → ((s_id : ℕ) → is_edit (wanted s_id) ≡ true) → IfSome (option_map wanted bearer) (λ act. is_edit act ≡ true)
bearer_edit wanted None edit = tt
bearer_edit wanted (Some s_id) edit = edit s_id

asks_edit : (one : Event) (book : Book) → changes_rows one ≡ true → (act : Action) → action_for one book ≡ Ok act → is_edit act ≡ true
asks_edit (event.UpdateSubscriber s_id sf_type bit_1 data_a) book change act asked = checked_edit _ _ refl act asked
asks_edit (event.UpdateLocation sub_nbr vlr_location) book change act asked =
    checked_edit _ _ (bearer_edit _ (bearer_id book.subscribers sub_nbr) (λ s_id. refl)) act asked
asks_edit (event.InsertForwarding sub_nbr sf_type start_time end_time numberx) book change act asked =
    checked_edit _ _ (bearer_edit _ (bearer_id book.subscribers sub_nbr) (λ s_id. refl)) act asked
asks_edit (event.DeleteForwarding sub_nbr sf_type start_time) book change act asked =
    checked_edit _ _ (bearer_edit _ (bearer_id book.subscribers sub_nbr) (λ s_id. refl)) act asked
asks_edit (event.AddSubscriber row) book change act asked = let same : action.AddSubscriber row ≡ act = cc in rw (← same) refl
asks_edit (event.AddAccess row) book change act asked = let same : action.AddAccess row ≡ act = cc in rw (← same) refl
asks_edit (event.AddFacility row) book change act asked = let same : action.AddFacility row ≡ act = cc in rw (← same) refl
asks_edit (event.SetActive s_id sf_type is_active) book change act asked = checked_edit _ _ refl act asked
asks_edit (event.SetNumber s_id sub_nbr) book change act asked = checked_edit _ _ refl act asked
asks_edit _ book change act asked = absurd cc

-- a change is on rows
changes_on_rows : (one : Event) → changes_rows one ≡ true → is_on_rows one ≡ true
changes_on_rows (event.Post part limit) change = absurd cc
changes_on_rows (event.Give part side at) change = absurd cc
changes_on_rows (event.Take piece part) change = absurd cc
changes_on_rows (event.Divide part at) change = absurd cc
changes_on_rows (event.Dissolve part) change = absurd cc
changes_on_rows _ change = refl

pub change_edited : (one : Event) (before after : Store) (said : Reply) → changes_rows one ≡ true → IsStep one before said after → IsEdited said
change_edited one before after said change step =
    asked_edited before after said (action_for one before.book) (asks_edit one before.book change) ((row_step one before said after (changes_on_rows one change)).0 step)

-- no refusal has the code 0
code_some : (why : Refusal) → (code_of why == DONE) ≡ false
code_some refusal.Memory = refl
code_some refusal.Field = refl
code_some refusal.NoSubscriber = refl
code_some refusal.NoNumber = refl
code_some refusal.NoAccess = refl
code_some refusal.NoFacility = refl
code_some refusal.NoForwarding = refl
code_some refusal.NoDestination = refl
code_some refusal.Exists = refl
code_some refusal.NumberTaken = refl
code_some refusal.Moving = refl
code_some refusal.NoPart = refl
code_some refusal.NoPiece = refl
code_some refusal.OutOfRange = refl
code_some refusal.NotAdjacent = refl
code_some refusal.ManyPieces = refl
code_some refusal.Worn = refl
code_some refusal.Thread = refl
code_some refusal.Syntax = refl
code_some refusal.Read = refl
code_some refusal.Write = refl
code_some refusal.ManyParts = refl

code_says : (said : Reply) → IsEdited said → (code_told said == DONE) ≡ tells_done said
code_says said (inl done) = rw done refl
code_says said (inr refused) = rw (refused.1) (code_some refused.0)

-- the line that is put for a reply is that of its code
pub told_written : (one : Event) (before after : Store) (said : Reply) → changes_rows one ≡ true → IsStep one before said after
    → line_bytes (order.Event one) (answer.Reply said) ≡ line_written (Ok one) (code_told said)
told_written one before after said change step =
    let says = code_says said (change_edited one before after said change step) in rw says refl
