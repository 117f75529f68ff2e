-- An event that is answered Done changes rows, and its plain numbers are in range.
use Rattle.edit_lines.proofs.Common.{◌≡◌, refl, ap, ℕ, Bool, true, false, List, [], ◌∷◌, inl, inr, Ok, Err}
use Rattle.std.specs.Prelude.{Option, Some, None, Result}
use Rattle.tatp_rows.specs.Rows.{SubscriberRow, AccessInfoRow}
use Rattle.tatp_rows.specs.declared.refusal.Refusal.{Refusal}
use Rattle.tatp_actions.specs.Action.{subscriber_data, new_destination, access_data, destinations, is_in_range}
use Rattle.tatp_actions.specs.Book.{Book, subscriber_at, access_at}
use Rattle.tatp_actions.specs.declared.action.Action.{Action}
use Rattle.tatp_actions.specs.declared.action.Action.TheVariants as action
use Rattle.tatp_actions.specs.declared.action.RowReply.{RowReply}
use Rattle.tatp_actions.specs.declared.action.RowReply.TheVariants as row_reply
use Rattle.hlr_owners.specs.Store.{Store}
use Rattle.part_table.specs.declared.region.Side.{Side}
use Rattle.hlr_core.specs.Step.{IsStep, IsAskedStep, IsOwnedStep, IsWholeOutcome, action_for, checked, is_done, whole_effect, reply_of, posted_reply, given_reply, taken_reply, divided_reply, dissolved_reply}
use Rattle.hlr_core.specs.declared.event.Event.{Event}
use Rattle.hlr_core.specs.declared.event.Event.TheVariants.{SubscriberData, NewDestination, AccessData, UpdateSubscriber, UpdateLocation, InsertForwarding, DeleteForwarding, AddSubscriber, AddAccess, AddFacility, SetActive, SetNumber, Post, Give, Take, Divide, Dissolve}
use Rattle.hlr_core.specs.declared.event.Reply.TheVariants as reply
use Rattle.edit_lines.specs.Lines.{is_change}

-- an action that is asked for has its fields in range
fits_if_asked : (fits : Bool) (wanted : Option Action) (act : Action) → checked fits wanted ≡ Ok act → fits ≡ true
fits_if_asked true wanted act asked = refl
fits_if_asked false wanted act asked = absurd cc

asked_is : (fits : Bool) (wanted act : Action) → checked fits (Some wanted) ≡ Ok act → wanted ≡ act
asked_is true wanted act asked = cc
asked_is false wanted act asked = absurd cc

-- a read isn't done
subscriber_read : (book : Book) (row : Option SubscriberRow) → is_done (subscriber_data book row).0 ≡ true → ⊥
subscriber_read book None done = absurd cc
subscriber_read book (Some row) done = absurd cc

destination_read : (book : Book) (numbers : List ℕ) → is_done (new_destination book numbers).0 ≡ true → ⊥
destination_read book [] done = absurd cc
destination_read book (number ∷ numbers) done = absurd cc

access_read : (book : Book) (row : Option AccessInfoRow) → is_done (access_data book row).0 ≡ true → ⊥
access_read book None done = absurd cc
access_read book (Some row) done = absurd cc

-- an event whose action is done
pub done_is_change : (event : Event) (book : Book) (act : Action) → action_for event book ≡ Ok act → is_done (whole_effect act book).0 ≡ true → is_change event ≡ true
done_is_change (SubscriberData s_id) book act asked done =
    let is = asked_is (is_in_range (action.SubscriberData s_id)) (action.SubscriberData s_id) act asked in
    absurd (subscriber_read book (subscriber_at book s_id) (rw (← is) at done))
done_is_change (NewDestination s_id sf_type start_time end_time) book act asked done =
    let is = asked_is (is_in_range (action.NewDestination s_id sf_type start_time end_time)) (action.NewDestination s_id sf_type start_time end_time) act asked in
    absurd (destination_read book (destinations book s_id sf_type start_time end_time) (rw (← is) at done))
done_is_change (AccessData s_id ai_type) book act asked done =
    let is = asked_is (is_in_range (action.AccessData s_id ai_type)) (action.AccessData s_id ai_type) act asked in
    absurd (access_read book (access_at book s_id ai_type) (rw (← is) at done))
done_is_change (UpdateSubscriber s_id sf_type bit_1 data_a) book act asked done = fits_if_asked _ _ act asked
done_is_change (UpdateLocation sub_nbr vlr_location) book act asked done = fits_if_asked _ _ act asked
done_is_change (InsertForwarding sub_nbr sf_type start_time end_time numberx) book act asked done = fits_if_asked _ _ act asked
done_is_change (DeleteForwarding sub_nbr sf_type start_time) book act asked done = fits_if_asked _ _ act asked
done_is_change (AddSubscriber row) book act asked done = refl
done_is_change (AddAccess row) book act asked done = refl
done_is_change (AddFacility row) book act asked done = refl
done_is_change (SetActive s_id sf_type is_active) book act asked done = fits_if_asked _ _ act asked
done_is_change (SetNumber s_id sub_nbr) book act asked done = fits_if_asked _ _ act asked
done_is_change (Post part limit) book act asked done = absurd cc
done_is_change (Give part side at) book act asked done = absurd cc
done_is_change (Take piece part) book act asked done = absurd cc
done_is_change (Divide part at) book act asked done = absurd cc
done_is_change (Dissolve part) book act asked done = absurd cc

-- if the reply of an action on rows is Done, the rows have answered Done
rows_done : (rows : RowReply) → reply.Rows row_reply.Done ≡ reply_of rows → rows ≡ row_reply.Done
rows_done (row_reply.Refused why) same = absurd cc
rows_done row_reply.Done same = refl
rows_done (row_reply.Row row) same = absurd cc
rows_done (row_reply.Numbers numbers) same = absurd cc
rows_done (row_reply.AccessRow data1 data2 data3 data4) same = absurd cc

effect_done : (act : Action) (before : Book) (rows : RowReply) (after : Book) → IsWholeOutcome act before rows after → rows ≡ row_reply.Done → is_done (whole_effect act before).0 ≡ true
effect_done act before rows after (inl same) is =
    let first : rows ≡ (whole_effect act before).0 = ap (λ (outcome : RowReply × Book). outcome.0) same in
    rw (← first, is) refl
effect_done act before rows after (inr memory) is = rw memory.1 refl

owned_done : (loose : Bool) (act : Action) (before after : Store) → IsOwnedStep loose act before (reply.Rows row_reply.Done) after → is_done (whole_effect act before.book).0 ≡ true
owned_done true act before after step = absurd (let moving = step.0 in cc)
owned_done false act before after step = effect_done act before.book step.0 step.1 step.2 (rows_done step.0 step.3)

asked_done : (event : Event) (before after : Store) (asked : Result Action Refusal) → action_for event before.book ≡ asked → IsAskedStep asked before (reply.Rows row_reply.Done) after → is_change event ≡ true
asked_done event before after (Ok act) same step = done_is_change event before.book act same (owned_done _ act before after step)
asked_done event before after (Err why) same step = absurd (let refused = step.0 in cc)

-- other replies than those of rows
not_posted : (done : Result ℕ Refusal) → reply.Rows row_reply.Done ≡ posted_reply done → ⊥
not_posted (Ok n) same = absurd cc
not_posted (Err why) same = absurd cc

not_given : (done : Result (ℕ × ℕ × ℕ) Refusal) → reply.Rows row_reply.Done ≡ given_reply done → ⊥
not_given (Ok piece) same = absurd cc
not_given (Err why) same = absurd cc

not_divided : (done : Result (ℕ × ℕ × ℕ) Refusal) → reply.Rows row_reply.Done ≡ divided_reply done → ⊥
not_divided (Ok part) same = absurd cc
not_divided (Err why) same = absurd cc

not_dissolved : (done : Result (ℕ × ℕ × ℕ) Refusal) → reply.Rows row_reply.Done ≡ dissolved_reply done → ⊥
not_dissolved (Ok part) same = absurd cc
not_dissolved (Err why) same = absurd cc

not_taken : (piece part : ℕ) (done : Result Side Refusal) → reply.Rows row_reply.Done ≡ taken_reply piece part done → ⊥
not_taken piece part (Ok side) same = absurd cc
not_taken piece part (Err why) same = absurd cc

pub step_is_change : (event : Event) (before after : Store) → IsStep event before (reply.Rows row_reply.Done) after → is_change event ≡ true
step_is_change (Post part limit) before after step = absurd (not_posted step.0 step.2)
step_is_change (Give part side at) before after step = absurd (not_given step.0 step.2)
step_is_change (Take piece part) before after step = absurd (not_taken piece part step.0 step.2)
step_is_change (Divide part at) before after step = absurd (not_divided step.0 step.2)
step_is_change (Dissolve part) before after step = absurd (not_dissolved step.0 step.2)
step_is_change event before after step = asked_done event before after (action_for event before.book) refl step
