-- Right steps: what an event asks for, which reply it may have, and the store after it. Only Memory is a free choice.
use Rattle.std.specs.Prelude.{◌≡◌, ℕ, ◌==◌, ◌&&◌, ◌||◌, not, Bool, true, false, List, Option, Some, None, option_map, Result, Ok, Err, if◌then◌else◌, ◌⊎◌}
use Rattle.tatp_rows.specs.Rows.{SubscriberRow, is_between, is_start_time}
use Rattle.tatp_rows.specs.declared.ranges.TheConstants.{LAST_SUBSCRIBER}
use Rattle.tatp_rows.specs.declared.refusal.Refusal.{Refusal}
use Rattle.tatp_rows.specs.declared.refusal.Refusal.TheVariants as refusal
use Rattle.part_table.specs.Dissolve.{dissolve_answer}
use Rattle.part_table.specs.Divide.{divide_answer}
use Rattle.part_table.specs.Give.{give_answer, after_give}
use Rattle.part_table.specs.Take.{take_answer, after_take}
use Rattle.part_table.specs.declared.region.Side.{Side}
use Rattle.tatp_actions.specs.Action.{effect, adds_row, is_in_range, s_id_of}
use Rattle.tatp_actions.specs.Book.{Book, subscriber_at}
use Rattle.tatp_actions.specs.declared.action.Action.{Action}
use Rattle.tatp_actions.specs.declared.action.Action.TheVariants as action
use Rattle.tatp_actions.specs.declared.action.RowReply.{RowReply}
use Rattle.tatp_actions.specs.declared.action.RowReply.TheVariants as row_reply
use Rattle.hlr_owners.specs.Answered.{is_loose, MayAnswer}
use Rattle.hlr_owners.specs.PartChanges.{IsDissolved, IsDivided}
use Rattle.hlr_owners.specs.Posting.{IsPosting}
use Rattle.hlr_owners.specs.Store.{Store, slots_of}
use Rattle.hlr_core.specs.Numbers.{bearer_of, bearer_id}
use Rattle.hlr_core.specs.declared.event.Event.{Event}
use Rattle.hlr_core.specs.declared.event.Event.TheVariants.{SubscriberData, NewDestination, AccessData, UpdateSubscriber, UpdateLocation, InsertForwarding, DeleteForwarding, AddSubscriber, AddAccess, AddFacility, SetActive, SetNumber, Post, Give, Take, Divide, Dissolve}
use Rattle.hlr_core.specs.declared.event.Reply.{Reply}
use Rattle.hlr_core.specs.declared.event.Reply.TheVariants as reply

-- the subscriber to whom an action gives a number, and that number, if it gives one
abbrev pub given_number : Action → Option (ℕ × ℕ)
given_number (action.AddSubscriber row) = Some (row.s_id, row.sub_nbr)
given_number (action.SetNumber s_id sub_nbr) = Some (s_id, sub_nbr)
given_number _ = None

-- the row that was found is another subscriber's
abbrev pub is_anothers : ℕ → Option SubscriberRow → Bool
is_anothers s_id None = false
is_anothers s_id (Some row) = not (row.s_id == s_id)

-- the row that was found has another number
abbrev pub has_another : ℕ → Option SubscriberRow → Bool
has_another sub_nbr None = false
has_another sub_nbr (Some row) = not (row.sub_nbr == sub_nbr)

-- the number that is given belongs to another subscriber
abbrev pub takes_number : Option (ℕ × ℕ) → Book → Bool
takes_number None book = false
takes_number (Some given) book = is_anothers given.0 (bearer_of book.subscribers given.1)

-- the number that is given replaces another one
abbrev pub changes_number : Option (ℕ × ℕ) → Book → Bool
changes_number None book = false
changes_number (Some given) book = has_another given.1 (subscriber_at book given.0)

-- the action was done
abbrev pub is_done : RowReply → Bool
is_done row_reply.Done = true
is_done _ = false

-- the effect of an action on the whole book, where no number may be taken twice; that refusal comes after all others
abbrev pub whole_effect : Action → Book → RowReply × Book
whole_effect act book =
    if takes_number (given_number act) book && is_done (effect act book).0 then (row_reply.Refused refusal.NumberTaken, book)
    else effect act book

-- a right outcome on the whole book: the effect, or Memory in place of Done if a row is added or a number changed
abbrev pub IsWholeOutcome : Action → Book → RowReply → Book → Type 0
IsWholeOutcome act before answer after =
    ((answer, after) ≡ whole_effect act before)
    ⊎ ((adds_row act || changes_number (given_number act) before ≡ true) × ((whole_effect act before).0 ≡ row_reply.Done)
    × (answer ≡ row_reply.Refused refusal.Memory) × (after ≡ before))

-- the reply that carries the rows' answer
abbrev pub reply_of : RowReply → Reply
reply_of (row_reply.Refused why) = reply.Refused why
reply_of answer = reply.Rows answer

-- the reply to an event that changes rows: it was done, or refused
abbrev pub edited_reply : Result (Unit {0}) Refusal → Reply
edited_reply (Ok done) = reply.Rows row_reply.Done
edited_reply (Err why) = reply.Refused why

-- a right step of an action: Moving if its rows are in a loose piece, and otherwise a right outcome
abbrev pub IsOwnedStep : Bool → Action → Store → Reply → Store → Type 0
IsOwnedStep true act before answer after = (answer ≡ reply.Refused refusal.Moving) × (after ≡ before)
IsOwnedStep false act before answer after =
    (rows : RowReply) × (book : Book)
    × IsWholeOutcome act before.book rows book × (answer ≡ reply_of rows) × (after ≡ record before { book = book })

-- a right step of an event on rows, which asks for an action, or asks for none and is refused
abbrev pub IsAskedStep : Result Action Refusal → Store → Reply → Store → Type 0
IsAskedStep (Ok act) before answer after =
    IsOwnedStep (is_loose (s_id_of act) before.regions) act before answer after
IsAskedStep (Err why) before answer after = (answer ≡ reply.Refused why) × (after ≡ before)

-- Field if numbers are out of range, NoNumber if there is no such subscriber, and otherwise the action
abbrev pub checked : Bool → Option Action → Result Action Refusal
checked false wanted = Err refusal.Field
checked true None = Err refusal.NoNumber
checked true (Some act) = Ok act

-- an action, or Field where its numbers are out of range
abbrev pub if_in_range : Action → Result Action Refusal
if_in_range act = checked (is_in_range act) (Some act)

-- the type and the start time of a forwarding are in range
abbrev pub has_forwarding_key : ℕ → ℕ → Bool
has_forwarding_key sf_type start_time = is_between 1 4 sf_type && is_start_time start_time

-- what an event on rows asks for; other events ask for no action, and what this gives for them doesn't matter
abbrev pub action_for : Event → Book → Result Action Refusal
action_for (SubscriberData s_id) book = if_in_range (action.SubscriberData s_id)
action_for (NewDestination s_id sf_type start_time end_time) book =
    if_in_range (action.NewDestination s_id sf_type start_time end_time)
action_for (AccessData s_id ai_type) book = if_in_range (action.AccessData s_id ai_type)
action_for (UpdateSubscriber s_id sf_type bit_1 data_a) book = if_in_range (action.UpdateSubscriber s_id sf_type bit_1 data_a)
action_for (UpdateLocation sub_nbr vlr_location) book =
    checked (is_between 1 4294967295 vlr_location)
    (option_map (λ s_id. action.UpdateLocation s_id vlr_location) (bearer_id book.subscribers sub_nbr))
action_for (InsertForwarding sub_nbr sf_type start_time end_time numberx) book =
    checked (has_forwarding_key sf_type start_time && is_between 1 24 end_time)
    (option_map
    (λ s_id. action.InsertForwarding (record { s_id = s_id; sf_type = sf_type; start_time = start_time; end_time = end_time; numberx = numberx }))
    (bearer_id book.subscribers sub_nbr))
action_for (DeleteForwarding sub_nbr sf_type start_time) book =
    checked (has_forwarding_key sf_type start_time)
    (option_map (λ s_id. action.DeleteForwarding s_id sf_type start_time) (bearer_id book.subscribers sub_nbr))
action_for (AddSubscriber row) book = Ok (action.AddSubscriber row)
action_for (AddAccess row) book = Ok (action.AddAccess row)
action_for (AddFacility row) book = Ok (action.AddFacility row)
action_for (SetActive s_id sf_type is_active) book = if_in_range (action.SetActive s_id sf_type is_active)
action_for (SetNumber s_id sub_nbr) book =
    checked (is_between 1 LAST_SUBSCRIBER s_id) (Some (action.SetNumber s_id sub_nbr))
action_for other book = Err refusal.Field

-- the reply of a posting
abbrev pub posted_reply : Result ℕ Refusal → Reply
posted_reply (Ok n) = reply.Posted n
posted_reply (Err why) = reply.Refused why

-- a right step of a posting to a part with these slots, if there is such a part
abbrev pub IsPostStep : Option (List ℕ) → ℕ → ℕ → Store → Reply → Store → Type 0
IsPostStep slots part limit before answer after =
    (done : Result ℕ Refusal) × IsPosting slots part limit before done after × (answer ≡ posted_reply done)

-- the reply of a give
abbrev pub given_reply : Result (ℕ × ℕ × ℕ) Refusal → Reply
given_reply (Ok piece) = reply.Given piece.0 piece.1 piece.2
given_reply (Err why) = reply.Refused why

-- the reply of a take of a piece by a part
abbrev pub taken_reply : ℕ → ℕ → Result Side Refusal → Reply
taken_reply n q (Ok side) = reply.Taken n q
taken_reply n q (Err why) = reply.Refused why

-- a right step of a give, which changes nothing but the regions
abbrev pub IsGiveStep : ℕ → Side → ℕ → Store → Reply → Store → Type 0
IsGiveStep part side at before answer after =
    (done : Result (ℕ × ℕ × ℕ) Refusal)
    × MayAnswer (give_answer part side at before.regions) done × (answer ≡ given_reply done)
    × (after ≡ record before { regions = after_give part side at done before.regions })

-- a right step of a take, which changes nothing but the regions
abbrev pub IsTakeStep : ℕ → ℕ → Store → Reply → Store → Type 0
IsTakeStep piece part before answer after =
    (done : Result Side Refusal)
    × MayAnswer (take_answer piece part before.regions) done × (answer ≡ taken_reply piece part done)
    × (after ≡ record before { regions = after_take piece part done before.regions })

-- the reply of a divide
abbrev pub divided_reply : Result (ℕ × ℕ × ℕ) Refusal → Reply
divided_reply (Ok part) = reply.Divided part.0 part.1 part.2
divided_reply (Err why) = reply.Refused why

-- the reply of a dissolve
abbrev pub dissolved_reply : Result (ℕ × ℕ × ℕ) Refusal → Reply
dissolved_reply (Ok part) = reply.Dissolved part.0 part.1 part.2
dissolved_reply (Err why) = reply.Refused why

-- a right step of a divide, which changes the regions, and gives the new part a slot
abbrev pub IsDivideStep : ℕ → ℕ → Store → Reply → Store → Type 0
IsDivideStep part at before answer after =
    (done : Result (ℕ × ℕ × ℕ) Refusal)
    × MayAnswer (divide_answer part at before.regions) done × (answer ≡ divided_reply done) × IsDivided part at done before after

-- a right step of a dissolve, which changes the regions, takes back what the part has published, and frees its slot
abbrev pub IsDissolveStep : ℕ → Store → Reply → Store → Type 0
IsDissolveStep part before answer after =
    (done : Result (ℕ × ℕ × ℕ) Refusal)
    × MayAnswer (dissolve_answer part before.regions) done × (answer ≡ dissolved_reply done) × IsDissolved part done before after

-- an event may have this reply in the first store, and lead to the second one
abbrev pub IsStep : Event → Store → Reply → Store → Type 0
IsStep (Post part limit) before answer after = IsPostStep (slots_of before part) part limit before answer after
IsStep (Give part side at) before answer after = IsGiveStep part side at before answer after
IsStep (Take piece part) before answer after = IsTakeStep piece part before answer after
IsStep (Divide part at) before answer after = IsDivideStep part at before answer after
IsStep (Dissolve part) before answer after = IsDissolveStep part before answer after
IsStep event before answer after = IsAskedStep (action_for event before.book) before answer after
