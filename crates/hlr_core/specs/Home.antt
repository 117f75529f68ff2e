-- The parts on which an event works are home.
use Rattle.std.specs.Prelude.{◌≡◌, ◌-◌, ◌<◌, ◌≤◌, ◌↔◌, ℕ, Bool, true, false, IfSome, slice_index}
use Rattle.view_board.specs.Desks.{DeskState}
use Rattle.hlr_owners.specs.Out.{outs_in}
use Rattle.hlr_owners.specs.PartChanges.{IsWithNew, IsWithout}
use Rattle.hlr_owners.specs.Owners.{OwnersState, IsHomeFor, IsHomeFrom, IsPartHome, book_in, homes_in}
use Rattle.hlr_core.specs.Numbers.{bearer_id}
use Rattle.hlr_core.specs.declared.event.Event.{Event}
use Rattle.hlr_core.specs.declared.event.Event.TheVariants.{SubscriberData, NewDestination, AccessData, UpdateSubscriber, UpdateLocation, InsertForwarding, DeleteForwarding, AddSubscriber, AddAccess, AddFacility, SetActive, SetNumber, Post, Give, Take, Divide, Dissolve}
use Rattle.hlr_core.specs.declared.event.Reply.{Reply}
use Rattle.hlr_core.specs.declared.event.Reply.TheVariants.{Divided, Dissolved}
use Rattle.hlr_core.specs.declared.route.Parts.{Parts}

-- the owner that has the subscriber with a number is home, if there is such a subscriber
abbrev pub IsBearerHome : ℕ → OwnersState → Type 0
IsBearerHome sub_nbr h = IfSome (bearer_id (book_in h.owners).subscribers sub_nbr) (λ s_id. IsHomeFor s_id h)

-- the parts on which an event works are home: the owner of its rows; the part that posts, gives or takes; or the part
-- that is divided, or that lies in front of one that is dissolved, and all parts behind it, because their numbers
-- change
abbrev pub IsHomeTo : Event → OwnersState → Type 0
IsHomeTo (SubscriberData s_id) h = IsHomeFor s_id h
IsHomeTo (NewDestination s_id sf_type start_time end_time) h = IsHomeFor s_id h
IsHomeTo (AccessData s_id ai_type) h = IsHomeFor s_id h
IsHomeTo (UpdateSubscriber s_id sf_type bit_1 data_a) h = IsHomeFor s_id h
IsHomeTo (UpdateLocation sub_nbr vlr_location) h = IsBearerHome sub_nbr h
IsHomeTo (InsertForwarding sub_nbr sf_type start_time end_time numberx) h = IsBearerHome sub_nbr h
IsHomeTo (DeleteForwarding sub_nbr sf_type start_time) h = IsBearerHome sub_nbr h
IsHomeTo (AddSubscriber row) h = IsHomeFor row.s_id h
IsHomeTo (AddAccess row) h = IsHomeFor row.s_id h
IsHomeTo (AddFacility row) h = IsHomeFor row.s_id h
IsHomeTo (SetActive s_id sf_type is_active) h = IsHomeFor s_id h
IsHomeTo (SetNumber s_id sub_nbr) h = IsHomeFor s_id h
IsHomeTo (Post part limit) h = IsPartHome part h
IsHomeTo (Give part side at) h = IsPartHome part h
IsHomeTo (Take piece part) h = IsPartHome part h
IsHomeTo (Divide part at) h = IsHomeFrom part h
IsHomeTo (Dissolve part) h = IsHomeFrom (part - 1) h

-- each of these parts that exists is home
abbrev pub AreHome : Parts → OwnersState → Type 0
AreHome parts h = (part : ℕ) → parts.first ≤ part → part < parts.end → IsPartHome part h

-- these parts are home exactly if those that the event needs are
abbrev pub WorksOn : Event → Parts → OwnersState → Type 0
WorksOn event parts h = AreHome parts h ↔ IsHomeTo event h

-- an event names its subscriber by a number, so that only the rows say who it is
abbrev pub is_by_number : Event → Bool
is_by_number (UpdateLocation sub_nbr vlr_location) = true
is_by_number (InsertForwarding sub_nbr sf_type start_time end_time numberx) = true
is_by_number (DeleteForwarding sub_nbr sf_type start_time) = true
is_by_number _ = false

-- the same parts are home, the same holdings are lent, and the desk of the slots that no part has is as it was
pub record HaveSameHomes (before after : OwnersState) : Type 0 where
  pub homes : homes_in after.owners ≡ homes_in before.owners
  pub outs : outs_in after.owners ≡ outs_in before.owners
  pub spare : after.spare ≡ before.spare

-- a desk of the same board, which has seen at least as much of each word
pub record IsLaterDesk (before after : DeskState) : Type 0 where
  pub board : after.board ≡ before.board
  pub seen : (w : ℕ) → slice_index before.view.seen w ≤ slice_index after.view.seen w

-- which parts are home after an event: a part that was divided has a new one behind it, which is home, a part that
-- was dissolved is gone, and nothing else changes
abbrev pub AreHomesAfter : Event → Reply → OwnersState → OwnersState → Type 0
AreHomesAfter (Divide part at) (Divided new lo hi) before after = IsWithNew part before after
AreHomesAfter (Dissolve part) (Dissolved front lo hi) before after = IsWithout part before after
AreHomesAfter event answer before after = HaveSameHomes before after
