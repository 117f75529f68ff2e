-- The names of crates below and of this crate's specs that proofs cite, passed on from one place. Declares nothing.
pub use Rattle.std.proofs.Common.{Bool, Err, List, None, Ok, Some, [], ap, arith, drop, false, get_or, inl, inr, length, map, refl, replicate, set, suc, sym, true, zero, ℕ, ◌+◌, ◌<◌, ◌∙◌, ◌∷◌, ◌≡◌, ◌≤◌}
pub use Rattle.std.proofs.Crossing.{Arc-send, Box-send, crosses, frees}
pub use Rattle.std.proofs.lemmas.Bool.{cases_lt}
pub use Rattle.std.proofs.lemmas.Bool.Decides.{nat_tests}
pub use Rattle.std.proofs.lemmas.List.{get_or-replicate, get_or_default, get_or_past, length-replicate, length-set}
pub use Rattle.std.proofs.lemmas.Option.{get_or_from_slice_get, none-some, same_Some, slice_get-get_or, slice_get_read}
pub use Rattle.std.specs.List.{AllByRecursion}
pub use Rattle.std.specs.Prelude.{IfSome, IsTrue, Option, Result, if◌then◌else◌, insert, is_some, not, position, remove, slice_get, ◌-◌, ◌↔◌, ◌≢◌, ◌⊎◌}
pub use Rattle.std.specs.Result.{result_err}
pub use Rattle.std.specs.declared.alloc.Global.{Global}
pub use Rattle.hlr_core.proofs.HomeLemmas.{home_after}
pub use Rattle.hlr_core.proofs.LaterLemmas.{all_later_self, later_after, outcome_numbers}
pub use Rattle.hlr_core.specs.Home.{AreHomesAfter, HaveSameHomes, IsHomeTo}
pub use Rattle.hlr_core.specs.Index.{number_pair}
pub use Rattle.hlr_core.specs.Later.{IsBackWith, IsLater}
pub use Rattle.hlr_core.specs.Kept.{is_on_rows}
pub use Rattle.hlr_core.specs.Route.{IsAskedJob, IsRouted, is_here}
pub use Rattle.hlr_core.specs.WhileOut.{IsRegisterStep}
pub use Rattle.hlr_core.specs.declared.route.Route.TheVariants.{Now}
pub use Rattle.hlr_core.specs.Session.{IsActed, IsJobDone, IsNumberless, IsPosted}
pub use Rattle.hlr_core.specs.Step.{IsAskedStep, IsStep, action_for, dissolved_reply, divided_reply, given_reply, posted_reply, reply_of, taken_reply}
pub use Rattle.hlr_core.specs.declared.event.Event.{Event}
pub use Rattle.hlr_core.specs.declared.event.Event.TheVariants.{AccessData, AddAccess, AddFacility, AddSubscriber, DeleteForwarding, Dissolve, Divide, Give, InsertForwarding, NewDestination, SetActive, SetNumber, SubscriberData, Take, UpdateLocation, UpdateSubscriber}
pub use Rattle.hlr_core.specs.declared.event.Reply.{Reply}
pub use Rattle.hlr_owners.proofs.HeldLemmas.{holding_keeps}
pub use Rattle.hlr_owners.proofs.HomeLemmas.{part_home_of_all}
pub use Rattle.hlr_owners.proofs.PartLemmas.{at_number, count_parts, part_has_place, part_state_at, set_number}
pub use Rattle.hlr_owners.proofs.StateLemmas.{lies_within}
pub use Rattle.hlr_owners.specs.Answered.{MayAnswer}
pub use Rattle.hlr_owners.specs.Out.{out_of, outs_in, with_outs}
pub use Rattle.hlr_owners.specs.Owners.{AreOwners, IsHomeFor, IsHomeFrom, IsLent, IsPartHome, OwnersState, book_in, homes_in, store_in}
pub use Rattle.hlr_owners.specs.PartOwnerState.{PartOwnerState}
pub use Rattle.hlr_owners.specs.Recut.{IsHomeToCut, IsHomeToMove}
pub use Rattle.hlr_owners.specs.Store.{Store}
pub use Rattle.hlr_owners.specs.declared.part_owner.RegionOwner.{RegionOwner}
pub use Rattle.hlr_owners.specs.declared.part_owner.RegionOwner.TheVariants.{Part, Piece}
pub use Rattle.holding.proofs.CrossingLemmas.{holding_send}
pub use Rattle.holding.specs.Held.{HoldingState}
pub use Rattle.holding.specs.declared.job.Job.{Job}
pub use Rattle.holding.specs.declared.job.Job.TheVariants.{Act, Post}
pub use Rattle.part_table.proofs.IndexLemmas.{past_parts}
pub use Rattle.part_table.specs.Recut.{recut_answer}
pub use Rattle.part_table.specs.Region.{is_part, lies_in}
pub use Rattle.part_table.specs.Regions.{IsConsecutive, place_of}
pub use Rattle.part_table.specs.declared.moves.CutMove.{CutMove}
pub use Rattle.part_table.specs.declared.region.Region.{Region}
pub use Rattle.part_table.specs.declared.region.TheConstants.{END, MOST_PARTS}
pub use Rattle.rtrb.specs.Ring.{received, sent}
pub use Rattle.rtrb.specs.declared.consumer.Consumer.{Consumer}
pub use Rattle.tatp_actions.specs.Action.{done_reply}
pub use Rattle.tatp_actions.specs.Part.{PartState}
pub use Rattle.tatp_actions.specs.contracts.trees.TreesRows.TheImpl.{ghosts}
pub use Rattle.tatp_actions.specs.declared.action.Action.{Action}
pub use Rattle.tatp_rows.proofs.OrderedLemmas.{by_test}
pub use Rattle.tatp_rows.specs.Rows.{between, is_between}
pub use Rattle.tatp_rows.specs.declared.ranges.TheConstants.{LAST_SUBSCRIBER}
pub use Rattle.tatp_rows.specs.declared.refusal.Refusal.{Refusal}
pub use Rattle.view_board.specs.Desks.{DeskState}
pub use Rattle.hlr_lent.specs.Away.{IsAsking, IsAway, allowed, refusal_of}
pub use Rattle.hlr_lent.specs.Jobs.{AreDone, IsBack, IsWorked}
pub use Rattle.hlr_lent.specs.Rings.{HasRing, HaveRings, MayComeHome, lent_as}
pub use Rattle.hlr_lent.specs.declared.ring.Message.{Message}
pub use Rattle.hlr_lent.specs.declared.ring.ReturnRule.{ReturnRule}
