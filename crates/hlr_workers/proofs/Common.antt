-- The names of crates below and of this crate's specs that proofs cite, passed on from one place. Declares nothing.
pub use Rattle.std.proofs.Common.{Bool, Err, List, None, Ok, Some, [], ap, append_assoc, arith, drop, false, get_or, inl, inr, length, length-append, map, refl, replicate, rules, set, subst, suc, sym, take, true, vec_capacity, zero, ℕ, ◌++◌, ◌+◌, ◌<◌, ◌∙◌, ◌∷◌, ◌≡◌, ◌≢◌, ◌≤◌}
pub use Rattle.std.proofs.Crossing.{Arc-send, Arc-sync, Box-send, Vec-send, crosses, frees}
pub use Rattle.std.proofs.Math.ListN.{get_or-map}
pub use Rattle.std.proofs.lemmas.Bool.{cases_lt}
pub use Rattle.std.proofs.lemmas.Bool.Decides.{eqb_tells, nat_tests}
pub use Rattle.std.proofs.lemmas.List.{append-nil, get_or_default, get_or_past, length-map, length-replicate, length-set, map-append, map-set, set-get_or, set-set, take_more}
pub use Rattle.std.proofs.lemmas.List.Edits.{length-remove}
pub use Rattle.std.proofs.lemmas.List.Quantifiers.{position-Some}
pub use Rattle.std.proofs.lemmas.Option.{get_or_from_slice_get, none-some, same_Some, slice_get-get_or, slice_get_read, slice_get_within}
pub use Rattle.std.proofs.lemmas.Slice.Zip.{AllZip-long}
pub use Rattle.std.specs.List.{AllByRecursion, AllZip, find}
pub use Rattle.std.specs.Prelude.{IfSome, IsSome, Option, Result, Vec, if◌then◌else◌, insert, is_some, nat_lt, not, position, remove, slice_get, slice_index, ◌&&◌, ◌-◌, ◌==◌, ◌⊎◌}
pub use Rattle.arrayvec.specs.ArrayVec.{ArrayVec}
pub use Rattle.crossbeam_queue.proofs.Lists.{at_set, at_snoc}
pub use Rattle.crossbeam_queue.specs.Fifo.{Forks, Learns, Merges, Pops, Pushes}
pub use Rattle.crossbeam_queue.specs.Passes.{IsPassOf, view}
pub use Rattle.hlr_core.proofs.HomeLemmas.{desk_after, desk_same}
pub use Rattle.hlr_core.proofs.LaterLemmas.{all_later_after, all_later_self, all_ruled_later, later_after, outcome_numbers, put_later}
pub use Rattle.hlr_core.proofs.SentLemmas.{within_job}
pub use Rattle.hlr_core.specs.Home.{AreHomesAfter, HaveSameHomes, IsHomeTo, IsLaterDesk, is_by_number}
pub use Rattle.hlr_core.specs.Index.{number_pair}
pub use Rattle.hlr_core.specs.Later.{AreLater, IsBackWith, IsLater, numbers_of, with_owners}
pub use Rattle.hlr_core.specs.Route.{IsRightNow, IsRightSent, IsRouted, is_here}
pub use Rattle.hlr_core.specs.Run.{IsOrderStep, IsRun}
pub use Rattle.hlr_core.specs.Session.{IsDoneAt, IsJobDone, IsJobOf, IsNumberless, IsWithinJob}
pub use Rattle.hlr_core.specs.Step.{IsAskedStep, IsOwnedStep, IsStep, action_for, dissolved_reply, divided_reply, given_reply, posted_reply, reply_of, taken_reply}
pub use Rattle.hlr_core.specs.Tasks.{job_of}
pub use Rattle.hlr_core.specs.WhileOut.{IsRecutWhileOut, IsStepWhileOut, register_with}
pub use Rattle.hlr_core.specs.declared.event.Event.{Event}
pub use Rattle.hlr_core.specs.declared.event.Event.TheVariants.{AccessData, AddAccess, AddFacility, AddSubscriber, DeleteForwarding, Dissolve, Divide, Give, InsertForwarding, NewDestination, SetActive, SetNumber, SubscriberData, Take, UpdateLocation, UpdateSubscriber}
pub use Rattle.hlr_core.specs.declared.event.Reply.{Reply}
pub use Rattle.hlr_core.specs.declared.order.Answer.{Answer}
pub use Rattle.hlr_core.specs.declared.order.Order.{Order}
pub use Rattle.hlr_core.specs.declared.route.Route.TheVariants.{To}
pub use Rattle.hlr_core.specs.declared.task.Task.{Task}
pub use Rattle.hlr_owners.proofs.HeldLemmas.{holding_keeps}
pub use Rattle.hlr_owners.proofs.PartLemmas.{ahead, at_number, count_parts, number_at, part_has_place, part_state_at, part_within, set_number}
pub use Rattle.hlr_owners.proofs.RegionOwnerLemmas.{states-set}
pub use Rattle.hlr_owners.proofs.SightLemmas.{words_looked}
pub use Rattle.hlr_owners.proofs.ZipLemmas.{zip_at, zip_insert, zip_remove, zip_set}
pub use Rattle.hlr_owners.specs.Answered.{MayAnswer, is_loose}
pub use Rattle.hlr_owners.specs.Desks.{slots_in, words_of}
pub use Rattle.hlr_owners.specs.Held.{OwnerState}
pub use Rattle.hlr_owners.specs.Out.{out_of, outs_in, with_out, with_outs}
pub use Rattle.hlr_owners.specs.Owners.{AllHome, AreOwners, IsHomeFrom, IsLent, IsSameOwner, OwnersState, desks_in, homes_in, of_part, of_parts, part_holdings, state_of, states_in, store_in}
pub use Rattle.hlr_owners.specs.PartChanges.{IsDissolved, IsDivided}
pub use Rattle.hlr_owners.specs.PartOwnerState.{PartOwnerState}
pub use Rattle.hlr_owners.specs.Posting.{IsPosting}
pub use Rattle.hlr_owners.specs.Recut.{IsHomeToCut, IsHomeToMove, IsRecut, IsRecutBy}
pub use Rattle.hlr_owners.specs.Store.{Store, slots_of}
pub use Rattle.hlr_owners.specs.declared.part_owner.RegionOwner.{RegionOwner}
pub use Rattle.hlr_owners.specs.declared.part_owner.RegionOwner.TheVariants.{Part, Piece}
pub use Rattle.holding.proofs.CrossingLemmas.{holding_send}
pub use Rattle.holding.specs.Held.{HoldingState}
pub use Rattle.holding.specs.declared.job.Job.{Job}
pub use Rattle.holding.specs.declared.job.Job.TheVariants.{Act, Post}
pub use Rattle.part_table.proofs.FirstLemmas.{find_none}
pub use Rattle.part_table.proofs.IndexLemmas.{past_parts}
pub use Rattle.part_table.proofs.PlaceLemmas.{blank}
pub use Rattle.part_table.specs.Dissolve.{dissolve_answer, dissolve_answer_of, part_before}
pub use Rattle.part_table.specs.Divide.{divide_answer, divide_answer_of}
pub use Rattle.part_table.specs.Recut.{recut_answer}
pub use Rattle.part_table.specs.Region.{is_part}
pub use Rattle.part_table.specs.Regions.{parts_of}
pub use Rattle.part_table.specs.declared.moves.CutMove.{CutMove}
pub use Rattle.part_table.specs.declared.region.Region.{Region}
pub use Rattle.part_table.specs.declared.region.Side.{Side}
pub use Rattle.part_table.specs.declared.region.TheConstants.{MOST_PARTS}
pub use Rattle.tatp_actions.specs.Action.{s_id_of}
pub use Rattle.tatp_actions.specs.Joined.{book_of}
pub use Rattle.tatp_actions.specs.Part.{PartState}
pub use Rattle.tatp_actions.specs.contracts.trees.TreesRows.TheImpl.{ghosts}
pub use Rattle.tatp_actions.specs.declared.action.Action.{Action}
pub use Rattle.tatp_actions.specs.declared.action.RowReply.{RowReply}
pub use Rattle.tatp_rows.proofs.CrossingLemmas.{tuple_send}
pub use Rattle.tatp_rows.proofs.OrderedLemmas.{by_test}
pub use Rattle.tatp_rows.specs.declared.refusal.Refusal.{Refusal}
pub use Rattle.view_board.specs.Desks.{DeskState, with_view}
pub use Rattle.view_board.specs.Views.{looked}
pub use Rattle.hlr_workers.specs.Finish.{HasDone, IsAtWork, IsSessionMore, MaySend, Sent, sent_with}
pub use Rattle.hlr_workers.specs.Inside.{AreBrought, AreIdle, AreWorkersChanged, Gone, IsAnswered, IsBehind, IsHomeAgain, IsOut, IsPlace, IsSentTo, New, PartChange, Same, is_sent_more, part_change_of, put_answers, with_part_change}
pub use Rattle.hlr_workers.specs.Kept.{AllNumberless, HasWorker, InOrder, IsKept, NoneOut, WorkersState, engaged, jobs_at}
pub use Rattle.hlr_workers.specs.Relay.{AreJobs, AreWithin, IsInShape, IsKnown, IsRelayed, IsStarted, IsWellSent, job_pair, jobs_in, jobs_of, lent_of, log, nothing}
pub use Rattle.hlr_workers.specs.Session.{AreNumberless, IsSession}
pub use Rattle.hlr_workers.specs.Standing.{AreEnds, Asked, Cut, Engaged, HasKept, IsAsBefore, IsSessionBy, IsSettled, Stands, Took, TookNext, answers_by, answers_with, changes_parts, events_in, numbered, numbered_in, orders_of, store_at}
pub use Rattle.hlr_workers.specs.declared.message.Lent.{Lent}
pub use Rattle.hlr_workers.specs.declared.message.Log.{Log}
pub use Rattle.hlr_workers.specs.declared.message.Message.{Message}
pub use Rattle.hlr_workers.specs.declared.message.Message.TheVariants.{Begin, Do, Stop}
pub use Rattle.hlr_workers.specs.declared.message.Numbered.{Numbered}
pub use Rattle.hlr_workers.specs.declared.work.TheConstants.{MOST_PENDING}
