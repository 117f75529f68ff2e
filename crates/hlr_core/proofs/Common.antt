-- The names of crates below and of this crate's specs that proofs cite, passed on from one place. Declares nothing.
pub use Rattle.std.proofs.Common.{Bool, Err, List, None, Ok, Option, Some, [], ap, arith, drop, false, get_or, inl, inr, length, length-set, map, pos, refl, rules, set, slice_index_or, subst, suc, sym, take, true, vec_capacity, vec_len, w64, zero, ℕ, ◌++◌, ◌+◌, ◌-◌, ◌<◌, ◌∙◌, ◌∷◌, ◌≡◌, ◌≢◌, ◌≤◌}
pub use Rattle.std.proofs.Math.Seq.{take-suc}
pub use Rattle.std.proofs.lemmas.Bool.{cases_eq, cases_lt}
pub use Rattle.std.proofs.lemmas.Bool.Decides.{nat_tests}
pub use Rattle.std.proofs.lemmas.Grind.{flat_map-append}
pub use Rattle.std.proofs.lemmas.Int.{ints, to_z-of_z}
pub use Rattle.std.proofs.lemmas.List.{get_or-map, get_or_past, length-map, map-append, set_comm, take_all, take_more, take_more_set}
pub use Rattle.std.proofs.lemmas.List.Elements.{All-map, All-more}
pub use Rattle.std.proofs.lemmas.List.Folds.{fold-map}
pub use Rattle.std.proofs.lemmas.List.FromFn.{map-range_with_len_more}
pub use Rattle.std.proofs.lemmas.List.Quantifiers.{position-Some}
pub use Rattle.std.proofs.lemmas.List.Sums.{sum_by-append, sum_by-cons}
pub use Rattle.std.proofs.lemmas.Option.{get_or_from_slice_get, slice_get_past}
pub use Rattle.std.proofs.lemmas.Result.{err_from_is_err_and}
pub use Rattle.std.specs.Borrow.{Bor}
pub use Rattle.std.specs.Int.RustNames.{FitsSigned}
pub use Rattle.std.specs.List.{All, AllByRecursion, AllZip, filter, find, flat_map, list_any, range_with_len}
pub use Rattle.std.specs.Prelude.{Box, IfErr, IfOk, IfSome, MatchResult, Result, if◌then◌else◌, insert, int_lt, is_some, min, nat_le, nat_lt, negsuc, ok_or, option_copied, option_map, position, remove, slice_get, slice_set, sum_by, unsigned_abs, ℤ, ◌&&◌, ◌-ℤ◌, ◌==◌, ◌||◌, ◌↔◌, ◌⊎◌}
pub use Rattle.std.specs.declared.alloc.Global.{Global}
pub use Rattle.arrayvec.specs.ArrayVec.{ArrayVec}
pub use Rattle.atomic_table.specs.Seated.{TableId}
pub use Rattle.hlr_owners.proofs.HeldLemmas.{holding_keeps}
pub use Rattle.hlr_owners.proofs.HomeLemmas.{cut_home_of_all, home_of_all, part_home_of_all}
pub use Rattle.hlr_owners.proofs.LendLemmas.{desks_later, later_self, ruled_later}
pub use Rattle.hlr_owners.proofs.ListLemmas.{map_twice}
pub use Rattle.hlr_owners.proofs.OutLemmas.{own_outs}
pub use Rattle.hlr_owners.proofs.PartLemmas.{at_number, count_parts, part_has_place, part_state_at}
pub use Rattle.hlr_owners.proofs.PostedLemmas.{posted_right}
pub use Rattle.hlr_owners.proofs.ReadLemmas.{is_read, none_read, numbers_read, subscriber_fits}
pub use Rattle.hlr_owners.proofs.RecutLemmas.{recut_stays}
pub use Rattle.hlr_owners.proofs.RegionOwnerLemmas.{acts_at, owned, parts-kept, region_there, state_is, states-set}
pub use Rattle.hlr_owners.proofs.ShareLemmas.{zeros_are, zeros_opening}
pub use Rattle.hlr_owners.proofs.StateLemmas.{lies_within, state_rows}
pub use Rattle.hlr_owners.proofs.SumLemmas.{unposted_is}
pub use Rattle.hlr_owners.proofs.ZipLemmas.{zip_weaker}
pub use Rattle.hlr_owners.specs.Answered.{IsAnswered, MayAnswer, is_loose, is_loose_place}
pub use Rattle.hlr_owners.specs.Boxed.{unboxed}
pub use Rattle.hlr_owners.specs.Desks.{AreDesks, IsLevel, slots_in}
pub use Rattle.hlr_owners.specs.Gather.{gathered, states_of}
pub use Rattle.hlr_owners.specs.Held.{OwnerState, of_holding, of_piece}
pub use Rattle.hlr_owners.specs.Out.{outs_in, with_outs}
pub use Rattle.hlr_owners.specs.Owners.{AllHome, AreOwners, IsHomeFor, IsHomeFrom, IsLaterOwner, IsLent, IsPartHome, OwnersState, book_in, desks_in, homes_in, part_holdings, state_of, states_in, store_in}
pub use Rattle.hlr_owners.specs.PartChanges.{AreHomesDissolved, AreHomesDivided, IsDissolved, IsDissolvedWhileOut, IsDivided, IsDividedWhileOut, IsWithNew, IsWithout}
pub use Rattle.hlr_owners.specs.PartOwnerState.{PartOwnerState}
pub use Rattle.hlr_owners.specs.Posting.{IsPosting}
pub use Rattle.hlr_owners.specs.Read.{HasRowsOf, IsRead}
pub use Rattle.hlr_owners.specs.Recut.{IsRecut, IsRecutBy}
pub use Rattle.hlr_owners.specs.Scattered.{holdings_in, misfit_of, pieces_in, store_from}
pub use Rattle.hlr_owners.specs.Store.{Store, opening_from, parts_in, published, slots_of, unpublished}
pub use Rattle.hlr_owners.specs.WhileOut.{HasRowsWhileOut, IsAnsweredWhileOut, IsMovedWhileOut, IsPostedWhileOut, IsReadWhileOut}
pub use Rattle.hlr_owners.specs.declared.part_owner.RegionOwner.{RegionOwner}
pub use Rattle.hlr_owners.specs.declared.part_owner.RegionOwner.TheVariants.{Part}
pub use Rattle.hlr_owners.specs.declared.scattered.Scattered.{Scattered}
pub use Rattle.holding.specs.Held.{HoldingState, IsHolding, PieceState}
pub use Rattle.holding.specs.declared.job.Job.{Job}
pub use Rattle.holding.specs.declared.job.Job.TheVariants.{Act}
pub use Rattle.mr_node.specs.Rows.{key_of_pair}
pub use Rattle.number_index.specs.Pairs.{IsAdded, IsRenamed, bearer_in, pair_of, renamed}
pub use Rattle.part_table.proofs.FirstLemmas.{none_passes}
pub use Rattle.part_table.proofs.IndexLemmas.{is_part_there, part_has}
pub use Rattle.part_table.proofs.NumberLemmas.{any_part, any_piece}
pub use Rattle.part_table.proofs.PlaceLemmas.{blank}
pub use Rattle.part_table.specs.Dissolve.{dissolve_answer}
pub use Rattle.part_table.specs.Divide.{divide_answer}
pub use Rattle.part_table.specs.Give.{after_give, give_answer}
pub use Rattle.part_table.specs.Proposal.{proposal}
pub use Rattle.part_table.specs.Recut.{recut_answer}
pub use Rattle.part_table.specs.Region.{is_part, is_part_place, is_piece, lies_in, piece_number}
pub use Rattle.part_table.specs.Regions.{AreRegions, IsConsecutive, IsPieceNumber, parts_of, pieces_of, place_of}
pub use Rattle.part_table.specs.Take.{after_take, answer_of_both, take_answer}
pub use Rattle.part_table.specs.declared.bounds.TheConstants.{GREATEST_WEIGHT}
pub use Rattle.part_table.specs.declared.moves.CutMove.{CutMove}
pub use Rattle.part_table.specs.declared.region.Place.{Place}
pub use Rattle.part_table.specs.declared.region.Place.TheVariants.{Piece}
pub use Rattle.part_table.specs.declared.region.Region.{Region}
pub use Rattle.part_table.specs.declared.region.Side.{Side}
pub use Rattle.part_table.specs.declared.region.TheConstants.{END}
pub use Rattle.tatp_actions.proofs.CountLemmas.{few_in_weight}
pub use Rattle.tatp_actions.specs.Action.{IsOutcome, access_data, add_access, add_facility, add_subscriber, adds_row, delete_forwarding, destinations, done_reply, effect, insert_forwarding, is_in_range, is_typed, new_destination, s_id_of, set_active, set_number, subscriber_data, update_location, update_subscriber}
pub use Rattle.tatp_actions.specs.Book.{Book, IsBook, IsRowsOf, IsWithin, access_at, facility_at, first_subscriber, forwarding_at, put_subscriber, subscriber_at}
pub use Rattle.tatp_actions.specs.Cell.{cell}
pub use Rattle.tatp_actions.specs.Joined.{book_of}
pub use Rattle.tatp_actions.specs.Part.{PartState}
pub use Rattle.tatp_actions.specs.declared.action.Action.{Action}
pub use Rattle.tatp_actions.specs.declared.action.RowReply.{RowReply}
pub use Rattle.tatp_actions.specs.declared.cells.TheConstants.{CELLS, FIRST_ZONE}
pub use Rattle.tatp_rows.proofs.OrderedLemmas.{absent_cons, by_test, count_of_key, each-weaker, each-with_row, each-with_row_at, each-without_row, each_found, filter_all, key_found, ordered-with_row, row_at-with_row_other, row_at-with_row_same, sum_by-with_row, with_row-either, with_row_at_same, without_row-with_row}
pub use Rattle.tatp_rows.proofs.RowLemmas.{between_is, between_ok, both, both_from}
pub use Rattle.tatp_rows.proofs.SortLemmas.{sum_by-in_order}
pub use Rattle.tatp_rows.specs.Keys.{key_of, subscriber_key}
pub use Rattle.tatp_rows.specs.Number.{IsNumber}
pub use Rattle.tatp_rows.specs.Ordered.{IsOrderedBy, in_order, row_at, with_row, with_row_at, without_row}
pub use Rattle.tatp_rows.specs.Rows.{AccessInfoRow, SpecialFacilityRow, SubscriberRow, between, is_between, is_start_time}
pub use Rattle.tatp_rows.specs.declared.ranges.TheConstants.{LAST_SUBSCRIBER}
pub use Rattle.tatp_rows.specs.declared.refusal.Refusal.{Refusal}
pub use Rattle.tatp_rows.specs.declared.refusal.Refusal.TheVariants.{Memory, NumberTaken}
pub use Rattle.view_board.specs.Desks.{DeskState}
pub use Rattle.view_board.specs.Words.{minus_word, plus_word}
pub use Rattle.hlr_core.specs.Gather.{IsRefusedWhole, rows_of_all}
pub use Rattle.hlr_core.specs.Home.{AreHome, AreHomesAfter, HaveSameHomes, IsBearerHome, IsHomeTo, IsLaterDesk}
pub use Rattle.hlr_core.specs.Index.{IsRegister, index_of, number_pair}
pub use Rattle.hlr_core.specs.Edits.{IsAsked, IsRowAction, action_asked}
pub use Rattle.hlr_core.specs.Inside.Asked.{IsRowStep, IsRowStepWhileOut}
pub use Rattle.hlr_core.specs.Inside.Noted.{AreNoted, HasTwin, IsIndexed, bears}
pub use Rattle.hlr_core.specs.Inside.Routed.{AsksFor, IsOn}
pub use Rattle.hlr_core.specs.Kept.{IsSameAtHome, is_kept, is_lasting, is_on_rows, kept_answers, kept_orders}
pub use Rattle.hlr_core.specs.Later.{AreLater, IsBackWith, IsLater, with_owners}
pub use Rattle.hlr_core.specs.Numbers.{HasNoTwin, bearer_id, bearer_of}
pub use Rattle.hlr_core.specs.Route.{IsAskedJob, IsRouted, is_here}
pub use Rattle.hlr_core.specs.Rows.{AreFound, access_reply, numbers_reply, subscriber_reply}
pub use Rattle.hlr_core.specs.Run.{IsOrderStep, IsRun}
pub use Rattle.hlr_core.specs.Session.{AreDone, IsActed, IsDoneAt, IsJobDone, IsJobOf, IsPosted, IsWithinJob, JobReply, JobsCommute, jobs_of, jobs_of_others}
pub use Rattle.hlr_core.specs.Step.{IsAskedStep, IsOwnedStep, IsPostStep, IsStep, IsWholeOutcome, action_for, changes_number, checked, dissolved_reply, divided_reply, edited_reply, given_number, given_reply, is_anothers, is_done, posted_reply, reply_of, taken_reply, takes_number, whole_effect}
pub use Rattle.hlr_core.specs.Tasks.{job_of}
pub use Rattle.hlr_core.specs.Weights.{counted_weights, published_weights, weight}
pub use Rattle.hlr_core.specs.WhileOut.{IsRecutWhileOut, IsStepWhileOut, register_with}
pub use Rattle.hlr_core.specs.declared.event.Event.{Event}
pub use Rattle.hlr_core.specs.declared.event.Event.TheVariants.{AccessData, AddAccess, AddFacility, AddSubscriber, DeleteForwarding, Dissolve, Divide, Give, InsertForwarding, NewDestination, Post, SetActive, SetNumber, SubscriberData, Take, UpdateLocation, UpdateSubscriber}
pub use Rattle.hlr_core.specs.declared.event.Reply.{Reply}
pub use Rattle.hlr_core.specs.declared.order.Answer.{Answer}
pub use Rattle.hlr_core.specs.declared.order.Order.{Order}
pub use Rattle.hlr_core.specs.declared.route.Parts.{Parts}
pub use Rattle.hlr_core.specs.declared.route.Route.TheVariants.{Now, To}
pub use Rattle.hlr_core.specs.declared.weights.TheConstants.{ZONES}
