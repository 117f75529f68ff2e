-- The names of crates below and of this crate's specs that proofs cite, passed on from one place. Declares nothing.
pub use Rattle.std.proofs.Common.{Bool, Err, List, Ok, [], ap, arith, drop, false, get_or, inl, inr, length, lit<, map, refl, set, subst, suc, sym, take, true, ℕ, ◌++◌, ◌+◌, ◌-◌, ◌<◌, ◌∙◌, ◌∷◌, ◌≡◌, ◌≤◌}
pub use Rattle.std.proofs.Crossing.{Arc-send, Box-send, Vec-send, crosses, frees}
pub use Rattle.std.proofs.Math.Seq.{take-suc}
pub use Rattle.std.proofs.alloc.Calls.{Goes-blank, handle_tells}
pub use Rattle.std.proofs.lemmas.Bool.{cases_eq, cases_lt}
pub use Rattle.std.proofs.lemmas.List.{get_or-drop, get_or-map, get_or-set_other, get_or-set_same, get_or-take, get_or_default, length-drop, length-map, length-set, length-take-le, map-append, map-id}
pub use Rattle.std.proofs.raw_atomic.Walks.{leaves, proved_at}
pub use Rattle.std.specs.Box.Ownership.{box_owns}
pub use Rattle.std.specs.List.{All}
pub use Rattle.std.specs.Prelude.{None, Option, Result, Some, pos, slice_index, ◌≢◌, ◌⊎◌}
pub use Rattle.std.specs.declared.alloc.Global.{Global}
pub use Rattle.arrayvec.specs.ArrayVec.{ArrayVec}
pub use Rattle.c_handle.proofs.PartsSteps.{Parts, allocator, pair, pair_fits, parts_in, parts_out}
pub use Rattle.hlr_core.proofs.HomeLemmas.{home_to_all}
pub use Rattle.hlr_core.specs.Home.{AreHomesAfter, IsHomeTo}
pub use Rattle.hlr_core.specs.Edits.{IsAskedAlone}
pub use Rattle.hlr_core.specs.Rows.{AreFound, access_reply, numbers_reply, subscriber_reply}
pub use Rattle.hlr_core.specs.Session.{IsJobDone}
pub use Rattle.hlr_core.specs.Step.{reply_of}
pub use Rattle.hlr_core.specs.declared.event.Event.{Event}
pub use Rattle.hlr_core.specs.declared.event.Event.TheVariants.{AddAccess, AddFacility, AddSubscriber, DeleteForwarding, Give, InsertForwarding, SetNumber, UpdateLocation}
pub use Rattle.hlr_core.specs.declared.event.Reply.{Reply}
pub use Rattle.hlr_lent.proofs.CrossingLemmas.{message_send, lent_part_send}
pub use Rattle.hlr_owners.proofs.PartLemmas.{count_parts}
pub use Rattle.hlr_lent.specs.Away.{IsAway}
pub use Rattle.hlr_owners.specs.Owners.{AllHome, AreOwners, IsPartHome, OwnersState, homes_in}
pub use Rattle.hlr_owners.specs.PartOwnerState.{PartOwnerState}
pub use Rattle.holding.proofs.CrossingLemmas.{holding_send, piece_send}
pub use Rattle.holding.specs.Held.{HoldingState, IsHolding}
pub use Rattle.holding.specs.declared.job.Job.TheVariants.{Act}
pub use Rattle.mr_subtree.proofs.CrossingLemmas.{tree_send}
pub use Rattle.part_table.proofs.NumberLemmas.{length_regions, most_pieces}
pub use Rattle.part_table.specs.Regions.{parts_of, pieces_of}
pub use Rattle.part_table.specs.declared.region.Region.{Region}
pub use Rattle.tatp_actions.specs.Action.{access_data, destinations, effect, is_in_range, is_typed, new_destination, s_id_of, subscriber_data}
pub use Rattle.tatp_actions.specs.Book.{Book, access_at, subscriber_at}
pub use Rattle.tatp_actions.specs.contracts.trees.TreesRows.TheImpl.{ghosts}
pub use Rattle.tatp_actions.specs.declared.action.Action.{Action}
pub use Rattle.tatp_actions.specs.declared.action.Action.TheVariants.{SetActive, UpdateSubscriber}
pub use Rattle.tatp_rows.proofs.OrderedLemmas.{by_test}
pub use Rattle.tatp_rows.specs.Refusal.{code_of}
pub use Rattle.tatp_rows.specs.Rows.{AccessInfoRow, SubscriberRow, is_between}
pub use Rattle.tatp_rows.specs.declared.ranges.TheConstants.{LAST_SUBSCRIBER}
pub use Rattle.tatp_rows.specs.declared.refusal.Refusal.{Refusal}
pub use Rattle.tatp_rows.specs.declared.refusal.Refusal.TheVariants.{Field}
pub use Rattle.view_board.proofs.FillLemmas.{IsFilledTo}
pub use Rattle.view_board.specs.Nets.{net_of}
pub use Rattle.view_board.specs.Views.{first_view}
pub use Rattle.hlr_c.specs.Asked.{asks}
pub use Rattle.hlr_c.specs.Call.{IsAnswer}
pub use Rattle.hlr_c.specs.Held.{IsJournaled, StandsAs, held, held_open}
pub use Rattle.hlr_c.specs.Inside.{AnswersFrom, AreTold, AreWritten, IsAnsweredTo, IsAwayCode, IsBlock, IsOwn, IsOwnAccess, IsOwnCall}
pub use Rattle.hlr_c.specs.Many.{AreAsMany, IsPartAccessRead, IsPartDestinationRead, IsPartSubscriberRead}
pub use Rattle.hlr_c.specs.Parts.{IsPartEdit, IsPartStep, has, read_by}
pub use Rattle.hlr_c.specs.Reports.{nearest}
pub use Rattle.hlr_c.specs.Rows.{region_for_c}
pub use Rattle.hlr_c.specs.Told.{access_told, code_told, given_told, numbers_told, subscriber_told}
pub use Rattle.hlr_c.specs.contracts.kept.Kept.{the_row, the_type}
pub use Rattle.hlr_c.specs.declared.codes.TheConstants.{AWAY, ELSEWHERE}
pub use Rattle.hlr_c.specs.declared.opened.FileJournal.{FileJournal}
pub use Rattle.hlr_c.specs.declared.rows.HlrAccessAsked.{HlrAccessAsked}
pub use Rattle.hlr_c.specs.declared.rows.HlrDestinationAsked.{HlrDestinationAsked}
pub use Rattle.hlr_c.specs.declared.rows.HlrNumbers.{HlrNumbers}
