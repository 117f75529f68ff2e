-- The names of crates below and of this crate's specs that proofs cite, passed on from one place. Declares nothing.
pub use Rattle.std.proofs.Common.{Bool, Bor, Err, FitsSigned, IfSome, IsErr, IsErrAnd, IsSome, List, MutBor, None, Ok, Option, Result, Some, [], ap, append-nil, arith, false, get_or, if◌then◌else◌, inl, inr, length, map, max, nat_le, nat_lt, of_z, refl, replicate, rules, set, subst, suc, sym, take, to_z, true, w64, w8, zero, ℕ, ◌&&◌, ◌*◌, ◌++◌, ◌+◌, ◌-◌, ◌/◌, ◌<◌, ◌==◌, ◌^◌, ◌∙◌, ◌∷◌, ◌≡◌, ◌≢◌, ◌≤◌}
pub use Rattle.std.proofs.Math.Seq.{take-suc}
pub use Rattle.std.proofs.lemmas.Bool.{cases_lt}
pub use Rattle.std.proofs.lemmas.Bool.Decides.{nat_tests}
pub use Rattle.std.proofs.lemmas.Int.{ints, to_z-of_z}
pub use Rattle.std.proofs.lemmas.List.{append_assoc, get_or-map, get_or-replicate, get_or-set_other, get_or-set_same, get_or_read, length-append, length-map, length-replicate, length-set, map-append}
pub use Rattle.std.proofs.lemmas.List.Elements.{filter-append}
pub use Rattle.std.proofs.lemmas.List.Sorted.{IsPartitionPoint-from_clause}
pub use Rattle.std.proofs.lemmas.List.Sums.{count_by-le-length, sum_by-append, sum_by-cons}
pub use Rattle.std.specs.List.{AllByRecursion, filter, find, insert, list_all, prefix_len, remove, sum_by}
pub use Rattle.std.specs.Option.{option_map_or, option_to_list, unwrap_or}
pub use Rattle.std.specs.Prelude.{count_by, is_some, negsuc, not, option_map, pos, slice_index, ℤ, ⊤, ◌+ℤ◌, ◌≤ℤ◌, ◌⊎◌}
pub use Rattle.arrayvec.specs.ArrayVec.{ArrayVec, array_vec_len}
pub use Rattle.group_tree.specs.Groups.{AreGroupsApart, AreGroupsAt, IsBase, IsHeightOfGroups, base_of, rows_beside, rows_in}
pub use Rattle.group_tree.specs.Tables.{facility_span, forwardings_listed, s_id_in, subscriber_span, type_in}
pub use Rattle.mr_cut.specs.Bounds.{blanks_for_slice}
pub use Rattle.mr_cut.specs.Cuts.{AreApart, rows_below, rows_from}
pub use Rattle.mr_node.proofs.ReviseLemmas.{revised_none, revised_some}
pub use Rattle.mr_node.specs.Folds.{WalksRows}
pub use Rattle.mr_node.specs.Revisions.{revised_at, spent_at}
pub use Rattle.mr_node.specs.Rows.{key_of_pair, value_at}
pub use Rattle.mr_subtree.proofs.CrossingLemmas.{tree_send}
pub use Rattle.mr_subtree.specs.Trees.{IsHeightOf}
pub use Rattle.part_table.specs.declared.bounds.TheConstants.{GREATEST_WEIGHT}
pub use Rattle.part_table.specs.declared.region.Side.TheVariants.{High, Low}
pub use Rattle.row_groups.specs.Groups.{forwarding_with, is_in_time}
pub use Rattle.tatp_rows.proofs.AppendLemmas.{each-append, each-left, each-right, ordered-append, ordered-left, ordered-right, row_at-high, row_at-low, with_row-high, with_row-low, with_row_at-high, with_row_at-low, without_row-high, without_row-low}
pub use Rattle.tatp_rows.proofs.FilterLemmas.{kept, kept_of_three}
pub use Rattle.tatp_rows.proofs.HalfLemmas.{below_each, from_each, halves_joined}
pub use Rattle.tatp_rows.proofs.KeyLemmas.{key_below, key_below_is, key_from, key_from_is, key_parts}
pub use Rattle.tatp_rows.proofs.MapLemmas.{each-unmap, row_at-pairs, with_row-pairs, with_row_at-pairs, without_row-pairs}
pub use Rattle.tatp_rows.proofs.OrderedLemmas.{absent_below, by_test, count_of_none, each-weaker, each-with_row, each-with_row_at, each-with_row_at_same, each-without_row, each_both, each_found, each_from_two, filter_all, filter_none, key_found, length-ordered, ordered-with_row, ordered-with_row_at, ordered-without_row, row_at-with_row_at_other, row_at-with_row_at_same, row_at-with_row_other, row_at-with_row_same, still_found-with_row, still_found-with_row_at, sum_by-same, sum_by-with_row, sum_by-with_row_at, sum_by-without_row, sums_agree, with_row_at_absent, with_row_at_same, without_row_absent}
pub use Rattle.tatp_rows.proofs.PlaceLemmas.{absent_here, absent_past, found_here, inserts_here, partitioned, place_from_point, removes_here, sets_here}
pub use Rattle.tatp_rows.proofs.RowLemmas.{access_s_id, access_type, between_from, between_is, bit_1_in_range, both, both_from, facility_ranges, facility_s_id, facility_type, forwarding_ranges, forwarding_s_id, forwarding_type, number_test, subscriber_ranges}
pub use Rattle.tatp_rows.specs.Keys.{access_key, facility_key, forwarding_key, key_of, subscriber_key}
pub use Rattle.tatp_rows.specs.Ordered.{IsOrderedBy, row_at, with_row, with_row_at, without_row}
pub use Rattle.tatp_rows.specs.Rows.{AccessInfoRow, CallForwardingRow, SpecialFacilityRow, SubscriberRow, access_in_range, facility_in_range, forwarding_in_range, is_between, is_start_time, subscriber_in_range}
pub use Rattle.tatp_rows.specs.Spans.{AllBelow, AllFrom, keys_below, keys_from}
pub use Rattle.tatp_rows.specs.Zones.{area_of, zone_of}
pub use Rattle.tatp_rows.specs.declared.ranges.TheConstants.{LAST_SUBSCRIBER}
pub use Rattle.tatp_rows.specs.declared.refusal.Refusal.{Refusal}
pub use Rattle.tatp_actions.specs.Action.{IsOutcome, access_data, add_access, add_facility, add_subscriber, adds_row, delete_forwarding, destinations, done_reply, effect, insert_forwarding, is_in_range, is_typed, new_destination, s_id_of, set_active, set_number, subscriber_data, takes_call, update_location, update_subscriber}
pub use Rattle.tatp_actions.specs.Book.{Book, IsBook, IsRowsOf, IsWithin, access_at, empty_book, facility_at, first_subscriber, forwarding_at, has_active, is_within, more_access, more_facilities, more_forwardings, more_subscribers, put_facility, put_subscriber, rows_between, subscriber_at, without_forwarding}
pub use Rattle.tatp_actions.specs.Cell.{cell, covers, has_active_facility}
pub use Rattle.tatp_actions.specs.Change.{IsChange, IsNote, NoteEachOnce, NotesFit, change_at, delta_at, hour_notes, is_zero, note_of}
pub use Rattle.tatp_actions.specs.Cut.{AreHeightsOf, high_part, low_part, melded}
pub use Rattle.tatp_actions.specs.CutTables.{IsForMeld, IsForSlice, TablesApartAt, heights_of, tables_of}
pub use Rattle.tatp_actions.specs.Edit.{Acts, notes_of}
pub use Rattle.tatp_actions.specs.Heights.{Heights, zero_heights}
pub use Rattle.tatp_actions.specs.Inside.{AreForwardingNotes, AreHours, IsCellNote, IsCompact, IsOnlyAsked, KeepsFacility, KeepsSubscriber, area_moved, asked_once, changed_once, changed_to, covering, destination, facility_revised, in_span, notes_in, number_in_time, numbers_in, row_amount, row_moved, signed, span_amount, subscriber_added, subscriber_revised, until}
pub use Rattle.tatp_actions.specs.Joined.{cut_high, cut_low, join_books}
pub use Rattle.tatp_actions.specs.Part.{IsPart, IsWidth, PartState}
pub use Rattle.tatp_actions.specs.Recount.{Tallied, is_active_in, one_more_from, one_more_in, with_forwarding, with_row_of, with_subscriber}
pub use Rattle.tatp_actions.specs.Tables.{AreKeyed, IsKeyed, Tables, empty_tables, once_more, stored_book, values_of}
pub use Rattle.tatp_actions.specs.contracts.trees.Trees.{the_row}
pub use Rattle.tatp_actions.specs.declared.action.Action.{Action}
pub use Rattle.tatp_actions.specs.declared.action.Action.TheVariants.{AccessData, AddAccess, AddFacility, AddSubscriber, DeleteForwarding, InsertForwarding, NewDestination, SetActive, SetNumber, SubscriberData, UpdateLocation, UpdateSubscriber}
pub use Rattle.tatp_actions.specs.declared.action.RowReply.{RowReply}
pub use Rattle.tatp_actions.specs.declared.cells.TheConstants.{CELLS, FIRST_AREA, FIRST_ZONE}
pub use Rattle.tatp_actions.specs.declared.change.Note.{Note}
pub use Rattle.tatp_actions.specs.declared.change.Spans.{Spans}
pub use Rattle.tatp_actions.specs.declared.change.TheConstants.{NOTES}
pub use Rattle.tatp_actions.specs.declared.revisions.SwapActive.{SwapActive}
pub use Rattle.tatp_actions.specs.declared.trees.Trees.{Trees}
