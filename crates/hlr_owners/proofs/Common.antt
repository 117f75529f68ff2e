-- The names of crates below and of this crate's specs that proofs cite, passed on from one place. Declares nothing.
pub use Rattle.std.proofs.Common.{Bool, List, None, Some, [], ap, arith, drop, false, get_or, inl, inr, length, map, max, nat_lt, not, refl, replicate, rules, set, subst, suc, sym, take, true, vec_len, zero, ℕ, ◌%◌, ◌*◌, ◌++◌, ◌+◌, ◌-◌, ◌/◌, ◌<◌, ◌==◌, ◌^◌, ◌∙◌, ◌∷◌, ◌≡◌, ◌≢◌, ◌≤◌, ◌⊎◌}
pub use Rattle.std.proofs.Math.Bool.{or-false}
pub use Rattle.std.proofs.Math.ListN.{get_or-map}
pub use Rattle.std.proofs.Math.Seq.{map-set_same}
pub use Rattle.std.proofs.lemmas.Bool.{cases_eq, cases_lt}
pub use Rattle.std.proofs.lemmas.Bool.Decides.{nat_tests}
pub use Rattle.std.proofs.lemmas.Int.{ints}
pub use Rattle.std.proofs.lemmas.List.{append-nil, append_assoc, drop-map, drop_all, drop_more, ext_get_or, get_or-replicate, get_or-set_other, get_or-set_same, get_or_past, length-append, length-map, length-replicate, length-set, length-take, map-append, map-set, set-get_or, take-append-drop, take-map, take_all, take_more}
pub use Rattle.std.proofs.lemmas.List.Edits.{get_or-remove_above, get_or-remove_below, length-remove}
pub use Rattle.std.proofs.lemmas.List.Elements.{filter-append}
pub use Rattle.std.proofs.lemmas.List.Folds.{list_all-append, list_all-map}
pub use Rattle.std.proofs.lemmas.List.FromFn.{length-map-range_with_len, map-range_with_len_more}
pub use Rattle.std.proofs.lemmas.List.Quantifiers.{position-Some}
pub use Rattle.std.proofs.lemmas.List.Sums.{AllPass-from_list_all, get_or-le-sum_by, sum_by-cons, sum_by-insert, sum_by-remove, sum_by-set, sum_by_push}
pub use Rattle.std.proofs.lemmas.Map.Views.{any-filter_same}
pub use Rattle.std.proofs.lemmas.Option.{get_or_from_slice_get, slice_get-map, slice_get_past, slice_get_read, slice_get_within}
pub use Rattle.std.proofs.lemmas.Result.{err_from_is_err_and}
pub use Rattle.std.proofs.lemmas.Slice.Zip.{AllZip-long, all_zipped_more}
pub use Rattle.std.specs.Arc.{arc_value}
pub use Rattle.std.specs.Int.RustNames.{unsigned_abs}
pub use Rattle.std.specs.List.{All, AllByRecursion, AllZip, filter, list_all, list_any, range_with_len}
pub use Rattle.std.specs.Prelude.{Box, Err, IfErr, IfOk, IsTrue, Ok, Option, Result, find, if◌then◌else◌, insert, nat_le, neg_ℤ, ok_or, option_map, pos, position, remove, slice_get, sum_by, vec_capacity, ℤ, ◌&&◌, ◌+ℤ◌, ◌-ℤ◌, ◌||◌, ◌↔◌, ◌≤ℤ◌}
pub use Rattle.std.specs.Result.{IsOk}
pub use Rattle.std.specs.declared.alloc.Global.{Global}
pub use Rattle.arrayvec.specs.ArrayVec.{ArrayVec, array_vec_len}
pub use Rattle.atomic_table.specs.Seated.{TableId}
pub use Rattle.holding.proofs.HeldLemmas.{empty_cell, few, wide_posted}
pub use Rattle.holding.specs.Held.{HasSmallNets, HoldingState, IsHolding, IsPiece, PieceState, count_of}
pub use Rattle.holding.specs.Moved.{IsBlankDesk, IsGiven, IsHoldingDivided, IsInside, IsMerged, IsTaken, as_piece}
pub use Rattle.holding.specs.Post.{due, post_cells}
pub use Rattle.part_table.proofs.BehindLemmas.{anew_from, zip_anew}
pub use Rattle.part_table.proofs.BoundsLemmas.{length_parts, no_pieces, within}
pub use Rattle.part_table.proofs.DissolveLemmas.{IsDissolve, both_ranges, dissolve_from_answer, dissolved_edit, front_index, part_behind_front, ranges_meet, regions-dissolved}
pub use Rattle.part_table.proofs.DivideLemmas.{IsDivide, bound_inside, divide_from_answer, divide_room, divided_edit, high_half, low_half, regions-divided}
pub use Rattle.part_table.proofs.FirstLemmas.{find_index}
pub use Rattle.part_table.proofs.GiveLemmas.{IsGive, give_from_answer, has_room, leaves_regions}
pub use Rattle.part_table.proofs.GivingLemmas.{cut_edit, part_half, piece_half}
pub use Rattle.part_table.proofs.IndexLemmas.{is_part_there, part_has, past_parts}
pub use Rattle.part_table.proofs.JoinLemmas.{regions-joined}
pub use Rattle.part_table.proofs.LeastLemmas.{least_here, least_more, least_passes}
pub use Rattle.part_table.proofs.NumberLemmas.{all_pieces, length_regions, most_pieces}
pub use Rattle.part_table.proofs.NumberedLemmas.{are_regions}
pub use Rattle.part_table.proofs.OpeningLemmas.{openable}
pub use Rattle.part_table.proofs.PairLemmas.{IsPair, join_edit, joint_place, joint_region, pair, part_index, places, stands, touch}
pub use Rattle.part_table.proofs.PlaceLemmas.{blank, place_at, some_index}
pub use Rattle.part_table.proofs.RenumberLemmas.{region_lowered, region_raised}
pub use Rattle.part_table.specs.Bounds.{parts_between}
pub use Rattle.part_table.specs.Dissolve.{dissolve_answer, dissolved, place_lowered}
pub use Rattle.part_table.specs.Divide.{divide_answer, divided, place_raised}
pub use Rattle.part_table.specs.Give.{cut, give_answer, piece_index}
pub use Rattle.part_table.specs.Least.{least}
pub use Rattle.part_table.specs.Numbered.{do_follow, numbered, over_ranges, part_after, piece_after, place_numbered}
pub use Rattle.part_table.specs.Opening.{can_open, opening_bound}
pub use Rattle.part_table.specs.Recut.{all_moved, moved, recut_answer}
pub use Rattle.part_table.specs.Region.{is_part, is_part_place, is_piece, lies_in, part_number, piece_number}
pub use Rattle.part_table.specs.Regions.{AreRegions, IsConsecutive, parts_of, pieces_of, place_of}
pub use Rattle.part_table.specs.Take.{joined, take_answer, touching}
pub use Rattle.part_table.specs.declared.moves.CutMove.{CutMove}
pub use Rattle.part_table.specs.declared.region.Place.{Place}
pub use Rattle.part_table.specs.declared.region.Region.{Region}
pub use Rattle.part_table.specs.declared.region.Side.{Side}
pub use Rattle.part_table.specs.declared.region.Side.TheVariants.{High, Low}
pub use Rattle.part_table.specs.declared.region.TheConstants.{END}
pub use Rattle.tatp_actions.proofs.BetweenLemmas.{between_joined, high_between, high_is_between, low_between, low_is_between, none_past, own_rows}
pub use Rattle.tatp_actions.proofs.CutLemmas.{cut_high_rows, cut_joined, cut_low_rows, same_tables}
pub use Rattle.tatp_actions.proofs.DeltaLemmas.{plain_sum}
pub use Rattle.tatp_actions.proofs.JoinedLemmas.{cell_joined, rows_joined}
pub use Rattle.tatp_actions.proofs.LocalLemmas.{apart, outcome-high, outcome-low}
pub use Rattle.tatp_actions.specs.Action.{IsOutcome, access_data, effect, is_in_range, new_destination, s_id_of, subscriber_data}
pub use Rattle.tatp_actions.specs.Book.{Book, IsBook, IsRowsOf, IsWithin, empty_book, facility_at, first_subscriber, forwarding_at, is_within, rows_between, subscriber_at}
pub use Rattle.tatp_actions.specs.Cell.{cell}
pub use Rattle.tatp_actions.specs.Cut.{Touch}
pub use Rattle.tatp_actions.specs.Joined.{book_of, cut_high, cut_low, join_books}
pub use Rattle.tatp_actions.specs.Part.{IsPart, IsRange, IsWidth, PartState}
pub use Rattle.tatp_actions.specs.declared.action.Action.{Action}
pub use Rattle.tatp_actions.specs.declared.action.RowReply.{RowReply}
pub use Rattle.tatp_actions.specs.declared.cells.TheConstants.{CELLS}
pub use Rattle.tatp_rows.proofs.AppendLemmas.{each-append, each-left, each-right}
pub use Rattle.tatp_rows.proofs.BlankLemmas.{blank_at}
pub use Rattle.tatp_rows.proofs.MapLemmas.{each-map, each-unmap}
pub use Rattle.tatp_rows.proofs.OrderedLemmas.{by_test, each-weaker, each-with_row, each_from_two, filter_none, with_row-either}
pub use Rattle.tatp_rows.proofs.PlaceLemmas.{each_at, from_here}
pub use Rattle.tatp_rows.proofs.RowLemmas.{both_from, facility_type, forwarding_ranges, forwarding_type}
pub use Rattle.tatp_rows.proofs.SortLemmas.{behind_equals-le, each-in_order, filter-in_order, first-with_row, insert_behind, length-in_order, length-with_row, map-in_order, one_put, sum_by-in_order}
pub use Rattle.tatp_rows.specs.Keys.{facility_key, forwarding_key, key_of, subscriber_key}
pub use Rattle.tatp_rows.specs.Ordered.{IsOrderedBy, behind_equals, in_order, row_at, with_row}
pub use Rattle.tatp_rows.specs.Rows.{AccessInfoRow, CallForwardingRow, SpecialFacilityRow, SubscriberRow, facility_in_range, forwarding_in_range, is_between, subscriber_in_range}
pub use Rattle.tatp_rows.specs.declared.ranges.TheConstants.{LAST_SUBSCRIBER}
pub use Rattle.tatp_rows.specs.declared.refusal.Refusal.{Refusal}
pub use Rattle.tatp_rows.specs.declared.refusal.Refusal.TheVariants.{Field, ManyPieces, NoPart, NotAdjacent}
pub use Rattle.view_board.proofs.BackLemmas.{leveled_here, no_net}
pub use Rattle.view_board.proofs.EndLemmas.{again}
pub use Rattle.view_board.proofs.JoinLemmas.{not_theirs, number_ours, number_theirs, owned_by_both, owned_by_one, seen_both}
pub use Rattle.view_board.proofs.LevelLemmas.{level_of}
pub use Rattle.view_board.proofs.ListLemmas.{each_slot_at, each_word_at, length-each_slot, length-each_word, set_within}
pub use Rattle.view_board.proofs.NetLemmas.{net_from-end, net_from-next, word_within}
pub use Rattle.view_board.proofs.OwnLemmas.{net_none, owns_alone, wide_alone, wide_without}
pub use Rattle.view_board.proofs.SplitLemmas.{only_slot, was_owned}
pub use Rattle.view_board.specs.Desks.{DeskState, with_view}
pub use Rattle.view_board.specs.Nets.{net_from, net_of}
pub use Rattle.view_board.specs.Views.{IsLeastSlot, IsRightSight, IsWide, Owns, OwnsAlone, alone, both, first_view, looked, nobody, owned_at, posted, taken_back, without}
pub use Rattle.view_board.specs.Words.{each_word, is_worn, leveled, minus_word, plus_word, raised_by, slot_net, twin_of, word_of}
pub use Rattle.view_board.specs.declared.rule.View.{View}
pub use Rattle.view_board.specs.declared.words.TheConstants.{SLOTS, SLOT_WORDS, WORDS}
pub use Rattle.view_delta.proofs.SumLemmas.{AreMovedTo, one_moved}
pub use Rattle.view_delta.specs.Pending.{delta_at, is_zero}
pub use Rattle.hlr_owners.specs.Answered.{IsAnswered, MayAnswer, is_loose, is_loose_place}
pub use Rattle.hlr_owners.specs.Apart.{lo_of, loose_pieces, owners_from, part_of, piece_at, piece_of}
pub use Rattle.hlr_owners.specs.Boxed.{unboxed}
pub use Rattle.hlr_owners.specs.Desks.{AreDesks, AreLevel, AreOpening, HasOneSlot, IsOfBoard, desk_of, own_number, owns_one, slots_in, words_of}
pub use Rattle.hlr_owners.specs.Gather.{MayGather, gathered, holding_range, misfit, piece_range, ranges_of, states_of}
pub use Rattle.hlr_owners.specs.Held.{IsLawful, IsOwnerState, OwnerState, of_holding, of_piece, pending_in}
pub use Rattle.hlr_owners.specs.Inside.{IsEachHome, IsHanded, IsMovedAlone, IsOpened}
pub use Rattle.hlr_owners.specs.Out.{out_of, outs_in, with_out, with_outs}
pub use Rattle.hlr_owners.specs.Owners.{AllHome, AreOwners, IsBackFor, IsHomeFor, IsHomeFrom, IsKind, IsLaterOwner, IsLent, IsPartHome, IsPlaceHome, IsRegionOwner, IsSameOwner, OwnersState, book_in, desks_in, holding_at, homes_in, is_home, of_part, of_parts, part_holdings, state_of, states_in, store_in, taker, unposted}
pub use Rattle.hlr_owners.specs.PartChanges.{IsDissolved, IsDivided, IsWithNew, IsWithout, free_slot, words_back}
pub use Rattle.hlr_owners.specs.PartOwnerState.{PartOwnerState}
pub use Rattle.hlr_owners.specs.Post.{least_slot, post, raise_cells}
pub use Rattle.hlr_owners.specs.Posting.{IsPosting}
pub use Rattle.hlr_owners.specs.Read.{HasRowsOf, IsRead, row_answer}
pub use Rattle.hlr_owners.specs.Recut.{IsHomeToCut, IsHomeToMove, IsRecutBy, IsStopped, half_moved}
pub use Rattle.hlr_owners.specs.Scattered.{AreFew, IsSurveyed, holdings_in, misfit_of, pieces_in}
pub use Rattle.hlr_owners.specs.Store.{Store, opening_from, published, slots_of, unpublished}
pub use Rattle.hlr_owners.specs.WhileOut.{HasRowsWhileOut, IsAnsweredWhileOut, IsPostedWhileOut, IsReadWhileOut, MayBecome, store_with}
pub use Rattle.hlr_owners.specs.Words.{net}
pub use Rattle.hlr_owners.specs.declared.part_owner.RegionOwner.{RegionOwner}
pub use Rattle.hlr_owners.specs.declared.part_owner.RegionOwner.TheVariants.{Part, Piece}
pub use Rattle.hlr_owners.specs.declared.scattered.Scattered.{Scattered}
