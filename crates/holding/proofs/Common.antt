-- The names of crates below and of this crate's specs that proofs cite, passed on from one place. Declares nothing.
pub use Rattle.std.proofs.Common.{Err, FitsSigned, List, None, Ok, Some, ap, arith, false, get_or, inl, inr, length, map, nat_lt, not, refl, rules, set, subst, suc, sym, take, true, w64, zero, ℕ, ◌+◌, ◌-◌, ◌<◌, ◌==◌, ◌^◌, ◌∙◌, ◌∷◌, ◌≡◌, ◌≤◌}
pub use Rattle.std.proofs.Crossing.{Box-send}
pub use Rattle.std.proofs.Math.ListN.{get_or-map}
pub use Rattle.std.proofs.Math.Seq.{take-nil}
pub use Rattle.std.proofs.lemmas.Bool.{cases_lt}
pub use Rattle.std.proofs.lemmas.Bool.Decides.{nat_tests}
pub use Rattle.std.proofs.lemmas.Int.{ints, to_z-of_z}
pub use Rattle.std.proofs.lemmas.List.{get_or-set_other, get_or-set_same, get_or_past, length-set}
pub use Rattle.std.proofs.lemmas.List.FromFn.{get_or-map-range_with_len}
pub use Rattle.std.proofs.lemmas.Result.{err_from_is_err_and}
pub use Rattle.std.specs.Box.{with_value}
pub use Rattle.std.specs.Int.{w128}
pub use Rattle.std.specs.List.{filter, range_with_len}
pub use Rattle.std.specs.Prelude.{Box, neg_ℤ, negsuc, pos, slice_index, slice_index_or, ℤ, ◌+ℤ◌, ◌-ℤ◌, ◌≤ℤ◌}
pub use Rattle.std.specs.declared.alloc.Global.{Global}
pub use Rattle.part_table.specs.declared.region.Side.{Side}
pub use Rattle.part_table.specs.declared.region.Side.TheVariants.{High, Low}
pub use Rattle.tatp_actions.proofs.CountLemmas.{few_cells}
pub use Rattle.tatp_actions.proofs.CrossingLemmas.{trees_send}
pub use Rattle.tatp_actions.proofs.CutLemmas.{cell_cut}
pub use Rattle.tatp_actions.proofs.JoinedLemmas.{cell_joined}
pub use Rattle.tatp_actions.specs.Book.{Book, IsRowsOf, empty_book}
pub use Rattle.tatp_actions.specs.Cell.{cell}
pub use Rattle.tatp_actions.specs.Change.{IsChange}
pub use Rattle.tatp_actions.specs.Cut.{Touch, given_part, kept_part, melded}
pub use Rattle.tatp_actions.specs.Joined.{join_books}
pub use Rattle.tatp_actions.specs.Part.{IsPart, PartState}
pub use Rattle.tatp_actions.specs.contracts.trees.TreesRows.TheImpl.{ghosts}
pub use Rattle.tatp_actions.specs.declared.cells.TheConstants.{CELLS, FIRST_AREA, FIRST_ZONE}
pub use Rattle.tatp_rows.proofs.BlankLemmas.{blank_at}
pub use Rattle.tatp_rows.proofs.OrderedLemmas.{by_test}
pub use Rattle.tatp_rows.specs.declared.refusal.Refusal.{Refusal}
pub use Rattle.view_board.proofs.BackLemmas.{wide_back}
pub use Rattle.view_board.proofs.OwnLemmas.{net_alone}
pub use Rattle.view_board.proofs.PostedLemmas.{raises_once}
pub use Rattle.view_board.specs.Desks.{DeskState, with_view}
pub use Rattle.view_board.specs.Nets.{NetMoves, net_of}
pub use Rattle.view_board.specs.Views.{IsLeastSlot, IsWide, OwnsAlone, posted, taken_back}
pub use Rattle.view_board.specs.Words.{is_worn, slot_net, word_of}
pub use Rattle.view_board.specs.declared.rule.View.{View}
pub use Rattle.view_delta.specs.Pending.{AreZero, DifferencesFit, IsNextNonzero, NotesFit, SumsFit, delta_at, is_zero}
pub use Rattle.holding.specs.Held.{HasSmallNets, HoldingState, IsHolding, IsPiece, PieceState, count_of}
pub use Rattle.holding.specs.Inside.{IsCellPosted, IsPendingWith}
pub use Rattle.holding.specs.Moved.{IsGiven}
pub use Rattle.holding.specs.Post.{gap, post, post_cells}
