-- The names of crates below and of this crate's specs that proofs cite, passed on from one place. Declares nothing.
pub use Rattle.std.proofs.Common.{Bool, IsOk, List, OnOk, [], add-one, ap, append_assoc, arith, drop, false, get_or, inl, inr, length, length-append, map, max, min, refl, set, subst, suc, sum, sym, take, true, zero, ℕ, ◌*◌, ◌++◌, ◌+◌, ◌-◌, ◌/◌, ◌<◌, ◌∙◌, ◌∷◌, ◌≡◌, ◌≢◌, ◌≤◌, ◌⊎◌}
pub use Rattle.std.proofs.Math.Nat.{div-mul-le_self, mul-le-mul, mul-le-mul_right}
pub use Rattle.std.proofs.Math.Seq.{drop-cons, split_at, take-suc}
pub use Rattle.std.proofs.lemmas.Bool.{cases_lt}
pub use Rattle.std.proofs.lemmas.Bool.Decides.{nat_tests}
pub use Rattle.std.proofs.lemmas.Cmp.{nat_eq_equiv}
pub use Rattle.std.proofs.lemmas.List.{append-nil, drop-set-lt, drop_all, drop_more, get_or-map, length-drop, length-map, map-append, nil_from_length, take_all}
pub use Rattle.std.proofs.lemmas.List.Folds.{list_any_at}
pub use Rattle.std.proofs.lemmas.List.FromFn.{length-map-range_with_len, length-range_with_len, map-range_with_len_more}
pub use Rattle.std.proofs.lemmas.List.Quantifiers.{position-Some}
pub use Rattle.std.proofs.lemmas.List.Sums.{sum_by-cons, sum_by-le, sum_by_more}
pub use Rattle.std.proofs.lemmas.Map.Keys.{IsDistinct-cons, IsDistinct-head, IsDistinct-tail}
pub use Rattle.std.proofs.lemmas.Map.Made.{length-le_from_is_member}
pub use Rattle.std.proofs.lemmas.Map.Steps.{length-le_from_distinct_below}
pub use Rattle.std.proofs.lemmas.Nat.{div_below, le-div}
pub use Rattle.std.proofs.lemmas.Result.{err_from_is_err_and}
pub use Rattle.std.specs.List.{All, AllByRecursion, AllZip, IsDistinct, list_any, position_or_len, range_with_len, refill}
pub use Rattle.std.specs.Option.{ok_or, option_or}
pub use Rattle.std.specs.Ordering.{nat_cmp, ord_max}
pub use Rattle.std.specs.Prelude.{Err, None, Ok, Option, Result, Some, cond, count_by, eqb, find, if◌then◌else◌, insert, nat_le, nat_lt, not, option_map, position, remove, slice_range, ◌&&◌, ◌==◌, ◌||◌}
pub use Rattle.tatp_rows.proofs.AppendLemmas.{each-append, each-left, each-right}
pub use Rattle.tatp_rows.proofs.OrderedLemmas.{by_test, each-weaker}
pub use Rattle.tatp_rows.proofs.RowLemmas.{between_is, both, both_from}
pub use Rattle.tatp_rows.specs.Rows.{is_between}
pub use Rattle.tatp_rows.specs.declared.ranges.TheConstants.{GREATEST_WIDTH, LAST_SUBSCRIBER}
pub use Rattle.tatp_rows.specs.declared.refusal.Refusal.{Refusal}
pub use Rattle.tatp_rows.specs.declared.refusal.Refusal.TheVariants.{Field, ManyParts, ManyPieces, Moving, NoPart, NoPiece, NotAdjacent, OutOfRange}
pub use Rattle.part_table.specs.Bounds.{are_rising, parts_between}
pub use Rattle.part_table.specs.Dissolve.{dissolve_answer, dissolve_answer_of, dissolved, lowered, part_before, place_lowered}
pub use Rattle.part_table.specs.Divide.{divide_answer, divide_answer_of, divided, place_raised, raised}
pub use Rattle.part_table.specs.Give.{IsFreeNumber, answer_of_part, cut, free_number, give_answer, given, halves, piece_index, second_index}
pub use Rattle.part_table.specs.Least.{least}
pub use Rattle.part_table.specs.Numbered.{do_follow, numbered, part_after, piece_after, place_numbered}
pub use Rattle.part_table.specs.Opening.{can_open, opening, opening_bound}
pub use Rattle.part_table.specs.Proposal.{bound_zone, has_shares, proposal, proposed_bound, share_zone, weight_below}
pub use Rattle.part_table.specs.Recut.{all_moved, bounds_of, falling_moves, handed_on, handed_over, moved, recut_answer, rising_moves, taken}
pub use Rattle.part_table.specs.Region.{ends_behind, is_of_part, is_of_part_place, is_part, is_part_place, is_piece, is_piece_place, lies_in, part_number, piece_number}
pub use Rattle.part_table.specs.Regions.{AreRegions, IsConsecutive, IsPieceNumber, parts_of, pieces_of, place_of}
pub use Rattle.part_table.specs.Take.{answer_of_both, joined, joined_behind, joined_pair, joint, part_place, side_between, take_answer, touching}
pub use Rattle.part_table.specs.declared.moves.CutMove.{CutMove}
pub use Rattle.part_table.specs.declared.region.Place.{Place}
pub use Rattle.part_table.specs.declared.region.Place.TheVariants.{Part, Piece}
pub use Rattle.part_table.specs.declared.region.Region.{Region}
pub use Rattle.part_table.specs.declared.region.Side.{Side}
pub use Rattle.part_table.specs.declared.region.Side.TheVariants.{High, Low}
pub use Rattle.part_table.specs.declared.region.TheConstants.{END, MOST_PARTS, MOST_PIECES}
