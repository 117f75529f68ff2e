-- The names of crates below and of this crate's specs that proofs cite, passed on from one place. Declares nothing.
pub use Rattle.std.proofs.Common.{Bool, IfSome, IsSome, List, None, Option, Some, [], add-one, ap, append-nil, arith, cond, drop, eqb, false, get_or, if◌then◌else◌, inl, inr, is_some, leb, length, length-drop, lit<, ltb, max, min, option_map, refl, replicate, reverse, rules, set, slice_range, subst, suc, sym, take, take_at, true, vec_capacity, vec_len, zero, ℕ, ◌%◌, ◌*◌, ◌++◌, ◌+◌, ◌-◌, ◌/◌, ◌<◌, ◌==◌, ◌^◌, ◌∙◌, ◌∷◌, ◌≡◌, ◌≢◌, ◌≤◌}
pub use Rattle.std.proofs.Math.Nat.{le-max_right, min-le_right, mul-le-mul_right, pow-le-pow_right, pow-suc}
pub use Rattle.std.proofs.Math.Seq.{drop-append_seam, split_at}
pub use Rattle.std.proofs.lemmas.Bool.{cases_lt}
pub use Rattle.std.proofs.lemmas.Bool.Decides.{eqb_tells, nat_tests}
pub use Rattle.std.proofs.lemmas.List.{append_assoc, drop-drop, drop-set, drop-set-lt, drop-take, drop_all, drop_at, drop_more, get_or-drop, get_or-set_other, get_or-set_same, get_or_at, get_or_default, get_or_push, length-append, length-reverse, length-set, length-take, length-take-le, nil_from_length, reverse-append, reverse-reverse, set-get_or, set-set, set_comm, set_split, take-append-drop, take-append-le, take-set, take-set-le, take-take, take_all, take_more, take_more_set}
pub use Rattle.std.proofs.lemmas.List.Concat.{flat_map-append}
pub use Rattle.std.proofs.lemmas.List.Edits.{insert_end}
pub use Rattle.std.proofs.lemmas.List.Elements.{filter-append}
pub use Rattle.std.proofs.lemmas.List.Sums.{sum_by-append, sum_by-cons}
pub use Rattle.std.proofs.lemmas.Nat.{shl-shr}
pub use Rattle.std.proofs.lemmas.Option.{get_or_from_slice_get, slice_get-get_or, slice_get_read, slice_get_within}
pub use Rattle.std.proofs.lemmas.Slice.Zip.{get_or-zip, length-zip}
pub use Rattle.std.specs.Borrow.{Bor}
pub use Rattle.std.specs.List.{AllByRecursion, find, insert, refill, remove, remove_range, slice_get, sum_by, zip}
pub use Rattle.std.specs.Option.{unwrap_or}
pub use Rattle.tatp_rows.proofs.AppendLemmas.{each-append, each-left, each-right, ordered-left, ordered-right}
pub use Rattle.tatp_rows.proofs.OrderedLemmas.{by_test, each-weaker, each-with_row, each-without_row, filter_all, filter_none, ordered-with_row, ordered-with_row_at, ordered-without_row, with_row_at_absent}
pub use Rattle.tatp_rows.proofs.SpanLemmas.{below-weaker, below_start, every-with_row_at-same, few_between, find-head, find-left, find-right, find-skip, from-weaker, from_start, length-with_row, length-with_row_at, ordered_back, ordered_front, row_at-absent, row_at-here, row_at-part, row_at-skip, starts_left, starts_with_row, starts_with_row_at, with_row-front, with_row-part, with_row-skip, with_row_at-absent, with_row_at-here, with_row_at-part, with_row_at-skip, without_row-absent, without_row-here, without_row-part, without_row-skip}
pub use Rattle.tatp_rows.specs.Ordered.{IsOrderedBy, row_at, with_row, with_row_at, without_row}
pub use Rattle.tatp_rows.specs.Spans.{StartsAt, keys_from}
pub use Rattle.mr_node.specs.Changes.{HasNewRoot, IsShrunk}
pub use Rattle.mr_node.specs.Entries.{IsFree, IsThere}
pub use Rattle.mr_node.specs.EntryLists.{AreEntries, AreKeyed, IsPacked, IsPadded, entries, no_key, somes}
pub use Rattle.mr_node.specs.Folds.{FoldsRows, WalksRows}
pub use Rattle.mr_node.specs.Growth.{IsGrown, IsRoomAnswer, is_done}
pub use Rattle.mr_node.specs.Inside.{AreChildrenBeside, ArePairChildren, IsLooseAt, IsPairAt, IsPairWithRoom, IsRoomAt, IsSplicedAt, IsSplitAt, IsWholeAgain}
pub use Rattle.mr_node.specs.Levels.{IsChild, IsChildOf, IsChildPlace, IsInner, IsInnerOf, IsLeaf, IsNode, IsWell, NodeBody, NodeChild, NodeInner, NodePart, children_of, pairs_of, rows_of, seen, seen_inner, seen_leaf, widths_of}
pub use Rattle.mr_node.specs.Pages.{IsPage}
pub use Rattle.mr_node.specs.Pairs.{AreEvenWidths, AreEvened, IsChildNode, IsHalved, IsJoined, IsShare}
pub use Rattle.mr_node.specs.Parts.{HasOneMoreChild}
pub use Rattle.mr_node.specs.Revisions.{revised_at, spent_at}
pub use Rattle.mr_node.specs.Rows.{KeysBelow, KeysFrom, Seen, StartsWith, key_limit, key_of_pair, value_at}
pub use Rattle.mr_node.specs.Search.{IsRising, IsStop}
pub use Rattle.mr_node.specs.Steps.{IsRoomMade, after_steps}
pub use Rattle.mr_node.specs.declared.body.Child.{Child}
pub use Rattle.mr_node.specs.declared.body.Leaf.{Leaf}
pub use Rattle.mr_node.specs.declared.rebalancing.TheConstants.{GIVEN_TO}
pub use Rattle.mr_node.specs.declared.room.Room.{Room}
pub use Rattle.mr_node.specs.declared.room.Room.TheVariants.{Done, Exists, Full}
