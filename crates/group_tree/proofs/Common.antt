-- The names of crates below and of this crate's specs that proofs cite, passed on from one place. Declares nothing.
pub use Rattle.std.proofs.Common.{◌≡◌, ◌≢◌, ◌∙◌, refl, sym, ap, subst, ℕ, zero, suc, ◌+◌, ◌*◌, ◌/◌, ◌<◌, ◌≤◌, ◌==◌, nat_lt, nat_le, Bool, true, false, List, [], ◌∷◌, ◌++◌, length, map, take, get_or, Option, Some, None, option_map, IsSome, is_some, ok_or, Result, Ok, Err, IfErr, IfSome, arith, rules, if◌then◌else◌, append_assoc, append-nil, length-append, ◌⊎◌, inl, inr}
pub use Rattle.std.specs.List.{AllByRecursion, filter}
pub use Rattle.std.proofs.Math.Nat.{div-mul-le_self, lt-div-mul-add, mul-div_cancel, mul-le-mul_right}
pub use Rattle.std.proofs.lemmas.Bool.Decides.{nat_tests}
pub use Rattle.tatp_rows.specs.Ordered.{IsOrderedBy, row_at, with_row, with_row_at, without_row}
pub use Rattle.tatp_rows.specs.Spans.{AllFrom, keys_below, keys_from}
pub use Rattle.tatp_rows.proofs.AppendLemmas.{each-append, each-left, each-right, ordered-append}
pub use Rattle.tatp_rows.proofs.OrderedLemmas.{absent_below, by_test, each-weaker, each-with_row, each-with_row_at, each-without_row, filter_all, filter_none, key_found, with_row_at_absent, without_row_absent, ordered-with_row, ordered-with_row_at, ordered-without_row}
pub use Rattle.tatp_rows.proofs.SpanLemmas.{below-weaker, from-weaker, row_at-absent, row_at-part, with_row-front, with_row-part, with_row-skip, with_row_at-here, with_row_at-part, length-with_row, length-with_row_at, without_row-here, without_row-part}
pub use Rattle.mr_node.specs.Rows.{KeysBelow, KeysFrom, key_limit, key_of_pair, value_at}
pub use Rattle.tatp_rows.specs.declared.refusal.Back.{Back}
pub use Rattle.tatp_rows.specs.declared.refusal.Refusal.{Refusal}
pub use Rattle.tatp_rows.specs.declared.refusal.Refusal.TheVariants.{Exists, Memory}
pub use Rattle.mr_subtree.specs.Trees.{IsHeightOf, IsInserted}
pub use Rattle.std.specs.Prelude.{is_ok, IsTrue}
pub use Rattle.std.specs.Borrow.{Bor}
pub use Rattle.std.proofs.lemmas.List.{length-map, length-take, map_more, take_all, take_more}
pub use Rattle.mr_node.specs.Folds.{FoldsRows, WalksRows}
pub use Rattle.mr_node.specs.Pages.{IsPage}
pub use Rattle.mr_node.specs.Revisions.{revised_at, spent_at}
pub use Rattle.std.specs.Option.{unwrap_or}
pub use Rattle.mr_node.proofs.FoldLemmas.{folds_append}
pub use Rattle.mr_node.proofs.ReviseLemmas.{revised_none, revised_some}
pub use Rattle.tatp_rows.specs.Keys.{facility_key, forwarding_key, key_of}
pub use Rattle.tatp_rows.specs.Rows.{AccessInfoRow, SpecialFacilityRow, CallForwardingRow, facility_in_range, forwarding_in_range, is_between, is_start_time}
pub use Rattle.tatp_rows.specs.declared.ranges.TheConstants.{LAST_SUBSCRIBER}
pub use Rattle.row_groups.specs.Groups.{IsPut, IsTypedRow, access_type, access_with, facility_type, facility_with, forwarding_start, forwarding_with}
pub use Rattle.mr_cut.specs.Cuts.{AreApart}
pub use Rattle.group_tree.specs.Tables.{HoldsFacilities, HoldsForwardings, HoldsTyped, facilities_listed, facility_span, forwardings_listed, listed_by, s_id_in, start_time_in, subscriber_span, type_in, typed_key_at, typed_key_in, typed_listed}
pub use Rattle.group_tree.specs.Groups.{AreGroups, HaveLaws, IsFilled, IsBase, IsPutAt, IsReplacedAt, base_of, rows_beside, rows_of, Grouped, IsHeightOfGroups, AreGroupsApart, AreGroupsAt, rows_in}
pub use Rattle.std.proofs.lemmas.List.Elements.{filter-append}
pub use Rattle.group_tree.specs.Revised.{change_spent, facility_in, group_changed, row_made}
