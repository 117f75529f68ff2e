-- The names of crates below and of this crate's specs that proofs cite, passed on from one place. Declares nothing.
pub use Rattle.std.proofs.Common.{Bool, IsSome, List, Option, [], ap, arith, false, get_or, length, map, refl, set, subst, suc, sym, take, true, zero, ℕ, ◌++◌, ◌*◌, ◌+◌, ◌-◌, ◌<◌, ◌∙◌, ◌∷◌, ◌≡◌, ◌≢◌, ◌≤◌}
pub use Rattle.std.proofs.lemmas.Bool.Decides.{nat_tests}
pub use Rattle.std.proofs.lemmas.List.{map-append, take_all}
pub use Rattle.std.proofs.lemmas.List.Elements.{filter-append}
pub use Rattle.std.proofs.lemmas.List.Sums.{sum_by-cons}
pub use Rattle.std.specs.List.{AllByRecursion, count_by, filter}
pub use Rattle.std.specs.Option.{is_some, option_map, option_to_list}
pub use Rattle.std.specs.Prelude.{Err, IsTrue, None, Ok, Some, nat_le, nat_lt, ◌==◌}
pub use Rattle.tatp_rows.proofs.OrderedLemmas.{absent_below, each-weaker, with_row_at_absent, without_row_absent}
pub use Rattle.tatp_rows.proofs.SpanLemmas.{with_row-front}
pub use Rattle.tatp_rows.specs.Ordered.{row_at, with_row, with_row_at, without_row}
pub use Rattle.tatp_rows.specs.Rows.{CallForwardingRow, is_start_time, is_between}
pub use Rattle.row_groups.specs.Places.{HasKeys, filled, filled-behind, filled-found, filled-ordered}
pub use Rattle.tatp_rows.proofs.RowLemmas.{between_from, between_is, both_from, facility_ranges}
pub use Rattle.tatp_rows.specs.declared.refusal.Refusal.TheVariants.{Exists}
pub use Rattle.row_groups.specs.Groups.{AreForwardings, AreTyped, IsPut, IsTypedRow, forwarding_start, forwarding_with, is_in_time, access_type, access_with, facility_type, facility_with}
pub use Rattle.row_groups.specs.AccessPlaces.{access_data, access_keys, access_row}
pub use Rattle.row_groups.specs.FacilityPlaces.{facility_keys, facility_row, facility_row_back}
pub use Rattle.row_groups.specs.ForwardingPlaces.{forwarding_at, forwarding_back, forwarding_data, forwarding_keys, forwarding_places, forwarding_row}
pub use Rattle.row_groups.specs.declared.forwarding_word.ForwardingData.{ForwardingData}
