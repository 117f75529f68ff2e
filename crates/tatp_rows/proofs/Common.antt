-- The names of crates below and of this crate's specs that proofs cite, passed on from one place. Declares nothing.
pub use Rattle.std.proofs.Common.{Bool, Fits, IsSome, IsTrue, List, Option, [], add-one, ap, append_assoc, arith, cond, drop, eqb, false, get_or, inl, inr, leb, length, length-set, ltb, map, min, refl, replicate, rules, set, subst, suc, sym, take, true, w8, zero, ℕ, ◌%◌, ◌*◌, ◌++◌, ◌+◌, ◌-◌, ◌/◌, ◌<◌, ◌^◌, ◌↔◌, ◌∙◌, ◌∷◌, ◌≡◌, ◌≢◌, ◌≤◌, ◌⊎◌}
pub use Rattle.std.proofs.Math.Nat.{add-mul-div_left, add-mul-mod_self_left, div-eq_of_lt, mod-eq_of_lt, mul-le-mul_left, mul_comm, pow-le-pow_right, pow-suc, pow-zero}
pub use Rattle.std.proofs.Math.Seq.{drop-cons}
pub use Rattle.std.proofs.lemmas.Bool.{agree_below, agree_below_at, cases_lt, eqb-true}
pub use Rattle.std.proofs.lemmas.Bool.Decides.{nat_tests}
pub use Rattle.std.proofs.lemmas.Int.Digits.{digits_value-lt, digits_value_more}
pub use Rattle.std.proofs.lemmas.List.{append-nil, drop_all, drop_more, get_or-replicate, get_or_past, length-drop, length-map, length-replicate, take-append-drop, take_all, take_more_set}
pub use Rattle.std.proofs.lemmas.List.Elements.{All-get_or}
pub use Rattle.std.proofs.lemmas.List.Folds.{list_all-append, list_all_more}
pub use Rattle.std.proofs.lemmas.List.Sums.{AllPass-from_list_all, sum_by-cons}
pub use Rattle.std.proofs.lemmas.Nat.{and_block, and_mask, mod-mul-add}
pub use Rattle.std.proofs.lemmas.Simd.{chunk-drop, map-map, mask_l-mod, splat_is_map, zip2_of_maps, zip2_splat}
pub use Rattle.std.proofs.lemmas.Str.{IsUtf8-from_ascii, digit_value_digit}
pub use Rattle.std.specs.Char.{digit_value, is_ascii_digit}
pub use Rattle.std.specs.Fmt.{format_spec, styled_decimal}
pub use Rattle.std.specs.Int.Bits.{bit_and}
pub use Rattle.std.specs.List.{AllByRecursion, EachIndex, count_by, filter, find, insert, list_all, prefix_len, remove, sum_by}
pub use Rattle.std.specs.List.Sorted.{IsPartitionPoint, IsPartitionedBy}
pub use Rattle.std.specs.Option.{is_some, option_map}
pub use Rattle.std.specs.Prelude.{Err, None, Ok, Some, decimal, if◌then◌else◌, nat_eq, nat_le, nat_lt, not, slice_set, ◌&&◌, ◌==◌, ◌||◌}
pub use Rattle.std.specs.Str.{IsUtf8}
pub use Rattle.std.specs.Str.Parse.{AllDigits, digits_value, digits_value_after}
pub use Rattle.tatp_rows.specs.Keys.{key_of}
pub use Rattle.tatp_rows.specs.Number.{number_in, number_text}
pub use Rattle.tatp_rows.specs.Ordered.{IsOrderedBy, behind_equals, in_order, row_at, with_row, with_row_at, without_row}
pub use Rattle.tatp_rows.specs.Packed.{packed_back, unpacked}
pub use Rattle.tatp_rows.specs.Rows.{AccessInfoRow, CallForwardingRow, SpecialFacilityRow, SubscriberRow, access_in_range, are_between, between, facility_in_range, forwarding_in_range, is_between, subscriber_in_range, subscriber_of}
pub use Rattle.tatp_rows.specs.Spans.{AllBelow, AllFrom, StartsAt, keys_below, keys_from}
pub use Rattle.tatp_rows.specs.declared.ranges.TheConstants.{LAST_SUBSCRIBER}
pub use Rattle.tatp_rows.specs.declared.refusal.Refusal.TheVariants.{Field}
