-- The names of crates below and of this crate's specs that proofs cite, passed on from one place. Declares nothing.
pub use Rattle.std.proofs.Common.{Bool, Err, IsTrue, List, Ok, Result, [], ap, arith, append_assoc, cond, drop, false, get_or, inl, inr, length, length-append, length-drop, refl, rules, set, subst, suc, sym, take, true, zero, ℕ, ◌%◌, ◌*◌, ◌++◌, ◌+◌, ◌-◌, ◌/◌, ◌<◌, ◌^◌, ◌∙◌, ◌∷◌, ◌≡◌, ◌≤◌, ◌⊎◌}
pub use Rattle.std.proofs.Math.Nat.{add-mul-div_left, add-mul-mod_self_left, div-eq_of_lt, mod-eq_of_lt, mul-le-mul_left, mul_comm, pow-le-pow_right, pow-suc, pow-zero}
pub use Rattle.std.proofs.lemmas.Bool.{cases_lt}
pub use Rattle.std.proofs.lemmas.Bool.Decides.{nat_tests}
pub use Rattle.std.proofs.lemmas.List.{append-nil, drop_all, drop_at, drop_more, get_or-drop, get_or-take, length-take, nil_from_length, take-append-drop, take_all, take_at}
pub use Rattle.std.proofs.lemmas.List.Folds.{list_all-append}
pub use Rattle.std.proofs.lemmas.List.Sums.{sum_by-cons}
pub use Rattle.std.specs.List.{AllByRecursion, EachIndex, list_all, sum}
pub use Rattle.std.specs.Prelude.{IfOk, if◌then◌else◌, ◌||◌, nat_eq, nat_le, nat_lt, ◌&&◌, ◌==◌}
pub use Rattle.arrayvec.specs.ArrayVec.{array_vec_len}
pub use Rattle.tatp_rows.proofs.PackLemmas.{IsUnpackedTo, packed_below, unpacked_back, unpack_all, unpack_more, unpack_none}
pub use Rattle.tatp_rows.proofs.RowLemmas.{between_each, between_is, both, both_from, length-are_between, number_below, subscriber_ranges}
pub use Rattle.tatp_rows.specs.Number.{is_number}
pub use Rattle.tatp_rows.specs.Rows.{AccessInfoRow, SpecialFacilityRow, SubscriberRow, are_between, is_between}
pub use Rattle.tatp_rows.specs.declared.ranges.TheConstants.{LAST_SUBSCRIBER}
