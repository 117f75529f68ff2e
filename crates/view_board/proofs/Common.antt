-- The names of crates below and of this crate's specs that proofs cite, passed on from one place. Declares nothing.
pub use Rattle.std.proofs.Common.{Bool, FitsSigned, List, [], ap, arith, cond, drop, false, get_or, if◌then◌else◌, inl, inr, length, max, nat_lt, not, of_z, refl, replicate, rules, set, slice_index, slice_index_or, subst, suc, sym, to_z, true, w64, zero, ℕ, ◌%◌, ◌*◌, ◌++◌, ◌+◌, ◌/◌, ◌<◌, ◌==◌, ◌^◌, ◌||◌, ◌∙◌, ◌∷◌, ◌≡◌, ◌≢◌, ◌≤◌, ◌⊎◌}
pub use Rattle.std.proofs.Math.Bool.{or-false}
pub use Rattle.std.proofs.lemmas.Bool.{cases_eq, cases_lt, false≢true}
pub use Rattle.std.proofs.lemmas.Bool.Decides.{nat_tests}
pub use Rattle.std.proofs.lemmas.Int.{ints, to_z-of_z}
pub use Rattle.std.proofs.lemmas.List.{at_drop_more, drop_all, ext_get_or, get_or-replicate, get_or-set_other, get_or-set_same, get_or_past, length-replicate, length-set, set-get_or}
pub use Rattle.std.proofs.lemmas.List.FromFn.{get_or-map-range_with_len, length-map-range_with_len}
pub use Rattle.std.proofs.lemmas.List.Sums.{sum_by-cons}
pub use Rattle.std.proofs.lemmas.Nat.{le_or_l, le_or_r}
pub use Rattle.std.specs.Int.{w128}
pub use Rattle.std.specs.Int.RustNames.{unsigned_abs}
pub use Rattle.std.specs.List.{range_with_len}
pub use Rattle.std.specs.Prelude.{count_by, neg_ℤ, negsuc, pos, ℤ, ◌+ℤ◌, ◌≤ℤ◌}
pub use Rattle.atomic_table.proofs.Lists.{at_set}
pub use Rattle.atomic_table.specs.Table.{Allows, Final, Joins, Me, Seen, Splits, State, keeps, step}
pub use Rattle.tatp_rows.proofs.BlankLemmas.{blank_at}
pub use Rattle.tatp_rows.proofs.OrderedLemmas.{by_test}
pub use Rattle.view_board.specs.Desks.{Agrees, DeskState}
pub use Rattle.view_board.specs.Inside.{AreWithin, wanting}
pub use Rattle.view_board.specs.Nets.{NetAdds, NetMoves, net_from, net_of}
pub use Rattle.view_board.specs.Rule.{Fits, IsCheckStep, IsLookStep, IsRaiseStep, IsRuled}
pub use Rattle.view_board.specs.Views.{AreApart, IsRightSight, IsWide, Owns, OwnsAll, OwnsAlone, OwnsWord, alone, both, looked, nobody, numbers_of_both, owned_at, posted, raised, saw, slots_of_both, taken_back, without}
pub use Rattle.view_board.specs.Words.{AreSmall, each_slot, each_word, leveled, minus_word, plus_word, raised_by, raises_of, slot_net, twin_of, word_of}
pub use Rattle.view_board.specs.declared.rule.View.{View}
pub use Rattle.view_board.specs.declared.words.TheConstants.{CELLS, LIMIT, SLOTS, SLOT_WORDS, WORDS}
