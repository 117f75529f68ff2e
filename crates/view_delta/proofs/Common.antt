-- The names of crates below and of this crate's specs that proofs cite, passed on from one place. Declares nothing.
pub use Rattle.std.proofs.Common.{FitsSigned, List, [], arith, get_or, length, replicate, rules, set, w64, ℕ, ◌*◌, ◌+◌, ◌<◌, ◌==◌, ◌^◌, ◌∙◌, ◌∷◌, ◌≡◌, ◌≤◌}
pub use Rattle.std.proofs.lemmas.Bool.Decides.{nat_tests}
pub use Rattle.std.proofs.lemmas.Int.{ints}
pub use Rattle.std.proofs.lemmas.List.{get_or-set_other, get_or-set_same, length-replicate, length-set}
pub use Rattle.std.specs.List.{AllByRecursion}
pub use Rattle.std.specs.Prelude.{neg_ℤ, pos, ℤ, ◌+ℤ◌, ◌-ℤ◌, ◌≤ℤ◌}
pub use Rattle.tatp_actions.specs.Change.{IsNote, change_at}
pub use Rattle.tatp_actions.specs.declared.cells.TheConstants.{CELLS}
pub use Rattle.tatp_actions.specs.declared.change.TheConstants.{NOTES}
pub use Rattle.tatp_rows.proofs.BlankLemmas.{blank_at}
pub use Rattle.tatp_rows.proofs.OrderedLemmas.{by_test}
pub use Rattle.view_delta.specs.Pending.{AreZero, NotesFit, delta_at}
