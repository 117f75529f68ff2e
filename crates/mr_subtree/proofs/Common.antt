-- The names of crates below and of this crate's specs that proofs cite, passed on from one place. Declares nothing.
pub use Rattle.std.proofs.Common.{Err, IfErr, IfSome, IsSome, List, MatchResult, None, Ok, Option, Result, Some, [], add-one, ap, arith, false, get_or, inl, inr, is_err, is_some, leb, length, map, max, refl, replicate, rules, set, subst, suc, sym, take, zero, ℕ, ◌++◌, ◌<◌, ◌^◌, ◌∙◌, ◌∷◌, ◌≡◌, ◌≤◌}
pub use Rattle.std.proofs.Crossing.{Box-send}
pub use Rattle.std.proofs.Math.Nat.{mul-le-mul_right, pow-suc}
pub use Rattle.std.proofs.lemmas.Bool.{cases_lt}
pub use Rattle.std.proofs.lemmas.List.{length-set, map_more}
pub use Rattle.std.specs.Borrow.{Bor}
pub use Rattle.std.specs.List.{find}
pub use Rattle.mr_node.proofs.FoldLemmas.{folds_same}
pub use Rattle.mr_node.proofs.NodeLemmas.{seen_with}
pub use Rattle.mr_node.proofs.SizeLemmas.{low_tree}
pub use Rattle.mr_node.proofs.node.Node.TheLaws.TheKnot.{send-Node}
pub use Rattle.mr_node.specs.Changes.{HasNewRoot}
pub use Rattle.mr_node.specs.Growth.{IsGrown}
pub use Rattle.mr_node.specs.Pages.{IsPage}
pub use Rattle.mr_node.specs.Revisions.{revised_at, spent_at}
pub use Rattle.mr_node.specs.Rows.{Seen, key_of_pair, value_at}
pub use Rattle.tatp_rows.specs.Ordered.{row_at, with_row, with_row_at, without_row}
pub use Rattle.tatp_rows.specs.declared.refusal.Back.{Back}
pub use Rattle.tatp_rows.specs.declared.refusal.Refusal.{Refusal}
pub use Rattle.tatp_rows.specs.declared.refusal.Refusal.TheVariants.{Memory}
pub use Rattle.mr_subtree.specs.Inside.{HaveSameValues, KeepSameValues}
pub use Rattle.mr_subtree.specs.Trees.{IsHeightOf, IsInserted, IsRoot}
