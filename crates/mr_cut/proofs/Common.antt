-- The names of crates below and of this crate's specs that proofs cite, passed on from one place. Declares nothing.
pub use Rattle.std.proofs.Common.{IfSome, List, None, Some, [], ap, append-nil, arith, drop, false, get_or, inl, inr, length, max, nat_le, nat_lt, refl, rules, subst, sym, take, take_at, true, ℕ, ◌*◌, ◌++◌, ◌+◌, ◌-◌, ◌<◌, ◌∙◌, ◌∷◌, ◌≡◌, ◌≤◌}
pub use Rattle.std.proofs.Math.Nat.{add-mul, le-mul_of_pos_right, mul-add}
pub use Rattle.std.proofs.lemmas.Bool.{cases_lt, le-leb, le-ltb, lt-leb, lt-ltb}
pub use Rattle.std.proofs.lemmas.List.{append_assoc, drop_all, drop_at, length-append, nil_from_length, take_all}
pub use Rattle.std.proofs.lemmas.List.Elements.{filter-append}
pub use Rattle.std.proofs.lemmas.Nat.{mul-le}
pub use Rattle.std.specs.Int.{abs_diff}
pub use Rattle.std.specs.List.{AllByRecursion}
pub use Rattle.mr_node.proofs.ChildLemmas.{child_at, cut_child, rows_of-append}
pub use Rattle.mr_node.proofs.EntryListLemmas.{entries_length}
pub use Rattle.mr_node.proofs.NodeLemmas.{children_below, children_rise}
pub use Rattle.mr_node.proofs.PlaceLemmas.{packed_some}
pub use Rattle.mr_node.proofs.SizeLemmas.{inner_well, leaf_well, low_tree}
pub use Rattle.mr_node.specs.EntryLists.{AreEntries}
pub use Rattle.mr_node.specs.Levels.{IsChild, IsChildPlace, IsInner, IsLeaf, IsNode, IsWell, NodeChild, NodeInner, children_of, pairs_of, rows_of, seen, seen_inner, seen_leaf}
pub use Rattle.mr_node.specs.Pairs.{IsChildNode}
pub use Rattle.mr_node.specs.Parts.{HasOneMoreChild}
pub use Rattle.mr_node.specs.Rows.{KeysBelow, KeysFrom, Seen, key_limit, key_of_pair}
pub use Rattle.mr_node.specs.Steps.{after_steps}
pub use Rattle.mr_node.specs.declared.body.Leaf.{Leaf}
pub use Rattle.mr_subtree.specs.Trees.{IsRoot}
pub use Rattle.tatp_rows.proofs.AppendLemmas.{each-append, each-left, each-right, ordered-append, ordered-left, ordered-right}
pub use Rattle.tatp_rows.proofs.OrderedLemmas.{each-weaker, filter_all, filter_none}
pub use Rattle.tatp_rows.proofs.SpanLemmas.{from-weaker}
pub use Rattle.tatp_rows.specs.Ordered.{IsOrderedBy}
pub use Rattle.mr_cut.specs.Bounds.{join_steps}
pub use Rattle.mr_cut.specs.Cuts.{AreApart, IsCut, IsDividedNode, IsSideRoot, rows_below, rows_from}
pub use Rattle.mr_cut.specs.Joins.{FitUnderRoot, IsHeightOfBoth, IsLower, IsRootCount, IsRootOf}
pub use Rattle.mr_cut.specs.SideJoins.{IsEvened, IsOneOf, IsRest, IsSideJoined, IsTurned, MaybeNode, beside, end_of, more_of, rows_with}
pub use Rattle.mr_cut.specs.declared.side_joins.Side.{Side}
pub use Rattle.mr_cut.specs.declared.side_joins.Side.TheVariants.{High, Low}
