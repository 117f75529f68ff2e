-- Each child of a node is lower than the node. It is proved here, since a model may cite no proof of its own crate.
use Rattle.std.specs.Prelude.{◌≡◌, ℕ, ◌-◌, ◌≤◌, max, length, List, [], ◌∷◌, Option, Some, None}
use Rattle.std.specs.List.{AllByRecursion, zip}
use Rattle.std.proofs.Common.{arith}
use denote.Param.Weighed.{most}
use Rattle.mr_node.specs.declared.body.Body.TheVariants.{Leaf, Inner}
use Rattle.mr_node.specs.declared.node.Node.TheDeep.{deep-Node}
use Rattle.mr_node.specs.EntryLists.{somes}
use Rattle.mr_node.specs.Levels.{NodeBody, NodeInner, NodePart, children_of, IsChild, seen, IsNode}

-- the children are of height h, whatever their least keys
level_of : {V : Type 0} (h : ℕ) (keys : List ℕ) (children : List (NodePart V)) → length children ≤ length keys → AllByRecursion (IsChild h) (zip keys children) → AllByRecursion (λ k. k.node.value.height ≡ h) children
level_of h keys [] le all = tt
level_of h [] (k ∷ children) le all = absurd (omega (arith, le))
level_of h (n ∷ keys) (k ∷ children) le all = (all.0.level, level_of h keys children (omega (arith, le)) all.1)

-- no place weighs more than n, where neither an empty one nor a child of height h does
most_places : {V : Type 0} (f : Option (NodePart V) → ℕ) (h n : ℕ) (places : List (Option (NodePart V))) → f None ≤ n → ((k : NodePart V) → k.node.value.height ≡ h → f (Some k) ≤ n) → AllByRecursion (λ k. k.node.value.height ≡ h) (somes places) → most f places ≤ n
most_places f h n [] none weighs all = omega arith
most_places f h n (None ∷ ks) none weighs all = omega (arith, most_places f h n ks none weighs all, none)
most_places f h n (Some k ∷ ks) none weighs all = omega (arith, most_places f h n ks none weighs all.1, weighs k all.0)

-- the same in the form that the depth of an inner node has
places_below : {V : Type 0} (f : Option (NodePart V) → ℕ) (h n : ℕ) (b : NodeInner V) → f None ≤ n → ((k : NodePart V) → k.node.value.height ≡ h → f (Some k) ≤ n) → length (somes b.children) ≤ length b.leasts → AllByRecursion (IsChild h) (children_of b) → max (max (max 0 (max 0 (max 0 (max (most f b.children) 0)))) 0) 0 ≤ n
places_below f h n b none weighs le all = omega (arith, most_places f h n b.children none weighs (level_of h b.leasts (somes b.children) le all))

-- no child is as high as the node
pub depth_le_height : (V : Type 0) (b : NodeBody V) → IsNode b → deep-Node V (record { body = b }) ≤ (seen b).height
depth_le_height V (Leaf leaf) h = omega arith
depth_le_height V (Inner b) h = places_below _ (b.height - 1) b.height b (omega arith) (λ k level. omega (arith, level, h.above_leaves)) h.entries.keyed h.children
