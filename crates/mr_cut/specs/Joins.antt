-- Two trees that become one. No clause of a public call cites these.
use Rattle.std.specs.Prelude.{◌≡◌, ℕ, ◌+◌, ◌<◌, ◌≤◌, max, ◌++◌, Some, None}
use Rattle.tatp_rows.specs.Ordered.{IsOrderedBy}
use Rattle.mr_node.specs.Rows.{Seen, key_of_pair}
use Rattle.mr_node.specs.Pairs.{IsChildNode}
use Rattle.mr_node.specs.Steps.{after_steps}
use Rattle.mr_subtree.specs.Trees.{IsRoot}
use Rattle.mr_cut.specs.declared.side_joins.Side.{Side}
use Rattle.mr_cut.specs.declared.side_joins.Side.TheVariants.{Low, High}
use Rattle.mr_cut.specs.SideJoins.{MaybeNode}

-- of two heights, that at the side is the lower one; the high one too where they are the same
abbrev pub IsLower : Side → ℕ → ℕ → Type 0
IsLower Low low high = low < high
IsLower High low high = high ≤ low

-- a root, or two nodes that want one over them
abbrev pub FitUnderRoot : {V : Type 0} → Seen V → MaybeNode V → Type 0
FitUnderRoot one None = IsRoot one
FitUnderRoot one (Some two) = IsChildNode one.height one × IsChildNode one.height two.value × IsOrderedBy key_of_pair (one.rows ++ two.value.rows)

-- the root of one node, or of two, a level higher
abbrev pub IsRootOf : {V : Type 0} → Seen V → MaybeNode V → Seen V → Type 0
IsRootOf one None root = root ≡ one
IsRootOf one (Some two) root = IsRoot root × (root.height ≡ one.height + 1) × (root.rows ≡ one.rows ++ two.value.rows)

-- how high two roots are together: a level more than the higher one at most, and no more than it where it has room and
-- the other one is lower
pub record IsHeightOfBoth {V : Type 0} (a b : Seen V) (height : ℕ) : Type 0 where
  pub most : height ≤ max a.height b.height + 1
  pub left : b.height < a.height → a.width < 32 → height ≤ a.height
  pub right : a.height < b.height → b.width < 32 → height ≤ b.height

-- a meter before and after the root: a new one over two nodes is a step
abbrev pub IsRootCount : {V : Type 0} → MaybeNode V → ℕ → ℕ → Type 0
IsRootCount None before after = after ≡ before
IsRootCount (Some two) before after = after ≡ after_steps 1 before
