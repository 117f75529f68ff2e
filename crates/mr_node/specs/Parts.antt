-- What is done to the parts of a node that was taken apart.
use Rattle.std.specs.Prelude.{◌≡◌, ℕ, ◌∷◌, ◌++◌, take, drop}
use Rattle.mr_node.specs.Rows.{Seen}
use Rattle.mr_node.specs.Levels.{NodeChild, NodeInner, children_of, IsChild}

-- the children with one node more at a place
pub record HasOneMoreChild {V : Type 0} (place : ℕ) (node : Seen V) (old new : NodeInner V) : Type 0 where
  pub child : NodeChild V
  pub list : children_of new ≡ take place (children_of old) ++ (child ∷ drop place (children_of old))
  pub same : child.1.node.value ≡ node
  pub whole : IsChild node.height child
