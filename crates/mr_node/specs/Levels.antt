-- The rules of one level of a tree: what holds of a leaf, of an inner node, and of a child of one.
use Rattle.std.specs.Prelude.{◌≡◌, ℕ, ◌+◌, ◌-◌, ◌*◌, ◌^◌, ◌<◌, ◌≤◌, List, length, slice_index_or}
use Rattle.std.specs.List.{AllByRecursion, flat_map, sum_by, zip}
use Rattle.std.specs.declared.boxed.Box.{Box}
use Rattle.std.specs.declared.alloc.Global.{Global}
use Rattle.tatp_rows.specs.Ordered.{IsOrderedBy}
use Rattle.mr_node.specs.declared.body.Child.{Child}
use Rattle.mr_node.specs.declared.body.Inner.{Inner}
use Rattle.mr_node.specs.declared.body.Leaf.{Leaf}
use Rattle.mr_node.specs.declared.body.Body.{Body}
use Rattle.mr_node.specs.declared.body.Body.TheVariants.{Leaf as AsLeaf, Inner as AsInner}
use Rattle.mr_node.specs.Rows.{Seen, key_limit, key_of_pair, KeysBelow, StartsWith}
use Rattle.mr_node.specs.EntryLists.{entries, AreEntries, AreKeyed}

-- a child of an inner node: its count of rows, and what is seen of it
abbrev pub NodePart : Type 0 → Type 0
NodePart V = Child (Box (Seen V) Global)

-- a child by its least key
abbrev pub NodeChild : Type 0 → Type 0
NodeChild V = ℕ × NodePart V

-- an inner node's own part
abbrev pub NodeInner : Type 0 → Type 0
NodeInner V = Inner (Box (Seen V) Global)

-- a node taken apart
abbrev pub NodeBody : Type 0 → Type 0
NodeBody V = Body V (Box (Seen V) Global)

-- the pairs of key and value of a leaf
abbrev pub pairs_of : {V : Type 0} → Leaf V → List (ℕ × V)
pairs_of leaf = zip leaf.keys leaf.values.items

-- the children of an inner node
abbrev pub children_of : {V : Type 0} → NodeInner V → List (NodeChild V)
children_of b = entries b.leasts b.children

-- the rows of children, one after another
abbrev pub rows_of : {V : Type 0} → List (NodeChild V) → List (ℕ × V)
rows_of children = flat_map (λ k. k.1.node.value.rows) children

-- how many entries or children of their own children have together
abbrev pub widths_of : {V : Type 0} → List (NodeChild V) → ℕ
widths_of children = sum_by (λ k. k.1.node.value.width) children

-- the keys rise and are below the limit, there is room for the width, and the number of rows meets the height
pub record IsWell {V : Type 0} (s : Seen V) : Type 0 where
  pub fits : s.width ≤ 32
  pub ordered : IsOrderedBy key_of_pair s.rows
  pub keys : KeysBelow key_limit s.rows
  pub at_least : s.width * 16 ^ s.height ≤ length s.rows
  pub at_most : length s.rows ≤ s.width * 32 ^ s.height

-- a child of height h that has w of its own at least; its least key and its count are right
pub record IsChildOf {V : Type 0} (w h : ℕ) (k : NodeChild V) : Type 0 where
  pub level : k.1.node.value.height ≡ h
  pub enough : w ≤ k.1.node.value.width
  pub well : IsWell k.1.node.value
  pub first : StartsWith k.0 k.1.node.value.rows
  pub counted : k.1.count ≡ length k.1.node.value.rows

-- a child of height h: it is half full at least
abbrev pub IsChild : {V : Type 0} → ℕ → NodeChild V → Type 0
IsChild h k = IsChildOf 16 h k

-- a leaf: each value has its key, and these rise
pub record IsLeaf {V : Type 0} (leaf : Leaf V) : Type 0 where
  pub values : AreKeyed leaf.keys leaf.values.items
  pub ordered : IsOrderedBy key_of_pair (pairs_of leaf)
  pub keys : KeysBelow key_limit (pairs_of leaf)

-- an inner node: its children, each of the next height down, have w of their own at least, and their rows rise one
-- after another
pub record IsInnerOf {V : Type 0} (w : ℕ) (b : NodeInner V) : Type 0 where
  pub above_leaves : 0 < b.height
  pub some : 0 < b.len
  pub entries : AreEntries b.len b.leasts b.children
  pub children : AllByRecursion (IsChildOf w (b.height - 1)) (children_of b)
  pub ordered : IsOrderedBy key_of_pair (rows_of (children_of b))
  pub keys : KeysBelow key_limit (rows_of (children_of b))

-- an inner node: its children are half full at least
abbrev pub IsInner : {V : Type 0} → NodeInner V → Type 0
IsInner b = IsInnerOf 16 b

-- the place of the child to which a key belongs, of n: the last whose least key isn't above the key, or the first
pub record IsChildPlace (key place n : ℕ) (leasts : List ℕ) : Type 0 where
  pub within : place < n
  pub here : 0 < place → slice_index_or leasts place 0 ≤ key
  pub next : place + 1 < n → key < slice_index_or leasts (place + 1) 0

-- what is seen of a leaf
abbrev pub seen_leaf : {V : Type 0} → Leaf V → Seen V
seen_leaf leaf = record { height = 0; width = length leaf.values.items; rows = pairs_of leaf }

-- what is seen of an inner node
abbrev pub seen_inner : {V : Type 0} → NodeInner V → Seen V
seen_inner b = record { height = b.height; width = b.len; rows = rows_of (children_of b) }

-- what is seen of a node
abbrev pub seen : {V : Type 0} → NodeBody V → Seen V
seen (AsLeaf leaf) = seen_leaf leaf
seen (AsInner b) = seen_inner b

-- the rules of a node
abbrev pub IsNode : {V : Type 0} → NodeBody V → Type 0
IsNode (AsLeaf leaf) = IsLeaf leaf
IsNode (AsInner b) = IsInner b
