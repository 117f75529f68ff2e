-- A node that is joined beside another one: what comes of both. No clause of a public call cites these.
use Rattle.std.specs.Prelude.{◌≡◌, ℕ, ◌-◌, ◌<◌, ◌≤◌, List, ◌++◌, Option, Some, None}
use Rattle.std.specs.List.{AllByRecursion}
use Rattle.std.specs.declared.boxed.Box.{Box}
use Rattle.std.specs.declared.alloc.Global.{Global}
use Rattle.tatp_rows.specs.Ordered.{IsOrderedBy}
use Rattle.mr_node.specs.Rows.{Seen, key_limit, key_of_pair, KeysBelow}
use Rattle.mr_node.specs.EntryLists.{AreEntries}
use Rattle.mr_node.specs.Levels.{NodeInner, children_of, rows_of, IsChild, IsWell}
use Rattle.mr_node.specs.Pairs.{IsChildNode, IsJoined, ArePaired}
use Rattle.mr_cut.specs.declared.side_joins.Side.{Side}
use Rattle.mr_cut.specs.declared.side_joins.Side.TheVariants.{Low, High}

-- the rows of a node with those that stand beside it on a side; and so its children
abbrev pub beside : {A : Type 0} → Side → List A → List A → List A
beside Low rows others = others ++ rows
beside High rows others = rows ++ others

-- the place at a side, where that of the high side is the last
abbrev pub end_of : Side → ℕ → ℕ
end_of Low last = 0
end_of High last = last

-- two as they are, or the other way round for the low side
abbrev pub IsTurned : {A : Type 0} → Side → A → A → A → A → Type 0
IsTurned Low a b x y = (x ≡ b) × (y ≡ a)
IsTurned High a b x y = (x ≡ a) × (y ≡ b)

-- one node more, or none
abbrev pub MaybeNode : Type 0 → Type 0
MaybeNode V = Option (Box (Seen V) Global)

-- some children of an inner node, or none
pub record IsRest {V : Type 0} (b : NodeInner V) : Type 0 where
  pub above_leaves : 0 < b.height
  pub entries : AreEntries b.len b.leasts b.children
  pub children : AllByRecursion (IsChild (b.height - 1)) (children_of b)
  pub ordered : IsOrderedBy key_of_pair (rows_of (children_of b))
  pub keys : KeysBelow key_limit (rows_of (children_of b))

-- the rows of one node, or of two
abbrev pub rows_with : {V : Type 0} → Seen V → MaybeNode V → List (ℕ × V)
rows_with one None = one.rows
rows_with one (Some two) = one.rows ++ two.value.rows

-- two neighbours evened out: they are one node now, or two half full ones
abbrev pub IsEvened : {V : Type 0} → Seen V → Seen V → Seen V → MaybeNode V → Type 0
IsEvened a b one None = IsJoined a b one
IsEvened a b one (Some two) = ArePaired a b one two.value

-- one node of this height with these rows, and as wide at least
pub record IsOneOf {V : Type 0} (height width : ℕ) (rows : List (ℕ × V)) (one : Seen V) : Type 0 where
  pub level : one.height ≡ height
  pub wide : width ≤ one.width
  pub well : IsWell one
  pub list : one.rows ≡ rows

-- two half full nodes of this height with these rows; over a lower neighbour only a full node becomes two
pub record AreTwoOf {V : Type 0} (height width lower : ℕ) (rows : List (ℕ × V)) (one two : Seen V) : Type 0 where
  pub first : IsChildNode height one
  pub second : IsChildNode height two
  pub list : one.rows ++ two.rows ≡ rows
  pub full : lower < height → 32 ≤ width

-- what comes of a node of this height and width with a neighbour of the lower height: one node, or two
abbrev pub IsSideJoined : {V : Type 0} → ℕ → ℕ → ℕ → List (ℕ × V) → Seen V → MaybeNode V → Type 0
IsSideJoined height width lower rows one None = IsOneOf height width rows one
IsSideJoined height width lower rows one (Some two) = AreTwoOf height width lower rows one two.value

-- how many nodes there are besides the first: each wants a blank node
abbrev pub more_of : {V : Type 0} → MaybeNode V → ℕ
more_of None = 0
more_of (Some two) = 1
