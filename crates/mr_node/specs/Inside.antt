-- What calls inside the crate promise each other of an inner node: two children that share anew, one halved.
use Rattle.std.specs.Prelude.{◌≡◌, ℕ, ◌+◌, ◌-◌, ◌<◌, ◌≤◌, Bool, true, false, List, ◌∷◌, ◌++◌, take, drop, None, slice_index_or, IfSome}
use Rattle.std.specs.List.{AllByRecursion}
use Rattle.mr_node.specs.Rows.{KeysBelow, KeysFrom}
use Rattle.mr_node.specs.EntryLists.{AreEntries}
use Rattle.mr_node.specs.Levels.{NodeChild, NodeInner, children_of, rows_of, widths_of, IsChild, IsInnerOf, IsInner}

-- two children at height h that share what these had: the first has all, or both are half full
abbrev pub ArePairChildren : {V : Type 0} → ℕ → Bool → List (NodeChild V) → NodeChild V → NodeChild V → Type 0
ArePairChildren h true children low high = IsChild h low × (low.1.node.value.rows ≡ rows_of children) × (low.1.node.value.width ≡ widths_of children)
ArePairChildren h false children low high = IsChild h low × IsChild h high × (low.1.node.value.rows ++ high.1.node.value.rows ≡ rows_of children) × (low.1.node.value.width + high.1.node.value.width ≡ widths_of children)

-- an inner node with two neighbours from a place on that share anew: the first has this many, and the second may be
-- empty
pub record IsPairAt {V : Type 0} (place many : ℕ) (joined : Bool) (old new : NodeInner V) : Type 0 where
  pub low : NodeChild V
  pub high : NodeChild V
  pub list : children_of new ≡ take place (children_of old) ++ (low ∷ (high ∷ drop (place + 2) (children_of old)))
  pub height : new.height ≡ old.height
  pub len : new.len ≡ old.len
  pub entries : AreEntries new.len new.leasts new.children
  pub children : ArePairChildren (old.height - 1) joined (take 2 (drop place (children_of old))) low high
  pub width : low.1.node.value.width ≡ many

-- the children in front of a place and from another on are as they should be
pub record AreChildrenBeside {V : Type 0} (from to : ℕ) (b : NodeInner V) : Type 0 where
  pub before : AllByRecursion (IsChild (b.height - 1)) (take from (children_of b))
  pub after : AllByRecursion (IsChild (b.height - 1)) (drop to (children_of b))

-- an inner node after two neighbours from a place on were evened out
pub record IsSplicedAt {V : Type 0} (place : ℕ) (old new : NodeInner V) : Type 0 where
  pub height : new.height ≡ old.height
  pub len : old.len ≤ new.len + 1
  pub some : 0 < new.len
  pub entries : AreEntries new.len new.leasts new.children
  pub rows : rows_of (children_of new) ≡ rows_of (children_of old)
  pub children : AreChildrenBeside place (place + 2) old → AllByRecursion (IsChild (old.height - 1)) (children_of new)

-- an inner node whose child at a place alone may be one short of half full
pub record IsLooseAt {V : Type 0} (place : ℕ) (b : NodeInner V) : Type 0 where
  pub inner : IsInnerOf 15 b
  pub beside : AreChildrenBeside place (place + 1) b

-- an inner node that is whole again: the same rows, in this many children fewer at most
pub record IsWholeAgain {V : Type 0} (fewer : ℕ) (old new : NodeInner V) : Type 0 where
  pub height : new.height ≡ old.height
  pub len : old.len ≤ new.len + fewer
  pub rows : rows_of (children_of new) ≡ rows_of (children_of old)
  pub whole : IsInner new

-- an inner node with two children that have room in the place of those from a place up to another one
pub record IsSplitAt {V : Type 0} (from to : ℕ) (old new : NodeInner V) : Type 0 where
  pub low : NodeChild V
  pub high : NodeChild V
  pub list : children_of new ≡ take from (children_of old) ++ (low ∷ (high ∷ drop to (children_of old)))
  pub height : new.height ≡ old.height
  pub len : old.len ≤ new.len
  pub entries : AreEntries new.len new.leasts new.children
  pub rows : rows_of (children_of new) ≡ rows_of (children_of old)
  pub lower : IsChild (old.height - 1) low
  pub upper : IsChild (old.height - 1) high
  pub low_room : low.1.node.value.width < 32
  pub high_room : high.1.node.value.width < 32

-- the child at a place and a neighbour of it, which has room for four entries and more, if that child is full
pub record IsPairWithRoom {V : Type 0} (first place : ℕ) (b : NodeInner V) : Type 0 where
  pub within : first + 1 < b.len
  pub begins : first ≤ place
  pub near : place ≤ first + 1
  pub many : 32 < widths_of (take 2 (drop first (children_of b)))
  pub few : widths_of (take 2 (drop first (children_of b))) ≤ 60

-- the key belongs to the child at this place, which has room
pub record IsRoomAt {V : Type 0} (key place : ℕ) (b : NodeInner V) : Type 0 where
  pub within : place < b.len
  pub below : KeysBelow key (rows_of (take place (children_of b)))
  pub above : KeysFrom (key + 1) (rows_of (drop (place + 1) (children_of b)))
  pub room : IfSome (slice_index_or b.children place None) (λ k. k.node.value.width < 32)
