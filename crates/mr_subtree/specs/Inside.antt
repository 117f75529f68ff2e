-- What calls inside the crate promise each other; no public clause cites it.
use Rattle.std.specs.Prelude.{◌≡◌, ℕ, List, [], ◌∷◌, ⊤}
use Rattle.std.specs.Borrow.{Bor}
use Rattle.mr_node.specs.Rows.{Seen, value_at}

-- beside each key stands a node with the same value at it as these rows have; further nodes may follow
abbrev pub HaveSameValues : {V : Type 0} → List (ℕ × V) → List ℕ → List (Bor (Seen V)) → Type 0
HaveSameValues rows [] nodes = ⊤
HaveSameValues rows (key ∷ keys) [] = ⊥
HaveSameValues rows (key ∷ keys) (node ∷ nodes) = (value_at key node.now.rows ≡ value_at key rows) × HaveSameValues rows keys nodes

-- nodes that have the values of whatever rows at keys have them still
abbrev pub KeepSameValues : {V : Type 0} → List ℕ → List (Bor (Seen V)) → List (Bor (Seen V)) → Type 0
KeepSameValues {V} keys before after = (rows : List (ℕ × V)) → HaveSameValues rows keys before → HaveSameValues rows keys after
