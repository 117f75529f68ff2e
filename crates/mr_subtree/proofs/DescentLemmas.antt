-- Descents to several keys side by side.
use Rattle.mr_subtree.proofs.Common.{◌≡◌, ℕ, zero, suc, ◌<◌, ◌≤◌, List, [], ◌∷◌, length, get_or, set, replicate, ap, ◌∙◌, arith, Bor, Seen, value_at, HaveSameValues}

module _ {V : Type 0} (rows : List (ℕ × V)) where
  -- the root stands beside each key
  pub started : (keys : List ℕ) (n : ℕ) (root : Bor (Seen V)) → length keys ≤ n → root.now.rows ≡ rows → HaveSameValues rows keys (replicate n root)
  started [] n root few e = tt
  started (key ∷ keys) zero root few e = absurd (omega (arith, few))
  started (key ∷ keys) (suc n) root few e = (ap (value_at key) e, started keys n root (omega (arith, few)) e)

  -- one node is moved on
  pub moved : (keys : List ℕ) (nodes : List (Bor (Seen V))) (i : ℕ) (d node : Bor (Seen V)) → HaveSameValues rows keys nodes → i < length keys → value_at (get_or keys i 0) node.now.rows ≡ value_at (get_or keys i 0) (get_or nodes i d).now.rows → HaveSameValues rows keys (set nodes i node)
  moved [] nodes i d node way lt e = absurd (omega (arith, lt))
  moved (key ∷ keys) [] i d node way lt e = absurd way
  moved (key ∷ keys) (x ∷ nodes) zero d node way lt e = (e ∙ way.0, way.1)
  moved (key ∷ keys) (x ∷ nodes) (suc i) d node way lt e = (way.0, moved keys nodes i d node way.1 (omega (arith, lt)) e)

  -- what is found below a node
  pub found : (keys : List ℕ) (nodes : List (Bor (Seen V))) (i : ℕ) (d : Bor (Seen V)) → HaveSameValues rows keys nodes → i < length keys → value_at (get_or keys i 0) (get_or nodes i d).now.rows ≡ value_at (get_or keys i 0) rows
  found [] nodes i d way lt = absurd (omega (arith, lt))
  found (key ∷ keys) [] i d way lt = absurd way
  found (key ∷ keys) (x ∷ nodes) zero d way lt = way.0
  found (key ∷ keys) (x ∷ nodes) (suc i) d way lt = found keys nodes i d way.1 (omega (arith, lt))
