-- The steps of nodes that become one, and the blank nodes that they use.
use Rattle.mr_cut.proofs.Common.{◌≡◌, ℕ, ◌+◌, ◌-◌, ◌*◌, ◌<◌, ◌≤◌, max, List, Some, None, sym, ap, subst, ◌∙◌, arith, abs_diff, Seen, after_steps, join_steps, MaybeNode, IsSideJoined, more_of, Side, IsRootOf, IsRootCount}
use Rattle.mr_cut.proofs.JoinLemmas.{AreHigherFirst, both_height}

-- the nodes are of one height
pub met_count : (h k stock before after : ℕ) → h ≡ k → after ≡ after_steps 4 before → after ≡ after_steps (join_steps (h - k) (stock - stock) 0) before
met_count h k stock before after same even = omega (arith, same, even)

-- both bounds, where there is one new root at most
count_bounds : (apart used roots before after : ℕ) → used ≤ apart + 1 → roots ≤ 1
    → after ≡ after_steps (join_steps apart used roots) before
    → (after_steps (2 * apart + 4) before ≤ after) × (after ≤ before + 16 * (apart + 1))
count_bounds apart used roots before after few one count = (omega (arith, count), omega (arith, few, one, count))

-- a meter that begins at 0 stands at just the number, where the heights are below 16
pub count_fits : (apart used roots after : ℕ) → apart < 16 → used ≤ apart + 1 → roots ≤ 1 → after ≡ after_steps (join_steps apart used roots) 0 → after ≡ join_steps apart used roots
count_fits apart used roots after low few one count = omega (arith, low, few, one, count)

-- the same number, of roots under other names
pub same_count : (a b x c d y used other before after : ℕ) → a ≡ c → b ≡ d → y ≡ x → used ≡ other → before ≡ join_steps (abs_diff a b) used (x - max a b) → after ≡ before → after ≡ join_steps (abs_diff c d) other (y - max c d)
same_count a b x c d y used other before after low high root e count same =
    same
    ∙ count
    ∙ ap (λ i. join_steps (abs_diff i b) used (x - max i b)) low
    ∙ ap (λ i. join_steps (abs_diff c i) used (x - max c i)) high
    ∙ ap (λ i. join_steps (abs_diff c d) used (i - max c d)) (sym root)
    ∙ ap (λ i. join_steps (abs_diff c d) i (y - max c d)) e

module _ {V : Type 0} where
  pub more_fits : (o : MaybeNode V) → more_of o ≤ 1
  more_fits None = omega arith
  more_fits (Some y) = omega arith

  -- a level more over a neighbour at height k: it is opened, and what came of its child is put back
  pub inserted_count : (h k low stock mid less before opened below after : ℕ) (o : MaybeNode V) → k < h → low + 1 ≡ h → opened ≡ after_steps 1 before → mid ≤ stock → below ≡ after_steps (join_steps (low - k) (stock - mid) 0) opened → mid ≡ less + more_of o → after ≡ after_steps (1 + 5 * more_of o) below → after ≡ after_steps (join_steps (h - k) (stock - less) 0) before
  inserted_count h k low stock mid less before opened below after None lower level taken fewer count used insert_child = omega (arith, lower, level, taken, fewer, count, used, insert_child)
  inserted_count h k low stock mid less before opened below after (Some y) lower level taken fewer count used insert_child = omega (arith, lower, level, taken, fewer, count, used, insert_child)

  -- the root over what came of a node and its neighbour is a new one where that is two
  rooted_count : (h w k : ℕ) (rows : List (ℕ × V)) (x z : Seen V) (o : MaybeNode V) (stock mid less before below after : ℕ) → IsSideJoined h w k rows x o → IsRootOf x o z → mid ≤ stock → below ≡ after_steps (join_steps (h - k) (stock - mid) 0) before → mid ≡ less + more_of o → IsRootCount o below after → after ≡ after_steps (join_steps (h - k) (stock - less) (z.height - h)) before
  rooted_count h w k rows x z None stock mid less before below after side_joined root_of_both fewer count used same =
      let level : z.height ≡ h = ap (λ s. s.height) root_of_both ∙ side_joined.level in
      omega (arith, level, fewer, count, used, same)
  rooted_count h w k rows x z (Some y) stock mid less before below after side_joined root_of_both fewer count used built =
      let level : z.height ≡ h + 1 = omega (arith, root_of_both.1, side_joined.first.level) in
      omega (arith, level, fewer, count, used, built)

  -- the steps of a join, and their bounds
  pub record IsJoinCount (a b z : Seen V) (used m n : ℕ) : Type 0 where
    pub count : n ≡ after_steps (join_steps (abs_diff a.height b.height) used (z.height - max a.height b.height)) m
    pub no_fewer : after_steps (2 * abs_diff a.height b.height + 4) m ≤ n
    pub most : n ≤ m + 16 * (abs_diff a.height b.height + 1)

  pub join_count : {s : Side} {a b node other : Seen V} (rows : List (ℕ × V)) (x z : Seen V) (o : MaybeNode V)
      (stock mid less before below after : ℕ) → AreHigherFirst s a b node other
      → IsSideJoined node.height node.width other.height rows x o → IsRootOf x o z
      → stock ≤ mid + (node.height - other.height) → mid ≤ stock
      → below ≡ after_steps (join_steps (node.height - other.height) (stock - mid) 0) before → mid ≡ less + more_of o
      → IsRootCount o below after → IsJoinCount a b z (stock - less) before after
  join_count {a = a} {b = b} {node = node} rows x z o stock mid less before below after first side_joined root_of_both bound fewer
      count used built =
      let apart = abs_diff a.height b.height in
      let roots = z.height - max a.height b.height in
      let spent = stock - less in
      let grown = z.height - node.height in
      let all = rooted_count _ _ _ _ _ z o _ _ _ _ _ _ side_joined root_of_both fewer count used built in
      let level = subst (λ n. after ≡ after_steps (join_steps n spent grown) before) first.apart all in
      let whole = subst (λ n. after ≡ after_steps (join_steps apart spent (z.height - n)) before) first.top level in
      let few : spent ≤ apart + 1 = omega (arith, first.apart, bound, used, more_fits o) in
      let one : roots ≤ 1 = omega (arith, (both_height rows x z o first side_joined root_of_both).most) in
      let bounds = count_bounds apart spent roots before after few one whole in
      record { count = whole; no_fewer = bounds.0; most = bounds.1 }
