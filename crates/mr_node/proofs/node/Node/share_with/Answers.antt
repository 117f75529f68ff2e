use Rattle.mr_node.proofs.Common.{◌≡◌, length, arith, sym, ap, subst, ◌∙◌, seen, pairs_of, children_of, IsNode, seen_leaf, seen_inner}
use Rattle.mr_node.proofs.EvenLemmas.{share_seen, leaf_length, inner_length, AreLeaves, AreMovedLeaves, leaves_of, left_leaf, right_leaf, evened_leaves, AreInners, AreMovedChildren, inners_of, evened_inners, evened_by, kept_node}
use Rattle.mr_node.proofs.node.Node.share_with.Goals.{in-Leaf+in-Leaf-body, in-Inner+in-Inner-body-2}
use Rattle.mr_node.proofs.node.Node.share_with.Goals as goal

pub even-requires-clause-share : goal.even-requires-clause-share
even-requires-clause-share g c =
    let low = c.in-Leaf.left in
    let high = c.in-Leaf-body.right in
    share_seen (seen_leaf low) (seen_leaf high) c.args.self.now c.args.next.now (length (pairs_of low)) (length (pairs_of high)) c.args.low c.requires.share (sym (ap seen c.in-Leaf.is) ∙ c.self.view_is) (sym (ap seen c.in-Leaf-body.is) ∙ c.next.view_is)
    (leaf_length low (subst IsNode c.in-Leaf.is c.self.invariant).values) (leaf_length high (subst IsNode c.in-Leaf-body.is c.next.invariant).values)

pub invariant_of-next : goal.invariant_of-next
invariant_of-next g c =
    let a = c.in-Leaf.left in
    let b = c.in-Leaf-body.right in
    let two : AreLeaves a b = leaves_of a b c.args.self.now c.args.next.now (subst IsNode c.in-Leaf.is c.self.invariant) (subst IsNode c.in-Leaf-body.is c.next.invariant) (sym (ap seen c.in-Leaf.is) ∙ c.self.view_is) (sym (ap seen c.in-Leaf-body.is) ∙ c.next.view_is) c.requires.ordered in
    right_leaf a b c.even.new.left c.even.new.right two (record { left = c.even.ensures.left_entries; right = c.even.ensures.right_entries; list = c.even.ensures.list })

pub even-all-requires-clause-share : goal.even-all-requires-clause-share
even-all-requires-clause-share g c =
    let low = c.in-Inner.left in
    let high = c.in-Inner-body-2.right in
    share_seen (seen_inner low) (seen_inner high) c.args.self.now c.args.next.now (length (children_of low)) (length (children_of high)) c.args.low c.requires.share (sym (ap seen c.in-Inner.is) ∙ c.self.view_is) (sym (ap seen c.in-Inner-body-2.is) ∙ c.next.view_is)
    (inner_length low (subst IsNode c.in-Inner.is c.self.invariant).entries) (inner_length high (subst IsNode c.in-Inner-body-2.is c.next.invariant).entries)

pub invariant_of-next-in-Inner-body-2 : goal.invariant_of-next-in-Inner-body-2
invariant_of-next-in-Inner-body-2 g c =
    let a = c.in-Inner.left in
    let b = c.in-Inner-body-2.right in
    let two : AreInners a b = inners_of a b c.args.self.now c.args.next.now (subst IsNode c.in-Inner.is c.self.invariant) (subst IsNode c.in-Inner-body-2.is c.next.invariant) (sym (ap seen c.in-Inner.is) ∙ c.self.view_is) (sym (ap seen c.in-Inner-body-2.is) ∙ c.next.view_is) c.requires.level c.requires.ordered in
    let now = c.even-all.ensures in
    let moved : AreMovedChildren a b c.even-all.new.left c.even-all.new.right = record { left = now.left_entries; right = now.right_entries; list = now.list; left_height = now.left_height; right_height = now.right_height } in
    let all = evened_inners c.even-all.result a b c.even-all.new.left c.even-all.new.right (seen c.let_go.new.body) (subst IsNode c.in-Inner.is c.self.invariant) (subst IsNode c.in-Inner-body-2.is c.next.invariant) two moved now.even (λ e. ap seen (c.let_go.ensures.kept e)) in
    kept_node c.even-all.result c.let_go.new.body c.even-all.new.right c.let_go.ensures.gone c.let_go.ensures.kept all.1

pub invariant_of-self : goal.invariant_of-self
invariant_of-self g c = elim c.match-self.branch [
  | in-Leaf+in-Leaf-body w ↦
      let a = w.in-Leaf.left in
      let b = w.in-Leaf-body.right in
      let two : AreLeaves a b = leaves_of a b c.args.self.now c.args.next.now (subst IsNode w.in-Leaf.is c.self.invariant) (subst IsNode w.in-Leaf-body.is c.next.invariant) (sym (ap seen w.in-Leaf.is) ∙ c.self.view_is) (sym (ap seen w.in-Leaf-body.is) ∙ c.next.view_is) c.requires.ordered in
      subst (λ i. IsNode i.body) (sym w.self-inside-is) (left_leaf a b w.even.new.left w.even.new.right two (record { left = w.even.ensures.left_entries; right = w.even.ensures.right_entries; list = w.even.ensures.list }))
  | in-Inner+in-Inner-body-2 w ↦
      let a = w.in-Inner.left in
      let b = w.in-Inner-body-2.right in
      let two : AreInners a b = inners_of a b c.args.self.now c.args.next.now (subst IsNode w.in-Inner.is c.self.invariant) (subst IsNode w.in-Inner-body-2.is c.next.invariant) (sym (ap seen w.in-Inner.is) ∙ c.self.view_is) (sym (ap seen w.in-Inner-body-2.is) ∙ c.next.view_is) c.requires.level c.requires.ordered in
      let now = w.even-all.ensures in
      let moved : AreMovedChildren a b w.even-all.new.left w.even-all.new.right = record { left = now.left_entries; right = now.right_entries; list = now.list; left_height = now.left_height; right_height = now.right_height } in
      let all = evened_inners w.even-all.result a b w.even-all.new.left w.even-all.new.right (seen w.let_go.new.body) (subst IsNode w.in-Inner.is c.self.invariant) (subst IsNode w.in-Inner-body-2.is c.next.invariant) two moved now.even (λ e. ap seen (w.let_go.ensures.kept e)) in
      subst (λ i. IsNode i.body) (sym w.self-inside-is) all.0
]

pub returns-clause-nodes : goal.returns-clause-nodes
returns-clause-nodes g c = elim c.match-self.branch [
  | in-Leaf+in-Leaf-body w ↦
      let a = w.in-Leaf.left in
      let b = w.in-Leaf-body.right in
      let left : seen_leaf a ≡ c.args.self.now = sym (ap seen w.in-Leaf.is) ∙ c.self.view_is in
      let right : seen_leaf b ≡ c.args.next.now = sym (ap seen w.in-Leaf-body.is) ∙ c.next.view_is in
      let two : AreLeaves a b = leaves_of a b c.args.self.now c.args.next.now (subst IsNode w.in-Leaf.is c.self.invariant) (subst IsNode w.in-Leaf-body.is c.next.invariant) left right c.requires.ordered in
      let moved : AreMovedLeaves a b w.even.new.left w.even.new.right = record { left = w.even.ensures.left_entries; right = w.even.ensures.right_entries; list = w.even.ensures.list } in
      evened_by w.even.result c.match-self.result (seen_leaf a) (seen_leaf b) (seen_leaf w.even.new.left) (seen_leaf w.even.new.right) c.args.self.now c.args.next.now (seen c.match-self.self-inside.body) c.match-self.next
      (evened_leaves w.even.result a b w.even.new.left w.even.new.right two moved w.even.ensures.even) w.result-is left right (ap (λ i. seen i.body) w.self-inside-is) w.next-is
  | in-Inner+in-Inner-body-2 w ↦
      let a = w.in-Inner.left in
      let b = w.in-Inner-body-2.right in
      let left : seen_inner a ≡ c.args.self.now = sym (ap seen w.in-Inner.is) ∙ c.self.view_is in
      let right : seen_inner b ≡ c.args.next.now = sym (ap seen w.in-Inner-body-2.is) ∙ c.next.view_is in
      let two : AreInners a b = inners_of a b c.args.self.now c.args.next.now (subst IsNode w.in-Inner.is c.self.invariant) (subst IsNode w.in-Inner-body-2.is c.next.invariant) left right c.requires.level c.requires.ordered in
      let now = w.even-all.ensures in
      let moved : AreMovedChildren a b w.even-all.new.left w.even-all.new.right = record { left = now.left_entries; right = now.right_entries; list = now.list; left_height = now.left_height; right_height = now.right_height } in
      let all = evened_inners w.even-all.result a b w.even-all.new.left w.even-all.new.right (seen w.let_go.new.body) (subst IsNode w.in-Inner.is c.self.invariant) (subst IsNode w.in-Inner-body-2.is c.next.invariant) two moved now.even (λ e. ap seen (w.let_go.ensures.kept e)) in
      evened_by w.even-all.result c.match-self.result (seen_inner a) (seen_inner b) (seen_inner w.even-all.new.left) (seen w.let_go.new.body) c.args.self.now c.args.next.now (seen c.match-self.self-inside.body) c.match-self.next
      all.2 w.result-is left right (ap (λ i. seen i.body) w.self-inside-is) w.next-is
]

pub even-all-requires-clause-left_entries : goal.even-all-requires-clause-left_entries
even-all-requires-clause-left_entries g c = (subst IsNode c.in-Inner.is c.self.invariant).entries

pub even-all-requires-clause-right_entries : goal.even-all-requires-clause-right_entries
even-all-requires-clause-right_entries g c = (subst IsNode c.in-Inner-body-2.is c.next.invariant).entries

pub unreachable-requires : goal.unreachable-requires
unreachable-requires g c =
    let low = ap (λ s. s.height) (sym (ap seen c.in-Leaf.is) ∙ c.self.view_is) in
    let high = ap (λ s. s.height) (sym (ap seen c.in-Inner-body.is) ∙ c.next.view_is) in
    omega (arith, low, high, c.requires.level, (subst IsNode c.in-Inner-body.is c.next.invariant).above_leaves)

pub unreachable-requires-in-Leaf-body-2 : goal.unreachable-requires-in-Leaf-body-2
unreachable-requires-in-Leaf-body-2 g c =
    let high = ap (λ s. s.height) (sym (ap seen c.in-Inner.is) ∙ c.self.view_is) in
    let low = ap (λ s. s.height) (sym (ap seen c.in-Leaf-body-2.is) ∙ c.next.view_is) in
    omega (arith, low, high, c.requires.level, (subst IsNode c.in-Inner.is c.self.invariant).above_leaves)

pub returns-clause-width : goal.returns-clause-width
returns-clause-width g c = elim c.match-self.branch [
  | in-Leaf+in-Leaf-body w ↦ ap (λ i. (seen i.body).width) w.self-inside-is ∙ sym (leaf_length w.even.new.left w.even.ensures.left_entries) ∙ w.even.ensures.len
  | in-Inner+in-Inner-body-2 w ↦ ap (λ i. (seen i.body).width) w.self-inside-is ∙ sym (inner_length w.even-all.new.left w.even-all.ensures.left_entries) ∙ w.even-all.ensures.len
]
