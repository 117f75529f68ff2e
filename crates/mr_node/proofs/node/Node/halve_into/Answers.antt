use Rattle.mr_node.proofs.Common.{rules, ◌≡◌, [], arith, sym, ap, subst, ◌∙◌, length, seen, pairs_of, IsNode, IsLeaf, IsInner, seen_leaf, seen_inner}
use Rattle.mr_node.proofs.EntryListLemmas.{entries_length}
use Rattle.mr_node.proofs.EvenLemmas.{leaf_length, inner_length, halved_leaf, halved_inner, halved_by}
use Rattle.mr_node.proofs.node.Node.halve_into.Goals.{in-Leaf+in-Leaf-body, in-Inner}
use Rattle.mr_node.proofs.node.Node.halve_into.Goals as goal

pub share-requires-clause-enough : goal.share-requires-clause-enough
share-requires-clause-enough g c =
    let leaf : IsLeaf c.in-Leaf.left = subst IsNode c.in-Leaf.is c.self.invariant in
    let now : seen_leaf c.in-Leaf.left ≡ c.args.self.now = sym (ap seen c.in-Leaf.is) ∙ c.self.view_is in
    omega (arith, leaf_length c.in-Leaf.left leaf.values, ap (λ s. s.width) now, c.requires)

pub share-requires-clause-room : goal.share-requires-clause-room
share-requires-clause-room g c =
    let leaf : IsLeaf c.in-Leaf.left = subst IsNode c.in-Leaf.is c.self.invariant in
    let none : pairs_of c.in-Leaf-body.right ≡ [] = ap (λ s. s.rows) (sym (ap seen c.in-Leaf-body.is) ∙ c.high.view_is ∙ c.make_blank.ensures) in
    omega (arith, leaf_length c.in-Leaf.left leaf.values, leaf.values.fits, ap length none)

pub invariant_of-high : goal.invariant_of-high
invariant_of-high g c =
    let a = c.in-Leaf.left in
    let b = c.in-Leaf-body.right in
    let now : seen_leaf a ≡ c.args.self.now = sym (ap seen c.in-Leaf.is) ∙ c.self.view_is in
    let none : pairs_of b ≡ [] = ap (λ s. s.rows) (sym (ap seen c.in-Leaf-body.is) ∙ c.high.view_is ∙ c.make_blank.ensures) in
    (halved_leaf a b c.share.new.left c.share.new.right (subst IsNode c.in-Leaf.is c.self.invariant) (subst IsNode c.in-Leaf-body.is c.high.invariant) none (record { left = c.share.ensures.left_entries; right = c.share.ensures.right_entries; list = c.share.ensures.list }) (ap (λ s. s.width) now ∙ c.requires) c.share.ensures.len).1

pub share-requires-in-Inner-clause-enough : goal.share-requires-in-Inner-clause-enough
share-requires-in-Inner-clause-enough g c =
    let inner : IsInner c.in-Inner.left = subst IsNode c.in-Inner.is c.self.invariant in
    let now : seen_inner c.in-Inner.left ≡ c.args.self.now = sym (ap seen c.in-Inner.is) ∙ c.self.view_is in
    omega (arith, inner_length c.in-Inner.left inner.entries, ap (λ s. s.width) now, c.requires)

pub share-requires-in-Inner-clause-room : goal.share-requires-in-Inner-clause-room
share-requires-in-Inner-clause-room g c =
    let inner : IsInner c.in-Inner.left = subst IsNode c.in-Inner.is c.self.invariant in
    let right = c.empty_inner-right.result in
    omega (arith, inner_length c.in-Inner.left inner.entries, inner.entries.fits, entries_length 0 right.leasts right.children c.empty_inner-right.ensures.entries)

pub put_inner-requires : goal.put_inner-requires
put_inner-requires g c =
    let a = c.in-Inner.left in
    let inner : IsInner a = subst IsNode c.in-Inner.is c.self.invariant in
    let now : seen_inner a ≡ c.args.self.now = sym (ap seen c.in-Inner.is) ∙ c.self.view_is in
    let share = c.share-in-Inner in
    (search rules, (search rules, (halved_inner a c.empty_inner-right.result share.new.left share.new.right inner c.empty_inner-right.ensures.entries c.empty_inner-right.ensures.height (record { left = share.ensures.left_entries; right = share.ensures.right_entries; list = share.ensures.list; left_height = share.ensures.left_height; right_height = share.ensures.right_height }) (ap (λ s. s.width) now ∙ c.requires) share.ensures.len).1))

pub invariant_of-self : goal.invariant_of-self
invariant_of-self g c = elim c.match-self.branch [
  | in-Leaf+in-Leaf-body w ↦
      let a = w.in-Leaf.left in
      let b = w.in-Leaf-body.right in
      let now : seen_leaf a ≡ c.args.self.now = sym (ap seen w.in-Leaf.is) ∙ c.self.view_is in
      let none : pairs_of b ≡ [] = ap (λ s. s.rows) (sym (ap seen w.in-Leaf-body.is) ∙ w.high.view_is ∙ c.make_blank.ensures) in
      subst (λ i. IsNode i.body) (sym w.self-inside-is)
      (halved_leaf a b w.share.new.left w.share.new.right (subst IsNode w.in-Leaf.is c.self.invariant) (subst IsNode w.in-Leaf-body.is w.high.invariant) none (record { left = w.share.ensures.left_entries; right = w.share.ensures.right_entries; list = w.share.ensures.list }) (ap (λ s. s.width) now ∙ c.requires) w.share.ensures.len).0
  | in-Inner w ↦
      let a = w.in-Inner.left in
      let now : seen_inner a ≡ c.args.self.now = sym (ap seen w.in-Inner.is) ∙ c.self.view_is in
      let share = w.share-in-Inner in
      subst (λ i. IsNode i.body) (sym w.self-inside-is)
      (halved_inner a w.empty_inner-right.result share.new.left share.new.right (subst IsNode w.in-Inner.is c.self.invariant) w.empty_inner-right.ensures.entries w.empty_inner-right.ensures.height (record { left = share.ensures.left_entries; right = share.ensures.right_entries; list = share.ensures.list; left_height = share.ensures.left_height; right_height = share.ensures.right_height }) (ap (λ s. s.width) now ∙ c.requires) share.ensures.len).0
]

pub returns : goal.returns
returns g c = elim c.match-self.branch [
  | in-Leaf+in-Leaf-body w ↦
      let a = w.in-Leaf.left in
      let b = w.in-Leaf-body.right in
      let now : seen_leaf a ≡ c.args.self.now = sym (ap seen w.in-Leaf.is) ∙ c.self.view_is in
      let none : pairs_of b ≡ [] = ap (λ s. s.rows) (sym (ap seen w.in-Leaf-body.is) ∙ w.high.view_is ∙ c.make_blank.ensures) in
      let all = halved_leaf a b w.share.new.left w.share.new.right (subst IsNode w.in-Leaf.is c.self.invariant) (subst IsNode w.in-Leaf-body.is w.high.invariant) none (record { left = w.share.ensures.left_entries; right = w.share.ensures.right_entries; list = w.share.ensures.list }) (ap (λ s. s.width) now ∙ c.requires) w.share.ensures.len in
      halved_by (seen_leaf a) (seen_leaf w.share.new.left) (seen_leaf w.share.new.right) c.args.self.now (seen c.match-self.self-inside.body) c.match-self.high all.2 now (ap (λ i. seen i.body) w.self-inside-is) w.high-is
  | in-Inner w ↦
      let a = w.in-Inner.left in
      let now : seen_inner a ≡ c.args.self.now = sym (ap seen w.in-Inner.is) ∙ c.self.view_is in
      let share = w.share-in-Inner in
      let all = halved_inner a w.empty_inner-right.result share.new.left share.new.right (subst IsNode w.in-Inner.is c.self.invariant) w.empty_inner-right.ensures.entries w.empty_inner-right.ensures.height (record { left = share.ensures.left_entries; right = share.ensures.right_entries; list = share.ensures.list; left_height = share.ensures.left_height; right_height = share.ensures.right_height }) (ap (λ s. s.width) now ∙ c.requires) share.ensures.len in
      halved_by (seen_inner a) (seen_inner share.new.left) (seen_inner share.new.right) c.args.self.now (seen c.match-self.self-inside.body) c.match-self.high all.2 now (ap (λ i. seen i.body) w.self-inside-is) (w.high-is ∙ w.put_inner.ensures)
]

pub unreachable-requires : goal.unreachable-requires
unreachable-requires g c =
    let none = ap (λ s. s.height) (sym (ap seen c.in-Inner-body.is) ∙ c.high.view_is ∙ c.make_blank.ensures) in
    omega (arith, none, (subst IsNode c.in-Inner-body.is c.high.invariant).above_leaves)
