use Rattle.tatp_actions.proofs.Common.{◌≡◌, ◌∙◌, sym, ap, subst, length, arith, None, Some, remove, IsOrderedBy, row_at, without_row, without_row_absent, ordered-without_row, absent_past, absent_here, found_here, removes_here}
use Rattle.tatp_actions.proofs.TableLemmas.{same_read}
use Rattle.tatp_actions.proofs.table.Table.remove.Goals as goal
use Rattle.tatp_actions.proofs.table.Table.remove.Goals.{then-at-len-via-then-at-len, then-at-len-via-else-at-len+then-index-key}

-- the key has no entry, where the call gives up
absent : (g : _) (c : goal.Joined-then-at-len g) → row_at (λ pair. pair.0) c.args.key c.args.self.now ≡ None
absent g c =
    let len : length c.self.inside.entries.items ≡ length c.args.self.now = ap length c.self.view_is in
    elim c.then-at-len.branch [
      | then-at-len-via-then-at-len w ↦
          absent_past (λ pair. pair.0) c.args.key c.place_of-at.result c.args.self.now c.place_of-at.ensures.ordered c.place_of-at.ensures.place (omega arith)
      | then-at-len-via-else-at-len+then-index-key w ↦
          absent_here (λ pair. pair.0) c.args.key c.place_of-at.result c.args.self.now w.index.result.now c.place_of-at.ensures.ordered c.place_of-at.ensures.place (rw c.self.view_is at w.index.ensures) w.if-index-key.true
    ]

pub returns-then-at-len-clause-value : goal.returns-then-at-len-clause-value
returns-then-at-len-clause-value g c = rw (absent g c)

pub returns-then-at-len-clause-rows : goal.returns-then-at-len-clause-rows
returns-then-at-len-clause-rows g c = sym (without_row_absent (λ pair. pair.0) c.args.key c.args.self.now (absent g c))

-- the entry at the key's place, and that it is taken from there
found : (g : _) (c : goal.After-remove-value g) → row_at (λ pair. pair.0) c.args.key c.args.self.now ≡ Some c.index.result.now
found g c =
    let len : length c.self.inside.entries.items ≡ length c.args.self.now = ap length c.self.view_is in
    found_here (λ pair. pair.0) c.args.key c.place_of-at.result c.args.self.now c.index.result.now c.place_of-at.ensures.ordered c.place_of-at.ensures.place (omega arith) (rw c.self.view_is at c.index.ensures) c.if-index-key.false

removes : (g : _) (c : goal.After-remove-value g) → c.remove-value.new.self.items ≡ without_row (λ pair. pair.0) c.args.key c.args.self.now
removes g c =
    let len : length c.self.inside.entries.items ≡ length c.args.self.now = ap length c.self.view_is in
    c.remove-value.ensures.items
    ∙ ap (λ pairs. remove pairs c.place_of-at.result) c.self.view_is
    ∙ removes_here (λ pair. pair.0) c.args.key c.place_of-at.result c.args.self.now c.index.result.now c.place_of-at.ensures.ordered c.place_of-at.ensures.place (omega arith) (rw c.self.view_is at c.index.ensures) c.if-index-key.false

pub invariant_of-self : goal.invariant_of-self
invariant_of-self g c = subst (λ pairs. IsOrderedBy (λ pair. pair.0) pairs) (sym (removes g c)) (ordered-without_row (λ pair. pair.0) c.args.key c.args.self.now c.place_of-at.ensures.ordered)

pub returns-clause-value : goal.returns-clause-value
returns-clause-value g c =
    let len : length c.self.inside.entries.items ≡ length c.args.self.now = ap length c.self.view_is in
    let same : c.remove-value.result ≡ c.index.result.now = same_read c.self.inside.entries.items c.place_of-at.result c.remove-value.result c.index.result.now (omega arith) c.remove-value.ensures.value c.index.ensures in
    rw (found g c) (ap (λ pair. Some pair.1) same)

pub returns-clause-rows : goal.returns-clause-rows
returns-clause-rows g c = removes g c
