use Rattle.tatp_actions.proofs.Common.{◌≡◌, ◌∙◌, refl, sym, ap, subst, set, length, arith, Ok, None, Some, IsOrderedBy, row_at, with_row_at, with_row_at_absent, ordered-with_row_at, absent_past, absent_here, found_here, sets_here}
use Rattle.tatp_actions.proofs.TableLemmas.{same_read, pair_is}
use Rattle.tatp_actions.proofs.table.Table.replace.Goals as goal
use Rattle.tatp_actions.proofs.table.Table.replace.Goals.{then-at-len-via-then-at-len, then-at-len-via-else-at-len+then-index-key}

-- the key has no entry, where the call gives up
absent : (g : _) (c : goal.Joined-then-at-len g) → row_at (λ pair. pair.0) c.args.key c.args.self.now ≡ None
absent g c =
    let len : length c.self.inside.entries.items ≡ length c.args.self.now = ap length c.self.view_is in
    elim c.then-at-len.branch [
      | then-at-len-via-then-at-len w ↦
          absent_past (λ pair. pair.0) c.args.key c.place_of-at.result c.args.self.now c.place_of-at.ensures.ordered c.place_of-at.ensures.place (omega arith)
      | then-at-len-via-else-at-len+then-index-key w ↦
          absent_here (λ pair. pair.0) c.args.key c.place_of-at.result c.args.self.now w.index.result.now c.place_of-at.ensures.ordered c.place_of-at.ensures.place (rw c.self.view_is at w.index.ensures) w.if-index-key.true
    ]

pub returns-then-at-len-clause-value : goal.returns-then-at-len-clause-value
returns-then-at-len-clause-value g c = rw (absent g c)

pub returns-then-at-len-clause-rows : goal.returns-then-at-len-clause-rows
returns-then-at-len-clause-rows g c = sym (with_row_at_absent (λ pair. pair.0) c.args.key (c.args.key, c.args.value) c.args.self.now (absent g c))

-- the entry at the key's place, and that it is replaced there
found : (g : _) (c : goal.After-self-1 g) → row_at (λ pair. pair.0) c.args.key c.args.self.now ≡ Some c.index.result.now
found g c =
    let len : length c.self.inside.entries.items ≡ length c.args.self.now = ap length c.self.view_is in
    found_here (λ pair. pair.0) c.args.key c.place_of-at.result c.args.self.now c.index.result.now c.place_of-at.ensures.ordered c.place_of-at.ensures.place (omega arith) (rw c.self.view_is at c.index.ensures) c.if-index-key.false

same : (g : _) (c : goal.After-self-1 g) → c.index_mut.result.now ≡ c.index.result.now
same g c =
    let len : length c.self.inside.entries.items ≡ length c.args.self.now = ap length c.self.view_is in
    same_read c.self.inside.entries.items c.place_of-at.result c.index_mut.result.now c.index.result.now (omega arith) c.index_mut.ensures.value c.index.ensures

sets : (g : _) (c : goal.After-self-1 g) → set c.self.inside.entries.items c.place_of-at.result (c.index_mut.result.now.0, c.replace.new.dest) ≡ with_row_at (λ pair. pair.0) c.args.key (c.args.key, c.args.value) c.args.self.now
sets g c =
    let len : length c.self.inside.entries.items ≡ length c.args.self.now = ap length c.self.view_is in
    let new = pair_is c.index_mut.result.now.0 c.args.key c.replace.new.dest c.args.value (ap (λ pair. pair.0) (same g c) ∙ c.if-index-key.false) c.replace.ensures.after in
    ap (λ pairs. set pairs c.place_of-at.result (c.index_mut.result.now.0, c.replace.new.dest)) c.self.view_is
    ∙ ap (λ pair. set c.args.self.now c.place_of-at.result pair) new
    ∙ sets_here (λ pair. pair.0) c.args.key c.place_of-at.result c.args.self.now c.index.result.now (c.args.key, c.args.value) c.place_of-at.ensures.ordered c.place_of-at.ensures.place (omega arith) (rw c.self.view_is at c.index.ensures) c.if-index-key.false

pub invariant_of-self : goal.invariant_of-self
invariant_of-self g c = subst (λ pairs. IsOrderedBy (λ pair. pair.0) pairs) (sym (sets g c)) (ordered-with_row_at (λ pair. pair.0) c.args.key (c.args.key, c.args.value) c.args.self.now refl c.place_of-at.ensures.ordered)

pub returns-clause-value : goal.returns-clause-value
returns-clause-value g c = rw (found g c) (ap Ok (c.replace.ensures.value ∙ ap (λ pair. pair.1) (same g c)))

pub returns-clause-rows : goal.returns-clause-rows
returns-clause-rows g c = sets g c
