use Rattle.tatp_actions.proofs.Common.{◌≡◌, ◌∙◌, refl, sym, ap, subst, length, arith, rules, None, insert, IsOrderedBy, row_at, with_row, ordered-with_row, absent_past, absent_here, found_here, inserts_here}
use Rattle.tatp_actions.proofs.table.Table.insert.Goals as goal
use Rattle.tatp_actions.proofs.table.Table.insert.Goals.{else-at-len-via-then-at-len+else-index-key, else-at-len-via-else-at-len, in-Ok, in-Err}

pub returns-then-index-key : goal.returns-then-index-key
returns-then-index-key g c = (
  refl,
  refl,
  (let len : length c.self.inside.entries.items ≡ length c.args.self.now = ap length c.self.view_is in
      let found = found_here (λ pair. pair.0) c.args.key c.place_of-at.result c.args.self.now c.index.result.now c.place_of-at.ensures.ordered c.place_of-at.ensures.place (omega arith) (rw c.self.view_is at c.index.ensures) c.if-index-key.true in
      rw found refl),
)

-- the key has no entry, where the call puts one in
absent : (g : _) (c : goal.Joined-insert g) → row_at (λ pair. pair.0) c.args.key c.args.self.now ≡ None
absent g c =
    let len : length c.self.inside.entries.items ≡ length c.args.self.now = ap length c.self.view_is in
    elim c.else-at-len.branch [
      | else-at-len-via-then-at-len+else-index-key w ↦
          absent_here (λ pair. pair.0) c.args.key c.place_of-at.result c.args.self.now w.index.result.now c.place_of-at.ensures.ordered c.place_of-at.ensures.place (rw c.self.view_is at w.index.ensures) w.if-index-key.false
      | else-at-len-via-else-at-len w ↦
          absent_past (λ pair. pair.0) c.args.key c.place_of-at.result c.args.self.now c.place_of-at.ensures.ordered c.place_of-at.ensures.place (omega arith)
    ]

inserts : (g : _) (c : goal.Joined-insert g) → insert c.self.inside.entries.items c.place_of-at.result (c.args.key, c.args.value) ≡ with_row (λ pair. pair.0) (c.args.key, c.args.value) c.args.self.now
inserts g c =
    ap (λ pairs. insert pairs c.place_of-at.result (c.args.key, c.args.value)) c.self.view_is
    ∙ inserts_here (λ pair. pair.0) (c.args.key, c.args.value) c.place_of-at.result c.args.self.now c.place_of-at.ensures.place (absent g c)

-- the same where there is no room for it
absent_full : (g : _) (c : goal.Then-len-self g) → row_at (λ pair. pair.0) c.args.key c.args.self.now ≡ None
absent_full g c =
    let len : length c.self.inside.entries.items ≡ length c.args.self.now = ap length c.self.view_is in
    elim c.else-at-len.branch [
      | else-at-len-via-then-at-len+else-index-key w ↦
          absent_here (λ pair. pair.0) c.args.key c.place_of-at.result c.args.self.now w.index.result.now c.place_of-at.ensures.ordered c.place_of-at.ensures.place (rw c.self.view_is at w.index.ensures) w.if-index-key.false
      | else-at-len-via-else-at-len w ↦
          absent_past (λ pair. pair.0) c.args.key c.place_of-at.result c.args.self.now c.place_of-at.ensures.ordered c.place_of-at.ensures.place (omega arith)
    ]

pub returns-then-len-self : goal.returns-then-len-self
returns-then-len-self g c = (refl, refl, rw (absent_full g c) refl)

pub invariant_of-self : goal.invariant_of-self
invariant_of-self g c = elim c.match-insert.branch [
  | in-Ok w ↦ subst (λ pairs. IsOrderedBy (λ pair. pair.0) pairs) (sym (w.in-Ok.ensures.items ∙ inserts g c)) (ordered-with_row (λ pair. pair.0) (c.args.key, c.args.value) c.args.self.now (absent g c) c.place_of-at.ensures.ordered)
  | in-Err w ↦ subst (λ pairs. IsOrderedBy (λ pair. pair.0) pairs) (sym w.in-Err.ensures.items) c.self.invariant
]

pub returns : goal.returns
returns g c = elim c.match-insert.branch [
  | in-Ok w ↦ rw w.result-is (absent g c, w.in-Ok.ensures.items ∙ inserts g c)
  | in-Err w ↦ rw w.result-is (search rules, w.in-Err.ensures.items ∙ c.self.view_is, rw (absent g c) refl)
]
