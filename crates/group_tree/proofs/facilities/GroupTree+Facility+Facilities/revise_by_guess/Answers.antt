use Rattle.group_tree.proofs.Common.{arith, ◌≡◌, ◌∙◌, refl, sym, ap, is_some, None, IfSome, value_at, rows_of, facilities_listed, facility_key, facility_in_range, row_made, subst, true}
use Rattle.group_tree.proofs.FacilityChangeLemmas.{changed_are, changed_rows, made_is, made_none, made_some, none_are, none_rows, now_is, same_reference, same_tree}
use Rattle.group_tree.proofs.facilities.GroupTree+Facility+Facilities.revise_by_guess.Goals.{Joined-within, in-Some, in-None}
use Rattle.group_tree.proofs.facilities.GroupTree+Facility+Facilities.revise_by_guess.Goals as goal

-- the row that is there keeps its key
keeps : (g : _) (c : Joined-within g) → IfSome (value_at c.args.key (rows_of facilities_listed c.self.inside.groups.rows)) (λ row. facility_key (g.E.Revise.revised c.args.revision.now row) ≡ c.args.key)
keeps g c = rw (← c.self.view_is) at c.requires

-- the row that was made of it
made : (g : _) (c : Joined-within g) → c.revise_by_guess.new.revision.made ≡ row_made (g.E.Revise.revised c.args.revision.now) None (value_at c.args.key (rows_of facilities_listed c.self.inside.groups.rows))
made g c = made_is c.self.inside.groups.rows c.self.invariant c.args.key g.E.Revise.spent g.E.Revise.revised _ c.revise_by_guess.new.revision refl refl c.base.ensures c.revise_by_guess.ensures.spent

pub invariant_of-self : goal.invariant_of-self
invariant_of-self g c = elim c.match-within.branch [
  | in-Some w ↦
      let made = made_some (g.E.Revise.revised c.args.revision.now) (value_at c.args.key (rows_of facilities_listed c.self.inside.groups.rows)) w.in-Some.row (sym w.in-Some.is ∙ made g c) in
      changed_are c.self.inside.groups.rows c.self.invariant c.args.key (g.E.Revise.revised c.args.revision.now) (keeps g c) c.revise_by_guess.new.self.rows c.base.ensures (ap (λ s. s.rows) c.revise_by_guess.ensures.rows) made.0 made.1 (subst (λ row. facility_in_range row ≡ true) made.2 w.s_id-s_id.ensures.in_range)
  | in-None w ↦
      none_are c.self.inside.groups.rows c.self.invariant c.args.key (g.E.Revise.revised c.args.revision.now) (keeps g c) c.revise_by_guess.new.self.rows c.base.ensures (ap (λ s. s.rows) c.revise_by_guess.ensures.rows)
      (made_none (g.E.Revise.revised c.args.revision.now) _ (sym w.in-None.is ∙ made g c))
]

pub returns-clause-rows : goal.returns-clause-rows
returns-clause-rows g c = rw (← c.self.view_is) (elim c.match-within.branch [
  | in-Some w ↦
      let made = made_some (g.E.Revise.revised c.args.revision.now) (value_at c.args.key (rows_of facilities_listed c.self.inside.groups.rows)) w.in-Some.row (sym w.in-Some.is ∙ made g c) in
      let changed = changed_rows c.self.inside.groups.rows c.self.invariant c.args.key (g.E.Revise.revised c.args.revision.now) (keeps g c) c.revise_by_guess.new.self.rows c.base.ensures (ap (λ s. s.rows) c.revise_by_guess.ensures.rows) made.0 made.1 (subst (λ row. facility_in_range row ≡ true) made.2 w.s_id-s_id.ensures.in_range) in same_tree (ap (λ s. s.height) c.revise_by_guess.ensures.rows) changed
  | in-None w ↦
      let same = none_rows c.self.inside.groups.rows c.self.invariant c.args.key (g.E.Revise.revised c.args.revision.now) (keeps g c) c.revise_by_guess.new.self.rows c.base.ensures (ap (λ s. s.rows) c.revise_by_guess.ensures.rows)
      (made_none (g.E.Revise.revised c.args.revision.now) _ (sym w.in-None.is ∙ made g c)) in same_tree (ap (λ s. s.height) c.revise_by_guess.ensures.rows) same
])

pub returns-clause-spent : goal.returns-clause-spent
returns-clause-spent g c =
    let same = same_reference c.self.inside.groups.rows c.self.invariant c.args.key g.E.Revise.spent g.E.Revise.revised _ c.revise_by_guess.new.revision refl refl c.base.ensures c.revise_by_guess.ensures.spent in
    let now = now_is c.self.inside.groups.rows c.self.invariant c.args.key g.E.Revise.spent g.E.Revise.revised _ c.revise_by_guess.new.revision refl refl c.base.ensures c.revise_by_guess.ensures.spent in
    rw (← c.self.view_is) (elim c.match-within.branch [
      | in-Some w ↦ let is = w.revision-is in grind (arith, w.in-Some)
      | in-None w ↦ let is = w.revision-is in grind (arith, w.in-None)
    ])

pub returns-clause-found : goal.returns-clause-found
returns-clause-found g c = rw (← c.self.view_is) (elim c.match-within.branch [
  | in-Some w ↦
      let made = made_some (g.E.Revise.revised c.args.revision.now) (value_at c.args.key (rows_of facilities_listed c.self.inside.groups.rows)) w.in-Some.row (sym w.in-Some.is ∙ made g c) in
      w.result-is ∙ sym (ap is_some made.1)
  | in-None w ↦ w.result-is ∙ sym (ap is_some (made_none (g.E.Revise.revised c.args.revision.now) _ (sym w.in-None.is ∙ made g c)))
])
