use Rattle.group_tree.proofs.Common.{◌≡◌, ◌∙◌, ap, base_of, rows_beside, rows_of, []}
use Rattle.group_tree.proofs.TreeLemmas.{few_of_rows, first_answer, first_are, its_rules, memory_of_rows, none_beside, of_refusal, put_answer, put_are, put_refused}
use Rattle.group_tree.proofs.tree.GroupTree.insert.Goals.{in-Ok, in-Err}
use Rattle.group_tree.proofs.tree.GroupTree.insert.Goals as goal

pub invariant_of-self : goal.invariant_of-self
invariant_of-self g c =
    let at : c.base-base.result ≡ base_of g.G.Group.span (g.R.Row.row_key c.args.row) = c.base-base.ensures ∙ ap (base_of g.G.Group.span) c.key.ensures.value in
    let missing = c.in_default.ensures ∙ c.get.ensures in
    first_are g.met.G.Group.laws c.self.invariant (g.R.Row.row_key c.args.row) at missing c.of.result c.args.row c.of.ensures.rows c.of.ensures.rules c.insert.result c.insert.new.self.rows c.insert.ensures.answer

pub returns-in_default-clause-answer : goal.returns-in_default-clause-answer
returns-in_default-clause-answer g c =
    let at : c.base-base.result ≡ base_of g.G.Group.span (g.R.Row.row_key c.args.row) = c.base-base.ensures ∙ ap (base_of g.G.Group.span) c.key.ensures.value in
    let missing = c.in_default.ensures ∙ c.get.ensures in
    rw (← c.self.view_is) (elim c.match-insert.branch [
      | in-Ok w ↦ first_answer g.met.G.Group.laws c.self.invariant (g.R.Row.row_key c.args.row) at missing c.of.result c.args.row c.of.ensures.rows c.insert.result c.insert.new.self.rows c.match-insert.result c.insert.ensures.answer (rw w.in-Ok.is w.result-is)
      | in-Err w ↦ first_answer g.met.G.Group.laws c.self.invariant (g.R.Row.row_key c.args.row) at missing c.of.result c.args.row c.of.ensures.rows c.insert.result c.insert.new.self.rows c.match-insert.result c.insert.ensures.answer (rw w.in-Err.is w.result-is)
    ])

pub insert-requires-2 : goal.insert-requires-2
insert-requires-2 g c =
    let at : c.base-base.result ≡ base_of g.G.Group.span (g.R.Row.row_key c.args.row) = c.base-base.ensures ∙ ap (base_of g.G.Group.span) c.key.ensures.value in
    let found = c.in-Some.ensures ∙ c.get.ensures in
    its_rules g.met.G.Group.laws c.self.invariant (g.R.Row.row_key c.args.row) at c.in-Some.group found

pub invariant_of-self-then-insert : goal.invariant_of-self-then-insert
invariant_of-self-then-insert g c =
    let at : c.base-base.result ≡ base_of g.G.Group.span (g.R.Row.row_key c.args.row) = c.base-base.ensures ∙ ap (base_of g.G.Group.span) c.key.ensures.value in
    let found = c.in-Some.ensures ∙ c.get.ensures in
    let put = rw c.if-insert.true at c.insert-2.ensures.rows in
    rw c.replace.ensures.rows (put_are g.met.G.Group.laws c.self.invariant (g.R.Row.row_key c.args.row) at c.in-Some.group found c.insert-2.new.self c.args.row put.1 c.insert-2.ensures.rules)

pub returns-then-insert-clause-answer : goal.returns-then-insert-clause-answer
returns-then-insert-clause-answer g c =
    let at : c.base-base.result ≡ base_of g.G.Group.span (g.R.Row.row_key c.args.row) = c.base-base.ensures ∙ ap (base_of g.G.Group.span) c.key.ensures.value in
    let found = c.in-Some.ensures ∙ c.get.ensures in
    let put = rw c.if-insert.true at c.insert-2.ensures.rows in
    rw (← c.self.view_is, c.replace.ensures.rows) (put_answer g.met.G.Group.laws c.self.invariant (g.R.Row.row_key c.args.row) at c.in-Some.group found c.insert-2.new.self c.args.row put.0 put.1)

pub returns-clause-answer : goal.returns-clause-answer
returns-clause-answer g c =
    let at : c.base-base.result ≡ base_of g.G.Group.span (g.R.Row.row_key c.args.row) = c.base-base.ensures ∙ ap (base_of g.G.Group.span) c.key.ensures.value in
    let found = c.in-Some.ensures ∙ c.get.ensures in
    let there = rw c.if-insert.false at c.insert-2.ensures.rows in
    rw (← c.self.view_is) (put_refused g.met.G.Group.laws c.self.invariant (g.R.Row.row_key c.args.row) at c.in-Some.group found c.args.row there.0)

pub returns-in_default-clause-first : goal.returns-in_default-clause-first
returns-in_default-clause-first g c =
    let at : c.base-base.result ≡ base_of g.G.Group.span (g.R.Row.row_key c.args.row) = c.base-base.ensures ∙ ap (base_of g.G.Group.span) c.key.ensures.value in
    let missing = c.in_default.ensures ∙ c.get.ensures in
    rw (← c.self.view_is) (of_refusal (rows_beside g.G.Group.span (g.R.Row.row_key c.args.row) (rows_of g.G.Group.listed c.self.inside.groups.rows) ≡ []) c.match-insert.result (none_beside g.met.G.Group.laws c.self.invariant (g.R.Row.row_key c.args.row) at missing))

pub returns-in_default-clause-memory : goal.returns-in_default-clause-memory
returns-in_default-clause-memory g c =
    rw (← c.self.view_is) (elim c.match-insert.branch [
      | in-Ok w ↦ memory_of_rows g.met.G.Group.laws c.self.inside.groups.rows c.self.invariant c.insert.result c.args.row c.match-insert.result c.insert.ensures.memory (rw w.in-Ok.is w.result-is)
      | in-Err w ↦ memory_of_rows g.met.G.Group.laws c.self.inside.groups.rows c.self.invariant c.insert.result c.args.row c.match-insert.result c.insert.ensures.memory (rw w.in-Err.is w.result-is)
    ])

pub returns-in_default-clause-height : goal.returns-in_default-clause-height
returns-in_default-clause-height g c =
    rw (← c.self.view_is) (λ few. c.insert.ensures.height (few_of_rows g.met.G.Group.laws c.self.inside.groups.rows c.self.invariant few))
