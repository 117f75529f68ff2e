use Rattle.group_tree.proofs.Common.{◌≡◌, ◌∙◌, ap, base_of, ok_or, Some, None}
use Rattle.group_tree.proofs.TreeLemmas.{absent_replaced, its_rules, its_value, none_replaced, none_there, replaced_are, replaced_there}
use Rattle.group_tree.proofs.tree.GroupTree.replace.Goals as goal

pub returns-in_default-clause-rows : goal.returns-in_default-clause-rows
returns-in_default-clause-rows g c =
    let at : c.base-base.result ≡ base_of g.G.Group.span (g.R.Row.row_key c.args.row) = c.base-base.ensures ∙ ap (base_of g.G.Group.span) c.key.ensures.value in
    let missing = c.in_default.ensures ∙ c.get.ensures in
    rw (← c.self.view_is) (ap (λ rows. record { height = c.self.inside.groups.height; rows = rows }) (none_replaced g.met.G.Group.laws c.self.invariant (g.R.Row.row_key c.args.row) at missing c.args.row))

pub returns-in_default-clause-value : goal.returns-in_default-clause-value
returns-in_default-clause-value g c =
    let at : c.base-base.result ≡ base_of g.G.Group.span (g.R.Row.row_key c.args.row) = c.base-base.ensures ∙ ap (base_of g.G.Group.span) c.key.ensures.value in
    let missing = c.in_default.ensures ∙ c.get.ensures in
    rw (← c.self.view_is) (ap (λ o. ok_or o c.args.row) (none_there g.met.G.Group.laws c.self.invariant (g.R.Row.row_key c.args.row) at missing))

pub replace-requires : goal.replace-requires
replace-requires g c =
    let at : c.base-base.result ≡ base_of g.G.Group.span (g.R.Row.row_key c.args.row) = c.base-base.ensures ∙ ap (base_of g.G.Group.span) c.key.ensures.value in
    let found = c.in-Some.ensures ∙ c.get.ensures in
    its_rules g.met.G.Group.laws c.self.invariant (g.R.Row.row_key c.args.row) at c.in-Some.group found

pub invariant_of-self : goal.invariant_of-self
invariant_of-self g c =
    let at : c.base-base.result ≡ base_of g.G.Group.span (g.R.Row.row_key c.args.row) = c.base-base.ensures ∙ ap (base_of g.G.Group.span) c.key.ensures.value in
    let found = c.in-Some.ensures ∙ c.get.ensures in
    rw c.replace-in-Some-replace.ensures.rows (replaced_are g.met.G.Group.laws c.self.invariant (g.R.Row.row_key c.args.row) at c.in-Some.group found c.replace.new.self c.args.row c.replace.ensures.rows.rows c.replace.ensures.rules)

pub returns-in-Some-replace-clause-rows : goal.returns-in-Some-replace-clause-rows
returns-in-Some-replace-clause-rows g c =
    let at : c.base-base.result ≡ base_of g.G.Group.span (g.R.Row.row_key c.args.row) = c.base-base.ensures ∙ ap (base_of g.G.Group.span) c.key.ensures.value in
    let found = c.in-Some.ensures ∙ c.get.ensures in
    rw (← c.self.view_is, c.replace-in-Some-replace.ensures.rows) (ap (λ rows. record { height = c.self.inside.groups.height; rows = rows }) (replaced_there g.met.G.Group.laws c.self.invariant (g.R.Row.row_key c.args.row) at c.in-Some.group found c.replace.new.self c.args.row c.replace.ensures.rows.rows))

pub returns-in-Some-replace-clause-value : goal.returns-in-Some-replace-clause-value
returns-in-Some-replace-clause-value g c =
    let at : c.base-base.result ≡ base_of g.G.Group.span (g.R.Row.row_key c.args.row) = c.base-base.ensures ∙ ap (base_of g.G.Group.span) c.key.ensures.value in
    let found = c.in-Some.ensures ∙ c.get.ensures in
    rw (← c.self.view_is) (ap (λ o. ok_or o c.args.row) (its_value g.met.G.Group.laws c.self.invariant (g.R.Row.row_key c.args.row) at c.in-Some.group found (Some c.in-Some-replace.old) c.in-Some-replace.ensures.rows.value))

pub returns-in-None-clause-rows : goal.returns-in-None-clause-rows
returns-in-None-clause-rows g c =
    let at : c.base-base.result ≡ base_of g.G.Group.span (g.R.Row.row_key c.args.row) = c.base-base.ensures ∙ ap (base_of g.G.Group.span) c.key.ensures.value in
    let found = c.in-Some.ensures ∙ c.get.ensures in
    rw (← c.self.view_is) (ap (λ rows. record { height = c.self.inside.groups.height; rows = rows }) (absent_replaced g.met.G.Group.laws c.self.invariant (g.R.Row.row_key c.args.row) at c.in-Some.group found c.in-None.ensures.rows.value c.args.row))

pub returns-in-None-clause-value : goal.returns-in-None-clause-value
returns-in-None-clause-value g c =
    let at : c.base-base.result ≡ base_of g.G.Group.span (g.R.Row.row_key c.args.row) = c.base-base.ensures ∙ ap (base_of g.G.Group.span) c.key.ensures.value in
    let found = c.in-Some.ensures ∙ c.get.ensures in
    rw (← c.self.view_is) (ap (λ o. ok_or o c.args.row) (its_value g.met.G.Group.laws c.self.invariant (g.R.Row.row_key c.args.row) at c.in-Some.group found None c.in-None.ensures.rows.value))
