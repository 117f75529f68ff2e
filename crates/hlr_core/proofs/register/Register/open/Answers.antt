use Rattle.hlr_core.proofs.Common.{◌≡◌, ap, subst, List, ℕ, store_in, Store, opening_from, zeros_are, zeros_opening, IfOk}
use Rattle.hlr_core.proofs.register.Register.open.Goals as goal

pub returns-clause-ok : goal.returns-clause-ok
returns-clause-ok c =
    subst (λ (store : Store). IfOk c.open_from.result (λ register. store_in register ≡ store)) (ap (λ (words : List ℕ). opening_from c.args.parts c.args.width words) zeros_are) c.open_from.ensures.ok

pub returns-clause-field : goal.returns-clause-field
returns-clause-field c = (λ field can. c.open_from.ensures.field.0 field (can, zeros_opening), λ none. c.open_from.ensures.field.1 (λ both. none both.0))
