use Rattle.mr_node.proofs.Common.{◌≡◌, ◌-◌, Bool, true, false, if◌then◌else◌, refl, ap, ◌∙◌}
use mir.Val.{bool_byte}
use Rattle.mr_node.proofs.node.note_gone.Goals as goal

one_if : (gone : Bool) → bool_byte gone ≡ (if gone then 1 else 0)
one_if true = refl
one_if false = refl

pub returns-clause-count : goal.returns-clause-count
returns-clause-count g c = c.saturating_sub-child.ensures ∙ ap (λ n. c.args.child.now.count - n) (c.from.ensures ∙ one_if c.args.is_gone)
