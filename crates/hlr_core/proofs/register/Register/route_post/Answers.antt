use Rattle.hlr_core.proofs.Common.{◌∙◌, ◌≤◌, ◌<◌, length, parts_of}
use Rattle.hlr_core.proofs.RouteLemmas.{post_nowhere, post_to}
use Rattle.hlr_core.proofs.register.Register.route_post.Goals as goal

pub returns-then-part-from : goal.returns-then-part-from
returns-then-part-from c =
    let count = c.from.ensures ∙ c.parts.ensures.value in
    let past : length (parts_of c.self.inside.owners.regions) ≤ c.args.part = rw (← c.regions.ensures.value, ← count) c.if-part-from.true in
    rw (← c.self.view_is) (post_nowhere c.self.inside.owners c.rules.ensures.ruled c.args.part c.args.limit past)

pub returns : goal.returns
returns c =
    let count = c.from.ensures ∙ c.parts.ensures.value in
    let low : c.args.part < length (parts_of c.self.inside.owners.regions) = rw (← c.regions.ensures.value, ← count) c.if-part-from.false in
    rw (← c.self.view_is) (post_to c.self.inside.owners c.rules.ensures.ruled _ c.rules.ensures.desks c.args.part c.args.limit low)
