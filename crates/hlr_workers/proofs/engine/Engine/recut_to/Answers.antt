use Rattle.hlr_workers.proofs.Common.{inl, inr}
use Rattle.hlr_workers.proofs.EngineLemmas.{cut_after, no_more, none_yet}
use Rattle.hlr_workers.proofs.engine.Engine.recut_to.Goals as goal

pub invariant_of-self : goal.invariant_of-self
invariant_of-self g c =
    let b = c.bring_sides_home in
    let old = c.self.inside.replies.items in (
      (cut_after _ _ _ _ b.ensures.brought c.recut_to.new.self c.recut_to.ensures.homes c.recut_to.ensures.jobs c.args.bounds.now c.recut_to.result c.recut_to.ensures.recut).0,
      λ none. rw c.recut_to.ensures.homes.outs (b.ensures.still (c.self.invariant.1 (no_more old b.new.replies.items b.ensures.brought.places none))),
      elim c.self.invariant.2 [
        | inl none ↦ inl (none_yet old b.new.replies.items b.ensures.brought.places none)
        | inr room ↦ inr (rw b.ensures.brought.capacity room)
      ],
    )

pub returns-clause-took : goal.returns-clause-took
returns-clause-took g c =
    let b = c.bring_sides_home in
    rw (← c.self.view_is)
    (cut_after _ _ _ _ b.ensures.brought c.recut_to.new.self c.recut_to.ensures.homes c.recut_to.ensures.jobs c.args.bounds.now c.recut_to.result c.recut_to.ensures.recut).1
