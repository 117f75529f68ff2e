use Rattle.std.proofs.Common.{◌∙◌, sym}
use Rattle.hlr_owners.proofs.MayGatherLemmas.{first_board, second_board, two_back}
use Rattle.hlr_example.proofs.owners_work.Goals as goal

pub work_side_by_side-low-requires-after_bounds : goal.work_side_by_side-low-requires-after_bounds
work_side_by_side-low-requires-after_bounds g c κs within = (
  first_board _ _ c.scatter-frame.result.holdings.items _ _ _ _ c.in-Some.ensures.items c.in-Some-pop.ensures.items c.scatter-frame.ensures.desks ∙ sym c.deref.ensures,
  second_board _ _ c.scatter-frame.result.holdings.items _ _ _ _ c.in-Some.ensures.items c.in-Some-pop.ensures.items c.scatter-frame.ensures.desks ∙ sym c.deref.ensures,
)

pub gather-requires : goal.gather-requires
gather-requires g c =
    rw (c.push_reserved-2.ensures.items, c.push_reserved.ensures.items)
    (two_back _ _ c.scatter-frame.result.holdings.items _ _ _ _ c.in-Some.ensures.items c.in-Some-pop.ensures.items c.scatter-frame.ensures.desks _ _
    (record { board = c.work_side_by_side-low.ensures.low.0; owned = c.work_side_by_side-low.ensures.low.1 })
    (record { board = c.work_side_by_side-low.ensures.high.0; owned = c.work_side_by_side-low.ensures.high.1 }))
