use Rattle.std.proofs.Common.{◌∙◌, sym}
use Rattle.hlr_owners.proofs.MayGatherLemmas.{first_board, second_board, two_turned, looked_may}
use Rattle.register_tests.proofs.gather_tests.two_work.Goals as goal

pub side_by_side-low-requires-after_bounds : goal.side_by_side-low-requires-after_bounds
side_by_side-low-requires-after_bounds g c κs within = (
  first_board _ _ c.args.scattered.holdings.items _ _ _ _ c.in-Some.ensures.items c.in-Some-pop.ensures.items c.requires ∙ sym c.deref.ensures,
  second_board _ _ c.args.scattered.holdings.items _ _ _ _ c.in-Some.ensures.items c.in-Some-pop.ensures.items c.requires ∙ sym c.deref.ensures,
  c.requires.same.0 ∙ sym c.deref.ensures,
)

pub returns : goal.returns
returns g c =
    rw (c.side_by_side-low.ensures.desk, c.push_reserved-2.ensures.items, c.push_reserved.ensures.items)
    (looked_may _ _ _ _ (two_turned _ _ c.args.scattered.holdings.items _ _ _ _ c.in-Some.ensures.items c.in-Some-pop.ensures.items c.requires _ _
    (record { board = c.side_by_side-low.ensures.low.0; owned = c.side_by_side-low.ensures.low.1 })
    (record { board = c.side_by_side-low.ensures.high.0; owned = c.side_by_side-low.ensures.high.1 })))
