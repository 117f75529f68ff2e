use Rattle.std.proofs.Common.{◌∙◌, refl, sym}
use Rattle.hlr_owners.proofs.MayGatherLemmas.{first_board, two_back}
use Rattle.register_tests.proofs.gather_tests.post_first.Goals as goal

pub post_in_thread-first-requires-after_bounds : goal.post_in_thread-first-requires-after_bounds
post_in_thread-first-requires-after_bounds g c κs within =
    first_board _ _ c.args.scattered.now.holdings.items _ _ _ _ c.in-Some.ensures.items c.in-Some-pop.ensures.items c.requires ∙ sym c.deref.ensures

pub returns : goal.returns
returns g c =
    rw (c.push_reserved-2.ensures.items, c.push_reserved.ensures.items)
    (two_back _ _ c.args.scattered.now.holdings.items _ _ _ _ c.in-Some.ensures.items c.in-Some-pop.ensures.items c.requires _ _
    (record { board = c.post_in_thread-first.ensures.board; owned = c.post_in_thread-first.ensures.slots }) (record { board = refl; owned = refl }))
