use Rattle.hlr_kept.proofs.UnderWayLemmas.{compacted}
use Rattle.hlr_kept.proofs.journaled.Journaled.compact.Goals as goal

pub returns-clause-any_moment : goal.returns-clause-any_moment
returns-clause-any_moment g c = λ stored orders answers under.
    compacted g.D.Device.moment g.D.Device.left_since stored orders answers _ _ _ _ _ _ under.ahead c.sync.ensures.register
    (c.sync.ensures.any_moment stored orders answers under) c.give_way.ensures.any_moment
