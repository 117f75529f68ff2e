use Rattle.hlr_core.proofs.BackLemmas.{lent_back}
use Rattle.register_tests.proofs.lent_tests.works_outside.Goals as goal

pub back-requires : goal.back-requires
back-requires c = lent_back _ _ _ c.lend-holding.result.value c.works-worked.new.holding c.lend-holding.ensures.lent (rw c.deref_mut.ensures.value at c.works-worked.ensures)
