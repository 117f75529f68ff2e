use Rattle.hlr_core.proofs.Common.{ap, Store}
use Rattle.hlr_core.proofs.GatheredRowsLemmas.{gathered_index}
use Rattle.hlr_core.proofs.register.Register.gather.Goals as goal

pub invariant_of-result : goal.invariant_of-result
invariant_of-result c =
    let index = gathered_index c.args.scattered _ c.in-Ok.ensures.indexed in
    let book = ap (λ (s : Store). s.book.subscribers) c.gathered.ensures.store in
    record {
      rows = c.gathered.ensures.rows;
      alone = rw book index.0;
      index = rw book index.1;
    }
