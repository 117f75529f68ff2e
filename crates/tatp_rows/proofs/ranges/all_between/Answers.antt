-- The loop of `all` stops at the first value that is out of the range, as `list_all` does.
use Rattle.tatp_rows.proofs.Common.{◌↔◌, ◌≤◌, IsTrue, get_or, rules, EachIndex}
use Rattle.tatp_rows.proofs.RowLemmas.{are_from_each}
use Rattle.tatp_rows.proofs.ranges.all_between.Goals as goal

pub returns : goal.returns
returns g c =
    let low = c.args.low in
    let high = c.args.high in
    let each : IsTrue c.all.result ↔ EachIndex c.args.values.now (λ k. (low ≤ get_or c.args.values.now k 0) × (get_or c.args.values.now k 0 ≤ high)) = search rules in
    are_from_each g.row.N low high c.args.values.now c.all.result each c.told-values
