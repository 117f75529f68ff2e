use Rattle.tatp_actions.proofs.Common.{◌≡◌, ℕ, ◌<◌, arith, blanks_for_slice, IsForSlice}
use Rattle.tatp_actions.proofs.CutTablesLemmas.{heights_are}
use Rattle.tatp_actions.proofs.stocks.Stocks.for_slice.Goals as goal

-- what was taken is enough for a tree of the height that was asked
enough : (height asked stock : ℕ) → asked ≡ height → asked < 16 → stock ≡ blanks_for_slice asked → IsForSlice height stock
enough height asked stock is low taken = rw (← is) (record { low = low; enough = omega (arith, taken) })

pub returns-clause-stocks : goal.returns-clause-stocks
returns-clause-stocks c = record {
  subscribers = enough _ _ _ c.height.ensures.value c.height.ensures.low c.in_ok-stock_for_slice.ensures;
  access = enough _ _ _ c.height-2.ensures.value c.height-2.ensures.low c.in_ok-stock_for_slice-2.ensures;
  facilities = enough _ _ _ c.height-3.ensures.value c.height-3.ensures.low c.in_ok-stock_for_slice-3.ensures;
  forwardings = enough _ _ _ c.height-4.ensures.value c.height-4.ensures.low c.in_ok-stock_for_slice-4.ensures;
}

pub returns-clause-heights : goal.returns-clause-heights
returns-clause-heights c =
    heights_are c.args.rows.now (rw c.height.ensures.value at c.height.ensures.bounds) (rw c.height-2.ensures.value at c.height-2.ensures.bounds)
    (rw c.height-3.ensures.value at c.height-3.ensures.bounds) (rw c.height-4.ensures.value at c.height-4.ensures.bounds)
