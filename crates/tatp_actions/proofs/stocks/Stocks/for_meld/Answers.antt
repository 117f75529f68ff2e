use Rattle.tatp_actions.proofs.Common.{ℕ, ◌≡◌, IsForMeld}
use Rattle.tatp_actions.proofs.CutTablesLemmas.{heights_are}
use Rattle.tatp_actions.proofs.stocks.Stocks.for_meld.Goals as goal

-- what was taken is enough for trees of the heights that were asked
enough : (a b asked other stock : ℕ) → asked ≡ a → other ≡ b → IsForMeld asked other stock → IsForMeld a b stock
enough a b asked other stock is other_is taken = rw (← is, ← other_is) taken

pub returns-clause-stocks : goal.returns-clause-stocks
returns-clause-stocks c = record {
  subscribers = enough _ _ _ _ _ c.height.ensures.value c.height-2.ensures.value c.in_ok-meld_stock.ensures;
  access = enough _ _ _ _ _ c.height-3.ensures.value c.height-4.ensures.value c.in_ok-meld_stock-2.ensures;
  facilities = enough _ _ _ _ _ c.height-5.ensures.value c.height-6.ensures.value c.in_ok-meld_stock-3.ensures;
  forwardings = enough _ _ _ _ _ c.height-7.ensures.value c.height-8.ensures.value c.in_ok-meld_stock-4.ensures;
}

pub returns-clause-heights : goal.returns-clause-heights
returns-clause-heights c =
    heights_are c.args.rows.now (rw c.height.ensures.value at c.height.ensures.bounds) (rw c.height-3.ensures.value at c.height-3.ensures.bounds)
    (rw c.height-5.ensures.value at c.height-5.ensures.bounds) (rw c.height-7.ensures.value at c.height-7.ensures.bounds)

pub returns-clause-other_heights : goal.returns-clause-other_heights
returns-clause-other_heights c =
    heights_are c.args.other.now (rw c.height-2.ensures.value at c.height-2.ensures.bounds) (rw c.height-4.ensures.value at c.height-4.ensures.bounds)
    (rw c.height-6.ensures.value at c.height-6.ensures.bounds) (rw c.height-8.ensures.value at c.height-8.ensures.bounds)
