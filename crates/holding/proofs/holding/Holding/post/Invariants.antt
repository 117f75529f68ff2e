use Rattle.holding.proofs.Common.{◌≡◌, ◌≤◌, ◌-◌, CELLS, count_of}
use Rattle.holding.proofs.PostLemmas.{IsPosting}
use Rattle.holding.proofs.holding.Holding.post.Given as goal

abbrev pub invariant-loop-cell : goal.invariant-loop-cell
invariant-loop-cell g l = record {
  part : l.self.part ≡ l.initial.self.part;
  slot : l.self.slot ≡ l.initial.self.slot;
  board : l.self.desk.board ≡ l.initial.self.desk.board;
  within : l.from ≤ CELLS;
  posting : IsPosting (count_of l.initial.self.part) l.initial.self.slot l.limit l.initial.self.desk.view l.from l.posted l.self.pending l.self.desk.view;
}

abbrev pub decreases-loop-cell : goal.decreases-loop-cell
decreases-loop-cell g l = CELLS - l.from
