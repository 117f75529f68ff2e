use Rattle.std.proofs.Common.{◌≡◌, ◌≤◌, ◌+◌, ◌-◌, ◌++◌, List, ℕ, length, take}
use Rattle.journal.specs.Inside.{IsFollowed}
use Rattle.journal.proofs.follower.Follower.follow.Given as goal

abbrev pub invariant-loop-at : goal.invariant-loop-at
invariant-loop-at g l = record {
  ready : g.M.Machine.IsReady l.machine;
  order : l.self.ends.text ≤ l.self.ends.len;
  within : l.at ≤ length l.piece;
  count : l.self.ends.len ≡ l.fn.self.ends.len + l.at;
  follows : (bytes : List ℕ) (first : g.row.M.Denot) → IsFollowed g.M.Machine.moves g.M.Machine.too_long bytes first l.fn.machine l.fn.self
      → IsFollowed g.M.Machine.moves g.M.Machine.too_long (bytes ++ take l.at l.piece) first l.machine l.self;
}

abbrev pub decreases-loop-at : goal.decreases-loop-at
decreases-loop-at g l = length l.piece - l.at
