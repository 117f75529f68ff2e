use Rattle.std.proofs.Common.{◌^◌, ◌-◌, ◌≤◌}
use Rattle.journal.specs.Inside.{IsFollowed}
use Rattle.journal.proofs.reading.replay.Given as goal

abbrev pub invariant-loop-follower : goal.invariant-loop-follower
invariant-loop-follower g l = record {
  ready : g.M.Machine.IsReady l.machine;
  same : g.U.Unread.IsReadOn l.fn.unread l.unread;
  faults : g.U.Unread.faults l.fn.unread ≤ g.U.Unread.faults l.unread;
  followed : IsFollowed g.M.Machine.moves g.M.Machine.too_long (g.U.Unread.read l.unread) l.fn.machine l.machine l.follower;
}

abbrev pub decreases-loop-follower : goal.decreases-loop-follower
decreases-loop-follower g l = 2 ^ 62 - l.follower.ends.len
