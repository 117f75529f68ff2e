use Rattle.std.proofs.Common.{length, ◌-◌}
use Rattle.journal_file.proofs.noted.write_all.Given as goal

abbrev pub decreases-loop-done : goal.decreases-loop-done
decreases-loop-done g l = length l.bytes - l.done
