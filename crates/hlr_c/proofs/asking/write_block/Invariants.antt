use Rattle.hlr_c.proofs.Common.{◌≤◌, AreWritten}
use Rattle.hlr_c.proofs.asking.write_block.Given as goal

abbrev pub invariant-loop-at : goal.invariant-loop-at
invariant-loop-at g l = record {
  reached : (l.from ≤ l.at) × (l.at ≤ l.to);
  written : AreWritten g.Q.Telling.told l.asked l.found l.from (l.initial.rows, l.initial.codes) (l.rows, l.codes) l.at;
}
