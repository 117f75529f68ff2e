use Rattle.hlr.proofs.Common.{◌≤◌, length, fields_of, MOST_BOUNDS}
use Rattle.hlr.proofs.RecordFacts.{AreReadFrom}
use Rattle.hlr.proofs.records.read_bounds.Given as goal

abbrev pub invariant-loop-i : goal.invariant-loop-i
invariant-loop-i l = record {
  few : length l.bounds.items ≤ MOST_BOUNDS;
  read : AreReadFrom (fields_of l.row) l.i l.bounds.items;
}
