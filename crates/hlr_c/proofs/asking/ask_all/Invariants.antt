use Rattle.hlr_c.proofs.Common.{length, ◌-◌, ◌≤◌, IsAnsweredTo}
use Rattle.hlr_c.proofs.asking.ask_all.Given as goal

abbrev pub invariant-loop-from : goal.invariant-loop-from
invariant-loop-from g l = record {
  within : l.from ≤ length l.asked;
  answered : IsAnsweredTo (λ question row found. g.Q.Question.is_read question row l.of found l.of) l.asked l.initial.rows (l.rows, l.codes) l.from;
}

abbrev pub decreases-loop-from : goal.decreases-loop-from
decreases-loop-from g l = length l.asked - l.from
