use Rattle.hlr_c.proofs.ManyLemmas.{AreAnsweredFrom}
use Rattle.hlr_c.proofs.asking.ask_each.Given as goal

abbrev pub invariant-loop-at : goal.invariant-loop-at
invariant-loop-at g l = AreAnsweredFrom (λ question row found. g.Q.Question.is_read question row l.of found l.of) l.asked l.from (l.initial.rows, l.initial.codes) l.at l.to (l.rows, l.codes)
