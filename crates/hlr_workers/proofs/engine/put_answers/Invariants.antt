use Rattle.hlr_workers.proofs.Common.{◌≡◌, vec_capacity, put_answers}
use Rattle.hlr_workers.proofs.engine.put_answers.Given as goal

abbrev pub invariant-loop-answer : goal.invariant-loop-answer
invariant-loop-answer l = record {
  filled : put_answers l.replies.items l.answers.items ≡ put_answers l.initial.replies.items l.initial.answers.items;
  capacity : vec_capacity l.replies ≡ vec_capacity l.initial.replies;
  room : vec_capacity l.answers ≡ vec_capacity l.initial.answers;
}

abbrev pub decreases-loop-answer : goal.decreases-loop-answer
decreases-loop-answer l = goal.left-loop-answer l
