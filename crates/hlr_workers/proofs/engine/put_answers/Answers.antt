use Rattle.hlr_workers.proofs.Common.{◌∙◌, sym}
use Rattle.hlr_workers.proofs.StandingLemmas.{put_last}
use Rattle.hlr_workers.proofs.engine.put_answers.Goals as goal

pub loop-answer-preserved : goal.loop-answer-preserved
loop-answer-preserved c =
    let was = c.loop-answer.invariant in
    record {
      filled = rw c.put.ensures.items (sym (put_last c.loop-answer.replies.items c.pop.new.self.items c.in-Some.answer) ∙ rw c.in-Some.ensures.items at was.filled);
      capacity = c.put.ensures.capacity ∙ was.capacity;
      room = c.in-Some.ensures.capacity ∙ was.room;
    }
