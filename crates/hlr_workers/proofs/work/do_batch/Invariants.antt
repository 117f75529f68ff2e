use Rattle.hlr_workers.proofs.Common.{◌≡◌, ◌+◌, length, map, take, vec_capacity, IsSameOwner, IsSessionMore, job_pair}
use Rattle.hlr_workers.proofs.work.do_batch.Given as goal

abbrev pub invariant-loop-one : goal.invariant-loop-one
invariant-loop-one g l = record {
  more : IsSessionMore (map job_pair (take l.one-index l.batch.items)) l.initial.replies.items l.initial.holding l.replies.items l.holding;
  same : IsSameOwner l.initial.holding l.holding;
  long : length l.replies.items ≡ length l.initial.replies.items + l.one-index;
  capacity : vec_capacity l.replies ≡ vec_capacity l.initial.replies;
}
