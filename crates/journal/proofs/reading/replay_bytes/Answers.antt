use Rattle.std.proofs.lemmas.Result.{err_from_is_err_and}
use Rattle.std.proofs.Common.{[], inl}
use Rattle.journal.specs.Inside.{IsFollowed}
use Rattle.journal.proofs.FollowLemmas.{nothing_read}
use Rattle.journal.proofs.RefusedLemmas.{handed_on}
use Rattle.journal.proofs.reading.replay_bytes.Goals as goal

-- all bytes were read by one piece
followed : (g : _) (c : goal.After-drop-follower-2 g) → IsFollowed g.M.Machine.moves g.M.Machine.too_long c.args.bytes.now c.args.machine.now c.follow.new.machine c.follow.new.self
followed g c =
    let none : IsFollowed g.M.Machine.moves g.M.Machine.too_long [] c.args.machine.now c.args.machine.now c.new-follower.result =
    nothing_read g.M.Machine.moves g.M.Machine.too_long c.args.machine.now c.new-follower.result c.new-follower.ensures.ends c.new-follower.ensures.line c.new-follower.ensures.over in
    c.in_ok-follow.ensures.follows [] c.args.machine.now none

pub returns-clause-ends : goal.returns-clause-ends
returns-clause-ends g c = (followed g c).read.ends

pub returns-clause-runs : goal.returns-clause-runs
returns-clause-runs g c = (followed g c).read.run

pub returns-in_err-follow-clause-refused : goal.returns-in_err-follow-clause-refused
returns-in_err-follow-clause-refused g c =
    let passed = err_from_is_err_and c.from_residual.result c.from_residual.ensures.1 in
    let none : IsFollowed g.M.Machine.moves g.M.Machine.too_long [] c.args.machine.now c.args.machine.now c.new-follower.result =
    nothing_read g.M.Machine.moves g.M.Machine.too_long c.args.machine.now c.new-follower.result c.new-follower.ensures.ends c.new-follower.ensures.line c.new-follower.ensures.over in
    handed_on c.from_residual.result _ passed.0 c.in_err-follow.field-0.0 passed.1 passed.2
    (inl (c.in_err-follow.ensures.refused [] c.args.machine.now none))
