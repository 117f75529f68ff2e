use Rattle.std.proofs.lemmas.Result.{err_from_is_err_and}
use Rattle.std.proofs.Common.{rules, arith}
use Rattle.journal.proofs.BegunLemmas.{none_begun}
use Rattle.journal.proofs.FollowLemmas.{followed_line}
use Rattle.journal.proofs.RefusedLemmas.{handed_on, refused_line}
use Rattle.journal.proofs.follower.Follower.do_line.Goals as goal

pub returns-clause-follows : goal.returns-clause-follows
returns-clause-follows g c = λ read first was. record {
  begun = was.begun;
  read =
      followed_line g.M.Machine.moves read c.args.line.now first c.args.machine.now c.apply.new.self c.args.self.now.ends _ was.begun c.args.self.now.is_over
      was.read c.requires.text c.requires.inner (none_begun g.M.Machine.too_long was.begun c.args.self.now.line.items g.met.M.Machine.some was.line c.requires.none) (search rules) (omega arith) (omega arith) (omega arith);
  line = was.line;
}

pub returns-in_err-apply-clause-refused : goal.returns-in_err-apply-clause-refused
returns-in_err-apply-clause-refused g c =
    let passed = err_from_is_err_and c.from_residual.result c.from_residual.ensures.1 in
    let self = c.args.self.now in
    handed_on c.from_residual.result _ passed.0 c.in_err-apply.field-0.0 passed.1 passed.2
    (λ read first was.
    refused_line g.M.Machine.moves g.M.Machine.IsBad read c.args.line.now first c.args.machine.now self.ends was.begun self.is_over c.in_err-apply.field-0.0
    was.read c.requires.text c.requires.inner (none_begun g.M.Machine.too_long was.begun self.line.items g.met.M.Machine.some was.line c.requires.none) c.in_err-apply.ensures.refused)
