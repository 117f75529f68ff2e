use Rattle.std.specs.Prelude.{Err}
use Rattle.std.proofs.Common.{◌≡◌, ◌++◌, ◌∙◌, [], ◌∷◌, List, ℕ, ap, arith, length, rules}
use Rattle.std.proofs.lemmas.Result.{err_from_is_err_and}
use Rattle.journal.proofs.RefusedLemmas.{handed_on}
use Rattle.edit_lines.specs.Lines.{first_line}
use Rattle.hlr_kept.proofs.BeginLemmas.{begins, first_group, has_first, has_none, recovers, stored_first, stored_new}
use Rattle.hlr_kept.proofs.RestoredLemmas.{not_begun}
use Rattle.hlr_kept.proofs.writing.begin.Goals as goal

pub commit-requires : goal.commit-requires
commit-requires g c =
    let group = first_group c.new-first.result.items c.deref.result.now (search rules) (c.deref.ensures.value ∙ c.in_ok-push_first_line.ensures.ok) c.push_first_line.ensures.plain in
    record { is_open = c.in_ok-recover.ensures.is_open; acknowledged = c.in_ok-recover.ensures.acknowledged; whole = c.in_ok-recover.ensures.whole; no_zero = group.no_zero; group = group.whole }

pub returns-in_err-recover-clause-any_moment : goal.returns-in_err-recover-clause-any_moment
returns-in_err-recover-clause-any_moment g c =
    recovers g.D.Device.seen g.D.Device.moment g.D.Device.left_since c.args.tape.now.device c.recover.new.self.device c.recover.ensures.any_moment c.recover.ensures.fence

pub returns-then-ends-gt0-clause-stored : goal.returns-then-ends-gt0-clause-stored
returns-then-ends-gt0-clause-stored g c = λ stored rows.
    stored_first g.D.Device.seen g.D.Device.may_leave c.args.tape.now.device c.recover.new.self c.in_ok-recover.ensures.is_open c.in_ok-recover.ensures.acknowledged c.in_ok-recover.ensures.whole c.in_ok-recover.ensures.lines
    (has_first (g.D.Device.seen c.args.tape.now.device) c.args.ends c.requires.ends c.if-ends-gt0.true) stored rows

pub returns-then-ends-gt0-clause-any_moment : goal.returns-then-ends-gt0-clause-any_moment
returns-then-ends-gt0-clause-any_moment g c =
    recovers g.D.Device.seen g.D.Device.moment g.D.Device.left_since c.args.tape.now.device c.recover.new.self.device c.recover.ensures.any_moment c.recover.ensures.fence

pub returns-in_err-push_first_line-clause-any_moment : goal.returns-in_err-push_first_line-clause-any_moment
returns-in_err-push_first_line-clause-any_moment g c =
    recovers g.D.Device.seen g.D.Device.moment g.D.Device.left_since c.args.tape.now.device c.recover.new.self.device c.recover.ensures.any_moment c.recover.ensures.fence

pub returns-in_err-commit-clause-any_moment : goal.returns-in_err-commit-clause-any_moment
returns-in_err-commit-clause-any_moment g c =
    let seen = g.D.Device.seen in
    let old = c.args.tape.now.device in
    let group = first_group c.new-first.result.items c.deref.result.now (search rules) (c.deref.ensures.value ∙ c.in_ok-push_first_line.ensures.ok) c.push_first_line.ensures.plain in
    let before = recovers seen g.D.Device.moment g.D.Device.left_since old c.recover.new.self.device c.recover.ensures.any_moment c.recover.ensures.fence in
    begins seen g.D.Device.moment g.D.Device.left_since old c.recover.new.self.device c.commit.new.self.device c.deref.result.now before c.in_ok-recover.ensures.lines
    (has_none (seen old) c.args.ends c.requires.ends (omega (arith, c.if-ends-gt0.false))) group c.commit.ensures.any_moment

pub returns-clause-stored : goal.returns-clause-stored
returns-clause-stored g c = λ stored rows.
    let seen = g.D.Device.seen in
    let old = c.args.tape.now.device in
    let group = first_group c.new-first.result.items c.deref.result.now (search rules) (c.deref.ensures.value ∙ c.in_ok-push_first_line.ensures.ok) c.push_first_line.ensures.plain in
    stored_new seen g.D.Device.may_leave old c.recover.new.self c.commit.new.self c.deref.result.now c.in_ok-commit.ensures.is_open c.in_ok-commit.ensures.acknowledged c.in_ok-commit.ensures.whole
    c.in_ok-recover.ensures.lines (has_none (seen old) c.args.ends c.requires.ends (omega (arith, c.if-ends-gt0.false))) group c.in_ok-commit.ensures.lines stored rows

pub returns-clause-any_moment : goal.returns-clause-any_moment
returns-clause-any_moment g c =
    let seen = g.D.Device.seen in
    let old = c.args.tape.now.device in
    let group = first_group c.new-first.result.items c.deref.result.now (search rules) (c.deref.ensures.value ∙ c.in_ok-push_first_line.ensures.ok) c.push_first_line.ensures.plain in
    let before = recovers seen g.D.Device.moment g.D.Device.left_since old c.recover.new.self.device c.recover.ensures.any_moment c.recover.ensures.fence in
    begins seen g.D.Device.moment g.D.Device.left_since old c.recover.new.self.device c.commit.new.self.device c.deref.result.now before c.in_ok-recover.ensures.lines
    (has_none (seen old) c.args.ends c.requires.ends (omega (arith, c.if-ends-gt0.false))) group c.commit.ensures.any_moment

pub returns-in_err-commit-clause-refused : goal.returns-in_err-commit-clause-refused
returns-in_err-commit-clause-refused g c =
    let passed = err_from_is_err_and c.from_residual-in_err-commit.result c.from_residual-in_err-commit.ensures.1 in
    let none : c.new-first.result.items ≡ [] = search rules in
    let long : length c.deref.result.now ≡ 14 =
    ap length (c.deref.ensures.value ∙ c.in_ok-push_first_line.ensures.ok ∙ ap (λ (l : List ℕ). l ++ (first_line ++ 10 ∷ [])) none) in
    let why = c.in_err-commit.ensures in
    handed_on c.from_residual-in_err-commit.result _ passed.0 c.in_err-commit.field-0.0 passed.1 passed.2
    (not_begun (g.D.Device.seen c.args.tape.now.device) _ c.in_err-commit.field-0.0 (λ is. omega (arith, why.failed (ap Err is), c.recover.ensures.cause))
    (λ is. omega (arith, why.full (ap Err is), long, c.in_ok-recover.ensures.len, c.requires.ends.at_end))
    (λ is fence. why.journal (ap Err is)) (λ is. why.no_other.0 (ap Err is)) (λ is. why.no_other.1 (ap Err is)))
