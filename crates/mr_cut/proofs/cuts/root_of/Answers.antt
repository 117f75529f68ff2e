use Rattle.mr_cut.proofs.Common.{rules, arith, get_or}
use Rattle.mr_cut.proofs.CutLemmas.{piece_none, piece_one, piece_many, some_children}
use Rattle.mr_cut.proofs.cuts.root_of.Goals as goal

pub build_inner-requires : goal.build_inner-requires
build_inner-requires g c = (search rules, (search rules, some_children c.args.inner c.requires.rest (omega (arith, c.if-inner-eq0.false))))

pub returns-then-inner-eq0-clause-piece : goal.returns-then-inner-eq0-clause-piece
returns-then-inner-eq0-clause-piece g c = (piece_none c.args.inner c.build_blank.result.value c.requires.rest c.if-inner-eq0.true c.build_blank.ensures.seen).0

pub returns-then-inner-eq0-clause-rows : goal.returns-then-inner-eq0-clause-rows
returns-then-inner-eq0-clause-rows g c = (piece_none c.args.inner c.build_blank.result.value c.requires.rest c.if-inner-eq0.true c.build_blank.ensures.seen).1

pub returns-then-inner-eq1-clause-piece : goal.returns-then-inner-eq1-clause-piece
returns-then-inner-eq1-clause-piece g c = (piece_one c.args.inner (get_or c.args.inner.leasts 0 0, c.take_child.result) c.requires.rest c.if-inner-eq1.true c.take_child.ensures.child).0

pub returns-then-inner-eq1-clause-rows : goal.returns-then-inner-eq1-clause-rows
returns-then-inner-eq1-clause-rows g c = (piece_one c.args.inner (get_or c.args.inner.leasts 0 0, c.take_child.result) c.requires.rest c.if-inner-eq1.true c.take_child.ensures.child).1

pub returns-clause-piece : goal.returns-clause-piece
returns-clause-piece g c = (piece_many c.args.inner c.build_inner.result.value c.requires.rest (omega (arith, c.if-inner-eq0.false, c.if-inner-eq1.false)) c.requires.some_away c.build_inner.ensures.seen).0

pub returns-clause-rows : goal.returns-clause-rows
returns-clause-rows g c = (piece_many c.args.inner c.build_inner.result.value c.requires.rest (omega (arith, c.if-inner-eq0.false, c.if-inner-eq1.false)) c.requires.some_away c.build_inner.ensures.seen).1
