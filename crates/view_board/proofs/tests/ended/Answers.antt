use Rattle.view_board.proofs.Common.{ap, arith, OwnsAll, both, DeskState}
use Rattle.view_board.proofs.EndLemmas.{whole_again}
use Rattle.view_board.proofs.tests.ended.Goals as goal

pub close-requires-clause-all : goal.close-requires-clause-all
close-requires-clause-all c =
    let all : OwnsAll (both c.args.desk.view c.args.other.view) = whole_again c.args.desk.view c.args.other.view 3 (omega arith) c.requires.desk.1 c.requires.other.1 in
    rw (ap (λ (d : DeskState). d.view) c.join.ensures.both) all
