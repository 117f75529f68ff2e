use Rattle.view_board.proofs.FillLemmas.{all_words}
use Rattle.view_board.proofs.desk.take_numbers.Goals as goal

pub returns : goal.returns
returns c = all_words _ c.args.numbers.now c.loop-word.numbers c.loop-word.word c.loop-word.invariant c.told-numbers c.loop-word-test.false
