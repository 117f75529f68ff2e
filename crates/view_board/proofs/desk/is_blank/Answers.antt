use Rattle.view_board.proofs.Common.{inl, inr, arith, get_or, cases_eq, le_or_l, le_or_r}
use Rattle.view_board.proofs.desk.is_blank.Goals as goal

pub loop-word-preserved : goal.loop-word-preserved
loop-word-preserved c = λ w from before. elim (cases_eq w c.loop-word.word) [
  | inl is ↦ rw is (le_or_r _ _)
  | inr other ↦ let so_far = c.loop-word.invariant w from (omega arith) in let more = le_or_l c.loop-word.bits (get_or c.args.numbers.now c.loop-word.word 0) in omega arith
]
