use Rattle.view_board.proofs.Common.{◌≡◌}
use Rattle.view_board.proofs.LookLemmas.{IsLookedTo}
use Rattle.view_board.proofs.board.Board.look_into.Given as goal

abbrev pub invariant-loop-word : goal.invariant-loop-word
invariant-loop-word l = record {
  table : l.desk-inside.seat.table_id ≡ l.initial.desk-inside.seat.table_id;
  id : l.desk-inside.seat.id ≡ l.initial.desk-inside.seat.id;
  hand : l.desk-inside.seat.me.1 ≡ l.initial.desk-inside.seat.me.1;
  owned : l.desk-inside.owned ≡ l.initial.desk-inside.owned;
  numbers : l.desk-inside.numbers ≡ l.initial.desk-inside.numbers;
  so_far : IsLookedTo l.initial.desk-inside.seat.me.0 l.desk-inside.seat.me.0 l.sight.words l.word;
}
