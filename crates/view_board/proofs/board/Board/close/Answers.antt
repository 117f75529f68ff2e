use Rattle.view_board.proofs.Common.{◌≡◌, ◌≤◌, ◌∙◌, sym, ap, refl, List, ℕ, length, get_or, View, DeskState, OwnsAll}
use Rattle.view_board.proofs.CloseLemmas.{ends}
use Rattle.view_board.proofs.FillLemmas.{one_filled, all_copied}
use Rattle.view_board.proofs.ListLemmas.{found_at}
use Rattle.view_board.proofs.board.Board.close.Goals as goal

pub loop-word-preserved : goal.loop-word-preserved
loop-word-preserved c =
    let read = found_at c.close_with-closed.result.words.items c.loop-word.word c.word.result 0 c.word.ensures in
    one_filled 0 _ _ c.loop-word.words c.loop-word.word c.word.result c.loop-word.invariant c.loop-word-test.true (sym read)

-- the words are those at the end: the desk's numbers, and at least what it has seen
at_end : (c : goal.After-drop-desk-inside) → (c.loop-word.words ≡ c.desk.inside.seat.me.0.numbers) × ((w : ℕ) → get_or c.desk.inside.seat.me.0.seen w 0 ≤ get_or c.loop-word.words w 0)
at_end c =
    let me : View = c.desk.inside.seat.me.0 in
    let closed : List ℕ = c.close_with-closed.result.words.items in
    let v : me ≡ c.args.desk.view = ap (λ (d : DeskState). d.view) c.desk.view_is in
    let all : OwnsAll me = rw v c.requires.all in
    let end = ends c.desk.inside.seat.id me closed c.close_with-closed.result.slots.items c.desk.invariant.wide all c.close_with-closed.ensures.values.2 in
    let copied : c.loop-word.words ≡ closed = all_copied closed _ c.loop-word.words c.loop-word.word c.loop-word.invariant refl (ap length end.0 ∙ c.desk.invariant.wide.numbers) c.loop-word-test.false in
    (copied ∙ end.0, λ w. rw copied (end.1 w))

pub returns-clause-numbers : goal.returns-clause-numbers
returns-clause-numbers c = (at_end c).0 ∙ ap (λ (d : DeskState). d.view.numbers) c.desk.view_is

pub returns-clause-seen : goal.returns-clause-seen
returns-clause-seen c =
    let v : c.desk.inside.seat.me.0 ≡ c.args.desk.view = ap (λ (d : DeskState). d.view) c.desk.view_is in
    rw (← v) (at_end c).1
