use Rattle.view_board.proofs.Common.{rules, arith, ◌≡◌, ◌<◌, ◌/◌, ◌∙◌, sym, ap, refl, FitsSigned, w64, to_z, of_z, pos, unsigned_abs, to_z-of_z, View, SLOTS, SLOT_WORDS, WORDS, word_of, Owns, OwnsWord, posted, NetMoves, DeskState}
use Rattle.view_board.proofs.ListLemmas.{set_within}
use Rattle.view_board.proofs.StepLemmas.{raises}
use Rattle.view_board.proofs.NetLemmas.{word_within, net_moves}
use Rattle.view_board.proofs.PostedLemmas.{posted_none, raises_once}
use Rattle.view_board.proofs.board.Board.add.Goals.{After-fetch_add}
use Rattle.view_board.proofs.board.Board.add.Goals as goal

pub fetch_add-requires : goal.fetch_add-requires
fetch_add-requires c =
    let v : View = c.desk.inside.seat.me.0 in
    let is : v ≡ c.args.desk.now.view = ap (λ (d : DeskState). d.view) c.desk.view_is in
    let board = ap (λ (d : DeskState). d.board) c.desk.view_is ∙ (c.requires.board ∙ sym c.self.view_is) in
    let own : Owns v c.args.slot = rw is c.requires.own in
    let below : c.args.slot < SLOTS = omega (arith, set_within v.owned c.args.slot own, c.desk.invariant.wide.slots) in
    let at = word_within c.args.slot c.args.cell c.args.amount below c.requires.cell in
    let fits : FitsSigned w64 c.args.amount = search rules in
    let word : c.word_of-word.result ≡ word_of c.args.slot c.args.cell c.args.amount = c.word_of-word.ensures ∙ ap (word_of c.args.slot c.args.cell) (to_z-of_z w64 c.args.amount fits) in
    let within : c.word_of-word.result < WORDS = rw word at.0 in
    let its : c.word_of-word.result / SLOT_WORDS ≡ c.args.slot = rw word at.1 in
    let own_word : OwnsWord v c.word_of-word.result = rw its own in
    let sum = c.in-Some.ensures in
    (board, rw c.self.invariant.0 within, raises _ _ _ _ _ _ _ c.desk.invariant own_word within (rw (c.desk.invariant.numbers, ← c.deref.ensures) (omega (arith, sum.1, c.if-sum-le-LIMIT.true))))

-- an amount of 0 leaves the desk
pub returns-then-amount-eq0-clause-ok : goal.returns-then-amount-eq0-clause-ok
returns-then-amount-eq0-clause-ok c =
    let fits : FitsSigned w64 c.args.amount = search rules in
    let none : c.args.amount ≡ pos 0 = sym (to_z-of_z w64 c.args.amount fits) ∙ ap (to_z w64) c.if-amount-eq0.true in
    rw (none, posted_none c.args.desk.now.view c.args.slot c.args.cell) refl

-- any other amount is posted in one step
posted_view : (c : After-fetch_add) → c.fetch_add.new.seat.me.0 ≡ posted c.desk.inside.seat.me.0 c.args.slot c.args.cell c.args.amount
posted_view c =
    let fits : FitsSigned w64 c.args.amount = search rules in
    let plain = to_z-of_z w64 c.args.amount fits in
    let word : c.word_of-word.result ≡ word_of c.args.slot c.args.cell c.args.amount = c.word_of-word.ensures ∙ ap (word_of c.args.slot c.args.cell) plain in
    let size : c.unsigned_abs-size.result ≡ unsigned_abs c.args.amount = c.unsigned_abs-size.ensures.value ∙ ap unsigned_abs plain in
    let once = raises_once c.args.amount (λ e. c.if-amount-eq0.false (ap (of_z w64) e)) in
    c.fetch_add.ensures.2.view ∙ rw (word, size, once) refl

pub returns-else-amount-eq0-clause-ok : goal.returns-else-amount-eq0-clause-ok
returns-else-amount-eq0-clause-ok c = rw (← c.desk.view_is) (rw (c.fetch_add.ensures.0, posted_view (goal.at.returns-else-amount-eq0-clause-ok c).After-fetch_add) refl)

pub returns-else-amount-eq0-clause-net : goal.returns-else-amount-eq0-clause-net
returns-else-amount-eq0-clause-net c =
    let v : View = c.desk.inside.seat.me.0 in
    let is : v ≡ c.args.desk.now.view = ap (λ (d : DeskState). d.view) c.desk.view_is in
    let own : Owns v c.args.slot = rw is c.requires.own in
    let below : c.args.slot < SLOTS = omega (arith, set_within v.owned c.args.slot own, c.desk.invariant.wide.slots) in
    let moved : NetMoves v (posted v c.args.slot c.args.cell c.args.amount) c.args.cell c.args.amount = net_moves v c.args.slot c.args.cell c.args.amount c.desk.invariant.wide own below c.requires.cell in
    rw (posted_view (goal.at.returns-else-amount-eq0-clause-net c).After-fetch_add, ← is) moved
