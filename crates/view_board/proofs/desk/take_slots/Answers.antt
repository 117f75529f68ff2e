use Rattle.view_board.proofs.FillLemmas.{all_flags}
use Rattle.view_board.proofs.desk.take_slots.Goals as goal

pub returns : goal.returns
returns c = all_flags _ c.args.owned.now c.loop-slot.owned c.loop-slot.slot c.loop-slot.invariant c.told-owned c.loop-slot-test.false
