-- An owner may go to another thread.
use denote.Param.Send.{IsSend, sendable, view_send}
use denote.Param.SendFields.{declared_send}
use Rattle.hlr_lent.proofs.Common.{Arc-send, Box-send, crosses, frees, ghosts, holding_send}
use Rattle.std.proofs.Crossing.{send as heap_send}
use Rattle.std.specs.contracts.alloc.Global as Heap
use Rattle.std.specs.contracts.boxed.Box as Box
use Rattle.std.specs.contracts.impls.GlobalAllocator.TheImpl as heap
use Rattle.std.specs.contracts.sync.Arc as Arc
use Rattle.rtrb.proofs.producer.Producer.TheSendSync.{the_send as producer_send}
use Rattle.rtrb.specs.contracts.producer.Producer as Producer
use Rattle.tatp_actions.specs.contracts.trees.Trees as Trees
use Rattle.view_board.proofs.board.Board.TheSendSync.{the_send as board_send, the_sync as board_sync}
use Rattle.view_board.specs.contracts.board.Board as Board
use Rattle.holding.specs.contracts.holding.Holding as Holding
use Rattle.hlr_lent.specs.contracts.lent_part.LentPart as LentPart
use Rattle.hlr_lent.specs.contracts.lent_part.LentPart.TheInside as Inside
use Rattle.hlr_lent.specs.contracts.ring.Message as Message
use Rattle.hlr_lent.specs.contracts.ring.ReturnRule as ReturnRule
use Rattle.hlr_lent.specs.contracts.ring.ReturnRuleProtocolMessage.TheImpl as rule

boxed_send : IsSend (Box.the_row (Holding.the_row Trees.the_row ghosts) Heap.the_row heap.ghosts)
boxed_send = Box-send (Holding.the_row Trees.the_row ghosts) holding_send

board_shared_send : IsSend (Arc.the_row Board.the_row Heap.the_row heap.ghosts)
board_shared_send = Arc-send Board.the_row board_send board_sync

-- what goes through a ring, and the owner's end of it
pub message_send : IsSend Message.the_row
message_send = let holding = boxed_send in search (sendable, crosses) depth 20

ring_send : IsSend (Producer.the_row Message.the_row Heap.the_row ReturnRule.the_row heap.ghosts rule.ghosts)
ring_send = producer_send Message.the_row Heap.the_row ReturnRule.the_row heap.ghosts rule.ghosts message_send heap_send frees

pub lent_part_send : IsSend LentPart.the_row
lent_part_send = view_send _ _ _ _ _ (declared_send Inside.the_type (boxed_send, (board_shared_send, (ring_send, tt))))
