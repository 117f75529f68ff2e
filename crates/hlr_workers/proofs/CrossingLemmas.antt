-- What goes to a worker's thread, and comes back, may cross.
use mathlib.Core.List.{[], ◌∷◌}
use denote.Struct.Field.{u8-field, u64-field}
use denote.Struct.Tuple.{TupleAt}
use denote.Param.Send.{IsSend, IsSync, sendable}
use denote.Param.SendFields.{declared_send, declared_sync}
use Rattle.hlr_workers.proofs.Common.{Box-send, Arc-send, Arc-sync, Vec-send, crosses, frees, tuple_send, ghosts, holding_send}
use Rattle.std.proofs.Crossing.{send as heap_send, sync as heap_sync}
use Rattle.std.specs.contracts.alloc.Global as Heap
use Rattle.std.specs.contracts.boxed.Box as Box
use Rattle.std.specs.contracts.impls.GlobalAllocator.TheImpl as heap
use Rattle.std.specs.contracts.option.Option as Option
use Rattle.std.specs.contracts.sync.Arc as Arc
use Rattle.std.specs.contracts.vec.Vec as Vec
use Rattle.atomic_table.proofs.shared.Seat.TheSendSync.{the_send as seat_send}
use Rattle.atomic_table.specs.contracts.shared.Seat as Seat
use Rattle.crossbeam_queue.proofs.array_queue.Slotted.TheSendSync.{the_send as slotted_send, the_sync as slotted_sync}
use Rattle.crossbeam_queue.specs.contracts.array_queue.Doing as Doing
use Rattle.crossbeam_queue.specs.contracts.array_queue.Slotted as Slotted
use Rattle.crossbeam_queue.specs.contracts.array_queue.Turns as Turns
use Rattle.crossbeam_queue.specs.contracts.array_queue.TurnsTableRuleOptionDoingUnit.TheImpl as turns
use Rattle.crossbeam_utils.specs.contracts.sync.event_count.EventCount as EventCount
use Rattle.tatp_actions.specs.contracts.trees.Trees as Trees
use Rattle.view_board.proofs.board.Board.TheSendSync.{the_send as board_send, the_sync as board_sync}
use Rattle.view_board.specs.contracts.board.Board as Board
use Rattle.hlr_core.proofs.task.Task.TheSendSync.{the_field_send as task_field_send}
use Rattle.holding.specs.contracts.holding.Holding as Holding
use Rattle.hlr_core.proofs.event.Reply.TheSendSync.{the_send as reply_send}
use Rattle.hlr_core.specs.contracts.event.Reply as Reply
use Rattle.hlr_workers.specs.contracts.inbox.Inbox as Inbox
use Rattle.hlr_workers.specs.contracts.message.Lent as Lent
use Rattle.hlr_workers.specs.contracts.message.Log as Log
use Rattle.hlr_workers.specs.contracts.message.Message as Message
use Rattle.hlr_workers.specs.contracts.rule.InOrder as InOrder
use Rattle.hlr_workers.specs.contracts.rule.InOrderProtocolMessageLog.TheImpl as order
use Rattle.hlr_workers.specs.contracts.work.Finished as Finished

-- a holding in its box, the shared board, and so a message
pub boxed_send : IsSend (Box.the_row (Holding.the_row Trees.the_row ghosts) Heap.the_row heap.ghosts)
boxed_send = Box-send (Holding.the_row Trees.the_row ghosts) holding_send

board_shared_send : IsSend (Arc.the_row Board.the_row Heap.the_row heap.ghosts)
board_shared_send = Arc-send Board.the_row board_send board_sync

lent_send : IsSend (Lent.the_field).row
lent_send = let holding = boxed_send in let board = board_shared_send in search sendable depth 20

message_send : IsSend Message.the_row
message_send = let lent = lent_send in let task = task_field_send in search sendable depth 20

option_send : IsSend (Option.the_row Message.the_row)
option_send = let message = message_send in search sendable depth 20

-- the replies
pub replies_send : IsSend (Vec.the_row (TupleAt (40 ∷ 44 ∷ 41 ∷ []) (u64-field.row ∷ Reply.the_row ∷ [])) Heap.the_row heap.ghosts)
replies_send =
    let number : IsSend u64-field.row = search sendable in
    Vec-send (TupleAt (40 ∷ 44 ∷ 41 ∷ []) (u64-field.row ∷ Reply.the_row ∷ [])) (tuple_send (40 ∷ 44 ∷ 41 ∷ []) (u64-field.row ∷ Reply.the_row ∷ []) (number, (reply_send, tt)))

-- a pass, and the queue that is shared
pub pass_send : IsSend (Seat.the_row (Option.the_row Message.the_row) (Doing.the_row Message.the_row Log.the_row))
pass_send = seat_send (Option.the_row Message.the_row) (Doing.the_row Message.the_row Log.the_row) option_send

line_send : IsSend (Slotted.the_row (Option.the_row Message.the_row) (Doing.the_row Message.the_row Log.the_row) (Turns.the_row InOrder.the_row) Heap.the_row (turns.ghosts Message.the_row Log.the_row InOrder.the_row order.ghosts turns.no_dict) heap.ghosts)
line_send = slotted_send (Option.the_row Message.the_row) (Doing.the_row Message.the_row Log.the_row) (Turns.the_row InOrder.the_row) Heap.the_row (turns.ghosts Message.the_row Log.the_row InOrder.the_row order.ghosts turns.no_dict) heap.ghosts option_send heap_send frees

line_sync : IsSync (Slotted.the_row (Option.the_row Message.the_row) (Doing.the_row Message.the_row Log.the_row) (Turns.the_row InOrder.the_row) Heap.the_row (turns.ghosts Message.the_row Log.the_row InOrder.the_row order.ghosts turns.no_dict) heap.ghosts)
line_sync = slotted_sync (Option.the_row Message.the_row) (Doing.the_row Message.the_row Log.the_row) (Turns.the_row InOrder.the_row) Heap.the_row (turns.ghosts Message.the_row Log.the_row InOrder.the_row order.ghosts turns.no_dict) heap.ghosts option_send heap_send heap_sync frees

count_send : IsSend EventCount.the_row
count_send = search (sendable, crosses) depth 20

count_sync : IsSync EventCount.the_row
count_sync = search (sendable, crosses) depth 20

inbox_send : IsSend Inbox.the_row
inbox_send = declared_send Inbox.the_type (line_send, (count_send, (Arc-send EventCount.the_row count_send count_sync, tt)))

inbox_sync : IsSync Inbox.the_row
inbox_sync = declared_sync Inbox.the_type (line_sync, (count_sync, (Arc-sync EventCount.the_row count_send count_sync, tt)))

pub inbox_shared_send : IsSend (Arc.the_row Inbox.the_row Heap.the_row heap.ghosts)
inbox_shared_send = Arc-send Inbox.the_row inbox_send inbox_sync

pub byte_send : IsSend u8-field.row
byte_send = search sendable

-- what the thread hands back
pub finished_send : IsSend Finished.the_row
finished_send = let pass = pass_send in let lent = lent_send in let replies = replies_send in search sendable depth 20
