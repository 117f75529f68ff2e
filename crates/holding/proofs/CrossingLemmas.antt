-- Holdings, pieces and what a posting answers may go to another thread.
use denote.Struct.Field.{bool-field, u8-field}
use denote.Param.Send.{IsSend, sendable}
use Rattle.holding.proofs.Common.{Box-send, trees_send, ghosts}
use Rattle.std.specs.contracts.alloc.Global as Heap
use Rattle.std.specs.contracts.boxed.Box as Box
use Rattle.std.specs.contracts.impls.GlobalAllocator.TheImpl as heap
use Rattle.std.specs.contracts.option.Option as Option
use Rattle.std.specs.contracts.result.Result as Result
use Rattle.tatp_rows.proofs.refusal.Refusal.TheSendSync.{the_send as refusal_send}
use Rattle.tatp_rows.specs.contracts.refusal.Refusal as Refusal
use Rattle.tatp_actions.proofs.cells.Cells.TheSendSync.{the_send as cells_send}
use Rattle.tatp_actions.proofs.part.Part.TheSendSync.{the_send as part_send}
use Rattle.tatp_actions.specs.contracts.trees.Trees as Trees
use Rattle.holding.proofs.holding.Holding.TheSendSync.{the_send as send_with}
use Rattle.holding.specs.contracts.holding.Holding as Holding
use Rattle.holding.specs.contracts.piece.Piece as Piece

pub holding_send : IsSend (Holding.the_row Trees.the_row ghosts)
holding_send = send_with Trees.the_row ghosts trees_send

pub piece_send : IsSend Piece.the_row
piece_send = let part = part_send Trees.the_row ghosts trees_send in let counts = cells_send in search sendable depth 20

pub some_piece_send : IsSend (Option.the_row (Box.the_row Piece.the_row Heap.the_row heap.ghosts))
some_piece_send = let piece = Box-send Piece.the_row piece_send in search sendable depth 20

pub bool_send : IsSend bool-field.row
bool_send = search sendable

pub posted_send : IsSend (Result.the_row u8-field.row Refusal.the_row)
posted_send = let refusal = refusal_send in search sendable depth 20
