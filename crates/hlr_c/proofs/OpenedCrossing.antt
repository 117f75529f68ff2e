-- What is open, a register that lends its parts with its journal, may go to another thread.
use denote.Param.Send.{IsSend, owning_send, sendable}
use denote.Param.SendFields.{declared_send}
use denote.Struct.Field.{u8-field, u32-field}
use Rattle.hlr_c.proofs.Common.{Arc-send, Box-send, Vec-send, crosses, frees, ghosts, tree_send, holding_send, piece_send, message_send}
use Rattle.std.proofs.Crossing.{send as heap_send}
use Rattle.std.specs.contracts.alloc.Global as Heap
use Rattle.std.specs.contracts.boxed.Box as Box
use Rattle.std.specs.contracts.impls.GlobalAllocator.TheImpl as heap
use Rattle.std.specs.contracts.option.Option as Option
use Rattle.std.specs.contracts.sync.Arc as Arc
use Rattle.std.specs.contracts.vec.Vec as Vec
use Rattle.rtrb.proofs.consumer.Consumer.TheSendSync.{the_send as consumer_send}
use Rattle.rtrb.specs.contracts.consumer.Consumer as Consumer
use Rattle.tatp_actions.specs.contracts.trees.Trees as Trees
use Rattle.journal.specs.contracts.tape.Tape as Tape
use Rattle.journal_file.specs.contracts.fault.JournalFault as JournalFault
use Rattle.journal_file.specs.contracts.record.Record as Record
use Rattle.journal_file.specs.contracts.relayed.Owed as Owed
use Rattle.journal_file.specs.contracts.relayed.Relayed as Relayed
use Rattle.part_table.proofs.regions.Regions.TheSendSync.{the_send as regions_send}
use Rattle.view_board.proofs.desk.Desk.TheSendSync.{the_send as desk_send}
use Rattle.view_board.proofs.board.Board.TheSendSync.{the_send as board_send, the_sync as board_sync}
use Rattle.view_board.specs.contracts.board.Board as Board
use Rattle.holding.specs.contracts.holding.Holding as Holding
use Rattle.holding.specs.contracts.piece.Piece as Piece
use Rattle.number_index.specs.contracts.index.NumberIndex as NumberIndex
use Rattle.hlr_owners.specs.contracts.part_owner.PartOwner as PartOwner
use Rattle.hlr_owners.specs.contracts.part_owner.RegionOwner as RegionOwner
use Rattle.hlr_owners.specs.contracts.prepared.Rooms as Rooms
use Rattle.hlr_owners.specs.contracts.owners.Owners as Owners
use Rattle.hlr_core.specs.contracts.register.Register as Register
use Rattle.hlr_kept.specs.contracts.keeping.Journal as Journal
use Rattle.hlr_lent.specs.contracts.lender.Lender as Lender
use Rattle.hlr_lent.specs.contracts.ring.Message as Message
use Rattle.hlr_lent.specs.contracts.ring.ReturnRule as ReturnRule
use Rattle.hlr_lent.specs.contracts.ring.ReturnRuleProtocolMessage.TheImpl as rule
use Rattle.hlr_c.specs.contracts.opened.FileJournal as FileJournal
use Rattle.hlr_c.specs.contracts.opened.Opened as Opened

boxed_holding_send : IsSend (Box.the_row (Holding.the_row Trees.the_row ghosts) Heap.the_row heap.ghosts)
boxed_holding_send = Box-send (Holding.the_row Trees.the_row ghosts) holding_send

boxed_piece_send : IsSend (Box.the_row Piece.the_row Heap.the_row heap.ghosts)
boxed_piece_send = Box-send Piece.the_row piece_send

part_owner_send : IsSend PartOwner.the_row
part_owner_send = let holding = boxed_holding_send in search (sendable, crosses) depth 20

region_owner_send : IsSend RegionOwner.the_row
region_owner_send = let part_owner = part_owner_send in let piece = boxed_piece_send in search sendable depth 20

board_shared_send : IsSend (Arc.the_row Board.the_row Heap.the_row heap.ghosts)
board_shared_send = Arc-send Board.the_row board_send board_sync

listed_send : IsSend (Vec.the_row RegionOwner.the_row Heap.the_row heap.ghosts)
listed_send = Vec-send RegionOwner.the_row region_owner_send

rooms_send : IsSend Rooms.the_row
rooms_send =
    let holdings = Vec-send (Box.the_row (Holding.the_row Trees.the_row ghosts) Heap.the_row heap.ghosts) boxed_holding_send in
    let pieces = Vec-send (Box.the_row Piece.the_row Heap.the_row heap.ghosts) boxed_piece_send in
    search sendable depth 20

owners_send : IsSend Owners.the_row
owners_send =
    let regions = regions_send in let owners = listed_send in let rooms = rooms_send in let board = board_shared_send in
    let spare = desk_send in search sendable depth 20

index_send : IsSend NumberIndex.the_row
index_send = let tree = tree_send u32-field.row (search sendable) in search sendable depth 20

register_send : IsSend Register.the_row
register_send =
    let owners = owners_send in let index = index_send in let alloc = heap_send in search sendable depth 20

-- the register's end of a ring, where there is one
ring_send : IsSend (Option.the_row (Consumer.the_row Message.the_row Heap.the_row ReturnRule.the_row heap.ghosts rule.ghosts))
ring_send =
    let end = consumer_send Message.the_row Heap.the_row ReturnRule.the_row heap.ghosts rule.ghosts message_send heap_send frees in
    search sendable depth 20

lender_send : IsSend Lender.the_row
lender_send = let register = register_send in let ring = ring_send in search (sendable, crosses) depth 20

-- the calls that a file has had take no room, and own nothing
record_send : IsSend Record.the_row
record_send = owning_send Record.the_type tt (λ calls. tt) (λ k d w. tt)

-- the lines that wait
lines_send : IsSend (Vec.the_row u8-field.row Heap.the_row heap.ghosts)
lines_send = Vec-send u8-field.row (search sendable)

-- the calls that C owes a file
owed_send : IsSend Owed.the_row
owed_send = let bytes = lines_send in search sendable depth 20

calls_send : IsSend (Vec.the_row Owed.the_row Heap.the_row heap.ghosts)
calls_send = Vec-send Owed.the_row owed_send

-- a file on which C makes the calls, and the text in it
file_send : IsSend Relayed.the_row
file_send = let log = record_send in let bytes = lines_send in let calls = calls_send in let alloc = heap_send in search sendable depth 20

tape_send : IsSend (Tape.the_row Relayed.the_row)
tape_send = let device = file_send in search sendable depth 20

fault_send : IsSend (Option.the_row JournalFault.the_row)
fault_send = search sendable depth 20

journal_send : IsSend (Journal.the_row Relayed.the_row)
journal_send = declared_send (Journal.the_type Relayed.the_row) (tape_send, (lines_send, (fault_send, tt)))

-- the journal of before, if it is kept
old_journal_send : IsSend (Option.the_row (Journal.the_row Relayed.the_row))
old_journal_send = let journal = journal_send in search sendable depth 20

file_journal_send : IsSend FileJournal.the_row
file_journal_send = declared_send FileJournal.the_type (journal_send, (old_journal_send, tt))

-- the journal, if there is one
any_journal_send : IsSend (Option.the_row FileJournal.the_row)
any_journal_send = let journal = file_journal_send in search sendable depth 20

pub opened_send : IsSend Opened.the_row
opened_send = declared_send Opened.the_type (lender_send, (any_journal_send, tt))
