-- What lies at the address says the same to every thread, as a register and its journal do, and any thread may give its
-- block back.
use mir.Raw.{raw as bare}
use base.Fraction.{full_share}
use base.Shift.{Keyless}
use denote.Builtin.{RawPtr}
use denote.Memory.{lone}
use denote.Param.Send.{IsSend, owning_send, part_keyless, sendable}
use denote.RawPtr.{Ptr, block_ptr, null_ptr}
use Rattle.hlr_c.proofs.Common.{Option, None, Some, OwnersState, FileJournal, frees, held, held_open, the_row, the_type}
use Rattle.hlr_c.proofs.OpenedCrossing.{opened_send}
use Rattle.hlr_c.specs.contracts.opened.Opened.{the_row as Opened}

held_keyless : (p : Ptr) (o : Option Opened.Denot) → Keyless (held Opened p o)
held_keyless p None = tt
held_keyless null_ptr (Some x) = λ alloc. (tt, frees.frees alloc (bare (lone Opened.mir)) null_ptr)
held_keyless (block_ptr b o) (Some x) =
    λ alloc. (part_keyless Opened opened_send full_share x b o, frees.frees alloc (bare (lone Opened.mir)) (block_ptr b o))

open_keyless : (p : Ptr) (o : Option OwnersState) (j : Option FileJournal) → Keyless (held_open p o j)
open_keyless p None j = tt
open_keyless p (Some x) j = λ journaled. held_keyless p (Some (record { lender = x; journal = j }))

address_send : IsSend RawPtr
address_send = search sendable

pub send : IsSend the_row
send = owning_send the_type (address_send, tt) (λ kept. open_keyless kept.address kept.register kept.journal) (λ k d w. tt)
