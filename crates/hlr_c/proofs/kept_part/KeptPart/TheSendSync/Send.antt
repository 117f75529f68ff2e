-- What lies at the address says the same to every thread, as the part does, and any thread may give its block back.
use mir.Raw.{raw as bare}
use base.Fraction.{full_share}
use base.Shift.{Keyless}
use denote.Builtin.{RawPtr}
use denote.Memory.{lone}
use denote.Param.Send.{IsSend, owning_send, part_keyless, sendable}
use denote.RawPtr.{Ptr, block_ptr, null_ptr}
use Rattle.hlr_c.proofs.Common.{Option, None, Some, frees, lent_part_send, held}
use Rattle.hlr_lent.specs.contracts.lent_part.LentPart.{the_row as LentPart}
use Rattle.hlr_c.specs.contracts.kept_part.KeptPart.{the_row, the_type}

held_keyless : (p : Ptr) (o : Option LentPart.Denot) → Keyless (held LentPart p o)
held_keyless p None = tt
held_keyless null_ptr (Some x) = λ alloc. (tt, frees.frees alloc (bare (lone LentPart.mir)) null_ptr)
held_keyless (block_ptr b o) (Some x) =
    λ alloc. (part_keyless LentPart lent_part_send full_share x b o, frees.frees alloc (bare (lone LentPart.mir)) (block_ptr b o))

address_send : IsSend RawPtr
address_send = search sendable

pub send : IsSend the_row
send = owning_send the_type (address_send, tt) (λ kept. held_keyless kept.address kept.part) (λ k d w. tt)
