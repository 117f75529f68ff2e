-- A handle may go to another thread, with its register or its part.
use denote.Param.Send.{IsSend, sendable}
use Rattle.hlr_c.proofs.kept.Kept.TheSendSync.{the_send as kept_send}
use Rattle.hlr_c.proofs.kept_part.KeptPart.TheSendSync.{the_send as kept_part_send}
use Rattle.hlr_c.specs.contracts.handle.Hlr as Hlr
use Rattle.hlr_c.specs.contracts.part.HlrPart as HlrPart

pub handle_send : IsSend Hlr.the_row
handle_send = let kept = kept_send in search sendable depth 20

pub part_send : IsSend HlrPart.the_row
part_send = let kept = kept_part_send in search sendable depth 20
