use Rattle.hlr_c.proofs.Common.{Err, Ok, inr, refl}
use Rattle.hlr_core.specs.declared.event.Reply.TheVariants as reply
use Rattle.hlr_c.proofs.JournaledLemmas.{kept_answer, none_written, room_works, with_current}
use Rattle.hlr_c.proofs.journaled.change_kept.Goals as goal

pub returns-in-Ok-clause-answer : goal.returns-in-Ok-clause-answer
returns-in-Ok-clause-answer c =
    rw c.in-Ok.is (
    kept_answer (Ok c.in-Ok.event) c.args.lender.now c.change_and_write.new.lender c.args.journal.now c.make_room.new.self c.change_and_write.new.journal c.change_and_write.result c.make_room.ensures.same
    (room_works c.args.journal.now.current.fault c.make_room.result c.in_default.field-0 c.make_room.ensures.stays c.in_default.is)
    c.change_and_write.ensures.answer c.change_and_write.ensures.written)

pub returns-in-Err-asked-clause-answer : goal.returns-in-Err-asked-clause-answer
returns-in-Err-asked-clause-answer c =
    rw c.in-Err-asked.is (
    kept_answer (Err c.in-Err-asked.why) c.args.lender.now c.args.lender.now c.args.journal.now c.make_room.new.self (with_current c.args.journal.now c.make_room.new.self) c.code.result c.make_room.ensures.same
    (room_works c.args.journal.now.current.fault c.make_room.result c.in_default.field-0 c.make_room.ensures.stays c.in_default.is)
    (inr ((λ waits. waits), reply.Refused c.in-Err-asked.why, (refl, refl), c.code.ensures)) (none_written (with_current c.args.journal.now c.make_room.new.self)))
