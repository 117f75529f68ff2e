use mir.Syntax.{w32}
use Rattle.std.specs.Prelude.{ℤ}
use Rattle.std.proofs.lemmas.Int.{to_z-of_z}
use Rattle.journal_file.specs.Owner.{owner_of_held}
use Rattle.journal_file.specs.Relayed.{relayed_owner}
use Rattle.hlr_c.proofs.Common.{◌≡◌, subst}
use Rattle.hlr_c.proofs.JournaledLemmas.{come_back}
use Rattle.hlr_c.proofs.journaling.reopen.Goals as goal

pub returns-clause-ok : goal.returns-clause-ok
returns-clause-ok c =
    come_back c.args.fd c.args.bytes.now c.args.register c.in_ok-register.register c.of.result c.in_ok-register.journal c.in_ok-new.field-0.value c.in_ok-new.ensures.ok c.of.ensures
    c.in_ok-register.ensures.rows (subst (λ (f : ℤ). relayed_owner c.in_ok-register.journal.tape.device ≡ owner_of_held f c.args.bytes.now) (to_z-of_z w32 c.args.fd c.ranges.fd) c.in_ok-register.ensures.owner)
    c.in_ok-register.ensures.stays c.in_ok-register.ensures.home c.in_ok-register.ensures.settled c.in_ok-register.ensures.stands
