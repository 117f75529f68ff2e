use Rattle.std.proofs.Common.{◌∙◌, ap}
use Rattle.journal.specs.Lines.{recovered}
use Rattle.hlr_kept.proofs.DraftLemmas.{no_lines}
use Rattle.hlr_kept.proofs.blank_tape.blank.Goals as goal

pub returns-clause-blank : goal.returns-clause-blank
returns-clause-blank g c =
    c.in_ok-recover.ensures.lines ∙ ap (λ (device : _). recovered (g.U.File.Device.seen device)) c.new-tape.ensures.device ∙ ap recovered c.into_device.ensures.seen
    ∙ no_lines _ (λ line before after no_move. no_move) _ _ _ c.in_ok-ends.ensures.runs

pub returns-clause-unlined : goal.returns-clause-unlined
returns-clause-unlined g c = (
  c.replay.new.unread,
  c.replay.ensures.same,
  c.in_ok-ends.ensures.whole,
  no_lines _ (λ line before after no_move. no_move) _ _ _ c.in_ok-ends.ensures.runs,
)
