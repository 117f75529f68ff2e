use mir.Syntax.{w32}
use Rattle.std.proofs.lemmas.Int.{to_z-of_z}
use Rattle.std.proofs.Common.{◌∙◌, [], ◌∷◌, List, ℕ, ap}
use Rattle.journal_file.specs.Relayed.{relayed_owner, relayed_seen}
use Rattle.journal_file.specs.declared.record.Step.TheVariants.{Held}
use Rattle.journal.specs.Lines.{recovered}
use Rattle.hlr_kept.proofs.DraftLemmas.{no_lines}
use Rattle.hlr_kept.proofs.RestoredLemmas.{held_owner, held_seen}
use Rattle.hlr_kept.proofs.blank_tape.blank_relayed.Goals as goal

pub returns-clause-blank : goal.returns-clause-blank
returns-clause-blank c =
    c.in_ok-recover.ensures.lines ∙ ap (λ (device : _). recovered (relayed_seen device)) c.new-tape.ensures.device ∙ ap recovered (held_seen c.new.result _ c.new.ensures.calls)
    ∙ no_lines _ (λ line before after no_move. no_move) _ _ _ c.in_ok-ends.ensures.runs

pub returns-clause-owner : goal.returns-clause-owner
returns-clause-owner c =
    let made = c.new.ensures.made ∙ ap (λ (bytes : List ℕ). (Held, bytes) ∷ []) c.zeros-file.ensures in
    c.recover.ensures.owner ∙ ap relayed_owner c.new-tape.ensures.device
    ∙ held_owner c.new.result _ (c.new.ensures.calls ∙ ap (λ (bytes : List ℕ). (Held, bytes) ∷ []) c.zeros-file.ensures) c.args.fd
    (c.new.ensures.fd ∙ to_z-of_z w32 c.args.fd c.ranges.fd) made
