use Rattle.hlr.proofs.Common.{◌≡◌, ap, ◌∙◌, codes, IfOk-weaker, app_of, app_of_fields, journal_rule, parts_rule, program, threads_rule, with_version, zone_rule}
use Rattle.clap.specs.Simple.{new_app, with_rule}
use Rattle.hlr.proofs.OptionFacts.{program_from, with_journal, with_parts, with_threads, with_zone}
use Rattle.hlr.proofs.options.program_command.Goals as goal

pub returns : goal.returns
returns c =
    let texts : app_of c.after_help.result ≡ with_version (new_app (codes "hlr")) =
    ap app_of_fields c.after_help.ensures ∙ ap app_of_fields c.about.ensures ∙ ap app_of_fields c.version.ensures ∙ ap with_version c.new.ensures.app in
    let first : app_of c.in_ok-arg.field-0 ≡ with_rule (with_version (new_app (codes "hlr"))) parts_rule =
    c.in_ok-arg.ensures.shape c.parts_arg.ensures.local ∙ with_parts _ _ texts c.parts_arg.ensures.rule in
    let second : app_of c.in_ok-arg-2.field-0 ≡ with_rule (with_rule (with_version (new_app (codes "hlr"))) parts_rule) zone_rule =
    c.in_ok-arg-2.ensures.shape c.zone_arg.ensures.local ∙ with_zone _ _ first c.zone_arg.ensures.rule in
    let third : app_of c.in_ok-arg-3.field-0 ≡ with_rule (with_rule (with_rule (with_version (new_app (codes "hlr"))) parts_rule) zone_rule) threads_rule =
    c.in_ok-arg-3.ensures.shape c.threads_arg.ensures.local ∙ with_threads _ _ second c.threads_arg.ensures.rule in
    let fourth : app_of c.in_ok-arg-4.field-0 ≡ with_rule (with_rule (with_rule (with_rule (with_version (new_app (codes "hlr"))) parts_rule) zone_rule) threads_rule) journal_rule =
    c.in_ok-arg-4.ensures.shape c.journal_arg.ensures.local ∙ with_journal _ _ third c.journal_arg.ensures.rule in
    IfOk-weaker _ _ (λ command. app_of command ≡ program)
    (λ command added. added.shape c.snapshot_arg.ensures.local ∙ program_from _ _ fourth c.snapshot_arg.ensures.rule) c.arg-5.ensures
