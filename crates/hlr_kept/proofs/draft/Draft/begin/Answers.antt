use Rattle.std.proofs.Common.{ℕ, List, [], ◌∷◌, ◌++◌, ap, ◌∙◌, refl}
use Rattle.edit_lines.specs.Lines.{first_line}
use Rattle.hlr_kept.proofs.DraftLemmas.{drafted_first}
use Rattle.hlr_kept.proofs.draft.Draft.begin.Goals as goal

pub returns : goal.returns
returns g c =
    let has = drafted_first g.D.Device.seen g.D.Device.may_leave (record { tape = c.args.tape; group = c.push_first_line.new.lines }) c.requires.open_tape c.requires.whole c.requires.blank
    c.push_first_line.ensures.plain (c.in_ok-push_first_line.ensures.ok ∙ ap (λ (l : List ℕ). l ++ (first_line ++ 10 ∷ [])) c.in_ok-group.ensures.items) in
    record { draft = has.is_draft; lines = has.lines; owner = refl }
