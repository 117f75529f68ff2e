use Rattle.std.proofs.Common.{◌≡◌, ℕ, List, [], ◌∷◌, ◌++◌, ap, ◌∙◌, refl, sym, subst}
use Rattle.edit_lines.specs.Lines.{line_of}
use Rattle.hlr_kept.specs.Draft.{draft_lines}
use Rattle.hlr_kept.proofs.DraftLemmas.{HasLines, drafted_more}
use Rattle.hlr_kept.proofs.draft.Draft.put.Goals.{then-len+in_ok-flush, else-len}
use Rattle.hlr_kept.proofs.draft.Draft.put.Goals as goal

pub returns : goal.returns
returns g c =
    let seen = g.D.Device.seen in
    let may_leave = g.D.Device.may_leave in
    let line = line_of c.args.event.now in
    let before : HasLines seen may_leave (draft_lines seen c.args.self.now) c.if-len.self = elim c.if-len.branch [
      | then-len+in_ok-flush w ↦ subst (HasLines seen may_leave (draft_lines seen c.args.self.now)) (sym w.self-is) (record { is_draft = w.in_ok-flush.ensures.draft; lines = w.in_ok-flush.ensures.lines })
      | else-len w ↦ subst (HasLines seen may_leave (draft_lines seen c.args.self.now)) (sym w.self-is) (record { is_draft = c.requires.draft; lines = refl })
    ] in
    let more = drafted_more seen may_leave c.if-len.self (record { tape = c.if-len.self.tape; group = c.push_line.new.lines }) line before.is_draft refl c.push_line.ensures.plain c.in_ok-push_line.ensures.ok in
    let owner : g.D.Device.owner c.if-len.self.tape.device ≡ g.D.Device.owner c.args.self.now.tape.device = elim c.if-len.branch [
      | then-len+in_ok-flush w ↦ ap (λ (d : _). g.D.Device.owner d.tape.device) w.self-is ∙ w.in_ok-flush.ensures.owner
      | else-len w ↦ ap (λ (d : _). g.D.Device.owner d.tape.device) w.self-is
    ] in
    record { owner = owner; draft = more.is_draft; lines = more.lines ∙ ap (λ (l : List (List ℕ)). l ++ line ∷ []) before.lines }
