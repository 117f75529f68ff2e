-- Lines that are gathered behind those on a tape.
use Rattle.std.proofs.Common.{◌≡◌, ◌∙◌, refl, sym, ap, subst, ℕ, ◌<◌, List, [], ◌∷◌, ◌++◌, append_assoc}
use Rattle.std.proofs.lemmas.List.{append-nil}
use Rattle.std.specs.List.{AllByRecursion}
use Rattle.journal.specs.Lines.{HasNoZero, IsWhole, lines, recovered, text}
use Rattle.journal.specs.Machine.{Runs}
use Rattle.journal.specs.Tape.{IsOpen}
use Rattle.journal.specs.declared.tape.Tape.{Tape}
use Rattle.journal.proofs.LineLemmas.{whole_lines, whole-append}
use Rattle.journal.proofs.TextLemmas.{no_zero-append}
use Rattle.edit_lines.specs.Lines.{first_line}
use Rattle.hlr_kept.specs.Draft.{IsDraft, draft_bytes, draft_lines}
use Rattle.hlr_kept.specs.declared.draft.Draft.{Draft}
use Rattle.hlr_kept.proofs.GroupLemmas.{one_line}

-- where no line can be done, there is none
pub no_lines : {M : Type 0} (moves : List ℕ → M → M → Type 0) → ((line : List ℕ) (a b : M) → moves line a b → ⊥) → (written : List (List ℕ)) (before after : M) → Runs moves written before after
    → written ≡ []
no_lines moves none [] before after run = refl
no_lines moves none (line ∷ written) before after run = absurd (none line before run.0 run.1)

module _ {D : Type 0} (seen : D → List ℕ) (may_leave : D → List ℕ → Type 0) where
  -- a draft, and the lines that it has
  pub record HasLines (written : List (List ℕ)) (draft : Draft D) : Type 0 where
    pub is_draft : IsDraft seen may_leave draft
    pub lines : draft_lines seen draft ≡ written

  -- a line behind those of a tape and a group
  one_behind : (tape : Tape D) (group line now : List ℕ) → IsOpen seen may_leave tape → HasNoZero group → IsWhole (text (seen tape.device) ++ group)
      → AllByRecursion (λ byte. 10 < byte) line → now ≡ group ++ (line ++ 10 ∷ [])
      → HasNoZero now × IsWhole (text (seen tape.device) ++ now) × (lines (text (seen tape.device) ++ now) ≡ lines (text (seen tape.device) ++ group) ++ line ∷ [])
  one_behind tape group line now opened plain whole fits is =
      let one = one_line line fits in
      let before = text (seen tape.device) ++ group in
      let bytes : text (seen tape.device) ++ now ≡ before ++ (line ++ 10 ∷ []) =
      ap (λ (l : List ℕ). text (seen tape.device) ++ l) is ∙ sym (append_assoc (text (seen tape.device)) group (line ++ 10 ∷ [])) in (
        subst HasNoZero (sym is) (no_zero-append group (line ++ 10 ∷ []) plain one.no_zero),
        subst IsWhole (sym bytes) (whole-append before (line ++ 10 ∷ []) whole one.whole),
        ap lines bytes ∙ whole_lines before (line ++ 10 ∷ []) whole ∙ ap (λ (l : List (List ℕ)). lines before ++ l) one.lines,
      )

  -- the first line of a draft
  pub drafted_first : (draft : Draft D) → IsOpen seen may_leave draft.tape → IsWhole (text (seen draft.tape.device)) → recovered (seen draft.tape.device) ≡ []
      → AllByRecursion (λ byte. 10 < byte) first_line → draft.group.items ≡ first_line ++ 10 ∷ [] → HasLines (first_line ∷ []) draft
  drafted_first draft opened whole blank fits is =
      let nothing : text (seen draft.tape.device) ++ [] ≡ text (seen draft.tape.device) = append-nil (text (seen draft.tape.device)) in
      let one = one_behind draft.tape [] first_line draft.group.items opened refl (subst IsWhole (sym nothing) whole) fits is in
      record {
        is_draft = record { open_tape = opened; no_zero = one.0; whole = one.1 };
        lines = one.2 ∙ ap (λ (l : List (List ℕ)). l ++ first_line ∷ []) (ap lines nothing ∙ blank);
      }

  -- one line more
  pub drafted_more : (old new : Draft D) (line : List ℕ) → IsDraft seen may_leave old → new.tape ≡ old.tape → AllByRecursion (λ byte. 10 < byte) line
      → new.group.items ≡ old.group.items ++ (line ++ 10 ∷ []) → HasLines (draft_lines seen old ++ line ∷ []) new
  drafted_more old new line was same fits is =
      let one = one_behind old.tape old.group.items line new.group.items was.open_tape was.no_zero was.whole fits is in
      record {
        is_draft = record {
          open_tape = subst (IsOpen seen may_leave) (sym same) was.open_tape;
          no_zero = one.0;
          whole = subst (λ (t : Tape D). IsWhole (text (seen t.device) ++ new.group.items)) (sym same) one.1;
        };
        lines = ap (λ (t : Tape D). lines (text (seen t.device) ++ new.group.items)) same ∙ one.2;
      }

  -- what was gathered is on the tape
  pub drafted_flushed : (old new : Draft D) → IsDraft seen may_leave old → IsOpen seen may_leave new.tape
      → text (seen new.tape.device) ≡ text (seen old.tape.device) ++ old.group.items → new.group.items ≡ [] → HasLines (draft_lines seen old) new
  drafted_flushed old new was opened is none =
      let same : draft_bytes seen new ≡ draft_bytes seen old =
      ap (λ (l : List ℕ). text (seen new.tape.device) ++ l) none ∙ append-nil (text (seen new.tape.device)) ∙ is in
      record {
        is_draft = record { open_tape = opened; no_zero = subst HasNoZero (sym none) refl; whole = subst IsWhole (sym same) was.whole };
        lines = ap lines same;
      }
