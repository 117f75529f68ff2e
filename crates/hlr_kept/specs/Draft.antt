-- No public clause cites this: how a snapshot is drafted, page by page and line by line.
use Rattle.std.specs.Prelude.{ℕ, ◌+◌, List, ◌++◌}
use Rattle.std.specs.List.{AllByRecursion}
use Rattle.tatp_rows.specs.Keys.{key_of}
use Rattle.tatp_rows.specs.Ordered.{IsOrderedBy}
use Rattle.tatp_actions.specs.Listed.{IsListed}
use Rattle.tatp_actions.specs.declared.listed.KeyFields.{KeyFields}
use Rattle.journal.specs.Lines.{HasNoZero, IsWhole, lines, text}
use Rattle.journal.specs.Tape.{IsOpen}
use Rattle.hlr_kept.specs.declared.draft.Draft.{Draft}

-- the bytes that are on the tape, and those that are gathered behind them
abbrev pub draft_bytes : {D : Type 0} → (D → List ℕ) → Draft D → List ℕ
draft_bytes seen draft = text (seen draft.tape.device) ++ draft.group.items

-- the lines of both
abbrev pub draft_lines : {D : Type 0} → (D → List ℕ) → Draft D → List (List ℕ)
draft_lines seen draft = lines (draft_bytes seen draft)

-- The bytes are whole lines, and those that are gathered may be appended to the tape.
pub record IsDraft {D : Type 0} (seen : D → List ℕ) (may_leave : D → List ℕ → Type 0) (draft : Draft D) : Type 0 where
  pub open_tape : IsOpen seen may_leave draft.tape
  pub no_zero : HasNoZero draft.group.items
  pub whole : IsWhole (draft_bytes seen draft)

-- the first key behind the key of a row
abbrev pub behind : KeyFields → KeyFields
behind last = record last { start_time = last.start_time + 1 }

-- the key of a row as one number, by the fields of its key
abbrev pub packed_key : {X : Type 0} → (X → KeyFields) → X → ℕ
packed_key fields row = key_of (fields row).s_id (fields row).kind (fields row).start_time

-- Rows lie in the order of their keys, and the fields of these are small.
pub record AreKeyed {X : Type 0} (fields : X → KeyFields) (rows : List X) : Type 0 where
  pub ordered : IsOrderedBy (packed_key fields) rows
  pub listed : AllByRecursion (λ row. IsListed (fields row) (packed_key fields row)) rows
