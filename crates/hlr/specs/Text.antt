-- The text that answers a list of records.
use Rattle.std.specs.Prelude.{◌≡◌, ℕ, List, [], ◌∷◌, ◌++◌, Result, Ok, Err}
use Rattle.arrayvec.specs.ArrayVec.{ArrayVec}
use Rattle.tatp_rows.specs.declared.refusal.Refusal.{Refusal}
use Rattle.part_table.specs.Proposal.{proposal}
use Rattle.tatp_actions.specs.Cell.{cell}
use Rattle.hlr_owners.specs.Recut.{IsRecut}
use Rattle.hlr_owners.specs.Store.{Store, parts_in, published, unpublished}
use Rattle.hlr_core.specs.Index.{index_of}
use Rattle.hlr_core.specs.Step.{IsStep}
use Rattle.hlr_core.specs.Weights.{published_weights}
use Rattle.hlr_core.specs.declared.event.Event.{Event}
use Rattle.hlr_core.specs.declared.event.Reply.{Reply}
use Rattle.hlr.specs.Lines.{bounds_line, recut_line, refused_line, reply_line}
use Rattle.hlr.specs.Records.{bounds_of, command_of}
use Rattle.hlr.specs.Reports.{index_text, regions_text, scan_text, views_text}
use Rattle.hlr.specs.Command.{Command}
use Rattle.hlr.specs.Command.{Command as command}

-- an event is answered by the line of a right reply
pub record Answered (before : Store) (event : Event) (text : List ℕ) (after : Store) : Type 0 where
  pub reply : Reply
  pub right : IsStep event before reply after
  pub line : text ≡ reply_line reply

-- a recut to bounds is answered by the line of a right answer
pub record RecutAnswered (before : Store) (bounds : List ℕ) (text : List ℕ) (after : Store) : Type 0 where
  pub answer : Result ℕ Refusal
  pub right : IsRecut bounds before answer after
  pub line : text ≡ recut_line answer

-- the line of the bounds that are proposed for a store
abbrev pub proposal_line : Store → List ℕ
proposal_line store = bounds_line (proposal (published_weights store) (parts_in store) store.width)

-- a recut to the bounds that were read is answered; what is no list of bounds is answered by its refusal
abbrev pub RecutText : Result (ArrayVec ℕ) Refusal → Store → List ℕ → Store → Type 0
RecutText (Ok bounds) before text after = RecutAnswered before bounds.items text after
RecutText (Err why) before text after = (text ≡ refused_line why) × (after ≡ before)

-- a command of these fields is answered: an event by its reply, a report by its lines, a record that is no command by
-- its refusal
abbrev pub CommandText : List (List ℕ) → Result Command Refusal → Store → List ℕ → Store → Type 0
CommandText fields (Ok (command.Ask event)) before text after = Answered before event text after
CommandText fields (Ok command.Views) before text after = (text ≡ views_text (published before) (unpublished before)) × (after ≡ before)
CommandText fields (Ok command.Scan) before text after = (text ≡ scan_text (λ c. cell before.width c before.book)) × (after ≡ before)
CommandText fields (Ok command.Index) before text after = (text ≡ index_text (index_of before.book.subscribers)) × (after ≡ before)
CommandText fields (Ok command.Regions) before text after = (text ≡ regions_text before.regions) × (after ≡ before)
CommandText fields (Ok command.Propose) before text after = (text ≡ proposal_line before) × (after ≡ before)
CommandText fields (Ok command.Recut) before text after = RecutText (bounds_of fields) before text after
CommandText fields (Err why) before text after = (text ≡ refused_line why) × (after ≡ before)

-- a record is answered
abbrev pub RecordText : List (List ℕ) → Store → List ℕ → Store → Type 0
RecordText fields = CommandText fields (command_of fields)

-- the records are answered one after another
unfoldable pub RecordsText : List (List (List ℕ)) → Store → List ℕ → Store → Type 0
RecordsText [] before text after = (text ≡ []) × (after ≡ before)
RecordsText (row ∷ rows) before text after =
    (first : List ℕ) × (next : Store) × (rest : List ℕ)
    × RecordText row before first next × RecordsText rows next rest after × (text ≡ first ++ rest)
