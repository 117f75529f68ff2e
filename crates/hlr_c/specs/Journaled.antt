-- What a call from C does to a register with its journal, and what it returns.
use Rattle.std.specs.Prelude.{◌≡◌, ◌≢◌, ◌⊎◌, ◌≤◌, ◌+◌, ◌^◌, ◌==◌, ℕ, zero, suc, ℤ, pos, List, [], ◌∷◌, ◌++◌, drop, length, replicate, slice_get, Option, Some, None, option_map, Result, Ok, Err, if◌then◌else◌}
use Rattle.tatp_rows.specs.Refusal.{code_of}
use Rattle.tatp_rows.specs.declared.refusal.Refusal.{Refusal}
use Rattle.tatp_rows.specs.declared.refusal.Refusal.TheVariants as refusal
use Rattle.journal_file.specs.Device.{LeavesOnly, over}
use Rattle.journal_file.specs.Owner.{owner_of_held}
use Rattle.journal_file.specs.Relayed.{relayed_leaves, relayed_left_since, relayed_moment, relayed_owner, relayed_seen}
use Rattle.journal_file.specs.declared.fault.JournalFault.{JournalFault}
use Rattle.journal_file.specs.declared.fault.JournalFault.TheVariants as fault
use Rattle.journal_file.specs.declared.record.Step.{Step}
use Rattle.journal_file.specs.declared.record.Step.TheVariants.{Blanked, Grew, Held, Synced, Wrote}
use Rattle.journal_file.specs.declared.relayed.Owed.{Owed}
use Rattle.journal_file.specs.declared.relayed.Relayed.{Relayed}
use Rattle.journal.specs.Lines.{HasFence}
use Rattle.edit_lines.specs.Lines.{line_of}
use Rattle.hlr_owners.specs.Owners.{AllHome, OwnersState, book_in, store_in}
use Rattle.hlr_owners.specs.Store.{HasOpening, Store, opening}
use Rattle.hlr_core.specs.declared.event.Event.{Event}
use Rattle.hlr_kept.specs.Keeping.{IsHanded, IsLike, IsSame, IsSettled, StandsAfterFirst}
use Rattle.hlr_kept.specs.Rows.{IsNotOpened, book_of}
use Rattle.hlr_kept.specs.declared.keeping.Journal.{Journal}
use Rattle.hlr_c.specs.Call.{IsAnswer}
use Rattle.hlr_c.specs.Told.{code_told}
use Rattle.hlr_c.specs.declared.codes.TheConstants.{AWAY, BAD_JOURNAL, DONE, FAILED, LOCKED, NO_JOURNAL, STILL_OPEN}
use Rattle.hlr_c.specs.declared.kept.Kept.{Kept}
use Rattle.hlr_c.specs.declared.opened.FileJournal.{FileJournal}
use Rattle.hlr_c.specs.declared.owing.TheConstants.{SYNC, WRITE, ZEROS}
use Rattle.hlr_c.specs.declared.rows.HlrCall.{HlrCall}

-- a register, with its journal if it has one
abbrev pub Open : Type 0
Open = OwnersState × Option FileJournal

-- what an open handle has
abbrev pub opened_in : Kept → Option Open
opened_in kept = option_map (λ register. (register, kept.journal)) kept.register

-- the code of a fault
abbrev pub fault_code : JournalFault → ℕ
fault_code fault.Memory = code_of refusal.Memory
fault_code fault.Failed = FAILED
fault_code fault.Full = FAILED
fault_code fault.Locked = LOCKED
fault_code fault.NoJournal = BAD_JOURNAL
fault_code fault.BadLine = BAD_JOURNAL

-- what a change with this code writes into the journal: the line of its event, if it was done
abbrev pub line_written : Result Event Refusal → ℕ → List ℕ
line_written (Ok event) code = if code == DONE then line_of event ++ 10 ∷ [] else []
line_written (Err why) code = []

-- These bytes were put behind the lines that wait, and nothing else of the journal has changed.
pub record IsAdded (bytes : List ℕ) (before after : FileJournal) : Type 0 where
  pub tape : after.current.tape ≡ before.current.tape
  pub group : after.current.group.items ≡ before.current.group.items ++ bytes
  pub fault : after.current.fault ≡ before.current.fault
  pub old : after.before ≡ before.before

-- Nothing has changed, because an earlier sync has failed, whose fault the code is of, or because memory for a line was
-- refused.
pub record IsHeldUp (before : OwnersState) (was : FileJournal) (code : ℕ) (after : OwnersState) (now : FileJournal) : Type 0 where
  pub register : after ≡ before
  pub journal : IsSame was.current now.current
  pub old : now.before ≡ was.before
  pub why : JournalFault
  pub cause : (was.current.fault ≡ Some why) ⊎ ((was.current.fault ≡ None) × (why ≡ fault.Memory))
  pub told : code ≡ fault_code why

-- the answer to a change of a register with a journal: it is held up; or it is what it is without a journal, and
-- exactly if the change was done, its line was put behind the lines that wait
abbrev pub IsKeptAnswer : Result Event Refusal → OwnersState → FileJournal → ℕ → OwnersState → FileJournal → Type 0
IsKeptAnswer asked before was code after now =
    IsHeldUp before was code after now
    ⊎ ((was.current.fault ≡ None) × IsAnswer asked code_told AWAY before code after × IsAdded (line_written asked code) was now)

-- the answer to a change, with a journal and without one
abbrev pub IsChange : Result Event Refusal → Open → ℕ → Open → Type 0
IsChange asked (before, None) code (after, now) = IsAnswer asked code_told AWAY before code after × (now ≡ None)
IsChange asked (before, Some was) code (after, None) = ⊥
IsChange asked (before, Some was) code (after, Some now) = IsKeptAnswer asked before was code after now

-- No line waits, no sync has failed, and whatever a crash may leave of the file stands for the rows of the register. Like
-- each clause on the file, this is so once C has made the calls that it owes; before, the file is as at an earlier moment.
pub record IsSafe (register : OwnersState) (journal : FileJournal) : Type 0 where
  pub settled : IsSettled journal.current
  pub rows : (file : List ℕ) → relayed_leaves journal.current.tape.device file
      → HasFence file × (book_of file ≡ Some (book_in register.owners))

-- why a sync fails: memory was refused, or the file would be longer than 2^61 bytes
abbrev pub IsNotSynced : FileJournal → JournalFault → Type 0
IsNotSynced journal why =
    (why ≡ fault.Memory)
    ⊎ ((why ≡ fault.Full) × (2 ^ 61 ≤ journal.current.tape.len + length journal.current.group.items))

-- A journal was synced, or the sync has failed, and from then on its fault stays. At any moment of the call, a crash
-- leaves a file that stands for the rows after the first so many of the lines that waited. No call counts as made by it,
-- so C is handed each that it has noted. No journal of before is kept.
pub record IsSynced (register : OwnersState) (before : FileJournal) (code : ℕ) (after : FileJournal) : Type 0 where
  pub done : code ≡ DONE → IsSafe register after
  pub failed : code ≢ DONE → (why : JournalFault) × (code ≡ fault_code why) × (after.current.fault ≡ Some why)
      × (before.current.fault ≡ None → IsNotSynced before why)
  pub stays : (why : JournalFault) → before.current.fault ≡ Some why → (code ≡ fault_code why) × (after.current ≡ before.current)
  pub any_moment : before.current.fault ≡ None
      → LeavesOnly relayed_moment relayed_left_since before.current.tape.device after.current.tape.device
      (λ file. HasFence file × StandsAfterFirst relayed_seen before.current file)
  pub owner : relayed_owner after.current.tape.device ≡ relayed_owner before.current.tape.device
  pub old : after.before ≡ None

-- a sync of the journal, if there is one
abbrev pub IsSyncing : Open → ℕ → Open → Type 0
IsSyncing (before, None) code after = (code ≡ NO_JOURNAL) × (after ≡ (before, None))
IsSyncing (before, Some was) code (after, None) = ⊥
IsSyncing (before, Some was) code (after, Some now) = (after ≡ before) × IsSynced before was code now

-- memory was taken for a sync, or was refused, or an earlier sync has failed
abbrev pub IsReserving : Open → ℕ → Open → Type 0
IsReserving (before, None) code after = (code ≡ NO_JOURNAL) × (after ≡ (before, None))
IsReserving (before, Some was) code (after, None) = ⊥
IsReserving (before, Some was) code (after, Some now) =
    (after ≡ before) × IsLike was.current now.current × (now.before ≡ was.before)
    × ((code ≡ DONE)
    ⊎ ((why : JournalFault) × (code ≡ fault_code why) × ((was.current.fault ≡ Some why) ⊎ (why ≡ fault.Memory))))

-- no line waits, no call is owed, and no sync has failed
abbrev pub IsAllMade : FileJournal → Type 0
IsAllMade journal = IsSettled journal.current × (journal.current.tape.device.owed.items ≡ [])

-- if nothing of the journal is left to be done, the register is left without it
abbrev pub IsEnding : Open → ℕ → Open → Type 0
IsEnding (before, None) code after = (code ≡ NO_JOURNAL) × (after ≡ (before, None))
IsEnding (before, Some was) code (after, None) =
    (code ≡ DONE) × (after ≡ before) × IsSafe before was × IsAllMade was
IsEnding (before, Some was) code (after, Some now) =
    (code ≡ FAILED) × (after ≡ before) × (now ≡ was) × ¬ (IsAllMade was)

-- the number of a kind of call
abbrev pub call_kind : Step → ℕ
call_kind (Wrote at is_done) = WRITE
call_kind (Blanked from is_done) = ZEROS
call_kind (Grew more is_done) = ZEROS
call_kind (Synced is_done) = SYNC
call_kind _ = 0

-- a call as C is handed it
abbrev pub told_call : ℤ → Owed → HlrCall
told_call fd owed = record { kind = call_kind owed.step; fd = fd; from = owed.from; to = owed.to }

-- no call
abbrev pub no_call : HlrCall
no_call = record { kind = 0; fd = pos 0; from = 0; to = 0 }

-- the calls that C is handed: those that are owed, unless a sync has failed
abbrev pub owed_in : Option JournalFault → Relayed → List Owed
owed_in None device = device.owed.items
owed_in (Some why) device = []

-- a call and the bytes that it writes behind the first so many, in the front of a room; or no call, and the room stays
abbrev pub told_owed : ℤ → ℕ → List ℕ × HlrCall → Option Owed → List ℕ × HlrCall
told_owed fd skip before None = (before.0, no_call)
told_owed fd skip before (Some owed) = (over 0 (drop skip owed.bytes.items) before.0, told_call fd owed)

-- the code, and the call at an index
abbrev pub IsOwedTold : ℕ → ℕ → List ℕ × HlrCall → Open → ℕ × (List ℕ × HlrCall) → Open → Type 0
IsOwedTold index skip room (before, None) answer after = (answer ≡ (NO_JOURNAL, room)) × (after ≡ (before, None))
IsOwedTold index skip room (before, Some was) answer after =
    (answer ≡ (DONE, told_owed was.current.tape.device.fd skip room (slice_get (owed_in was.current.fault was.current.tape.device) index)))
    × (after ≡ (before, Some was))

-- a journal after a call on its file has failed, by the journal of before and the lines that wait: the one of before, if it
-- is kept and no line waits; or itself, and a sync has failed
abbrev pub by_before : FileJournal → Option (Journal Relayed) → List ℕ → FileJournal
by_before journal (Some old) [] = record { current = old; before = None }
by_before journal _ _ = record { current = record journal.current { fault = Some fault.Failed }; before = None }

-- a journal after a call on its file has failed
abbrev pub fallen_back : FileJournal → FileJournal
fallen_back journal = by_before journal journal.before journal.current.group.items

-- C has made its calls, or, where it says 0, one of them has failed now; a sync that has failed before stays
abbrev pub IsMade : ℕ → FileJournal → Option JournalFault → ℕ → FileJournal → Type 0
IsMade is_done was (Some why) code now = (code ≡ fault_code why) × (now ≡ was)
IsMade zero was None code now = (code ≡ FAILED) × (now ≡ fallen_back was)
IsMade (suc n) was None code now = (code ≡ DONE) × IsHanded was.current now.current × (now.before ≡ None)

-- the same of a register that may have no journal
abbrev pub IsMaking : ℕ → Open → ℕ → Open → Type 0
IsMaking is_done (before, None) code after = (code ≡ NO_JOURNAL) × (after ≡ (before, None))
IsMaking is_done (before, Some was) code (after, None) = ⊥
IsMaking is_done (before, Some was) code (after, Some now) = (after ≡ before) × IsMade is_done was was.current.fault code now

-- the code, and how many bytes of lines wait, unless a sync has failed
abbrev pub unsynced_told : ℕ → Option JournalFault → List ℕ → ℕ × ℕ
unsynced_told bytes None lines = (DONE, length lines)
unsynced_told bytes (Some why) lines = (fault_code why, bytes)

-- the same of a register that may have no journal
abbrev pub IsUnsyncedTold : ℕ → Open → ℕ × ℕ → Open → Type 0
IsUnsyncedTold bytes (before, None) answer after = (answer ≡ (NO_JOURNAL, bytes)) × (after ≡ (before, None))
IsUnsyncedTold bytes (before, Some was) answer after =
    (answer ≡ unsynced_told bytes was.current.fault was.current.group.items) × (after ≡ (before, Some was))

-- A register has the rows of a journal with these bytes, and for the rest is as this store was. The journal keeps it from
-- then on, and a crash at any moment since the file had these bytes leaves these rows. C knows the file by this number, and
-- has made no call on it since.
pub record IsComeBack (fd : ℤ) (bytes : List ℕ) (before : Store) (register : OwnersState) (journal : FileJournal) : Type 0 where
  pub owner : relayed_owner journal.current.tape.device ≡ owner_of_held fd bytes
  pub old : journal.before ≡ None
  pub rows : book_of bytes ≡ Some (book_in register.owners)
  pub store : store_in register ≡ record before { book = book_in register.owners }
  pub home : AllHome register.owners
  pub safe : IsSafe register journal
  pub first : Relayed
  pub read : first.log.calls ≡ (Held, bytes) ∷ []
  pub since : LeavesOnly relayed_moment relayed_left_since first journal.current.tape.device
      (λ left. HasFence left × (book_of left ≡ book_of bytes))

-- an open handle stays as it is; a closed one gets the register of a journal, or stays closed, with Field exactly if no
-- register can be opened with this many parts and this width, and otherwise only for memory or if the bytes are no journal
abbrev pub IsReopening : ℤ → List ℕ → ℕ → ℕ → Option Open → ℕ → Option Open → Type 0
IsReopening fd bytes parts width (Some kept) code after = (code ≡ STILL_OPEN) × (after ≡ Some kept)
IsReopening fd bytes parts width None code (Some (register, None)) = ⊥
IsReopening fd bytes parts width None code (Some (register, Some journal)) =
    (code ≡ DONE) × HasOpening parts width × IsComeBack fd bytes (opening parts width) register journal
IsReopening fd bytes parts width None code None =
    ((code ≡ code_of refusal.Field) × ¬ (HasOpening parts width))
    ⊎ (HasOpening parts width × (why : JournalFault) × (code ≡ fault_code why) × IsNotOpened bytes why)

-- the reason why no snapshot was made: a part is lent, or a fault
abbrev pub IsNotWritten : OwnersState → ℕ → Type 0
IsNotWritten register code =
    ((code ≡ AWAY) × ¬ (AllHome register.owners))
    ⊎ (AllHome register.owners × (why : JournalFault) × (code ≡ fault_code why))

-- the journal that a register has, if it has one
abbrev pub current_of : Option FileJournal → Option (Journal Relayed)
current_of journal = option_map (λ one. one.current) journal

-- a new journal, which has the rows of the register, with the one that the register had before; C knows its file by this
-- number, which had 65,536 zeros, and has made no call on it since
pub record IsSnapshotOf (fd : ℤ) (register : OwnersState) (before : Option FileJournal) (journal : FileJournal) : Type 0 where
  pub owner : relayed_owner journal.current.tape.device ≡ owner_of_held fd (replicate 65536 0)
  pub safe : IsSafe register journal
  pub old : journal.before ≡ current_of before

-- the register has a new journal; or nothing has changed
abbrev pub IsSnapshot : ℤ → Open → ℕ → Open → Type 0
IsSnapshot fd before code after =
    ((code ≡ DONE) × (after.0 ≡ before.0) × (journal : FileJournal) × (after.1 ≡ Some journal)
    × IsSnapshotOf fd before.0 before.1 journal)
    ⊎ (IsNotWritten before.0 code × (after ≡ before))
