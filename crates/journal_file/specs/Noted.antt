-- A file of the operating system, with the calls that it has had.
use Rattle.std.specs.Prelude.{◌≡◌, ℕ, true, List, [], ◌∷◌, length}
use Rattle.journal_file.specs.Calls.{seen_after, left_after, left_since}
use Rattle.journal_file.specs.declared.noted.Noted.{Noted}
use Rattle.journal_file.specs.declared.noted.UnreadNoted.{UnreadNoted}
use Rattle.journal_file.specs.declared.record.Step.TheVariants.{Held}

-- its bytes
abbrev pub noted_seen : {F : Type 0} → Noted F → List ℕ
noted_seen file = seen_after file.log.calls

-- what a crash may leave of it now
abbrev pub noted_leaves : {F : Type 0} → Noted F → List ℕ → Type 0
noted_leaves file = left_after file.log.calls

-- the moment of its last call
abbrev pub noted_moment : {F : Type 0} → Noted F → ℕ
noted_moment file = length file.log.calls

-- what a crash since a moment might have left of it
abbrev pub noted_left_since : {F : Type 0} → Noted F → ℕ → List ℕ → Type 0
noted_left_since file = left_since file.log.calls

-- what was read of it
abbrev pub noted_read : {F : Type 0} → UnreadNoted F → List ℕ
noted_read unread = seen_after unread.log.calls

-- no byte of it is left to be read
abbrev pub IsReadWhole : {F : Type 0} → UnreadNoted F → Type 0
IsReadWhole unread = unread.is_read ≡ true

-- the same file, to be written, once all of it was read
abbrev pub noted_file : {F : Type 0} → UnreadNoted F → Noted F
noted_file unread = record { file = unread.file; len = unread.len; log = record { calls = (Held, []) ∷ unread.log.calls } }
