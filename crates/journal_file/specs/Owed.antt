-- A call that is owed, as one that was noted, and the bytes of the file that a call writes.
use Rattle.std.specs.Prelude.{ℕ, ◌+◌, true, List, [], ◌∷◌, length, Option, Some, None}
use Rattle.journal_file.specs.Calls.{Call, seen_after}
use Rattle.journal_file.specs.declared.record.Step.{Step}
use Rattle.journal_file.specs.declared.record.Step.TheVariants.{Wrote, Blanked, Grew, Synced}
use Rattle.journal_file.specs.declared.relayed.Owed.{Owed}

-- the call that stands in the list of those that were noted
abbrev pub owed_call : Owed → Call
owed_call owed = (owed.step, owed.bytes.items)

-- where a call that writes these bytes to a file begins and ends, if an owner can make it
abbrev pub span_of : Step → List ℕ → List ℕ → Option (ℕ × ℕ)
span_of (Wrote at true) bytes file = Some (at, at + length bytes)
span_of (Blanked from true) bytes file = Some (from, length file)
span_of (Grew more true) bytes file = Some (length file, length file + more)
span_of (Synced true) bytes file = Some (0, 0)
span_of _ bytes file = None

-- the same of each of some calls, of which the last one comes first
abbrev pub spans_of : List Call → List (Option (ℕ × ℕ))
spans_of [] = []
spans_of (call ∷ earlier) = span_of call.0 call.1 (seen_after earlier) ∷ spans_of earlier

-- where the owner is to begin and to end
abbrev pub owed_span : Owed → Option (ℕ × ℕ)
owed_span owed = Some (owed.from, owed.to)
