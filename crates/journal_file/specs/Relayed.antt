-- A file whose calls its owner makes, with those that were noted.
use Rattle.std.specs.Prelude.{ℕ, List, length, Option, Some}
use Rattle.journal_file.specs.Calls.{seen_after, left_after, left_since}
use Rattle.journal_file.specs.Owner.{Owner}
use Rattle.journal_file.specs.declared.relayed.Relayed.{Relayed}

-- its bytes
abbrev pub relayed_seen : Relayed → List ℕ
relayed_seen file = seen_after file.log.calls

-- what a crash may leave of it now
abbrev pub relayed_leaves : Relayed → List ℕ → Type 0
relayed_leaves file = left_after file.log.calls

-- the moment of its last call
abbrev pub relayed_moment : Relayed → ℕ
relayed_moment file = length file.log.calls

-- what a crash since a moment might have left of it
abbrev pub relayed_left_since : Relayed → ℕ → List ℕ → Type 0
relayed_left_since file = left_since file.log.calls

-- its owner, with the calls that he has made
abbrev pub relayed_owner : Relayed → Option Owner
relayed_owner file = Some (record { fd = file.fd; made = file.made.calls })
