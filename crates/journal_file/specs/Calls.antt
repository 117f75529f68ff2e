-- The calls that a file has had, with their answers: what the file holds after them, and what a crash may leave of it.
use Rattle.std.specs.Prelude.{⊤, ◌≡◌, ◌⊎◌, ℕ, ◌+◌, ◌-◌, ◌≤◌, true, false, List, [], ◌∷◌, ◌++◌, length, take, replicate}
use Rattle.journal_file.specs.Device.{over, Mixes, Fades, IsFront}
use Rattle.journal_file.specs.declared.record.Step.{Step}
use Rattle.journal_file.specs.declared.record.Step.TheVariants.{Held, Unreadable, Wrote, Blanked, Grew, Synced, Replaced}

-- a call, with the bytes that it read, wrote or put in the place of the file
abbrev pub Call : Type 0
Call = Step × List ℕ

-- the bytes after a call
abbrev pub seen_step : Step → List ℕ → List ℕ → List ℕ
seen_step Held bytes old = old ++ bytes
seen_step (Wrote at true) bytes old = over at bytes old
seen_step (Blanked from true) bytes old = take from old ++ replicate (length old - from) 0
seen_step (Grew more true) bytes old = old ++ replicate more 0
seen_step (Replaced true) bytes old = bytes
seen_step _ bytes old = old

-- a call that reads
abbrev pub IsRead : Step → Type 0
IsRead Held = ⊤
IsRead Unreadable = ⊤
IsRead _ = ⊥

-- what a crash during a call may leave, or after it
abbrev pub left_step : Step → List ℕ → List ℕ → (List ℕ → Type 0) → List ℕ → Type 0
left_step Held bytes old was c = c ≡ old ++ bytes
left_step Unreadable bytes old was c = was c
left_step (Wrote at is_done) bytes old was c = (d : List ℕ) × was d × Mixes at bytes d c
left_step (Blanked from is_done) bytes old was c = (d : List ℕ) × was d × Fades from d c
left_step (Grew more is_done) bytes old was c = (d : List ℕ) × was d × IsFront d c
left_step (Synced true) bytes old was c = c ≡ old
left_step (Synced false) bytes old was c = was c
left_step (Replaced true) bytes old was c = c ≡ bytes
left_step (Replaced false) bytes old was c = was c ⊎ (c ≡ bytes)

-- the bytes after some calls, of which the last one comes first
abbrev pub seen_after : List Call → List ℕ
seen_after [] = []
seen_after (call ∷ earlier) = seen_step call.0 call.1 (seen_after earlier)

-- what a crash after some calls may leave; a process that ends leaves what it has written
abbrev pub left_after : List Call → List ℕ → Type 0
left_after [] c = c ≡ []
left_after (call ∷ earlier) c = (c ≡ seen_after (call ∷ earlier)) ⊎ left_step call.0 call.1 (seen_after earlier) (left_after earlier) c

-- 1 if the call failed, and 0 if it was done
abbrev pub fault_of : Step → ℕ
fault_of Unreadable = 1
fault_of (Wrote at false) = 1
fault_of (Blanked from false) = 1
fault_of (Grew more false) = 1
fault_of (Synced false) = 1
fault_of (Replaced false) = 1
fault_of _ = 0

-- how many calls failed
abbrev pub faults_in : List Call → ℕ
faults_in [] = 0
faults_in (call ∷ earlier) = fault_of call.0 + faults_in earlier

-- what a crash after the first t calls, or later, might have left
abbrev pub left_since : List Call → ℕ → List ℕ → Type 0
left_since [] t c = left_after [] c
left_since (call ∷ earlier) t c = left_after (call ∷ earlier) c ⊎ ((t ≤ length earlier) × left_since earlier t c)

-- each of some calls has read, or couldn't
abbrev pub AreReads : List Call → Type 0
AreReads [] = ⊤
AreReads (call ∷ earlier) = IsRead call.0 × AreReads earlier

-- reads came behind some calls, and nothing else
abbrev pub HasReadOn : List Call → List Call → Type 0
HasReadOn first last = (more : List Call) × AreReads more × (last ≡ more ++ first)
