-- What the calls of a file do to its bytes, and what a crash may make of them between two syncs.
use Rattle.std.specs.Prelude.{⊤, ◌<◌, ◌≡◌, ◌⊎◌, ℕ, zero, suc, ◌≤◌, List, [], ◌∷◌, ◌++◌, Result, IsErrOf}
use Rattle.journal_file.specs.declared.fault.JournalFault.{JournalFault}
use Rattle.journal_file.specs.declared.fault.JournalFault.TheVariants.{Failed, Full, Locked, NoJournal, BadLine}

-- the file with these bytes written over it at an offset
abbrev pub over : ℕ → List ℕ → List ℕ → List ℕ
over at bytes [] = []
over zero [] (was ∷ old) = was ∷ old
over zero (byte ∷ bytes) (was ∷ old) = byte ∷ over zero bytes old
over (suc at) bytes (was ∷ old) = was ∷ over at bytes old

-- the new file is the old one, in which each byte of the range may be the one that was written; behind the old end it
-- may be anything
abbrev pub Mixes : ℕ → List ℕ → List ℕ → List ℕ → Type 0
Mixes zero [] old new = new ≡ old
Mixes zero (byte ∷ bytes) [] new = ⊤
Mixes zero (byte ∷ bytes) (was ∷ old) [] = ⊥
Mixes zero (byte ∷ bytes) (was ∷ old) (is ∷ new) = ((is ≡ was) ⊎ (is ≡ byte)) × Mixes zero bytes old new
Mixes (suc at) bytes [] new = ⊤
Mixes (suc at) bytes (was ∷ old) [] = ⊥
Mixes (suc at) bytes (was ∷ old) (is ∷ new) = (is ≡ was) × Mixes at bytes old new

-- the new file is the old one, in which each byte from an offset on may be 0 instead
abbrev pub Fades : ℕ → List ℕ → List ℕ → Type 0
Fades kept [] [] = ⊤
Fades kept [] (is ∷ new) = ⊥
Fades kept (was ∷ old) [] = ⊥
Fades zero (was ∷ old) (is ∷ new) = ((is ≡ 0) ⊎ (is ≡ was)) × Fades zero old new
Fades (suc kept) (was ∷ old) (is ∷ new) = (is ≡ was) × Fades kept old new

-- the first list is the front of the second
abbrev pub IsFront : {A : Type 0} → List A → List A → Type 0
IsFront {A} front whole = (rest : List A) × (whole ≡ front ++ rest)

-- what a crash may leave now is what it might have left before, after a step
abbrev pub Follows : (List ℕ → List ℕ → Type 0) → (List ℕ → Type 0) → (List ℕ → Type 0) → Type 0
Follows step old new = (c : List ℕ) → new c → (d : List ℕ) × old d × step d c

-- a crash leaves these bytes and nothing else
abbrev pub Only : List ℕ → (List ℕ → Type 0) → Type 0
Only file may_leave = (c : List ℕ) → may_leave c → c ≡ file

-- Time passes during a call. A crash since an earlier moment might have left what it might have left before the call,
-- or what it may leave now.
pub record Elapses (before now : ℕ) (past since : ℕ → List ℕ → Type 0) (may_leave : List ℕ → Type 0) : Type 0 where
  pub later : before ≤ now
  pub nothing_else : (t : ℕ) (c : List ℕ) → t ≤ before → since t c → past t c ⊎ may_leave c
  pub keeps : (t : ℕ) (c : List ℕ) → t ≤ before → past t c → since t c

-- A crash at any moment from the old file on leaves bytes that have P.
pub record LeavesOnly {D : Type 0} (moment : D → ℕ) (left_since : D → ℕ → List ℕ → Type 0) (old new : D) (P : List ℕ → Type 0) : Type 0 where
  pub later : moment old ≤ moment new
  pub each : (c : List ℕ) → left_since new (moment old) c → P c
  -- from any earlier moment on, it leaves these or what it might have left by then
  pub before : (t : ℕ) (c : List ℕ) → t ≤ moment old → left_since new t c → left_since old t c ⊎ P c
  -- and what it might have left by then, it may still have left
  pub keeps : (t : ℕ) (c : List ℕ) → t ≤ moment old → left_since old t c → left_since new t c

-- A call of a file gives up with `Failed` only if the disk has failed during it, and otherwise with `Memory`.
pub record HasCause {T : Type 0} (before now : ℕ) (result : Result T JournalFault) : Type 0 where
  pub later : before ≤ now
  pub failed : IsErrOf result Failed → before < now
  pub not_full : IsErrOf result Full → ⊥
  pub not_missing : IsErrOf result NoJournal → ⊥
  pub not_bad : IsErrOf result BadLine → ⊥
  pub not_locked : IsErrOf result Locked → ⊥
