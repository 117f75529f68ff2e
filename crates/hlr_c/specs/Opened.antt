-- Opening and closing, and the parts that handles lend and send home.
use Rattle.std.specs.Prelude.{◌≡◌, ◌⊎◌, ◌≤◌, ℕ, length, Option, Some, None}
use Rattle.tatp_rows.specs.Refusal.{code_of}
use Rattle.tatp_rows.specs.declared.refusal.Refusal.TheVariants.{Field, Memory, NoPart}
use Rattle.part_table.specs.Regions.{parts_of}
use Rattle.holding.specs.Held.{HoldingState}
use Rattle.hlr_owners.specs.Owners.{AllHome, IsLent, IsPartHome, OwnersState, store_in}
use Rattle.hlr_owners.specs.Store.{HasOpening, opening}
use Rattle.hlr_lent.specs.Jobs.{IsBack}
use Rattle.hlr_c.specs.declared.codes.TheConstants.{AWAY, DONE, JOURNALED, NOT_OPEN, STILL_OPEN}

-- an open handle stays as it is, and the answer says so; a closed one gets an empty register, or stays closed, with
-- Field exactly if no register can be opened with this many parts and this width, and with Memory otherwise
abbrev pub IsOpening : ℕ → ℕ → Option OwnersState → ℕ → Option OwnersState → Type 0
IsOpening parts width (Some register) code after = (code ≡ STILL_OPEN) × (after ≡ Some register)
IsOpening parts width None code (Some register) =
    (code ≡ DONE) × HasOpening parts width × (store_in register ≡ opening parts width) × AllHome register.owners
IsOpening parts width None code None =
    ((code ≡ code_of Field) × ¬ (HasOpening parts width)) ⊎ ((code ≡ code_of Memory) × HasOpening parts width)

-- no register or part is left, and the answer says whether there was one
abbrev pub IsClosing : {S : Type 0} → Option S → ℕ → Option S → Type 0
IsClosing None code after = (code ≡ NOT_OPEN) × (after ≡ None)
IsClosing (Some kept) code after = (code ≡ DONE) × (after ≡ None)

-- there is no such part
abbrev pub IsNoPart : ℕ → OwnersState → Type 0
IsNoPart part register = length (parts_of register.regions) ≤ part

-- there is such a part, and it is home
abbrev pub IsThere : ℕ → OwnersState → Type 0
IsThere part register = ¬ (IsNoPart part register) × IsPartHome part register

-- the reason why a part isn't lent: there is no such part, it is lent already, or it is home and memory was refused
abbrev pub IsKept : ℕ → OwnersState → ℕ → Type 0
IsKept part register code =
    ((code ≡ code_of NoPart) × IsNoPart part register)
    ⊎ (((code ≡ AWAY) × ¬ (IsPartHome part register)) ⊎ ((code ≡ code_of Memory) × IsThere part register))

-- a part moves from an open handle to a closed one; or neither handle changes, and the answer says why, as it does for a
-- register with a journal
abbrev pub IsLending : {J : Type 0} → ℕ → Option J → Option OwnersState × Option HoldingState → ℕ → Option OwnersState × Option HoldingState → Type 0
IsLending part journal (None, lent) code after = (code ≡ NOT_OPEN) × (after ≡ (None, lent))
IsLending part journal (Some register, Some other) code after = (code ≡ STILL_OPEN) × (after ≡ (Some register, Some other))
IsLending part (Some journal) (Some register, None) code after = (code ≡ JOURNALED) × (after ≡ (Some register, None))
IsLending part None (Some register, None) code (None, lent) = ⊥
IsLending part None (Some register, None) code (Some next, None) = (next ≡ register) × IsKept part register code
IsLending part None (Some register, None) code (Some next, Some lent) = (code ≡ DONE) × IsLent part register lent next

-- a part is home, because it was, or because it was sent home; or it isn't, or there is none, and nothing changes
abbrev pub IsComing : ℕ → OwnersState → ℕ → OwnersState → Type 0
IsComing part before code after =
    ((code ≡ DONE) × IsBack part before after)
    ⊎ ((after ≡ before)
    × (((code ≡ code_of NoPart) × IsNoPart part before)
    ⊎ (((code ≡ DONE) × IsThere part before) ⊎ ((code ≡ AWAY) × ¬ (IsPartHome part before)))))
