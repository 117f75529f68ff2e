-- A state that lines lead on from.
use Rattle.std.specs.Prelude.{◌≡◌, ◌⊎◌, ℕ, List, [], ◌∷◌}
use Rattle.journal_file.specs.declared.fault.JournalFault.{JournalFault}
use Rattle.journal_file.specs.declared.fault.JournalFault.TheVariants.{BadLine, Memory}

-- the lines may lead from one state to another, one after the other
abbrev pub Runs : {M : Type 0} → (List ℕ → M → M → Type 0) → List (List ℕ) → M → M → Type 0
Runs moves [] before after = after ≡ before
Runs {M} moves (line ∷ lines) before after = (next : M) × moves line before next × Runs moves lines next after

-- the lines may lead from a state to one in which the next of them is bad
abbrev pub HasBadLine : {M : Type 0} → (List ℕ → M → M → Type 0) → (List ℕ → M → Type 0) → List (List ℕ) → M → Type 0
HasBadLine moves IsBad [] before = ⊥
HasBadLine {M} moves IsBad (line ∷ lines) before =
    IsBad line before ⊎ ((next : M) × moves line before next × HasBadLine moves IsBad lines next)

-- why the lines aren't done: memory was refused, or one of them is bad
abbrev pub AreRefused : {M : Type 0} → (List ℕ → M → M → Type 0) → (List ℕ → M → Type 0) → List (List ℕ) → M → JournalFault → Type 0
AreRefused moves IsBad lines before why = (why ≡ Memory) ⊎ ((why ≡ BadLine) × HasBadLine moves IsBad lines before)
