-- A fold over pairs of key and value in order, and a walk over them.
use Rattle.std.specs.Prelude.{◌≡◌, ℕ, List, [], ◌∷◌}
use Rattle.std.specs.Borrow.{Bor, MutBor}

-- from a the calls over the pairs lead to b: each is given the key and a reference to the value
abbrev pub FoldsRows : {V A : Type 0} → (A → ℕ → Bor V → A → Type 0) → A → List (ℕ × V) → A → Type 0
FoldsRows Gives a [] b = a ≡ b
FoldsRows {V} {A} Gives a (p ∷ rows) b = (m : A) × (r : Bor V) × (r.now ≡ p.1) × Gives a p.0 r m × FoldsRows Gives m rows b

-- from a the calls over the pairs lead to b: each writes to what it is given with the key and a reference to the value
abbrev pub WalksRows : {V A : Type 0} → (MutBor A → ℕ → Bor V → MutBor A → Type 0) → A → List (ℕ × V) → A → Type 0
WalksRows {V} {A} Gives = FoldsRows (λ a k r b. (p : MutBor A) × (q : MutBor A) × (p.now ≡ a) × Gives p k r q × (q.now ≡ b))
