-- Runs of lines, one behind the other.
use Rattle.std.proofs.Common.{ℕ, List, [], ◌∷◌, ◌++◌, subst}
use Rattle.journal.specs.Machine.{Runs}

module _ {M : Type 0} (moves : List ℕ → M → M → Type 0) where
  pub runs-append : (a b : List (List ℕ)) (first mid last : M) → Runs moves a first mid → Runs moves b mid last → Runs moves (a ++ b) first last
  runs-append [] b first mid last is more = subst (λ m. Runs moves b m last) is more
  runs-append (line ∷ a) b first mid last run more = (run.0, run.1, runs-append a b run.0 mid last run.2 more)
