-- A walk over the rows of a group, place by place.
use Rattle.group_tree.proofs.Common.{◌≡◌, refl, sym, subst, ℕ, List, [], ◌∷◌, ◌++◌, Option, Some, None, append-nil, FoldsRows, folds_append, Bor}
use Rattle.std.specs.Option.{option_to_list}

module _ {R A : Type 0} (Gives : A → ℕ → Bor R → A → Type 0) (first next : List (ℕ × R)) (found : Option (ℕ × R)) (more : next ≡ first ++ option_to_list found) (a m : A) (front : FoldsRows Gives a first m) where
  -- a walk goes on over a place with a row, and over one without
  pub walked_row : (b : A) (p : ℕ × R) (r : Bor R) → Some p ≡ found → r.now ≡ p.1 → Gives m p.0 r b → FoldsRows Gives a next b
  walked_row b p r is same one =
      rw more (subst (λ o. FoldsRows Gives a (first ++ option_to_list o) b) is (folds_append Gives a m b first (p ∷ []) front (b, r, same, one, refl)))

  pub walked_none : None ≡ found → FoldsRows Gives a next m
  walked_none is = rw more (subst (λ o. FoldsRows Gives a (first ++ option_to_list o) m) is (subst (λ l. FoldsRows Gives a l m) (sym (append-nil first)) front))
