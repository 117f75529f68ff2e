-- What the rules of a root say of its height.
use Rattle.mr_subtree.proofs.Common.{◌≡◌, ℕ, ◌^◌, ◌<◌, ◌≤◌, length, List, Option, Some, None, IsSome, IfSome, Result, Ok, Err, IfErr, MatchResult, is_err, false, max, refl, sym, ap, subst, ◌∙◌, arith, inl, inr, add-one, Back, Refusal, Memory, mul-le-mul_right, pow-suc, cases_lt, row_at, with_row, Seen, key_of_pair, IsGrown, HasNewRoot, low_tree, IsRoot, IsHeightOf, IsInserted}

module _ {V : Type 0} where
  height_bounds : (s : Seen V) → IsRoot s → IsHeightOf s.height (length s.rows)
  height_bounds s root = record {
    low = λ h. omega (arith, mul-le-mul_right (16 ^ s.height) (root.two h), root.well.at_least);
    high = subst (λ n. length s.rows ≤ 32 ^ n) (sym (add-one s.height)) (omega (arith, pow-suc 32 s.height, mul-le-mul_right (32 ^ s.height) root.well.fits, root.well.at_most));
  }

  -- the bounds, of what a call saw
  pub bounds_seen : (h : ℕ) (s now : Seen V) → IsRoot s → h ≡ s.height → s ≡ now → IsHeightOf h (length now.rows)
  bounds_seen h s now root e same = subst (λ n. IsHeightOf n (length now.rows)) (sym e) (subst (λ x. IsHeightOf s.height (length x.rows)) same (height_bounds s root))

  pub low_root : (s : Seen V) → IsRoot s → s.height < 16
  low_root s root = elim (cases_lt 0 s.height) [
    | inl above_leaves ↦ low_tree s root.well (omega (arith, root.two above_leaves))
    | inr leaf ↦ omega (arith, leaf)
  ]

  -- a row that came in: the root stays one, and its rows are those of before and one more
  pub grown_root : (key : ℕ) (item : Option V) (s new now : Seen V) → s ≡ now → IsRoot s → IsSome item → IfSome item (λ value. IsGrown key value s new) → (IsRoot new) × IfSome item (λ value. new.rows ≡ with_row key_of_pair (key, value) now.rows)
  grown_root key None s new now e root some grown = let wrong : ⊥ = cc in absurd wrong
  grown_root key (Some value) s new now e root some grown = (
    record { well = grown.well; two = λ h. omega (arith, root.two (omega (arith, h, grown.level)), grown.width) },
    grown.rows ∙ ap (λ x. with_row key_of_pair (key, value) x.rows) e,
  )

  pub higher_root : (key : ℕ) (item : Option V) (s mid new now : Seen V) → s ≡ now → HasNewRoot s mid → IsSome item → IfSome item (λ value. IsGrown key value mid new) → (IsRoot new) × IfSome item (λ value. new.rows ≡ with_row key_of_pair (key, value) now.rows)
  higher_root key None s mid new now e high some grown = let wrong : ⊥ = cc in absurd wrong
  higher_root key (Some value) s mid new now e high some grown = (
    record { well = grown.well; two = λ h. omega (arith, high.width, grown.width) },
    grown.rows ∙ ap (with_row key_of_pair (key, value)) (high.rows ∙ ap (λ x. x.rows) e),
  )

  -- an insertion whose row went in
  pub inserted : (key : ℕ) (item : Option V) (old new : List (ℕ × V)) → row_at key_of_pair key old ≡ None → IfSome item (λ value. new ≡ with_row key_of_pair (key, value) old) → IfSome item (λ value. IsInserted key value old new (Ok tt))
  inserted key None old new none rows = tt
  inserted key (Some value) old new none rows = (none, rows)

  -- one that was refused for want of memory
  pub no_memory : (key : ℕ) (item : Option V) (answer : Result (Unit {0}) (Back V)) (old new : List (ℕ × V)) → row_at key_of_pair key old ≡ None → new ≡ old → IfSome item (λ value. answer ≡ Err (record { why = Memory; item = value })) → IfSome item (λ value. IsInserted key value old new answer)
  no_memory key None answer old new none same e = tt
  no_memory key (Some value) answer old new none same e = subst (IsInserted key value old new) (sym e) (refl, same, rw none refl)

-- where there are 32 rows or more, the answer says nothing new
pub memory_wanted : {V : Type 0} (answer : Result (Unit {0}) (Back V)) (n : ℕ) → 32 ≤ n → IfErr answer (λ back. back.why ≡ Memory → 32 ≤ n)
memory_wanted (Ok u) n enough = tt
memory_wanted (Err back) n enough = λ wanted. enough

-- blank nodes that were had are enough
pub filled : (answer : Result (Unit {0}) Refusal) (old count new : ℕ) → MatchResult answer (λ _. new ≡ max old count) (λ why. why ≡ Memory) → is_err answer ≡ false → count ≤ new
filled (Ok u) old count new h e = omega (arith, h)
filled (Err why) old count new h e = let wrong : ⊥ = cc in absurd wrong
