-- The line that has begun, of which no more than so many bytes are kept.
use Rattle.std.proofs.Common.{◌≡◌, ℕ, zero, suc, ◌<◌, ◌≤◌, List, [], ◌∷◌, ◌++◌, length, take, refl, sym, ◌∙◌, ap, arith}
use Rattle.std.proofs.lemmas.List.{take_all}

-- as many bytes of a list are those of its front with the rest behind it
take_front : (most : ℕ) (front more : List ℕ) → take most (take most front ++ more) ≡ take most (front ++ more)
take_front zero front more = refl
take_front (suc most) [] more = refl
take_front (suc most) (byte ∷ front) more = ap (λ (l : List ℕ). byte ∷ l) (take_front most front more)

-- no more than so many are kept
few_kept : (most : ℕ) (begun : List ℕ) → length (take most begun) ≤ most
few_kept zero begun = omega arith
few_kept (suc most) [] = omega arith
few_kept (suc most) (byte ∷ begun) = omega (arith, few_kept most begun)

-- nothing is kept of no line
pub take_none : (most : ℕ) → [] ≡ take {A = ℕ} most []
take_none most = sym (take_all most [] (omega arith))

-- more bytes come behind the line
pub kept_more : (most : ℕ) (begun kept more longer : List ℕ) → kept ≡ take most begun
    → (length kept ≤ most → longer ≡ take most (kept ++ more)) → longer ≡ take most (begun ++ more)
kept_more most begun kept more longer is put =
    put (omega (arith, ap length is, few_kept most begun)) ∙ ap (λ (l : List ℕ). take most (l ++ more)) is ∙ take_front most begun more

-- no line has begun if none is kept
pub none_begun : (most : ℕ) (begun kept : List ℕ) → 0 < most → kept ≡ take most begun → kept ≡ [] → begun ≡ []
none_begun zero begun kept some is none = absurd (omega (arith, some))
none_begun (suc most) [] kept some is none = refl
none_begun (suc most) (byte ∷ begun) kept some is none = absurd (cc (sym is ∙ none))

-- a shorter line is kept whole
pub kept_whole : (most : ℕ) (begun kept : List ℕ) → kept ≡ take most begun → length kept < most → kept ≡ begun
kept_whole zero begun kept is short = absurd (omega arith)
kept_whole (suc most) [] kept is short = is
kept_whole (suc most) (byte ∷ begun) kept is short =
    is ∙ ap (λ (l : List ℕ). byte ∷ l) (kept_whole most begun (take most begun) refl (omega (arith, ap length is)))

-- a line of which so many are kept is as long
pub long_begun : (most : ℕ) (begun kept : List ℕ) → kept ≡ take most begun → most ≤ length kept → most ≤ length begun
long_begun zero begun kept is long = omega arith
long_begun (suc most) [] kept is long = absurd (omega (arith, ap length is))
long_begun (suc most) (byte ∷ begun) kept is long = omega (arith, long_begun most begun (take most begun) refl (omega (arith, ap length is)))
