-- What was written, and what was there, are among the bytes that a crash may leave.
use Rattle.std.proofs.Common.{◌≡◌, ℕ, zero, suc, ◌+◌, ◌-◌, ◌≤◌, List, [], ◌∷◌, ◌++◌, length, take, drop, replicate, refl, sym, ap, inl, inr, arith}
use Rattle.std.proofs.lemmas.List.{append-nil}
use Rattle.journal_file.specs.Device.{over, Mixes, Fades, IsFront}

pub fades_same : (kept : ℕ) (file : List ℕ) → Fades kept file file
fades_same kept [] = tt
fades_same zero (byte ∷ file) = (inr refl, fades_same zero file)
fades_same (suc kept) (byte ∷ file) = (refl, fades_same kept file)

pub fades_blanked : (kept : ℕ) (file : List ℕ) (rest : ℕ) → kept ≤ length file → rest ≡ length file - kept
    → Fades kept file (take kept file ++ replicate rest 0)
fades_blanked zero [] zero fits is = tt
fades_blanked zero [] (suc rest) fits is = absurd (omega (arith, is))
fades_blanked zero (byte ∷ file) zero fits is = absurd (omega (arith, is))
fades_blanked zero (byte ∷ file) (suc rest) fits is = (inl refl, fades_blanked zero file rest (omega arith) (omega (arith, is)))
fades_blanked (suc kept) [] rest fits is = absurd (omega (arith, fits))
fades_blanked (suc kept) (byte ∷ file) rest fits is = (refl, fades_blanked kept file rest (omega (arith, fits)) (omega (arith, is)))

pub mixes_same : (at : ℕ) (bytes old : List ℕ) → Mixes at bytes old old
mixes_same zero [] old = refl
mixes_same zero (byte ∷ bytes) [] = tt
mixes_same zero (byte ∷ bytes) (was ∷ old) = (inl refl, mixes_same zero bytes old)
mixes_same (suc at) bytes [] = tt
mixes_same (suc at) bytes (was ∷ old) = (refl, mixes_same at bytes old)

pub mixes_over : (at : ℕ) (bytes old : List ℕ) → Mixes at bytes old (over at bytes old)
mixes_over zero [] [] = refl
mixes_over zero [] (was ∷ old) = refl
mixes_over zero (byte ∷ bytes) [] = tt
mixes_over zero (byte ∷ bytes) (was ∷ old) = (inr refl, mixes_over zero bytes old)
mixes_over (suc at) bytes [] = tt
mixes_over (suc at) bytes (was ∷ old) = (refl, mixes_over at bytes old)

-- what stands in front of the range, the bytes, and what stands behind it
pub over_pieces : (at : ℕ) (bytes old : List ℕ) (end : ℕ) → end ≡ at + length bytes → end ≤ length old
    → take at old ++ bytes ++ drop end old ≡ over at bytes old
over_pieces zero [] [] zero is fits = refl
over_pieces zero [] (was ∷ old) zero is fits = refl
over_pieces zero [] old (suc end) is fits = absurd (omega (arith, is))
over_pieces zero (byte ∷ bytes) old zero is fits = absurd (omega (arith, is))
over_pieces zero (byte ∷ bytes) [] (suc end) is fits = absurd (omega (arith, fits))
over_pieces zero (byte ∷ bytes) (was ∷ old) (suc end) is fits =
    ap (λ (l : List ℕ). byte ∷ l) (over_pieces zero bytes old end (omega (arith, is)) (omega (arith, fits)))
over_pieces (suc at) bytes [] end is fits = absurd (omega (arith, is, fits))
over_pieces (suc at) bytes (was ∷ old) zero is fits = absurd (omega (arith, is))
over_pieces (suc at) bytes (was ∷ old) (suc end) is fits =
    ap (λ (l : List ℕ). was ∷ l) (over_pieces at bytes old end (omega (arith, is)) (omega (arith, fits)))

-- bytes that are written over others make a file no longer
pub over_length : (at : ℕ) (bytes old : List ℕ) → length old ≡ length (over at bytes old)
over_length zero [] [] = refl
over_length zero [] (was ∷ old) = refl
over_length zero (byte ∷ bytes) [] = refl
over_length zero (byte ∷ bytes) (was ∷ old) = ap suc (over_length zero bytes old)
over_length (suc at) bytes [] = refl
over_length (suc at) bytes (was ∷ old) = ap suc (over_length at bytes old)

pub front_same : {A : Type 0} (a : List A) → IsFront a a
front_same a = ([], sym (append-nil a))
