-- Texts: what stands in front of the first 0.
use Rattle.std.proofs.Common.{◌≡◌, ◌≢◌, ℕ, zero, suc, ◌≤◌, List, [], ◌∷◌, ◌++◌, length, take, replicate, refl, sym, ◌∙◌, ap, inl, inr, arith}
use Rattle.std.proofs.lemmas.Bool.{cases_eq}
use Rattle.std.proofs.lemmas.Bool.Decides.{nat_tests}
use Rattle.std.proofs.lemmas.List.{append-nil, length-append}
use Rattle.journal_file.specs.Device.{IsFront}
use Rattle.journal.specs.Lines.{text, HasNoZero, HasFence}

pub text_zero : (byte : ℕ) (file : List ℕ) → byte ≡ 0 → text (byte ∷ file) ≡ []
text_zero byte file is = grind (arith, nat_tests)

pub text_byte : (byte : ℕ) (file : List ℕ) → byte ≢ 0 → text (byte ∷ file) ≡ byte ∷ text file
text_byte byte file isnt = grind (arith, nat_tests)

-- no 0 is in a text
pub text_text : (file : List ℕ) → HasNoZero (text file)
text_text [] = refl
text_text (byte ∷ file) = elim (cases_eq byte 0) [
  | inl is ↦ ap text (text_zero byte file is) ∙ sym (text_zero byte file is)
  | inr isnt ↦
      ap text (text_byte byte file isnt) ∙ text_byte byte (text file) isnt
      ∙ ap (λ (l : List ℕ). byte ∷ l) (text_text file) ∙ sym (text_byte byte file isnt)
]

pub head_not_zero : (byte : ℕ) (bytes : List ℕ) → HasNoZero (byte ∷ bytes) → byte ≢ 0
head_not_zero byte bytes whole is = absurd (cc (whole, text_zero byte bytes is))

pub tail_no_zero : (byte : ℕ) (bytes : List ℕ) → HasNoZero (byte ∷ bytes) → HasNoZero bytes
tail_no_zero byte bytes whole = grind (arith, whole, text_byte byte bytes (head_not_zero byte bytes whole))

-- a text continues over bytes with no 0
pub text-append : (bytes rest : List ℕ) → HasNoZero bytes → text (bytes ++ rest) ≡ bytes ++ text rest
text-append [] rest whole = refl
text-append (byte ∷ bytes) rest whole =
    text_byte byte (bytes ++ rest) (head_not_zero byte bytes whole)
    ∙ ap (λ (l : List ℕ). byte ∷ l) (text-append bytes rest (tail_no_zero byte bytes whole))

pub text_zeros : (n : ℕ) → text (replicate n 0) ≡ []
text_zeros zero = refl
text_zeros (suc n) = refl

pub text_zeroed : (t : List ℕ) (n : ℕ) → HasNoZero t → text (t ++ replicate n 0) ≡ t
text_zeroed t n whole = text-append t (replicate n 0) whole ∙ ap (λ (l : List ℕ). t ++ l) (text_zeros n) ∙ append-nil t

pub no_zero-append : (a b : List ℕ) → HasNoZero a → HasNoZero b → HasNoZero (a ++ b)
no_zero-append a b first second = text-append a b first ∙ ap (λ (l : List ℕ). a ++ l) second

pub no_zero_take : (n : ℕ) (t : List ℕ) → HasNoZero t → HasNoZero (take n t)
no_zero_take zero t whole = refl
no_zero_take (suc n) [] whole = refl
no_zero_take (suc n) (byte ∷ t) whole =
    text_byte byte (take n t) (head_not_zero byte t whole) ∙ ap (λ (l : List ℕ). byte ∷ l) (no_zero_take n t (tail_no_zero byte t whole))

pub length-text : (file : List ℕ) → length (text file) ≤ length file
length-text [] = omega arith
length-text (byte ∷ file) = elim (cases_eq byte 0) [
  | inl is ↦ omega (arith, ap length (text_zero byte file is))
  | inr isnt ↦ omega (arith, ap length (text_byte byte file isnt), length-text file)
]

-- the text is the front of the file
pub text_front : (file : List ℕ) (n : ℕ) → n ≤ length (text file) → take n file ≡ take n (text file)
text_front file zero le = refl
text_front [] (suc n) le = refl
text_front (byte ∷ file) (suc n) le = elim (cases_eq byte 0) [
  | inl is ↦ absurd (omega (arith, ap length (text_zero byte file is)))
  | inr isnt ↦
      ap (λ (l : List ℕ). byte ∷ l) (text_front file n (omega (arith, ap length (text_byte byte file isnt))))
      ∙ ap (λ (l : List ℕ). take (suc n) l) (sym (text_byte byte file isnt))
]

-- behind a fence nothing counts
pub text_fenced : (file junk : List ℕ) → HasFence file → text (file ++ junk) ≡ text file
text_fenced [] junk fence = absurd (omega arith)
text_fenced (byte ∷ file) junk fence = elim (cases_eq byte 0) [
  | inl is ↦ text_zero byte (file ++ junk) is ∙ sym (text_zero byte file is)
  | inr isnt ↦
      text_byte byte (file ++ junk) isnt
      ∙ ap (λ (l : List ℕ). byte ∷ l) (text_fenced file junk (omega (arith, fence, ap length (text_byte byte file isnt))))
      ∙ sym (text_byte byte file isnt)
]

-- behind more bytes, a text goes on
pub text_grows : (file more : List ℕ) → IsFront (text file) (text (file ++ more))
text_grows [] more = (text more, refl)
text_grows (byte ∷ file) more = elim (cases_eq byte 0) [
  | inl is ↦ ([], text_zero byte (file ++ more) is ∙ ap (λ (l : List ℕ). l ++ []) (sym (text_zero byte file is)))
  | inr isnt ↦
      let rest = text_grows file more in (
        rest.0,
        text_byte byte (file ++ more) isnt ∙ ap (λ (l : List ℕ). byte ∷ l) rest.1
            ∙ ap (λ (l : List ℕ). l ++ rest.0) (sym (text_byte byte file isnt)),
      )
]

-- bytes with a 0 among them are no text
pub zero_is_told : (a rest : List ℕ) (byte : ℕ) → HasNoZero a → byte ≡ 0 → HasNoZero (a ++ byte ∷ rest) → ⊥
zero_is_told a rest byte none is told =
    let ends : text (a ++ byte ∷ rest) ≡ a ++ text (byte ∷ rest) = text-append a (byte ∷ rest) none in
    let same : a ++ text (byte ∷ rest) ≡ a ++ byte ∷ rest = sym ends ∙ told in
    let short : a ++ [] ≡ a ++ byte ∷ rest = ap (λ (l : List ℕ). a ++ l) (sym (text_zero byte rest is)) ∙ same in
    omega (arith, ap length short, length-append a [], length-append a (byte ∷ rest))
