-- The lines of texts of which one is the front of the other.
use Rattle.std.proofs.Common.{◌≡◌, ◌≢◌, ℕ, ◌==◌, true, List, [], ◌∷◌, ◌++◌, length, refl, sym, ◌∙◌, ap, inl, inr, arith}
use Rattle.std.proofs.lemmas.List.{length-append}
use Rattle.std.proofs.lemmas.Bool.{cases_eq}
use Rattle.std.proofs.lemmas.Bool.Decides.{nat_tests}
use Rattle.journal_file.specs.Device.{IsFront}
use Rattle.journal.specs.Lines.{text, lines_from, open_from, lines, IsWhole}
use Rattle.journal.specs.Tape.{IsBetween, HasLinesBetween}

pub lines_feed : (begun bytes : List ℕ) (byte : ℕ) → byte ≡ 10 → lines_from begun (byte ∷ bytes) ≡ begun ∷ lines_from [] bytes
lines_feed begun bytes byte is = grind (arith, nat_tests)

pub lines_other : (begun bytes : List ℕ) (byte : ℕ) → byte ≢ 10 → lines_from begun (byte ∷ bytes) ≡ lines_from (begun ++ byte ∷ []) bytes
lines_other begun bytes byte isnt = grind (arith, nat_tests)

pub open_feed : (begun bytes : List ℕ) (byte : ℕ) → byte ≡ 10 → open_from begun (byte ∷ bytes) ≡ open_from [] bytes
open_feed begun bytes byte is = grind (arith, nat_tests)

pub open_other : (begun bytes : List ℕ) (byte : ℕ) → byte ≢ 10 → open_from begun (byte ∷ bytes) ≡ open_from (begun ++ byte ∷ []) bytes
open_other begun bytes byte isnt = grind (arith, nat_tests)

pub lines-append : (begun a b : List ℕ) → lines_from begun (a ++ b) ≡ lines_from begun a ++ lines_from (open_from begun a) b
lines-append begun [] b = refl
lines-append begun (byte ∷ a) b = elim (cases_eq byte 10) [
  | inl is ↦
      lines_feed begun (a ++ b) byte is ∙ ap (λ (l : List (List ℕ)). begun ∷ l) (lines-append [] a b)
      ∙ ap (λ (o : List ℕ). (begun ∷ lines_from [] a) ++ lines_from o b) (sym (open_feed begun a byte is))
      ∙ ap (λ (l : List (List ℕ)). l ++ lines_from (open_from begun (byte ∷ a)) b) (sym (lines_feed begun a byte is))
  | inr isnt ↦
      lines_other begun (a ++ b) byte isnt ∙ lines-append (begun ++ byte ∷ []) a b
      ∙ ap (λ (o : List ℕ). lines_from (begun ++ byte ∷ []) a ++ lines_from o b) (sym (open_other begun a byte isnt))
      ∙ ap (λ (l : List (List ℕ)). l ++ lines_from (open_from begun (byte ∷ a)) b) (sym (lines_other begun a byte isnt))
]

pub open-append : (begun a b : List ℕ) → open_from begun (a ++ b) ≡ open_from (open_from begun a) b
open-append begun [] b = refl
open-append begun (byte ∷ a) b = elim (cases_eq byte 10) [
  | inl is ↦
      open_feed begun (a ++ b) byte is ∙ open-append [] a b
      ∙ ap (λ (o : List ℕ). open_from o b) (sym (open_feed begun a byte is))
  | inr isnt ↦
      open_other begun (a ++ b) byte isnt ∙ open-append (begun ++ byte ∷ []) a b
      ∙ ap (λ (o : List ℕ). open_from o b) (sym (open_other begun a byte isnt))
]

-- one byte more
pub lines_one_feed : (bytes : List ℕ) (byte : ℕ) → byte ≡ 10 → lines (bytes ++ byte ∷ []) ≡ lines bytes ++ open_from [] bytes ∷ []
lines_one_feed bytes byte is = lines-append [] bytes (byte ∷ []) ∙ ap (λ (l : List (List ℕ)). lines bytes ++ l) (lines_feed (open_from [] bytes) [] byte is)

pub open_one_feed : (bytes : List ℕ) (byte : ℕ) → byte ≡ 10 → open_from [] (bytes ++ byte ∷ []) ≡ []
open_one_feed bytes byte is = open-append [] bytes (byte ∷ []) ∙ open_feed (open_from [] bytes) [] byte is

pub lines_one_other : (bytes : List ℕ) (byte : ℕ) → byte ≢ 10 → lines (bytes ++ byte ∷ []) ≡ lines bytes ++ []
lines_one_other bytes byte isnt = lines-append [] bytes (byte ∷ []) ∙ ap (λ (l : List (List ℕ)). lines bytes ++ l) (lines_other (open_from [] bytes) [] byte isnt)

pub open_one_other : (bytes : List ℕ) (byte : ℕ) → byte ≢ 10 → open_from [] (bytes ++ byte ∷ []) ≡ open_from [] bytes ++ byte ∷ []
open_one_other bytes byte isnt = open-append [] bytes (byte ∷ []) ∙ open_other (open_from [] bytes) [] byte isnt

-- whole lines behind whole lines
pub whole_lines : (a b : List ℕ) → IsWhole a → lines (a ++ b) ≡ lines a ++ lines b
whole_lines a b whole = lines-append [] a b ∙ ap (λ (o : List ℕ). lines a ++ lines_from o b) whole

pub whole-append : (a b : List ℕ) → IsWhole a → IsWhole b → IsWhole (a ++ b)
whole-append a b whole more = open-append [] a b ∙ ap (λ (o : List ℕ). open_from o b) whole ∙ more

pub front_lines : (a b : List ℕ) → IsFront a b → IsFront (lines a) (lines b)
front_lines a b front = (lines_from (open_from [] a) front.0, ap lines front.1 ∙ lines-append [] a front.0)

pub lines_between : (low high c : List ℕ) → IsBetween low high c → HasLinesBetween (lines low) (lines high) c
lines_between low high c between = record {
  fence = between.fence;
  at_least = front_lines low (text c) between.at_least;
  at_most = front_lines (text c) high between.at_most;
}

-- whole lines end with a line feed
pub whole_ends : (bytes : List ℕ) (byte : ℕ) → IsWhole (bytes ++ byte ∷ []) → (byte == 10) ≡ true
whole_ends bytes byte whole = elim (cases_eq byte 10) [
  | inl is ↦ grind (arith, nat_tests, is)
  | inr isnt ↦
      let none : open_from [] bytes ++ byte ∷ [] ≡ [] = sym (open_one_other bytes byte isnt) ∙ whole in
      absurd (omega (arith, ap length none, length-append (open_from [] bytes) (byte ∷ [])))
]
