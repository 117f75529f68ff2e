-- Letters: a number of capital letters, A to Z.
use Rattle.std.specs.Prelude.{ℕ, List, if◌then◌else◌, Result, Ok, Err, IsTrue}
use Rattle.tatp_rows.specs.Rows.{are_between}
use Rattle.tatp_rows.specs.declared.refusal.Refusal.{Refusal}
use Rattle.tatp_rows.specs.declared.refusal.Refusal.TheVariants.{Field}

-- the list has this length, and each of its bytes is one of A to Z
abbrev pub AreLetters : ℕ → List ℕ → Type 0
AreLetters size text = IsTrue (are_between size 65 90 text)

-- the letters that a text spells: exactly the wanted number of letters, and nothing else
abbrev pub letters_in : ℕ → List ℕ → Result (List ℕ) Refusal
letters_in size text = if are_between size 65 90 text then Ok text else Err Field
