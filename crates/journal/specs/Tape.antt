-- A journal that is open: a text, and behind it zeros that are on the disk.
use Rattle.std.specs.Prelude.{◌≡◌, ℕ, ◌-◌, ◌<◌, ◌≤◌, List, ◌++◌, length, take, replicate}
use Rattle.journal_file.specs.Device.{Fades, IsFront}
use Rattle.journal.specs.Lines.{text, lines, HasFence, IsWhole, recovered}
use Rattle.journal.specs.declared.tape.Ends.{Ends}
use Rattle.journal.specs.declared.tape.Tape.{Tape}

-- Where the whole lines of a file end, where its text ends, and where the file ends.
pub record AreEnds (file : List ℕ) (ends : Ends) : Type 0 where
  pub order : ends.whole ≤ ends.text
  pub at_text : ends.text ≡ length (text file)
  pub at_end : ends.len ≡ length file
  pub same : lines (take ends.whole file) ≡ recovered file
  pub is_whole : IsWhole (take ends.whole file)

-- The file is a text and zeros, and a crash may turn only bytes of the text that aren't synced into zeros.
pub record IsOpen {D : Type 0} (seen : D → List ℕ) (may_leave : D → List ℕ → Type 0) (tape : Tape D) : Type 0 where
  pub file : seen tape.device ≡ text (seen tape.device) ++ replicate (tape.len - tape.end) 0
  pub end : tape.end ≡ length (text (seen tape.device))
  pub fence : tape.end < tape.len
  pub synced : tape.synced ≤ tape.end
  pub outcomes : (c : List ℕ) → may_leave tape.device c → Fades tape.synced (seen tape.device) c

-- the text that no crash takes back
abbrev pub kept : {D : Type 0} → (D → List ℕ) → Tape D → List ℕ
kept seen tape = take tape.synced (text (seen tape.device))

-- The text of a file lies between two others, each the front of the next.
pub record IsBetween (low high file : List ℕ) : Type 0 where
  pub fence : HasFence file
  pub at_least : IsFront low (text file)
  pub at_most : IsFront (text file) high

-- The same of the lines that the file stands for.
pub record HasLinesBetween (low high : List (List ℕ)) (file : List ℕ) : Type 0 where
  pub fence : HasFence file
  pub at_least : IsFront low (recovered file)
  pub at_most : IsFront (recovered file) high
