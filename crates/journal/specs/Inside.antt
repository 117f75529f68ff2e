-- No public clause cites this.
use Rattle.std.specs.Prelude.{◌≡◌, ◌≢◌, ◌⊎◌, ℕ, Bool, List, [], take, true, false}
use Rattle.journal.specs.Lines.{text, open_from, HasFence, HasNoZero, recovered}
use Rattle.journal.specs.Machine.{Runs}
use Rattle.journal.specs.Tape.{AreEnds}
use Rattle.journal.specs.declared.follower.Follower.{Follower}
use Rattle.journal.specs.declared.tape.Ends.{Ends}

-- a byte that stands inside a line
abbrev pub IsInner : ℕ → Type 0
IsInner byte = (byte ≢ 0) × (byte ≢ 10)

-- a byte that ends a line
abbrev pub IsEnd : ℕ → Type 0
IsEnd byte = (byte ≡ 0) ⊎ (byte ≡ 10)

-- These bytes were read, and the machine has done what their whole lines say. Where their parts end, which line has
-- begun, and whether a 0 was among them is known.
pub record HasRead {M : Type 0} (moves : List ℕ → M → M → Type 0) (bytes : List ℕ) (first now : M) (at : Ends) (line : List ℕ) (is_over : Bool) : Type 0 where
  pub ends : AreEnds bytes at
  pub begun : line ≡ open_from [] (text bytes)
  pub over : is_over ≡ true → HasFence bytes
  pub none : is_over ≡ false → HasNoZero bytes
  pub run : Runs moves (recovered bytes) first now

-- the same of what a follower knows, which keeps no more than so many bytes of the line
pub record IsFollowed {M : Type 0} (moves : List ℕ → M → M → Type 0) (most : ℕ) (bytes : List ℕ) (first now : M) (f : Follower) : Type 0 where
  pub begun : List ℕ
  pub read : HasRead moves bytes first now f.ends begun f.is_over
  pub line : f.line.items ≡ take most begun
