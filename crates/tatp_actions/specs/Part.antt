-- A part: the rows of a range of subscribers.
use Rattle.std.specs.Prelude.{ℕ, ◌<◌, ◌≤◌, ◌+◌}
use Rattle.tatp_rows.specs.declared.ranges.TheConstants.{LAST_SUBSCRIBER, GREATEST_WIDTH}
use Rattle.tatp_actions.specs.Book.{Book, IsRowsOf}
use Rattle.tatp_actions.specs.Heights.{Heights}

-- what a part is: its rows, how often they were asked, its range lo..hi, the width of its zones, how many steps its
-- last cut or join took, and how high its trees are
pub record PartState : Type 0 where
  pub book : Book
  pub asked : ℕ
  pub lo : ℕ
  pub hi : ℕ
  pub width : ℕ
  pub steps : ℕ
  pub heights : Heights

-- the range is not empty, and lies in that of all subscribers
abbrev pub IsRange : ℕ → ℕ → Type 0
IsRange lo hi = (1 ≤ lo) × (lo < hi) × (hi ≤ LAST_SUBSCRIBER + 1)

-- the zone width is in range
abbrev pub IsWidth : ℕ → Type 0
IsWidth width = (1 ≤ width) × (width ≤ GREATEST_WIDTH)

-- the rules of a part
pub record IsPart (part : PartState) : Type 0 where
  pub range : IsRange part.lo part.hi
  pub width : IsWidth part.width
  pub rows : IsRowsOf part.lo part.hi part.book
