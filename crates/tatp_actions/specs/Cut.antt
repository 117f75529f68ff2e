-- A part that is cut in two, two parts that become one, and how many steps that takes.
use Rattle.std.specs.Prelude.{◌≡◌, ℕ, ◌+◌, ◌==◌, ◌⊎◌, length, if◌then◌else◌}
use Rattle.group_tree.specs.Groups.{IsHeightOfGroups}
use Rattle.mr_cut.specs.Bounds.{most_of_slice, fewest_of_slice, most_of_meld, fewest_of_meld}
use Rattle.mr_subtree.specs.Trees.{IsHeightOf}
use Rattle.part_table.specs.declared.region.Side.{Side}
use Rattle.part_table.specs.declared.region.Side.TheVariants.{Low, High}
use Rattle.tatp_actions.specs.Book.{Book}
use Rattle.tatp_actions.specs.Heights.{Heights}
use Rattle.tatp_actions.specs.Joined.{join_books, cut_low, cut_high}
use Rattle.tatp_actions.specs.Part.{PartState}

-- the part with only its subscribers below n
abbrev pub low_part : ℕ → PartState → PartState
low_part n part = record part { book = cut_low n part.book; hi = n }

-- the part with only its subscribers from n on
abbrev pub high_part : ℕ → PartState → PartState
high_part n part = record part { book = cut_high n part.book; lo = n }

-- the half that is given away
abbrev pub given_part : Side → ℕ → PartState → PartState
given_part Low n part = low_part n part
given_part High n part = high_part n part

-- the half that is kept
abbrev pub kept_part : Side → ℕ → PartState → PartState
kept_part Low n part = high_part n part
kept_part High n part = low_part n part

-- one of the two ranges ends where the other one begins
abbrev pub Touch : PartState → PartState → Type 0
Touch part other = (part.hi ≡ other.lo) ⊎ (other.hi ≡ part.lo)

-- the part with the rows and the range of the other one too, which touches it
abbrev pub melded : PartState → PartState → PartState
melded part other =
    if part.hi == other.lo then record part { book = join_books part.book other.book; hi = other.hi }
    else record part { book = join_books other.book part.book; lo = other.lo }

-- they are heights that trees with the rows of the book may have; those of the last three tables lie in groups of one
-- to four rows
pub record AreHeightsOf (heights : Heights) (book : Book) : Type 0 where
  pub subscribers : IsHeightOf heights.subscribers (length book.subscribers)
  pub access : IsHeightOfGroups heights.access (length book.access)
  pub facilities : IsHeightOfGroups heights.facilities (length book.facilities)
  pub forwardings : IsHeightOfGroups heights.forwardings (length book.forwardings)

-- the most steps that the slice of a part takes
abbrev pub slice_bound : Heights → ℕ
slice_bound h =
    most_of_slice h.subscribers + most_of_slice h.access + most_of_slice h.facilities + most_of_slice h.forwardings

-- the fewest steps that a part's slice takes, by the heights of its trees
abbrev pub slice_least : Heights → ℕ
slice_least h =
    fewest_of_slice h.subscribers + fewest_of_slice h.access + fewest_of_slice h.facilities
    + fewest_of_slice h.forwardings

-- the most steps that the meld of two parts takes
abbrev pub meld_bound : Heights → Heights → ℕ
meld_bound a b =
    most_of_meld a.subscribers b.subscribers + most_of_meld a.access b.access + most_of_meld a.facilities b.facilities
    + most_of_meld a.forwardings b.forwardings

-- the fewest steps that the meld of two parts takes, by the heights of their trees
abbrev pub meld_least : Heights → Heights → ℕ
meld_least a b =
    fewest_of_meld a.subscribers b.subscribers + fewest_of_meld a.access b.access
    + fewest_of_meld a.facilities b.facilities + fewest_of_meld a.forwardings b.forwardings
