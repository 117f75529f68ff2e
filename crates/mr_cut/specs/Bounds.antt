-- How many blank nodes a slice and a meld want, and how many steps they take.
use Rattle.std.specs.Prelude.{ℕ, ◌+◌, ◌-◌, ◌*◌}
use Rattle.std.specs.Int.{abs_diff}

-- the blank nodes for the slice of a tree of this height
abbrev pub blanks_for_slice : ℕ → ℕ
blanks_for_slice height = (height + 2) * (height + 2) + 1

-- the blank nodes for the meld of trees of these heights
abbrev pub blanks_for_meld : ℕ → ℕ → ℕ
blanks_for_meld a b = abs_diff a b + 3

-- the most steps of the joins that a slice makes beside its path: two melds a level
abbrev pub most_of_joins : ℕ → ℕ
most_of_joins height = 32 * ((height + 1) * (height + 1))

-- the most steps that the slice of a tree of this height takes
abbrev pub most_of_slice : ℕ → ℕ
most_of_slice height = 64 * ((height + 1) * (height + 1))

-- the fewest steps that the slice of a tree of this height takes
abbrev pub fewest_of_slice : ℕ → ℕ
fewest_of_slice height = 9 * height + 3

-- the most steps that the meld of trees of these heights takes
abbrev pub most_of_meld : ℕ → ℕ → ℕ
most_of_meld a b = 16 * (abs_diff a b + 1)

-- the fewest steps that the meld of trees of these heights takes
abbrev pub fewest_of_meld : ℕ → ℕ → ℕ
fewest_of_meld a b = 2 * abs_diff a b + 4

-- the steps of joining nodes whose heights differ by this much, where this many blank nodes were used, and this many
-- of those for a new root: four where they meet, two a level between, five for each level from which two nodes came back, and
-- one for a new root
abbrev pub join_steps : ℕ → ℕ → ℕ → ℕ
join_steps apart used roots = 4 + 2 * apart + 5 * (used - roots) + roots
