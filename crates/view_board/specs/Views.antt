-- What a desk knows of the board: which slots are its own, the numbers of their words, what it has seen of each word,
-- and how often it raised one.
use Rattle.std.specs.Prelude.{◌≡◌, ℕ, ◌+◌, ◌/◌, ◌<◌, ◌≤◌, max, Bool, true, false, ◌&&◌, ◌||◌, not, if◌then◌else◌, List, [], ◌∷◌, length, replicate, slice_index, slice_index_or, slice_set, ℤ}
use Rattle.view_board.specs.declared.rule.View.{View}
use Rattle.view_board.specs.declared.words.TheConstants.{SLOTS, SLOT_WORDS, WORDS, LIMIT}
use Rattle.view_board.specs.Words.{raised_by, raises_of, each_word, each_slot, leveled, uneven_cells}

-- whether the slot is the desk's
abbrev pub owned_at : View → ℕ → Bool
owned_at v slot = slice_index_or v.owned slot false

-- the slot is the desk's
abbrev pub Owns : View → ℕ → Type 0
Owns v slot = owned_at v slot ≡ true

-- the slot is the least of those that are the desk's
abbrev pub IsLeastSlot : View → ℕ → Type 0
IsLeastSlot v slot = Owns v slot × ((other : ℕ) → other < slot → Owns v other → ⊥)

-- the slot is the desk's, and no other one is
abbrev pub OwnsAlone : View → ℕ → Type 0
OwnsAlone v slot = Owns v slot × ((other : ℕ) → Owns v other → other ≡ slot)

-- the slot of the word is the desk's
abbrev pub OwnsWord : View → ℕ → Type 0
OwnsWord v w = Owns v (w / SLOT_WORDS)

-- all slots are the desk's
abbrev pub OwnsAll : View → Type 0
OwnsAll v = (slot : ℕ) → slot < SLOTS → Owns v slot

-- the desk has a flag for each slot, and for each word a number and what was seen of it
pub record IsWide (v : View) : Type 0 where
  pub slots : length v.owned ≡ SLOTS
  pub numbers : length v.numbers ≡ WORDS
  pub seen : length v.seen ≡ WORDS

-- the desk that a board opens with owns all slots, has seen all words, and has raised none
abbrev pub first_view : List ℕ → View
first_view words = record { owned = replicate SLOTS true; numbers = words; seen = words; raises = 0; was_apart = true }

-- a word of the desk's own is raised, which is one step
abbrev pub raised : View → ℕ → ℕ → View
raised v w size = record v { numbers = slice_set v.numbers w (slice_index v.numbers w + size); raises = v.raises + 1 }

-- an amount is posted in a slot and cell, in one step; 0 is posted in none
abbrev pub posted : View → ℕ → ℕ → ℤ → View
posted v slot cell amount =
    record v { numbers = raised_by v.numbers slot cell amount; raises = v.raises + raises_of amount }

-- what a slot has published is taken back, in one step for each cell whose two words differ
abbrev pub taken_back : View → ℕ → View
taken_back v slot = record v { numbers = leveled slot v.numbers; raises = v.raises + uneven_cells slot v.numbers }

-- a word was looked at
abbrev pub saw : View → ℕ → ℕ → View
saw v w found = record v { seen = slice_set v.seen w found }

-- all words were looked at
abbrev pub looked : View → List ℕ → View
looked v words = record v { seen = words }

-- a right sight: own words exactly, the others at least as they had been seen, and none past the limit
pub record IsRightSight (v : View) (words : List ℕ) : Type 0 where
  pub wide : length words ≡ WORDS
  pub own : (w : ℕ) → OwnsWord v w → slice_index words w ≡ slice_index v.numbers w
  pub later : (w : ℕ) → slice_index v.seen w ≤ slice_index words w
  pub small : (w : ℕ) → slice_index words w ≤ LIMIT

-- a slot is given up
abbrev pub without : View → ℕ → View
without v slot = record v { owned = slice_set v.owned slot false }

-- a slot with its numbers is handed on, and all that was seen, to a desk that has raised no word yet
abbrev pub alone : View → ℕ → View
alone v slot = record v { owned = slice_set (replicate SLOTS false) slot true; raises = 0 }

-- no slot is in both
unfoldable pub are_apart : List Bool → List Bool → Bool
are_apart [] others = true
are_apart (flag ∷ flags) [] = true
are_apart (flag ∷ flags) (other ∷ others) = not (flag && other) && are_apart flags others

-- the slots of two desks
abbrev pub slots_of_both : List Bool → List Bool → List Bool
slots_of_both flags others = each_slot (λ slot. slice_index_or flags slot false || slice_index_or others slot false)

-- the numbers of two desks: those of the other one where the slot is the other one's
abbrev pub numbers_of_both : List ℕ → List ℕ → List Bool → List ℕ
numbers_of_both numbers others flags =
    each_word (λ w. if slice_index_or flags (w / SLOT_WORDS) false then slice_index others w else slice_index numbers w)

-- what two desks have seen together: the greater of what each has seen
abbrev pub seen_of_both : List ℕ → List ℕ → List ℕ
seen_of_both seen others = each_word (λ w. max (slice_index seen w) (slice_index others w))

-- a desk that takes in another one
abbrev pub both : View → View → View
both v other = record {
  owned = slots_of_both v.owned other.owned;
  numbers = numbers_of_both v.numbers other.numbers other.owned;
  seen = seen_of_both v.seen other.seen;
  raises = v.raises + other.raises;
  was_apart = are_apart v.owned other.owned;
}

-- what is left of a desk that was taken in
abbrev pub nobody : View
nobody = record { owned = []; numbers = []; seen = []; raises = 0; was_apart = true }

-- two desks of one board: no slot is both's, and what one has seen of the other's words is at most the other's numbers
pub record AreApart (v other : View) : Type 0 where
  pub slots : (slot : ℕ) → Owns v slot → Owns other slot → ⊥
  pub theirs : (w : ℕ) → OwnsWord other w → slice_index v.seen w ≤ slice_index other.numbers w
  pub ours : (w : ℕ) → OwnsWord v w → slice_index other.seen w ≤ slice_index v.numbers w
