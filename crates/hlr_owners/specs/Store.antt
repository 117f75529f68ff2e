-- The store as which a register is seen: its book, the regions, the words of the board, what it has seen of them, the
-- slots of each part, and the zone width.
use Rattle.std.specs.Prelude.{◌≡◌, ℕ, ◌-◌, true, List, [], ◌∷◌, map, length, Option, Some, None, ℤ, pos, ◌-ℤ◌, slice_get}
use Rattle.std.specs.List.{find, range_with_len}
use Rattle.tatp_actions.specs.Book.{Book, empty_book, rows_between}
use Rattle.tatp_actions.specs.Cell.{cell}
use Rattle.part_table.specs.Bounds.{parts_between}
use Rattle.part_table.specs.Opening.{can_open, opening_bound}
use Rattle.part_table.specs.Region.{is_part}
use Rattle.part_table.specs.Regions.{parts_of}
use Rattle.part_table.specs.declared.region.Region.{Region}
use Rattle.hlr_owners.specs.Words.{net, all_slots, blank_words}

-- a store: book, regions, words, what was seen of them, the slots of each part, width
pub record Store : Type 0 where
  pub book : Book
  pub regions : List Region
  pub words : List ℕ
  pub sight : List ℕ
  pub slots : List (List ℕ)
  pub width : ℕ

-- the store at opening: there is no row and no piece, the parts share the zones, all words are 0, and part p has only
-- slot p
abbrev pub opening : ℕ → ℕ → Store
opening parts width = record {
  book = empty_book;
  regions = parts_between 0 1 (map (opening_bound parts width) (range_with_len 1 (parts - 1)));
  words = blank_words;
  sight = blank_words;
  slots = map (λ p. p ∷ []) (range_with_len 0 parts);
  width = width;
}

-- the same over words that exist already
abbrev pub opening_from : ℕ → ℕ → List ℕ → Store
opening_from parts width words = record (opening parts width) { words = words; sight = words }

-- what is published of a cell: the sum of the nets of all slots
abbrev pub published : Store → ℕ → ℤ
published store c = net store.words all_slots c

-- the count of a cell over the rows now, less what is published of it
abbrev pub unpublished : Store → ℕ → ℤ
unpublished store c = pos (cell store.width c store.book) -ℤ published store c

-- the rows of a region, if it is there
abbrev pub rows_in : Option Region → Book → Book
rows_in None book = empty_book
rows_in (Some region) book = rows_between region.lo region.hi book

-- the rows of a part
abbrev pub rows_of : Store → ℕ → Book
rows_of store part = rows_in (find (is_part part) store.regions) store.book

-- the slots of a part, if there is such a part
abbrev pub slots_of : Store → ℕ → Option (List ℕ)
slots_of store part = slice_get store.slots part

-- how many parts there are
abbrev pub parts_in : Store → ℕ
parts_in store = length (parts_of store.regions)

-- a register can be opened with this many parts and this width of a zone
abbrev pub HasOpening : ℕ → ℕ → Type 0
HasOpening parts width = can_open parts width ≡ true
