-- The reports: a line for each thing that they show, and then how many these are.
use Rattle.std.specs.Prelude.{ℕ, ◌==◌, ◌++◌, ◌&&◌, not, Bool, List, length, codes, ℤ}
use Rattle.std.specs.List.{filter, flat_map, range_with_len}
use Rattle.tatp_actions.specs.declared.cells.TheConstants.{CELLS}
use Rattle.view_delta.specs.Pending.{is_zero}
use Rattle.part_table.specs.declared.region.Region.{Region}
use Rattle.hlr.specs.Lines.{cell_line, counted_line, number_line, region_line, total_line}

-- a report: the line of each thing, one after another, and then a word with how many they are
unfoldable pub report_text : {X : Type 0} → List ℕ → (X → List ℕ) → List X → List ℕ
report_text word line things = flat_map line things ++ total_line word (length things)

-- the cells that pass a test, in ascending order
unfoldable pub cells_where : (ℕ → Bool) → List ℕ
cells_where test = filter test (range_with_len 0 CELLS)

-- something of the cell is published or unposted
abbrev pub is_standing : (ℕ → ℤ) → (ℕ → ℤ) → ℕ → Bool
is_standing published unposted c = not (is_zero (published c) && is_zero (unposted c))

-- the line of what is published and unposted of a cell
abbrev pub standing_line : (ℕ → ℤ) → (ℕ → ℤ) → ℕ → List ℕ
standing_line published unposted c = cell_line c (published c) (unposted c)

-- `views`, the report of the standing counts
abbrev pub views_text : (ℕ → ℤ) → (ℕ → ℤ) → List ℕ
views_text published unposted = report_text (codes "views,") (standing_line published unposted) (cells_where (is_standing published unposted))

-- the cell counts some rows
abbrev pub is_counted : (ℕ → ℕ) → ℕ → Bool
is_counted count c = not (count c == 0)

-- the line of how many rows a cell counts
abbrev pub rows_line : (ℕ → ℕ) → ℕ → List ℕ
rows_line count c = counted_line c (count c)

-- `scan`, the report of the counts over the rows
abbrev pub scan_text : (ℕ → ℕ) → List ℕ
scan_text count = report_text (codes "scan,") (rows_line count) (cells_where (is_counted count))

-- `index`, the report of the pairs of a number and a subscriber
abbrev pub index_text : List (ℕ × ℕ) → List ℕ
index_text pairs = report_text (codes "index,") number_line pairs

-- `regions`, the report of the ranges, each of a part or of a loose piece
abbrev pub regions_text : List Region → List ℕ
regions_text regions = report_text (codes "regions,") region_line regions
