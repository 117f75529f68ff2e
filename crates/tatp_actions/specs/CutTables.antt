-- Tables that are cut at a key or joined, and the trees that hold them: no clause of a public call cites these.
use Rattle.std.specs.Prelude.{ℕ, ◌<◌, ◌≤◌, ◌++◌, List}
use Rattle.group_tree.specs.Groups.{AreGroupsApart}
use Rattle.group_tree.specs.Tables.{facility_span, subscriber_span}
use Rattle.mr_cut.specs.Bounds.{blanks_for_slice, blanks_for_meld}
use Rattle.mr_cut.specs.Cuts.{rows_below, rows_from, AreApart}
use Rattle.part_table.specs.declared.region.Side.{Side}
use Rattle.part_table.specs.declared.region.Side.TheVariants.{Low, High}
use Rattle.tatp_actions.specs.Heights.{Heights}
use Rattle.tatp_actions.specs.Tables.{Tables}
use Rattle.tatp_actions.specs.declared.stocks.Stocks.{Stocks}
use Rattle.tatp_actions.specs.declared.trees.Trees.{Trees}

-- the side of cut pairs that is kept, where the side that is named is given away
abbrev pub kept_rows : {X : Type 0} → Side → ℕ → List (ℕ × X) → List (ℕ × X)
kept_rows Low key rows = rows_from key rows
kept_rows High key rows = rows_below key rows

-- the side of cut pairs that is given away
abbrev pub given_rows : {X : Type 0} → Side → ℕ → List (ℕ × X) → List (ℕ × X)
given_rows Low key rows = rows_below key rows
given_rows High key rows = rows_from key rows

-- what each of the four tables keeps
abbrev pub kept_tables : Side → ℕ → Tables → Tables
kept_tables side key tables = record {
  subscribers = kept_rows side key tables.subscribers;
  access = kept_rows side key tables.access;
  facilities = kept_rows side key tables.facilities;
  forwardings = kept_rows side key tables.forwardings;
}

-- what each of the four tables gives away
abbrev pub given_tables : Side → ℕ → Tables → Tables
given_tables side key tables = record {
  subscribers = given_rows side key tables.subscribers;
  access = given_rows side key tables.access;
  facilities = given_rows side key tables.facilities;
  forwardings = given_rows side key tables.forwardings;
}

-- pairs that stand on a side of others: a key parts them, and they stand in front of those, or behind them
abbrev pub AreApartAt : {X : Type 0} → Side → List (ℕ × X) → List (ℕ × X) → Type 0
AreApartAt Low rows others = AreApart others rows
AreApartAt High rows others = AreApart rows others

-- the same of pairs in groups: a key at which a group may begin parts them
abbrev pub AreGroupsApartAt : {X : Type 0} → ℕ → Side → List (ℕ × X) → List (ℕ × X) → Type 0
AreGroupsApartAt span Low rows others = AreGroupsApart span others rows
AreGroupsApartAt span High rows others = AreGroupsApart span rows others

-- pairs and others that stand on a side of them, in order
abbrev pub joined_rows : {X : Type 0} → Side → List (ℕ × X) → List (ℕ × X) → List (ℕ × X)
joined_rows Low rows others = others ++ rows
joined_rows High rows others = rows ++ others

-- each of the four tables stands on a side of another one
pub record TablesApartAt (side : Side) (tables others : Tables) : Type 0 where
  pub subscribers : AreApartAt side tables.subscribers others.subscribers
  pub access : AreGroupsApartAt subscriber_span side tables.access others.access
  pub facilities : AreGroupsApartAt subscriber_span side tables.facilities others.facilities
  pub forwardings : AreGroupsApartAt facility_span side tables.forwardings others.forwardings

-- the pairs of both, table by table
abbrev pub joined_tables : Side → Tables → Tables → Tables
joined_tables side tables others = record {
  subscribers = joined_rows side tables.subscribers others.subscribers;
  access = joined_rows side tables.access others.access;
  facilities = joined_rows side tables.facilities others.facilities;
  forwardings = joined_rows side tables.forwardings others.forwardings;
}

-- the tables that trees hold
abbrev pub tables_of : Trees → Tables
tables_of trees = record {
  subscribers = trees.subscribers.rows;
  access = trees.access.rows;
  facilities = trees.facilities.rows;
  forwardings = trees.forwardings.rows;
}

-- how high the trees are
abbrev pub heights_of : Trees → Heights
heights_of trees = record {
  subscribers = trees.subscribers.height;
  access = trees.access.height;
  facilities = trees.facilities.height;
  forwardings = trees.forwardings.height;
}

-- this number of blank nodes is enough for the slice of a tree of this height
pub record IsForSlice (height stock : ℕ) : Type 0 where
  pub low : height < 16
  pub enough : blanks_for_slice height ≤ stock

-- this number of blank nodes is enough for the meld of trees of these heights
pub record IsForMeld (a b stock : ℕ) : Type 0 where
  pub low : a < 16
  pub other_low : b < 16
  pub enough : blanks_for_meld a b ≤ stock

-- the stocks are large enough for slices of trees of these heights
pub record AreForSlice (h : Heights) (stocks : Stocks) : Type 0 where
  pub subscribers : IsForSlice h.subscribers stocks.subscribers
  pub access : IsForSlice h.access stocks.access
  pub facilities : IsForSlice h.facilities stocks.facilities
  pub forwardings : IsForSlice h.forwardings stocks.forwardings

-- the stocks are large enough for a meld of trees of these heights
pub record AreForMeld (a b : Heights) (stocks : Stocks) : Type 0 where
  pub subscribers : IsForMeld a.subscribers b.subscribers stocks.subscribers
  pub access : IsForMeld a.access b.access stocks.access
  pub facilities : IsForMeld a.facilities b.facilities stocks.facilities
  pub forwardings : IsForMeld a.forwardings b.forwardings stocks.forwardings
