-- Groups that lie in a tree, and the rows that they have together.
use Rattle.std.specs.Prelude.{◌≡◌, ℕ, suc, ◌+◌, ◌*◌, ◌/◌, ◌^◌, ◌<◌, ◌≤◌, Bool, true, false, List, [], ◌∷◌, ◌++◌, length, Option, Some, None, IsSome, refl, slice_index, slice_index_or}
use Rattle.std.specs.List.{AllByRecursion}
use Rattle.std.specs.Coded.{Coded, code_by, coded×, coded_ℕ, coded_list}
use Rattle.tatp_rows.specs.Ordered.{IsOrderedBy, row_at, with_row, with_row_at}
use Rattle.tatp_rows.specs.Spans.{keys_below, keys_from}
use Rattle.mr_node.specs.Rows.{key_limit, key_of_pair, value_at, KeysBelow, KeysFrom}

-- what is seen of a tree of groups: its height, and its rows in order, each with its key
pub record Grouped (R : Type 0) : Type 0 where
  pub height : ℕ
  pub rows : List (ℕ × R)

-- what is seen of a tree of groups is stored as the pair of its parts
abbrev pub grouped_code : {R : Type 0} → Coded R → Coded (Grouped R)
grouped_code {R} code =
    code_by (ℕ × List (ℕ × R)) (coded× coded_ℕ (coded_list (coded× coded_ℕ code))) (λ s. (s.height, s.rows)) (λ p. record { height = p.0; rows = p.1 }) (λ _. refl)

-- the key at which the group of a key lies, where groups lie at multiples of a span
abbrev pub base_of : ℕ → ℕ → ℕ
base_of span key = key / span * span

-- a tree may be cut there: no group has keys on both sides
abbrev pub IsBase : ℕ → ℕ → Type 0
IsBase span key = base_of span key ≡ key

-- the rows of a group that lies at a key: in order, each at the key of one of four places
pub record IsGroupAt {R : Type 0} (span base : ℕ) (key_in : ℕ → ℕ) (rows : List (ℕ × R)) : Type 0 where
  pub at : IsBase span base
  pub ordered : IsOrderedBy key_of_pair rows
  pub each : AllByRecursion (λ p. (place : ℕ) × (place < 4) × (p.0 ≡ key_in place)) rows
  pub small : base + span ≤ key_limit

-- the laws of groups: the keys of places rise within the span of a group, and a group's rows lie in its places
pub record HaveLaws {G R : Type 0} (listed : ℕ → G → List (ℕ × R)) (Holds : ℕ → G → Type 0) (span : ℕ) (key_in : ℕ → ℕ → ℕ) : Type 0 where
  pub positive : 0 < span
  pub rising : (base place : ℕ) → key_in base place < key_in base (suc place)
  pub from : (base : ℕ) → base ≤ key_in base 0
  pub below : (base : ℕ) → key_in base 3 < base + span
  pub rules : (base : ℕ) (group : G) → Holds base group → IsGroupAt span base (key_in base) (listed base group)

-- the rows of all groups, in order
abbrev pub rows_of : {G R : Type 0} → (ℕ → G → List (ℕ × R)) → List (ℕ × G) → List (ℕ × R)
rows_of listed [] = []
rows_of listed (p ∷ groups) = listed p.0 p.1 ++ rows_of listed groups

-- a group that keeps its rules, and isn't empty
abbrev pub IsFilled : {G R : Type 0} → (ℕ → G → List (ℕ × R)) → (ℕ → G → Type 0) → ℕ × G → Type 0
IsFilled listed Holds p = Holds p.0 p.1 × (1 ≤ length (listed p.0 p.1))

-- such groups in order
pub record AreGroups {G R : Type 0} (listed : ℕ → G → List (ℕ × R)) (Holds : ℕ → G → Type 0) (groups : List (ℕ × G)) : Type 0 where
  pub ordered : IsOrderedBy key_of_pair groups
  pub each : AllByRecursion (IsFilled listed Holds) groups

-- a row is put among others, or there is one with its key, and then nothing changes
abbrev pub IsPutAt : {R : Type 0} → ℕ → R → List (ℕ × R) → List (ℕ × R) → Bool → Type 0
IsPutAt key row before after true = (row_at key_of_pair key before ≡ None) × (after ≡ with_row key_of_pair (key, row) before)
IsPutAt key row before after false = IsSome (row_at key_of_pair key before) × (after ≡ before)

-- a row replaces the one with its key, which is the answer, if there is one
pub record IsReplacedAt {R : Type 0} (key : ℕ) (row : R) (before after : List (ℕ × R)) (old : Option R) : Type 0 where
  pub value : old ≡ value_at key before
  pub rows : after ≡ with_row_at key_of_pair key (key, row) before

-- the rows of the group to which a key belongs
abbrev pub rows_beside : {R : Type 0} → ℕ → ℕ → List (ℕ × R) → List (ℕ × R)
rows_beside span key rows = keys_below key_of_pair (base_of span key + span) (keys_from key_of_pair (base_of span key) rows)

-- the rows of a group that was found at a key, or none where none was
abbrev pub rows_in : {G R : Type 0} → (ℕ → G → List (ℕ × R)) → ℕ → Option G → List (ℕ × R)
rows_in listed base None = []
rows_in listed base (Some group) = listed base group

-- Groups were found for keys, one for each key in the order of the keys. Each has all rows in the span of its key. Where
-- there are no such rows, there is no group, or one without rows.
pub record AreGroupsAt {G R : Type 0} (span : ℕ) (listed : ℕ → G → List (ℕ × R)) (rows : List (ℕ × R)) (keys : List ℕ) (found : List (Option G)) : Type 0 where
  pub count : length found ≡ length keys
  pub each : (n : ℕ) → n < length keys → rows_in listed (base_of span (slice_index keys n)) (slice_index_or found n None) ≡ rows_beside span (slice_index keys n) rows

-- there is a key at which a group may begin that parts the low rows from the high ones
abbrev pub AreGroupsApart : {R : Type 0} → ℕ → List (ℕ × R) → List (ℕ × R) → Type 0
AreGroupsApart span low high = (key : ℕ) × IsBase span key × KeysBelow key low × KeysFrom key high

-- a height and a number of rows that belong together, where a group has one to four rows
pub record IsHeightOfGroups (height count : ℕ) : Type 0 where
  pub low : 0 < height → 2 * 16 ^ height ≤ count
  pub high : count ≤ 4 * 32 ^ (height + 1)
