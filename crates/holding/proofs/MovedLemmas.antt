-- A part that is cut in two, and two that become one: their counts add up, and the local law is kept.
use Rattle.holding.proofs.Common.{◌≡◌, ℕ, ◌+◌, ◌<◌, ◌==◌, arith, List, get_or, map, ◌∙◌, ap, inl, inr, false, ℤ, pos, ◌-ℤ◌, get_or-map, nat_tests, ints, Side, Low, High, by_test, Book, IsRowsOf, cell, given_part, kept_part, melded, Touch, join_books, PartState, IsPart, CELLS, cell_cut, cell_joined, DeskState, delta_at, SumsFit, DifferencesFit, HoldingState, IsHolding, IsPiece, count_of, IsPendingWith}
use Rattle.holding.proofs.HeldLemmas.{few, pending_small}

-- the counts of a part's rows
abbrev pub AreCountsOf : PartState → List ℕ → Type 0
AreCountsOf part counts = (c : ℕ) → c < CELLS → get_or counts c 0 ≡ count_of part c

-- the counts of a piece, as what is pending
pub counts_pending : (counts : List ℕ) (c : ℕ) → delta_at (map pos counts) c ≡ pos (get_or counts c 0)
counts_pending counts c = get_or-map pos counts c 0

pub counts_of : (part : PartState) (counts : List ℕ) → IsPiece (record { part = part; pending = map pos counts }) → AreCountsOf part counts
counts_of part counts is c below = let law = is.law c below in let count = counts_pending counts c in omega (arith, ints)

pub are_piece : (part : PartState) (counts : List ℕ) → IsPart part → AreCountsOf part counts → IsPiece (record { part = part; pending = map pos counts })
are_piece part counts rules are = record { rules = rules; law = λ c below. counts_pending counts c ∙ ap pos (are c below) }

-- they fit, taken off what is pending of a holding or added to it
pub differences_fit : (holding : HoldingState) (part : PartState) (counts : List ℕ) → IsHolding holding → IsPart part → AreCountsOf part counts → DifferencesFit holding.pending counts
differences_fit holding part counts is rules are c below =
    let most = few part rules c in let count = are c below in let low = (pending_small holding is c below).0 in let high = (pending_small holding is c below).1 in omega (arith, ints)

pub sums_fit : (holding : HoldingState) (part : PartState) (counts : List ℕ) → IsHolding holding → IsPart part → AreCountsOf part counts → SumsFit holding.pending counts
sums_fit holding part counts is rules are c below =
    let most = few part rules c in let count = are c below in let low = (pending_small holding is c below).0 in let high = (pending_small holding is c below).1 in omega (arith, ints)

-- the counts of a part that is cut in two
pub divided : (side : Side) (at : ℕ) (part given kept : PartState) → IsPart part
    → given ≡ record (given_part side at part) { asked = 0; steps = 0; heights = given.heights }
    → kept ≡ record (kept_part side at part) { steps = kept.steps; heights = kept.heights }
    → (c : ℕ) → count_of part c ≡ count_of given c + count_of kept c
divided Low at part given kept rules is_given is_kept c =
    rw (ap (λ (p : PartState). p.width) is_given, ap (λ (p : PartState). p.width) is_kept, ap (λ (p : PartState). p.book) is_given, ap (λ (p : PartState). p.book) is_kept)
    (cell_cut part.lo at part.hi part.width c part.book rules.rows)
divided High at part given kept rules is_given is_kept c =
    let both = cell_cut part.lo at part.hi part.width c part.book rules.rows in
    rw (ap (λ (p : PartState). p.width) is_given, ap (λ (p : PartState). p.width) is_kept, ap (λ (p : PartState). p.book) is_given, ap (λ (p : PartState). p.book) is_kept)
    (omega arith)

-- what is left of a holding keeps its rules
pub left : (part given kept : PartState) (pending pending' : List ℤ) (counts : List ℕ) (desk : DeskState) (slot : ℕ) → IsHolding (record { part = part; pending = pending; desk = desk; slot = slot })
    → IsPart kept → AreCountsOf given counts → ((c : ℕ) → count_of part c ≡ count_of given c + count_of kept c)
    → ((c : ℕ) → c < CELLS → delta_at pending' c ≡ delta_at pending c -ℤ pos (get_or counts c 0))
    → IsHolding (record { part = kept; pending = pending'; desk = desk; slot = slot })
left part given kept pending pending' counts desk slot is rules are both less = record {
  rules = rules;
  slot = is.slot;
  law = λ c below. (let law = is.law c below in let count = are c below in let sum = both c in let now = less c below in omega (arith, ints));
  small = is.small;
  wide = is.wide;
}

-- the counts of two parts that become one
joined_low : (lo at at' hi width : ℕ) (low high : Book) → at ≡ at' → IsRowsOf lo at low → IsRowsOf at' hi high → (c : ℕ) → cell width c (join_books low high) ≡ cell width c low + cell width c high
joined_low lo at at' hi width low high same of_low of_high c = cell_joined lo at hi low high of_low (rw same of_high) width c

pub joined : (part other whole : PartState) → IsPart part → IsPart other → Touch part other → part.width ≡ other.width
    → whole ≡ record (melded part other) { steps = whole.steps; heights = whole.heights }
    → (c : ℕ) → count_of whole c ≡ count_of part c + count_of other c
joined part other whole rules rules' touch same is c = by_test (part.hi == other.lo)
    (λ e.
    let meets : part.hi ≡ other.lo = grind (arith, nat_tests) in
    let is' = rw e at is in
    rw (ap (λ (p : PartState). p.width) is', ap (λ (p : PartState). p.book) is', ← same) (joined_low part.lo part.hi other.lo other.hi part.width part.book other.book meets rules.rows rules'.rows c))
    (λ e.
    let is' = rw e at is in
    let meets = meets_low touch e in
    let both = joined_low other.lo other.hi part.lo part.hi part.width other.book part.book meets rules'.rows rules.rows c in
    rw (ap (λ (p : PartState). p.width) is', ap (λ (p : PartState). p.book) is', ← same) (omega arith))
  where
    meets_low : Touch part other → (part.hi == other.lo) ≡ false → other.hi ≡ part.lo
    meets_low (inl first) e = absurd (grind (arith, nat_tests))
    meets_low (inr second) e = second

-- a holding with the rows and the counts of another part keeps its rules
pub grown : (part other whole : PartState) (pending pending' : List ℤ) (desk : DeskState) (slot : ℕ) → IsHolding (record { part = part; pending = pending; desk = desk; slot = slot })
    → IsPart whole → ((c : ℕ) → count_of whole c ≡ count_of part c + count_of other c) → IsPendingWith other pending pending'
    → IsHolding (record { part = whole; pending = pending'; desk = desk; slot = slot })
grown part other whole pending pending' desk slot is rules both more = record {
  rules = rules;
  slot = is.slot;
  law = λ c below. (let law = is.law c below in let sum = both c in let now = more c below in omega (arith, ints));
  small = is.small;
  wide = is.wide;
}
