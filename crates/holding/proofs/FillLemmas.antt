-- A holding that starts with no row and is filled, and one whose rows go to another one.
use Rattle.holding.proofs.Common.{◌≡◌, ℕ, ◌<◌, refl, sym, arith, List, map, get_or, ◌∙◌, ℤ, pos, ◌+ℤ◌, Box, with_value, Global, range_with_len, ints, get_or-map-range_with_len, Side, empty_book, PartState, IsPart, CELLS, DeskState, with_view, net_of, IsLeastSlot, OwnsAlone, taken_back, View, wide_back, delta_at, HoldingState, PieceState, IsHolding, IsPiece, count_of, IsGiven}
use Rattle.holding.proofs.HeldLemmas.{empty_cell}
use Rattle.holding.proofs.MovedLemmas.{counts_of}

-- nothing is published
abbrev pub IsIdle : View → Type 0
IsIdle view = (c : ℕ) → c < CELLS → net_of view c ≡ pos 0

-- nothing is pending of a holding with no row of which nothing is published
pub none_pending : (holding : HoldingState) → IsHolding holding → holding.part.book ≡ empty_book → IsIdle holding.desk.view → (c : ℕ) → c < CELLS → delta_at holding.pending c ≡ pos 0
none_pending holding is empty idle c below =
    let law = is.law c below in
    let none = idle c below in
    let count : count_of holding.part c ≡ 0 = rw empty (empty_cell holding.part.width c) in
    omega (arith, ints)

-- a holding with no row is filled with those of a piece, all of which is pending
pub filled : (old part : PartState) (pending pending' : List ℤ) (counts : List ℕ) (desk : DeskState) (slot : ℕ) → IsHolding (record { part = old; pending = pending; desk = desk; slot = slot })
    → IsPiece (record { part = part; pending = map pos counts }) → IsIdle desk.view → ((c : ℕ) → c < CELLS → delta_at pending c ≡ pos 0)
    → ((c : ℕ) → c < CELLS → delta_at pending' c ≡ delta_at pending c +ℤ pos (get_or counts c 0))
    → IsHolding (record { part = part; pending = pending'; desk = desk; slot = slot })
filled old part pending pending' counts desk slot is piece idle none more = record {
  rules = piece.rules;
  slot = is.slot;
  law = λ c below. (let net = idle c below in let before = none c below in let now = more c below in let count = counts_of part counts piece c below in omega (arith, ints));
  small = is.small;
  wide = is.wide;
}

-- a piece that went to a new holding, of which the same is pending there
pub given_to : (side : Side) (at : ℕ) (before after : HoldingState) (piece piece' : PieceState) → IsGiven side at before piece after → piece'.part ≡ piece.part
    → ((c : ℕ) → c < CELLS → delta_at piece'.pending c ≡ delta_at piece.pending c) → IsGiven side at before piece' after
given_to side at before after piece piece' is part same = record {
  inside = is.inside;
  given = rw part is.given;
  kept = is.kept;
  less = λ c below. rw (same c below) (is.less c below);
  desk = is.desk;
  slot = is.slot;
}

pub counted_by : (piece piece' : PieceState) → IsPiece piece → piece'.part ≡ piece.part → ((c : ℕ) → c < CELLS → delta_at piece'.pending c ≡ delta_at piece.pending c) → IsPiece piece'
counted_by piece piece' is part same = record { rules = rw part is.rules; law = λ c below. rw (part, same c below) (is.law c below) }

-- the counts of a part, as a list
pub counts_list : PartState → List ℤ
counts_list part = map (λ c. pos (count_of part c)) (range_with_len 0 CELLS)

pub are_counts : (part : PartState) → IsPart part → IsPiece (record { part = part; pending = counts_list part })
unfolding counts_list
are_counts part rules = record { rules = rules; law = λ c below. get_or-map-range_with_len (λ c. pos (count_of part c)) 0 CELLS c c (pos 0) below (omega arith) }

-- the least slot of a desk with one slot is that slot
pub alone_least : (view : View) (slot other : ℕ) → IsLeastSlot view slot → OwnsAlone view other → OwnsAlone view slot
alone_least view slot other least alone = (least.0, λ s own. alone.1 s own ∙ sym (alone.1 slot least.0))

-- a holding whose rows are gone, and which took back all that was published
pub emptied : (part empty : PartState) (pending none : List ℤ) (desk desk' : DeskState) (slot : ℕ) → IsHolding (record { part = part; pending = pending; desk = desk; slot = slot })
    → IsPart empty → empty.book ≡ empty_book → desk' ≡ with_view desk (taken_back desk.view slot) → IsIdle desk'.view → ((c : ℕ) → c < CELLS → delta_at none c ≡ pos 0)
    → IsHolding (record { part = empty; pending = none; desk = desk'; slot = slot })
emptied part empty pending none desk desk' slot is rules book back idle nothing = record {
  rules = rules;
  slot = rw back is.slot;
  law = λ c below. (let net = idle c below in let before = nothing c below in let count : count_of empty c ≡ 0 = rw book (empty_cell empty.width c) in omega (arith, ints));
  small = λ c below. (let net = idle c below in (omega (arith, ints), omega (arith, ints)));
  wide = rw back (wide_back desk.view slot is.wide);
}

-- a box that is written with what it contained is the box
pub box_same : {X : Type 0} (b : Box X Global) (v : X) → v ≡ b.value → with_value b v ≡ b
box_same b v is = rw is refl
