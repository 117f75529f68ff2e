-- The rules of one owner: those of a holding and of a loose piece, and what follows from them.
use Rattle.hlr_owners.proofs.Common.{◌≡◌, ℕ, ◌<◌, ◌^◌, refl, arith, ℤ, pos, neg_ℤ, ◌≤ℤ◌, ints, empty_book, CELLS, Region, net_of, nobody, delta_at, HoldingState, PieceState, IsHolding, IsPiece, few, OwnerState, of_holding, of_piece, IsLawful, IsOwnerState, IsOpened}
use Rattle.view_board.specs.Nets.{net_from}

-- a holding keeps the local law
pub holding_keeps : (holding : HoldingState) → IsHolding holding → IsLawful (of_holding holding)
holding_keeps holding is = record { rules = is.rules; law = is.law; small = is.small }

-- nobody has published anything
pub nobody_net : (c : ℕ) → net_of nobody c ≡ pos 0
unfolding net_from
nobody_net c = refl

-- and a loose piece keeps the law
pub piece_keeps : (piece : PieceState) → IsPiece piece → IsLawful (of_piece piece)
piece_keeps piece is = record {
  rules = is.rules;
  law = λ c below. (let law = is.law c below in let none = nobody_net c in omega (arith, ints));
  small = λ c below. (let none = nobody_net c in (omega (arith, ints), omega (arith, ints)));
}

-- a holding with no row, for a region and a width of zones
pub record IsFresh (width : ℕ) (region : Region) (state : OwnerState) : Type 0 where
  pub owned : IsOwnerState width region state
  pub no_rows : state.part.book ≡ empty_book

pub fresh_holding : (width : ℕ) (region : Region) (holding : HoldingState) → IsOpened region width holding → IsFresh width region (of_holding holding)
fresh_holding width region holding is = record {
  owned = record { from = is.from; to = is.to; zones = is.zones; keeps = holding_keeps holding is.rules };
  no_rows = is.no_rows;
}

-- a whole number is at most another one, either way
abbrev pub IsAtMost : ℕ → ℤ → Type 0
IsAtMost most z = (neg_ℤ (pos most) ≤ℤ z) × (z ≤ℤ pos most)

-- the most that one owner has published of a cell, and that is pending of it: a net and a count of 2^40 at most
abbrev pub state_most : ℕ
state_most = 2 ^ 41

pub pending_fits : (state : OwnerState) → IsLawful state → (c : ℕ) → c < CELLS → IsAtMost state_most (delta_at state.pending c)
pending_fits state is c below =
    let law = is.law c below in
    let low = (is.small c below).0 in
    let high = (is.small c below).1 in
    let most = few state.part is.rules c in
    (omega (arith, ints), omega (arith, ints))
