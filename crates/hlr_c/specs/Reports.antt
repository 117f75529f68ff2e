-- What the reports write for C. They change nothing.
use Rattle.std.specs.Int.{int_max, int_min}
use Rattle.std.specs.Prelude.{◌≡◌, ℕ, ◌<◌, ◌-◌, ◌++◌, List, length, map, replicate, ℤ, pos, negsuc, slice_index_or}
use Rattle.tatp_actions.specs.Cell.{cell}
use Rattle.tatp_actions.specs.declared.cells.TheConstants.{CELLS}
use Rattle.part_table.specs.Proposal.{proposal}
use Rattle.view_board.specs.Desks.{with_view}
use Rattle.view_board.specs.Nets.{net_of}
use Rattle.view_board.specs.Views.{first_view, looked}
use Rattle.hlr_owners.specs.Owners.{OwnersState, book_in, store_in, unposted}
use Rattle.hlr_owners.specs.Sight.{IsSightOf}
use Rattle.hlr_owners.specs.Store.{parts_in, published, unpublished}
use Rattle.hlr_core.specs.Weights.{published_weights}
use Rattle.hlr_c.specs.declared.codes.TheConstants.{DONE}
use Rattle.hlr_c.specs.declared.rows.HlrBounds.{HlrBounds}
use Rattle.hlr_c.specs.declared.rows.HlrRegion.{HlrRegion}
use Rattle.hlr_c.specs.declared.rows.HlrRegions.{HlrRegions}
use Rattle.hlr_c.specs.Rows.{region_for_c}

-- a report leaves the register as it is, and its code is 0
pub record IsReport {X : Type 0} (Tells : X → Type 0) (before : OwnersState) (answer : ℕ × X) (after : OwnersState) : Type 0 where
  pub same : after ≡ before
  pub code : answer.0 ≡ DONE
  pub told : Tells answer.1

-- what is published of each cell, and what is pending of it in all owners together, which is what is unposted
pub record AreViews (register : OwnersState) (views : List ℤ × List ℤ) : Type 0 where
  pub published : (c : ℕ) → c < CELLS → slice_index_or views.0 c (pos 0) ≡ published (store_in register) c
  pub pending : (c : ℕ) → c < CELLS → slice_index_or views.1 c (pos 0) ≡ unposted register.owners c
  pub difference : (c : ℕ) → c < CELLS → slice_index_or views.1 c (pos 0) ≡ unpublished (store_in register) c

-- each cell counted over the rows
abbrev pub AreCounts : OwnersState → List ℕ → Type 0
AreCounts register counts = (c : ℕ) → c < CELLS → slice_index_or counts c 0 ≡ cell register.width c (book_in register.owners)

-- a place behind the last region, with 0 in all fields
abbrev pub no_region : HlrRegion
no_region = record { lo = 0; hi = 0; is_piece = 0; number = 0 }

-- the regions, and 0 in all fields of the places behind them, of which there are 32 in all
abbrev pub AreListed : OwnersState → HlrRegions → Type 0
AreListed register list =
    (list.count ≡ length register.regions)
    × (list.regions ≡ map region_for_c register.regions ++ replicate (32 - list.count) no_region)

-- the bounds that are proposed
abbrev pub proposal_for : OwnersState → List ℕ
proposal_for register = proposal (published_weights (store_in register)) (parts_in (store_in register)) register.width

-- the bounds that are proposed, and 0 in the places behind them, of which there are 15 in all
abbrev pub AreProposed : OwnersState → HlrBounds → Type 0
AreProposed register bounds =
    (bounds.count ≡ length (proposal_for register))
    × (bounds.bounds ≡ proposal_for register ++ replicate (15 - bounds.count) 0)

-- the integer of 64 bits that is nearest
abbrev pub nearest : ℤ → ℤ
nearest n = int_max (negsuc 9223372036854775807) (int_min (pos 9223372036854775807) n)

-- a right sight of the register's words, which the register has seen then; and for each cell what is published by these
-- words, or the nearest integer of 64 bits, because the words of a sight don't belong to one moment
pub record IsLook (before : OwnersState) (answer : ℕ × List ℤ) (after : OwnersState) : Type 0 where
  pub words : List ℕ
  pub sight : IsSightOf (store_in before) words
  pub seen : after ≡ record before { spare = with_view before.spare (looked before.spare.view words) }
  pub code : answer.0 ≡ DONE
  pub told : (c : ℕ) → c < CELLS → slice_index_or answer.1 c (pos 0) ≡ nearest (net_of (first_view words) c)
