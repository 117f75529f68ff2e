-- The numbers of the rows that `gather` takes, and a right refusal of it.
use Rattle.std.specs.Prelude.{◌≡◌, ◌⊎◌, List, None, Some}
use Rattle.std.specs.List.{flat_map}
use Rattle.tatp_rows.specs.Rows.{SubscriberRow}
use Rattle.tatp_rows.specs.declared.refusal.Refusal.{Refusal}
use Rattle.tatp_rows.specs.declared.refusal.Refusal.TheVariants.{NumberTaken, Memory}
use Rattle.holding.specs.Held.{HoldingState, PieceState}
use Rattle.hlr_owners.specs.Gather.{states_of}
use Rattle.hlr_owners.specs.Scattered.{holdings_in, pieces_in, misfit_of}
use Rattle.hlr_owners.specs.declared.scattered.Scattered.{Scattered}
use Rattle.hlr_core.specs.Numbers.{HasNoTwin}

-- the Subscriber rows as they are handed in
abbrev pub rows_of_all : List HoldingState → List PieceState → List SubscriberRow
rows_of_all holdings pieces = flat_map (λ owner. owner.part.book.subscribers) (states_of holdings pieces)

-- two of the rows have one number
abbrev pub HasTwins : Scattered → Type 0
HasTwins apart = ¬ (HasNoTwin (rows_of_all (holdings_in apart) (pieces_in apart)))

-- a right refusal: NumberTaken comes after all others but Memory
abbrev pub IsRefusedWhole : Scattered → Refusal → Type 0
IsRefusedWhole apart why =
    (misfit_of apart ≡ Some why) ⊎ ((misfit_of apart ≡ None) × (((why ≡ NumberTaken) × HasTwins apart) ⊎ (why ≡ Memory)))
