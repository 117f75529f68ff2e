-- Numbers of subscribers over a whole book: no number comes twice, and each leads to one row.
use Rattle.std.specs.Prelude.{◌≢◌, ℕ, List, [], ◌∷◌, Option, option_map, ⊤}
use Rattle.std.specs.List.{AllByRecursion}
use Rattle.tatp_rows.specs.Ordered.{row_at}
use Rattle.tatp_rows.specs.Rows.{SubscriberRow}

-- the Subscriber row with a number
abbrev pub bearer_of : List SubscriberRow → ℕ → Option SubscriberRow
bearer_of rows number = row_at (λ row. row.sub_nbr) number rows

-- the subscriber with a number
abbrev pub bearer_id : List SubscriberRow → ℕ → Option ℕ
bearer_id rows number = option_map (λ row. row.s_id) (bearer_of rows number)

-- no number comes twice
abbrev pub HasNoTwin : List SubscriberRow → Type 0
HasNoTwin [] = ⊤
HasNoTwin (row ∷ rows) = AllByRecursion (λ other. row.sub_nbr ≢ other.sub_nbr) rows × HasNoTwin rows
