-- What records order of the register, and which of its answers their text tells.
use Rattle.std.specs.Prelude.{◌≡◌, ⊤, ℕ, List, [], ◌∷◌, ◌++◌, Result, Ok, Err}
use Rattle.arrayvec.specs.ArrayVec.{ArrayVec}
use Rattle.tatp_rows.specs.declared.refusal.Refusal.{Refusal}
use Rattle.hlr_owners.specs.Store.{Store}
use Rattle.hlr_core.specs.declared.order.Answer.{Answer}
use Rattle.hlr_core.specs.declared.order.Answer.TheVariants as answer
use Rattle.hlr_core.specs.declared.order.Order.{Order}
use Rattle.hlr_core.specs.declared.order.Order.TheVariants as order
use Rattle.hlr.specs.Command.{Command}
use Rattle.hlr.specs.Command.{Command as command}
use Rattle.hlr.specs.Records.{bounds_of, command_of}
use Rattle.hlr.specs.Text.{CommandText, RecordText, RecordsText, RecutText}

-- the order of a recut to the bounds that were read, if they are some
abbrev pub recut_order : Result (ArrayVec ℕ) Refusal → List Order
recut_order (Ok bounds) = order.Recut bounds ∷ []
recut_order (Err why) = []

-- the order that a command of these fields is: a report orders nothing, and neither does what is no command
abbrev pub order_of : List (List ℕ) → Result Command Refusal → List Order
order_of fields (Ok (command.Ask event)) = order.Event event ∷ []
order_of fields (Ok command.Recut) = recut_order (bounds_of fields)
order_of fields _ = []

-- the orders of records, one after another
abbrev pub orders_of : List (List (List ℕ)) → List Order
orders_of [] = []
orders_of (fields ∷ rows) = order_of fields (command_of fields) ++ orders_of rows

-- the answer to a recut that its line tells
abbrev pub recut_answer_in : (bounds : Result (ArrayVec ℕ) Refusal) (before : Store) (text : List ℕ) (after : Store)
    → RecutText bounds before text after → List Answer
recut_answer_in (Ok bounds) before text after told = answer.Recut told.answer ∷ []
recut_answer_in (Err why) before text after told = []

-- the answer of the register that the text of a command tells, if it is one
abbrev pub answer_in : (fields : List (List ℕ)) (asked : Result Command Refusal) (before : Store) (text : List ℕ)
    (after : Store) → CommandText fields asked before text after → List Answer
answer_in fields (Ok (command.Ask event)) before text after told = answer.Reply told.reply ∷ []
answer_in fields (Ok command.Recut) before text after told = recut_answer_in (bounds_of fields) before text after told
answer_in fields _ before text after told = []

-- the answers of the register that the text of records tells, one after another
unfoldable pub answers_in : (rows : List (List (List ℕ))) (before : Store) (text : List ℕ) (after : Store)
    → RecordsText rows before text after → List Answer
unfolding RecordsText
answers_in [] before text after told = []
answers_in (fields ∷ rows) before text after told =
    answer_in fields (command_of fields) before told.0 told.1 told.3 ++ answers_in rows told.1 told.2 after told.4

-- the text of a record tells its answer: read in whatever way as a right answer to the record from the same store, it
-- tells this one
abbrev pub TellsAnswer : (fields : List (List ℕ)) (before : Store) (text : List ℕ) (after : Store) → RecordText fields before text after → Type 0
TellsAnswer fields before text after told =
    (later : Store) (other : RecordText fields before text later)
    → answer_in fields (command_of fields) before text later other ≡ answer_in fields (command_of fields) before text after told

-- the text of each of these records does
unfoldable pub TellAnswers : (rows : List (List (List ℕ))) (before : Store) (text : List ℕ) (after : Store)
    → RecordsText rows before text after → Type 0
unfolding RecordsText
TellAnswers [] before text after told = ⊤
TellAnswers (fields ∷ rows) before text after told = TellsAnswer fields before told.0 told.1 told.3 × TellAnswers rows told.1 told.2 after told.4
