-- Gives, takes, recuts, divides and dissolves change no reply except to Moving. This is said of what is left of a run
-- without them, without postings, and without what was answered with Moving or Memory.
use Rattle.std.specs.Prelude.{◌≡◌, Bool, true, false, ◌&&◌, List, [], ◌∷◌, if◌then◌else◌}
use Rattle.tatp_rows.specs.declared.refusal.Refusal.{Refusal}
use Rattle.tatp_rows.specs.declared.refusal.Refusal.TheVariants as refusal
use Rattle.tatp_actions.specs.Book.{Book}
use Rattle.part_table.specs.Regions.{pieces_of}
use Rattle.hlr_core.specs.Run.{IsRun}
use Rattle.hlr_owners.specs.Store.{Store}
use Rattle.hlr_core.specs.declared.event.Event.{Event}
use Rattle.hlr_core.specs.declared.event.Event.TheVariants.{Post, Give, Take, Divide, Dissolve}
use Rattle.hlr_core.specs.declared.event.Reply.{Reply}
use Rattle.hlr_core.specs.declared.event.Reply.TheVariants as reply
use Rattle.hlr_core.specs.declared.order.Answer.{Answer}
use Rattle.hlr_core.specs.declared.order.Answer.TheVariants as answer
use Rattle.hlr_core.specs.declared.order.Order.{Order}
use Rattle.hlr_core.specs.declared.order.Order.TheVariants as order

-- an event on rows
abbrev pub is_on_rows : Event → Bool
is_on_rows (Post part limit) = false
is_on_rows (Give part side at) = false
is_on_rows (Take piece part) = false
is_on_rows (Divide part at) = false
is_on_rows (Dissolve part) = false
is_on_rows _ = true

-- a refusal that depends on where rows are or on memory, and not on the rows themselves
abbrev pub is_passing : Refusal → Bool
is_passing refusal.Moving = true
is_passing refusal.Memory = true
is_passing _ = false

-- a reply that is not such a refusal
abbrev pub is_lasting : Reply → Bool
is_lasting (reply.Refused why) = if is_passing why then false else true
is_lasting _ = true

-- an order is kept if it is an event on rows that was not answered with Moving or Memory
abbrev pub is_kept : Order → Answer → Bool
is_kept (order.Event event) (answer.Reply said) = is_on_rows event && is_lasting said
is_kept (order.Event event) (answer.Recut done) = false
is_kept (order.Recut bounds) told = false

-- the orders that are kept
abbrev pub kept_orders : List Order → List Answer → List Order
kept_orders [] answers = []
kept_orders (first ∷ orders) [] = []
kept_orders (first ∷ orders) (told ∷ answers) =
    if is_kept first told then first ∷ kept_orders orders answers else kept_orders orders answers

-- the answers to the orders that are kept
abbrev pub kept_answers : List Order → List Answer → List Answer
kept_answers [] answers = []
kept_answers (first ∷ orders) [] = []
kept_answers (first ∷ orders) (told ∷ answers) =
    if is_kept first told then told ∷ kept_answers orders answers else kept_answers orders answers

-- from any store with the same book in which no piece is loose, with any parts, words and slots, the kept orders have
-- the same answers, and lead to the same book; this includes the store of the run itself, if no piece is loose there
abbrev pub IsSameAtHome : List Order → Book → List Answer → Book → Type 0
IsSameAtHome orders before answers after =
    (base : Store) → pieces_of base.regions ≡ []
    → IsRun (kept_orders orders answers) (record base { book = before }) (kept_answers orders answers)
    (record base { book = after })

-- this holds for each right run, no matter how it was made
abbrev pub RunsAreSameAtHome : Type 0
RunsAreSameAtHome =
    (orders : List Order) (answers : List Answer) (before after : Store)
    → IsRun orders before answers after → IsSameAtHome orders before.book answers after.book
