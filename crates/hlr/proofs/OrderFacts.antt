-- What records order of the register is a right run.
use Rattle.hlr.proofs.Common.{◌≤◌, ℕ, List, [], ◌∷◌, ◌++◌, length, Result, Ok, Err, ArrayVec, Refusal, Store, IsRun, Answer, Order, same_at_home, Command, RECORDS, answer_in, order_of, orders_of, recut_answer_in, recut_order, bounds_of, command_of, AnsweredRecords, CommandText, RecutText}
use Rattle.hlr.specs.Command.{Command as command}
use Rattle.hlr.specs.Orders.{answers_in}
use Rattle.hlr.specs.Text.{RecordsText}
use Rattle.hlr.proofs.ToldFacts.{answers_told}

-- a re-cut, and a run behind it
recut_run : (bounds : Result (ArrayVec ℕ) Refusal) (before : Store) (text : List ℕ) (next : Store) (told : RecutText bounds before text next)
    (orders : List Order) (answers : List Answer) (after : Store)
    → IsRun orders next answers after → IsRun (recut_order bounds ++ orders) before (recut_answer_in bounds before text next told ++ answers) after
recut_run (Ok bounds) before text next told orders answers after run = (next, told.right, run)
recut_run (Err why) before text next told orders answers after run = rw (← told.1) run

-- a command, and a run behind it
command_run : (fields : List (List ℕ)) (asked : Result Command Refusal) (before : Store) (text : List ℕ) (next : Store) (told : CommandText fields asked before text next)
    (orders : List Order) (answers : List Answer) (after : Store)
    → IsRun orders next answers after → IsRun (order_of fields asked ++ orders) before (answer_in fields asked before text next told ++ answers) after
command_run fields (Ok (command.Ask event)) before text next told orders answers after run = (next, told.right, run)
command_run fields (Ok command.Recut) before text next told orders answers after run = recut_run (bounds_of fields) before text next told orders answers after run
command_run fields (Ok command.Views) before text next told orders answers after run = rw (← told.1) run
command_run fields (Ok command.Scan) before text next told orders answers after run = rw (← told.1) run
command_run fields (Ok command.Index) before text next told orders answers after run = rw (← told.1) run
command_run fields (Ok command.Regions) before text next told orders answers after run = rw (← told.1) run
command_run fields (Ok command.Propose) before text next told orders answers after run = rw (← told.1) run
command_run fields (Err why) before text next told orders answers after run = rw (← told.1) run

-- records
pub records_run : (rows : List (List (List ℕ))) (before : Store) (text : List ℕ) (after : Store) (told : RecordsText rows before text after)
    → IsRun (orders_of rows) before (answers_in rows before text after told) after
unfolding RecordsText answers_in
records_run [] before text after told = told.1
records_run (fields ∷ rows) before text after told =
    command_run fields (command_of fields) before told.0 told.1 told.3 (orders_of rows) (answers_in rows told.1 told.2 after told.4) after
    (records_run rows told.1 told.2 after told.4)

-- so the records that a run answered are such
abbrev pub answered_records : (start : Store) (rows : List (List (List ℕ))) (text : List ℕ) (end : Store) → length rows ≤ RECORDS
    → RecordsText rows start text end → AnsweredRecords start
answered_records start rows text end few told = record {
  rows = rows;
  few = few;
  text = text;
  end = end;
  answers = told;
  tells = answers_told rows start text end told;
  run = records_run rows start text end told;
  kept = same_at_home (orders_of rows) (answers_in rows start text end told) start end (records_run rows start text end told);
}
