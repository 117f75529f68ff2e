-- A page of rows: the next ones from a key on.
use Rattle.std.specs.Prelude.{◌≡◌, ℕ, List, [], ◌++◌}
use Rattle.tatp_rows.specs.Spans.{keys_from}
use Rattle.mr_node.specs.Rows.{key_of_pair}

-- a front of the rows from a key on: none only where there are none
pub record IsPage {V : Type 0} (key : ℕ) (rows page : List (ℕ × V)) : Type 0 where
  pub rest : List (ℕ × V)
  pub front : keys_from key_of_pair key rows ≡ page ++ rest
  pub some : page ≡ [] → rest ≡ []
