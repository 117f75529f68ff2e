-- The index of numbers, as a list of the book: for each Subscriber row the pair of its number and its s_id, by number.
use Rattle.std.specs.Prelude.{◌≡◌, ◌+◌, ℕ, List, map}
use Rattle.tatp_rows.specs.Ordered.{in_order}
use Rattle.tatp_rows.specs.Rows.{SubscriberRow}
use Rattle.tatp_rows.specs.declared.ranges.TheConstants.{LAST_SUBSCRIBER}
use Rattle.mr_node.specs.Rows.{key_of_pair}
use Rattle.tatp_actions.specs.Book.{Book, IsRowsOf}
use Rattle.hlr_core.specs.Numbers.{HasNoTwin}

-- the pair of a row
abbrev pub number_pair : SubscriberRow → ℕ × ℕ
number_pair row = (row.sub_nbr, row.s_id)

-- the pairs of the rows, by number
abbrev pub index_of : List SubscriberRow → List (ℕ × ℕ)
index_of rows = in_order key_of_pair (map number_pair rows)

-- the rules of a register: the rows of all subscribers, no number twice, and the index beside them
pub record IsRegister (book : Book) (pairs : List (ℕ × ℕ)) : Type 0 where
  pub rows : IsRowsOf 1 (LAST_SUBSCRIBER + 1) book
  pub alone : HasNoTwin book.subscribers
  pub index : pairs ≡ index_of book.subscribers
