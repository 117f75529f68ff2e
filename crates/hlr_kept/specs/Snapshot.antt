-- A snapshot: the short journal whose lines make the rows of a book anew.
use Rattle.std.specs.Prelude.{◌≡◌, ℕ, List, ◌∷◌, ◌++◌, map, Some}
use Rattle.std.specs.Option.{option_map_or}
use Rattle.tatp_rows.specs.Keys.{key_of, subscriber_key}
use Rattle.tatp_rows.specs.Ordered.{row_at}
use Rattle.tatp_rows.specs.Rows.{SubscriberRow, CallForwardingRow}
use Rattle.tatp_actions.specs.Book.{Book, IsBook}
use Rattle.edit_lines.specs.Lines.{first_line, line_of}
use Rattle.hlr_core.specs.Numbers.{HasNoTwin}
use Rattle.hlr_core.specs.declared.event.Event.{Event}
use Rattle.hlr_core.specs.declared.event.Event.TheVariants.{AddSubscriber, AddAccess, AddFacility, InsertForwarding}
use Rattle.hlr_kept.specs.Rows.{book_of_lines}

-- the number of a subscriber, by whom a forwarding is inserted; 0 if there is no such subscriber
abbrev pub number_of : List SubscriberRow → ℕ → ℕ
number_of subscribers s_id =
    option_map_or (λ (row : SubscriberRow). row.sub_nbr) (row_at subscriber_key (key_of s_id 0 0) subscribers) 0

-- the event that inserts a forwarding
abbrev pub insertion : List SubscriberRow → CallForwardingRow → Event
insertion subscribers row =
    InsertForwarding (number_of subscribers row.s_id) row.sf_type row.start_time row.end_time row.numberx

-- the events that make the rows of a book anew: table by table, and by key
abbrev pub events_of_book : Book → List Event
events_of_book book =
    map AddSubscriber book.subscribers ++ (map AddAccess book.access
    ++ (map AddFacility book.facilities ++ map (insertion book.subscribers) book.forwardings))

-- the lines of the snapshot of a book
abbrev pub lines_of_book : Book → List (List ℕ)
lines_of_book book = first_line ∷ map line_of (events_of_book book)

-- a snapshot stands for the rows of its book, if they keep the rules and no number comes twice
abbrev pub SnapshotsStandForBooks : Type 0
SnapshotsStandForBooks =
    (book : Book) → IsBook book → HasNoTwin book.subscribers → book_of_lines (lines_of_book book) ≡ Some book
