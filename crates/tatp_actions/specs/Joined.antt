-- The book of several parts, and a book cut between two subscribers.
use Rattle.std.specs.Prelude.{ℕ, ◌*◌, ◌++◌, List, [], ◌∷◌}
use Rattle.tatp_rows.specs.Keys.{subscriber_key, access_key, facility_key, forwarding_key}
use Rattle.tatp_rows.specs.Spans.{keys_below, keys_from}
use Rattle.tatp_actions.specs.Book.{Book, empty_book}
use Rattle.tatp_actions.specs.Part.{PartState}

-- the rows of both books, table by table
abbrev pub join_books : Book → Book → Book
join_books low high = record {
  subscribers = low.subscribers ++ high.subscribers;
  access = low.access ++ high.access;
  facilities = low.facilities ++ high.facilities;
  forwardings = low.forwardings ++ high.forwardings;
}

-- the rows of all parts, in their order
abbrev pub book_of : List PartState → Book
book_of [] = empty_book
book_of (part ∷ parts) = join_books part.book (book_of parts)

-- the rows of the subscribers below n
abbrev pub cut_low : ℕ → Book → Book
cut_low n book = record {
  subscribers = keys_below subscriber_key (n * 65536) book.subscribers;
  access = keys_below access_key (n * 65536) book.access;
  facilities = keys_below facility_key (n * 65536) book.facilities;
  forwardings = keys_below forwarding_key (n * 65536) book.forwardings;
}

-- the rows of the subscribers from n on
abbrev pub cut_high : ℕ → Book → Book
cut_high n book = record {
  subscribers = keys_from subscriber_key (n * 65536) book.subscribers;
  access = keys_from access_key (n * 65536) book.access;
  facilities = keys_from facility_key (n * 65536) book.facilities;
  forwardings = keys_from forwarding_key (n * 65536) book.forwardings;
}
