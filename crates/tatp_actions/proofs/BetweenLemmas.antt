-- The rows of a range, where all rows belong to it.
use Rattle.tatp_actions.proofs.Common.{◌≡◌, ◌∙◌, refl, sym, ap, ℕ, ◌≤◌, ◌&&◌, arith, Bool, true, false, nat_le, nat_lt, nat_tests, each-weaker, filter_all, filter_none, both_from, SubscriberRow, AccessInfoRow, SpecialFacilityRow, CallForwardingRow, Book, IsRowsOf, IsWithin, is_within, rows_between, empty_book, join_books, cut_low, cut_high, filter-append, append-nil}
use Rattle.tatp_actions.proofs.CutLemmas.{same_tables, cut_joined, cut_low_rows, cut_high_rows}

-- the test of a range
pub within_test : (lo hi s_id : ℕ) → IsWithin lo hi s_id → is_within lo hi s_id ≡ true
within_test lo hi s_id within = both_from (nat_le lo s_id) (nat_lt s_id hi) (grind (arith, nat_tests)) (grind (arith, nat_tests))

-- the rows of the range of a book are all of its rows
pub own_rows : (lo hi : ℕ) (book : Book) → IsRowsOf lo hi book → rows_between lo hi book ≡ book
own_rows lo hi book rows = same_tables
    (filter_all (λ (row : SubscriberRow). is_within lo hi row.s_id) book.subscribers (each-weaker {P = λ (row : SubscriberRow). IsWithin lo hi row.s_id} (λ row within. within_test lo hi row.s_id within) book.subscribers rows.subscribers))
    (filter_all (λ (row : AccessInfoRow). is_within lo hi row.s_id) book.access (each-weaker {P = λ (row : AccessInfoRow). IsWithin lo hi row.s_id} (λ row within. within_test lo hi row.s_id within) book.access rows.access))
    (filter_all (λ (row : SpecialFacilityRow). is_within lo hi row.s_id) book.facilities (each-weaker {P = λ (row : SpecialFacilityRow). IsWithin lo hi row.s_id} (λ row within. within_test lo hi row.s_id within) book.facilities rows.facilities))
    (filter_all (λ (row : CallForwardingRow). is_within lo hi row.s_id) book.forwardings (each-weaker {P = λ (row : CallForwardingRow). IsWithin lo hi row.s_id} (λ row within. within_test lo hi row.s_id within) book.forwardings rows.forwardings))

-- a subscriber past a range, and one in front of it
pub past_test : (lo hi a b s_id : ℕ) → hi ≤ a → IsWithin lo hi s_id → is_within a b s_id ≡ false
past_test lo hi a b s_id past within = let below = within.1 in let e : nat_le a s_id ≡ false = grind (arith, nat_tests) in rw e refl

pub before_test : (lo hi a b s_id : ℕ) → b ≤ lo → IsWithin lo hi s_id → is_within a b s_id ≡ false
before_test lo hi a b s_id before within = let from = within.0 in let e : nat_lt s_id b ≡ false = grind (arith, nat_tests) in rw (e, no_more (nat_le a s_id)) refl
  where
    no_more : (test : Bool) → (test && false) ≡ false
    no_more true = refl
    no_more false = refl

-- no rows of a range lie in one that begins where it ends, or ends where it begins
pub none_past : (lo hi a b : ℕ) (book : Book) → hi ≤ a → IsRowsOf lo hi book → rows_between a b book ≡ empty_book
none_past lo hi a b book past rows = same_tables
    (filter_none (λ (row : SubscriberRow). is_within a b row.s_id) book.subscribers (each-weaker {P = λ (row : SubscriberRow). IsWithin lo hi row.s_id} (λ row within. past_test lo hi a b row.s_id past within) book.subscribers rows.subscribers))
    (filter_none (λ (row : AccessInfoRow). is_within a b row.s_id) book.access (each-weaker {P = λ (row : AccessInfoRow). IsWithin lo hi row.s_id} (λ row within. past_test lo hi a b row.s_id past within) book.access rows.access))
    (filter_none (λ (row : SpecialFacilityRow). is_within a b row.s_id) book.facilities (each-weaker {P = λ (row : SpecialFacilityRow). IsWithin lo hi row.s_id} (λ row within. past_test lo hi a b row.s_id past within) book.facilities rows.facilities))
    (filter_none (λ (row : CallForwardingRow). is_within a b row.s_id) book.forwardings (each-weaker {P = λ (row : CallForwardingRow). IsWithin lo hi row.s_id} (λ row within. past_test lo hi a b row.s_id past within) book.forwardings rows.forwardings))

pub none_before : (lo hi a b : ℕ) (book : Book) → b ≤ lo → IsRowsOf lo hi book → rows_between a b book ≡ empty_book
none_before lo hi a b book before rows = same_tables
    (filter_none (λ (row : SubscriberRow). is_within a b row.s_id) book.subscribers (each-weaker {P = λ (row : SubscriberRow). IsWithin lo hi row.s_id} (λ row within. before_test lo hi a b row.s_id before within) book.subscribers rows.subscribers))
    (filter_none (λ (row : AccessInfoRow). is_within a b row.s_id) book.access (each-weaker {P = λ (row : AccessInfoRow). IsWithin lo hi row.s_id} (λ row within. before_test lo hi a b row.s_id before within) book.access rows.access))
    (filter_none (λ (row : SpecialFacilityRow). is_within a b row.s_id) book.facilities (each-weaker {P = λ (row : SpecialFacilityRow). IsWithin lo hi row.s_id} (λ row within. before_test lo hi a b row.s_id before within) book.facilities rows.facilities))
    (filter_none (λ (row : CallForwardingRow). is_within a b row.s_id) book.forwardings (each-weaker {P = λ (row : CallForwardingRow). IsWithin lo hi row.s_id} (λ row within. before_test lo hi a b row.s_id before within) book.forwardings rows.forwardings))

-- the rows of a range in a join are those of the one book and those of the other
pub between_joined : (a b : ℕ) (low high : Book) → rows_between a b (join_books low high) ≡ join_books (rows_between a b low) (rows_between a b high)
between_joined a b low high = same_tables
    (filter-append (λ (row : SubscriberRow). is_within a b row.s_id) low.subscribers high.subscribers)
    (filter-append (λ (row : AccessInfoRow). is_within a b row.s_id) low.access high.access)
    (filter-append (λ (row : SpecialFacilityRow). is_within a b row.s_id) low.facilities high.facilities)
    (filter-append (λ (row : CallForwardingRow). is_within a b row.s_id) low.forwardings high.forwardings)

-- a book joined to the empty one
pub join_empty : (book : Book) → join_books book empty_book ≡ book
join_empty book = same_tables (append-nil book.subscribers) (append-nil book.access) (append-nil book.facilities) (append-nil book.forwardings)

-- so each of two books is the rows of its range in their join
pub low_between : (lo n hi : ℕ) (low high : Book) → IsRowsOf lo n low → IsRowsOf n hi high → rows_between lo n (join_books low high) ≡ low
low_between lo n hi low high of_low of_high =
    between_joined lo n low high
    ∙ ap (λ (book : Book). join_books book (rows_between lo n high)) (own_rows lo n low of_low)
    ∙ ap (λ (book : Book). join_books low book) (none_before n hi lo n high (omega arith) of_high)
    ∙ join_empty low

pub high_between : (lo n hi : ℕ) (low high : Book) → IsRowsOf lo n low → IsRowsOf n hi high → rows_between n hi (join_books low high) ≡ high
high_between lo n hi low high of_low of_high =
    between_joined n hi low high
    ∙ ap (λ (book : Book). join_books book (rows_between n hi high)) (none_past lo n n hi low (omega arith) of_low)
    ∙ own_rows n hi high of_high

-- and the halves of a book are the rows of the two ranges
pub low_is_between : (lo n hi : ℕ) (book : Book) → IsRowsOf lo hi book → rows_between lo n book ≡ cut_low n book
low_is_between lo n hi book rows =
    ap (λ (b : Book). rows_between lo n b) (sym (cut_joined n book rows.rules))
    ∙ low_between lo n hi (cut_low n book) (cut_high n book) (cut_low_rows lo n hi book rows) (cut_high_rows lo n hi book rows)

pub high_is_between : (lo n hi : ℕ) (book : Book) → IsRowsOf lo hi book → rows_between n hi book ≡ cut_high n book
high_is_between lo n hi book rows =
    ap (λ (b : Book). rows_between n hi b) (sym (cut_joined n book rows.rules))
    ∙ high_between lo n hi (cut_low n book) (cut_high n book) (cut_low_rows lo n hi book rows) (cut_high_rows lo n hi book rows)
