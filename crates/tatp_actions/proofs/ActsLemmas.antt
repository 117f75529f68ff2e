-- What each action does to a part, from what its calls by keys do.
use Rattle.tatp_actions.proofs.Common.{◌≡◌, refl, sym, ap, ℕ, ◌+◌, ◌<◌, ◌≤◌, arith, rules, Bool, true, false, List, [], Option, Some, None, Result, Ok, Err, IsErr, IsErrAnd, nat_le, inl, inr, if◌then◌else◌, ℤ, is_some, nat_tests, ints, each_found, both_from, subscriber_ranges, key_of, subscriber_key, SubscriberRow, is_between, subscriber_in_range, area_of, LAST_SUBSCRIBER, Refusal, IsOutcome, effect, is_in_range, is_typed, adds_row, Book, IsBook, IsWithin, subscriber_at, IsChange, Heights, PartState, IsPart, Acts, once_more, Action, RowReply}
use Rattle.tatp_rows.specs.declared.refusal.Refusal.TheVariants as refusal
use Rattle.tatp_actions.specs.declared.action.RowReply.TheVariants as reply

-- no notes change nothing
pub no_change : (width : ℕ) (book : Book) → IsChange width book book []
no_change width book c within = omega (arith, ints)

-- no refusal is Done
not_done : {A : Type 0} (why : Refusal) → reply.Done ≡ reply.Refused why → A
not_done why is = absurd cc

-- a refusal leaves the part, but for how often it was asked; how high its trees are isn't said
acts_so : (action : Action) (before : PartState) (why : Refusal) (asked : ℕ) {h : Heights}
    → IsOutcome action before.book (reply.Refused why) before.book
    → asked ≤ before.asked + 8
    → Acts action before (reply.Refused why) [] (record before { asked = asked; heights = h })
acts_so action before why asked outcome few = record {
  outcome = outcome;
  change = no_change before.width before.book;
  refused = λ other is. (refl, refl);
  range = (refl, refl, refl);
  steps = refl;
  asked = few;
}

-- a refusal by the effect, or for want of memory
pub acts_refused : (action : Action) (before after : PartState) (why : Refusal) (asked : ℕ) {h : Heights}
    → after ≡ record before { asked = asked; heights = h }
    → asked ≤ before.asked + 8 → IsOutcome action before.book (reply.Refused why) before.book
    → Acts action before (reply.Refused why) [] after
acts_refused action before after why asked is few outcome = rw is (acts_so action before why asked outcome few)

pub by_effect : (action : Action) (book after : Book) (answer : RowReply) → is_in_range action ≡ true → effect action book ≡ (answer, after) → IsOutcome action book answer after
by_effect action book after answer in_range is = inr (inl (in_range, sym is))

-- an action that is done
pub acts_done : (action : Action) (before after : PartState) (notes : List (ℕ × ℤ)) (book : Book) (asked : ℕ)
    {h : Heights}
    → after ≡ record before { book = book; asked = asked; heights = h } → asked ≤ before.asked + 8
    → is_in_range action ≡ true → effect action before.book ≡ (reply.Done, book)
    → IsChange before.width before.book book notes
    → Acts action before reply.Done notes after
acts_done action before after notes book asked is few in_range done changed = rw is (record {
  outcome = by_effect action before.book book reply.Done in_range done;
  change = changed;
  refused = λ why no. not_done why no;
  range = (refl, refl, refl);
  steps = refl;
  asked = few;
})

-- an action that reads
pub acts_read : (action : Action) (before after : PartState) (answer : RowReply) (asked : ℕ) → after ≡ record before { asked = asked } → asked ≤ before.asked + 8
    → is_in_range action ≡ true → effect action before.book ≡ (answer, before.book) → Acts action before answer [] after
acts_read action before after answer asked is few in_range done = rw is (record {
  outcome = by_effect action before.book before.book answer in_range done;
  change = no_change before.width before.book;
  refused = λ why no. (refl, refl);
  range = (refl, refl, refl);
  steps = refl;
  asked = few;
})

-- an addition that is refused: a row with the key is there, or memory was wanted
pub addition_refused : (action : Action) (book done : Book) (there : Bool) (why : Refusal) → is_in_range action ≡ true → adds_row action ≡ true
    → (there ≡ true → effect action book ≡ (reply.Refused refusal.Exists, book)) → (there ≡ false → effect action book ≡ (reply.Done, done))
    → why ≡ (if there then refusal.Exists else refusal.Memory) → IsOutcome action book (reply.Refused why) book
addition_refused action book done true why in_range adds taken free is = rw is (by_effect action book book (reply.Refused refusal.Exists) in_range (taken refl))
addition_refused action book done false why in_range adds taken free is = rw is (inr (inr (in_range, adds, ap (λ (p : RowReply × Book). p.0) (free refl), refl, refl)))

-- the questions of some calls
pub one_more : (n m : ℕ) → m ≤ n → once_more m ≤ n + 1
one_more n m small = omega arith

pub few_1 : (n : ℕ) → once_more n ≤ n + 8
few_1 n = omega arith

pub few_2 : (n : ℕ) → once_more (once_more n) ≤ n + 8
few_2 n = let one = one_more n n (omega arith) in let two = one_more (n + 1) (once_more n) one in omega arith

pub few_3 : (n m : ℕ) → m ≤ n + 2 → once_more (once_more (once_more m)) ≤ n + 8
few_3 n m few =
    let one = one_more (n + 2) m few in
    let two = one_more (n + 2 + 1) (once_more m) one in
    let three = one_more (n + 2 + 1 + 1) (once_more (once_more m)) two in omega arith

-- the subscribers of a part's range are subscribers
pub is_subscriber : (part : PartState) (s : ℕ) → IsPart part → IsWithin part.lo part.hi s → is_between 1 LAST_SUBSCRIBER s ≡ true
is_subscriber part s rules within =
    let range = rules.range in
    let from : nat_le 1 s ≡ true = grind (arith, nat_tests) in
    let to : nat_le s LAST_SUBSCRIBER ≡ true = grind (arith, nat_tests) in
    rw (from, to) refl

-- and with a type in range
pub is_typed_from : (part : PartState) (s t : ℕ) → IsPart part → IsWithin part.lo part.hi s → is_between 1 4 t ≡ true → is_typed s t ≡ true
is_typed_from part s t rules within kind = both_from (is_between 1 LAST_SUBSCRIBER s) (is_between 1 4 t) (is_subscriber part s rules within) kind

-- an option that is not some is none
pub none_from : {X : Type 0} (o : Option X) → is_some o ≡ false → o ≡ None
none_from None is = refl
none_from (Some x) is = absurd cc

-- an option that is some has a value
pub some_from : {X : Type 0} (o : Option X) → is_some o ≡ true → (x : X) × (Some x ≡ o)
some_from None is = absurd cc
some_from (Some x) is = (x, refl)

-- the area of a location
pub area_below : (v : ℕ) → v < 4294967296 → area_of v < 16
area_below v few = omega arith

-- the area of a subscriber that is found
pub area_found : (book : Book) (s : ℕ) (row : SubscriberRow) → IsBook book → subscriber_at book s ≡ Some row → area_of row.vlr_location < 16
area_found book s row rules found =
    let in_range = each_found subscriber_key (λ (r : SubscriberRow). subscriber_in_range r ≡ true) (key_of s 0 0) book.subscribers row rules.subscribers_in_range found in
    area_below row.vlr_location (subscriber_ranges row in_range).vlr_location_below

-- a result that hands a refusal on
pub handed_on : {A : Type 0} (r : Result A Refusal) (why : Refusal) → IsErr r × IsErrAnd r (λ e. e ≡ why) → r ≡ Err why
handed_on (Ok done) why is = let wrong : ⊥ = cc in absurd wrong
handed_on (Err e) why is = ap Err is.1
