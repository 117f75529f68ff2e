-- The lines of a snapshot make the rows of its book anew: each row finds what it needs among those before it.
use Rattle.std.proofs.Common.{◌≡◌, ◌≢◌, ◌∙◌, refl, sym, ap, subst, ℕ, ◌<◌, ◌==◌, true, false, List, [], ◌∷◌, ◌++◌, append_assoc, arith, Option, Some, None}
use Rattle.std.proofs.lemmas.List.{append-nil, map-append}
use Rattle.std.specs.List.{AllByRecursion}
use Rattle.std.specs.Prelude.{◌&&◌, IsSome, map}
use Rattle.tatp_rows.proofs.AppendLemmas.{each-right}
use Rattle.tatp_rows.proofs.Common.{nat_tests}
use Rattle.tatp_rows.proofs.OrderedLemmas.{absent_above, each_found, key_found}
use Rattle.tatp_rows.proofs.RowLemmas.{both, both_from, facility_type, forwarding_type, number_test, subscriber_ranges}
use Rattle.tatp_rows.proofs.SpanLemmas.{ordered_front, with_row-skip}
use Rattle.tatp_rows.specs.Keys.{key_of, subscriber_key, access_key, facility_key, forwarding_key}
use Rattle.tatp_rows.specs.Number.{is_number}
use Rattle.tatp_rows.specs.Ordered.{IsOrderedBy, row_at, with_row}
use Rattle.tatp_rows.specs.Rows.{SubscriberRow, AccessInfoRow, SpecialFacilityRow, CallForwardingRow, is_between, is_start_time, subscriber_in_range, access_in_range, facility_in_range, forwarding_in_range}
use Rattle.tatp_rows.specs.declared.ranges.TheConstants.{LAST_SUBSCRIBER}
use Rattle.tatp_actions.specs.Book.{Book, IsBook, subscriber_at, access_at, facility_at, forwarding_at, more_subscribers, more_access, more_facilities, more_forwardings}
use Rattle.journal.specs.Lines.{IsWhole, lines, recovered, text}
use Rattle.journal.specs.Tape.{IsOpen}
use Rattle.journal.specs.declared.tape.Tape.{Tape}
use Rattle.edit_lines.specs.Lines.{first_line, has_line, line_of}
use Rattle.edit_lines.proofs.KindLemmas.{line_again}
use Rattle.hlr_core.proofs.NumbersLemmas.{bearer_found}
use Rattle.hlr_core.specs.Numbers.{HasNoTwin, bearer_of}
use Rattle.hlr_core.specs.Step.{has_forwarding_key}
use Rattle.hlr_core.specs.declared.event.Event.{Event}
use Rattle.hlr_core.specs.declared.event.Event.TheVariants.{AddSubscriber, AddAccess, AddFacility, InsertForwarding}
use Rattle.hlr_owners.specs.Store.{Store}
use Rattle.hlr_kept.specs.Runs.{IsBegun, IsOnDisk}
use Rattle.hlr_kept.specs.Rows.{book_after_event, book_after_line, book_after_lines, book_after_read, book_of_lines}
use Rattle.hlr_kept.specs.Snapshot.{insertion, lines_of_book, number_of}
use Rattle.hlr_kept.proofs.RunLemmas.{behind_begun}

-- the line of an event that is done
line_done : (event : Event) (book : Book) (after : Option Book) → has_line event ≡ true → book_after_event event book ≡ after
    → book_after_line (line_of event) (Some book) ≡ after
line_done event book after line done = ap (λ read. book_after_read read book) (line_again event line) ∙ done

-- events whose rows a book gets, one after another
module _ {X : Type 0} (event : X → Event) (book : List X → Book) (whole : List X) where
  -- the next row of the whole list is made behind those before it
  abbrev pub AreMade : Type 0
  AreMade = (done : List X) (row : X) (rest : List X) → whole ≡ done ++ row ∷ rest
      → book_after_line (line_of (event row)) (Some (book done)) ≡ Some (book (done ++ row ∷ []))

  rows_made : AreMade → (done rest : List X) → whole ≡ done ++ rest
      → book_after_lines (map line_of (map event rest)) (Some (book done)) ≡ Some (book whole)
  rows_made made done [] split = ap (λ (rows : List X). Some (book rows)) (sym (split ∙ append-nil done))
  rows_made made done (row ∷ rest) split =
      ap (book_after_lines (map line_of (map event rest))) (made done row rest split)
      ∙ rows_made made (done ++ row ∷ []) rest (split ∙ sym (append_assoc done (row ∷ []) rest))

-- the row that comes next among ordered ones
module _ {X : Type 0} (whole done : List X) (row : X) (rest : List X) (split : whole ≡ done ++ row ∷ rest) where
  next_has : (P : X → Type 0) → AllByRecursion P whole → P row
  next_has P each = (each-right P done (row ∷ rest) (subst (AllByRecursion P) split each)).0

  module _ (key : X → ℕ) (ordered : IsOrderedBy key whole) where
    lower : AllByRecursion (λ x. key x < key row) done
    lower = ordered_front key done row rest (subst (IsOrderedBy key) split ordered)

    next_absent : row_at key (key row) done ≡ None
    next_absent = absent_above key (key row) done lower

    next_last : with_row key row done ≡ done ++ row ∷ []
    next_last = ap (with_row key row) (sym (append-nil done)) ∙ with_row-skip key row done [] lower

-- a number that comes once isn't among those before it
no_bearer : (done : List SubscriberRow) (row : SubscriberRow) (rest : List SubscriberRow) → HasNoTwin (done ++ row ∷ rest)
    → bearer_of done row.sub_nbr ≡ None
no_bearer [] row rest single = refl
no_bearer (x ∷ done) row rest single =
    let differ : x.sub_nbr ≢ row.sub_nbr = (each-right (λ (other : SubscriberRow). x.sub_nbr ≢ other.sub_nbr) done (row ∷ rest) single.0).0 in
    let test : (x.sub_nbr == row.sub_nbr) ≡ false = grind (arith, nat_tests) in
    rw test (no_bearer done row rest single.1)

-- what is there
found : {X : Type 0} (o : Option X) → IsSome o → (x : X) × (o ≡ Some x)
found None some = absurd cc
found (Some x) some = (x, refl)

-- a row that is added
added_subscriber : (book : Book) (row : SubscriberRow) → bearer_of book.subscribers row.sub_nbr ≡ None → subscriber_at book row.s_id ≡ None
    → book_after_event (AddSubscriber row) book ≡ Some (more_subscribers book row)
added_subscriber book row free none = rw (free, none) refl

added_access : (book : Book) (row : AccessInfoRow) (subscriber : SubscriberRow) → subscriber_at book row.s_id ≡ Some subscriber
    → access_at book row.s_id row.ai_type ≡ None → book_after_event (AddAccess row) book ≡ Some (more_access book row)
added_access book row subscriber there none = rw (there, none) refl

added_facility : (book : Book) (row : SpecialFacilityRow) (subscriber : SubscriberRow) → subscriber_at book row.s_id ≡ Some subscriber
    → facility_at book row.s_id row.sf_type ≡ None → book_after_event (AddFacility row) book ≡ Some (more_facilities book row)
added_facility book row subscriber there none = rw (there, none) refl

-- a forwarding that is inserted by the number of its subscriber
inserted : (book : Book) (n : ℕ) (row : CallForwardingRow) (subscriber : SubscriberRow) (facility : SpecialFacilityRow)
    → (has_forwarding_key row.sf_type row.start_time && is_between 1 24 row.end_time) ≡ true
    → bearer_of book.subscribers n ≡ Some subscriber → subscriber.s_id ≡ row.s_id
    → facility_at book row.s_id row.sf_type ≡ Some facility → forwarding_at book row.s_id row.sf_type row.start_time ≡ None
    → book_after_event (InsertForwarding n row.sf_type row.start_time row.end_time row.numberx) book ≡ Some (more_forwardings book row)
inserted book n row subscriber facility fits bearer same there none = rw (fits, bearer, same, there, none) refl

-- the plain numbers of a forwarding that is in range
pub forwarding_fits : (row : CallForwardingRow) → forwarding_in_range row ≡ true
    → ((has_forwarding_key row.sf_type row.start_time && is_between 1 24 row.end_time) ≡ true) × (is_number row.numberx ≡ true)
forwarding_fits row holds =
    let behind_id = both (is_between 1 LAST_SUBSCRIBER row.s_id) (is_between 1 4 row.sf_type && (is_start_time row.start_time && (is_between 1 24 row.end_time && is_number row.numberx))) holds in
    let behind_type = both (is_between 1 4 row.sf_type) (is_start_time row.start_time && (is_between 1 24 row.end_time && is_number row.numberx)) behind_id.1 in
    let behind_start = both (is_start_time row.start_time) (is_between 1 24 row.end_time && is_number row.numberx) behind_type.1 in
    let behind_end = both (is_between 1 24 row.end_time) (is_number row.numberx) behind_start.1 in (
      both_from (has_forwarding_key row.sf_type row.start_time) (is_between 1 24 row.end_time) (both_from (is_between 1 4 row.sf_type) (is_start_time row.start_time) behind_type.0 behind_start.0) behind_end.0,
      behind_end.1,
    )

pub number_fits : (row : SubscriberRow) → subscriber_in_range row ≡ true → is_number row.sub_nbr ≡ true
number_fits row holds = number_test row.sub_nbr (subscriber_ranges row holds).sub_nbr_below

-- the number of a subscriber who is there
number_there : (rows : List SubscriberRow) (s : ℕ) (subscriber : SubscriberRow) → row_at subscriber_key (key_of s 0 0) rows ≡ Some subscriber
    → number_of rows s ≡ subscriber.sub_nbr
number_there rows s subscriber there = rw there refl

-- the subscriber of a facility that a forwarding has
pub facility_bearer : (book : Book) → IsBook book → (row : CallForwardingRow) → forwarding_in_range row ≡ true
    → IsSome (facility_at book row.s_id row.sf_type) → IsSome (subscriber_at book row.s_id)
facility_bearer book rules row holds some =
    let there = found (facility_at book row.s_id row.sf_type) some in
    let k = key_of row.s_id row.sf_type 0 in
    let facility = there.0 in
    let in_range = each_found facility_key (λ f. facility_in_range f ≡ true) k book.facilities facility rules.facilities_in_range there.1 in
    let has = each_found facility_key (λ f. IsSome (subscriber_at book f.s_id)) k book.facilities facility rules.facilities_have_subscriber there.1 in
    let key : facility_key facility ≡ k = key_found facility_key k book.facilities facility there.1 in
    let type_below = (facility_type facility in_range).below in
    let own_below = (forwarding_type row holds).below in
    let same : facility.s_id ≡ row.s_id = omega (arith, key, type_below, own_below) in
    subst (λ (s : ℕ). IsSome (subscriber_at book s)) same has

-- the lines of a snapshot, table behind table
pub by_tables : (book : Book)
    → lines_of_book book ≡ ((((first_line ∷ []) ++ map line_of (map AddSubscriber book.subscribers)) ++ map line_of (map AddAccess book.access))
    ++ map line_of (map AddFacility book.facilities)) ++ map line_of (map (insertion book.subscribers) book.forwardings)
by_tables book =
    let a = map AddSubscriber book.subscribers in
    let b = map AddAccess book.access in
    let c = map AddFacility book.facilities in
    let d = map (insertion book.subscribers) book.forwardings in
    ap (λ (l : List (List ℕ)). first_line ∷ l)
    (map-append line_of a (b ++ (c ++ d))
    ∙ ap (λ (l : List (List ℕ)). map line_of a ++ l) (map-append line_of b (c ++ d) ∙ ap (λ (l : List (List ℕ)). map line_of b ++ l) (map-append line_of c d))
    ∙ sym (append_assoc (map line_of a) (map line_of b) (map line_of c ++ map line_of d))
    ∙ sym (append_assoc (map line_of a ++ map line_of b) (map line_of c) (map line_of d)))

module _ (book : Book) (rules : IsBook book) (single : HasNoTwin book.subscribers) where
  -- the book with some of its rows, table by table
  abbrev with_subscribers : List SubscriberRow → Book
  with_subscribers done = record { subscribers = done; access = []; facilities = []; forwardings = [] }

  abbrev with_access : List AccessInfoRow → Book
  with_access done = record { subscribers = book.subscribers; access = done; facilities = []; forwardings = [] }

  abbrev with_facilities : List SpecialFacilityRow → Book
  with_facilities done = record { subscribers = book.subscribers; access = book.access; facilities = done; forwardings = [] }

  abbrev with_forwardings : List CallForwardingRow → Book
  with_forwardings done = record book { forwardings = done }

  subscribers_made : AreMade AddSubscriber with_subscribers book.subscribers
  subscribers_made done row rest split =
      let in_range = next_has book.subscribers done row rest split (λ r. subscriber_in_range r ≡ true) rules.subscribers_in_range in
      let none = next_absent book.subscribers done row rest split subscriber_key rules.subscribers_ordered in
      let last = next_last book.subscribers done row rest split subscriber_key rules.subscribers_ordered in
      line_done (AddSubscriber row) (with_subscribers done) (Some (with_subscribers (done ++ row ∷ []))) in_range
      (added_subscriber (with_subscribers done) row (no_bearer done row rest (subst HasNoTwin split single)) none
      ∙ ap (λ (rows : List SubscriberRow). Some (with_subscribers rows)) last)

  access_made : AreMade AddAccess with_access book.access
  access_made done row rest split =
      let in_range = next_has book.access done row rest split (λ r. access_in_range r ≡ true) rules.access_in_range in
      let there = found (subscriber_at book row.s_id) (next_has book.access done row rest split (λ r. IsSome (subscriber_at book r.s_id)) rules.access_have_subscriber) in
      let none = next_absent book.access done row rest split access_key rules.access_ordered in
      let last = next_last book.access done row rest split access_key rules.access_ordered in
      line_done (AddAccess row) (with_access done) (Some (with_access (done ++ row ∷ []))) in_range
      (added_access (with_access done) row there.0 there.1 none ∙ ap (λ (rows : List AccessInfoRow). Some (with_access rows)) last)

  facilities_made : AreMade AddFacility with_facilities book.facilities
  facilities_made done row rest split =
      let in_range = next_has book.facilities done row rest split (λ r. facility_in_range r ≡ true) rules.facilities_in_range in
      let there = found (subscriber_at book row.s_id) (next_has book.facilities done row rest split (λ r. IsSome (subscriber_at book r.s_id)) rules.facilities_have_subscriber) in
      let none = next_absent book.facilities done row rest split facility_key rules.facilities_ordered in
      let last = next_last book.facilities done row rest split facility_key rules.facilities_ordered in
      line_done (AddFacility row) (with_facilities done) (Some (with_facilities (done ++ row ∷ []))) in_range
      (added_facility (with_facilities done) row there.0 there.1 none ∙ ap (λ (rows : List SpecialFacilityRow). Some (with_facilities rows)) last)

  forwardings_made : AreMade (insertion book.subscribers) with_forwardings book.forwardings
  forwardings_made done row rest split =
      let in_range = next_has book.forwardings done row rest split (λ r. forwarding_in_range r ≡ true) rules.forwardings_in_range in
      let fits = forwarding_fits row in_range in
      let some = next_has book.forwardings done row rest split (λ r. IsSome (facility_at book r.s_id r.sf_type)) rules.forwardings_have_facility in
      let facility = found (facility_at book row.s_id row.sf_type) some in
      let there = found (subscriber_at book row.s_id) (facility_bearer book rules row in_range some) in
      let subscriber = there.0 in
      let key : subscriber_key subscriber ≡ key_of row.s_id 0 0 = key_found subscriber_key (key_of row.s_id 0 0) book.subscribers subscriber there.1 in
      let same : subscriber.s_id ≡ row.s_id = omega (arith, key) in
      let number = number_there book.subscribers row.s_id subscriber there.1 in
      let is_one = number_fits subscriber (each_found subscriber_key (λ r. subscriber_in_range r ≡ true) (key_of row.s_id 0 0) book.subscribers subscriber rules.subscribers_in_range there.1) in
      let bearer = bearer_found (key_of row.s_id 0 0) subscriber book.subscribers single there.1 in
      let none = next_absent book.forwardings done row rest split forwarding_key rules.forwardings_ordered in
      let last = next_last book.forwardings done row rest split forwarding_key rules.forwardings_ordered in
      let event = InsertForwarding subscriber.sub_nbr row.sf_type row.start_time row.end_time row.numberx in
      ap (λ (n : ℕ). book_after_line (line_of (InsertForwarding n row.sf_type row.start_time row.end_time row.numberx)) (Some (with_forwardings done))) number
      ∙ line_done event (with_forwardings done) (Some (with_forwardings (done ++ row ∷ []))) (both_from (has_forwarding_key row.sf_type row.start_time && is_between 1 24 row.end_time) (is_number subscriber.sub_nbr && is_number row.numberx) fits.0 (both_from (is_number subscriber.sub_nbr) (is_number row.numberx) is_one fits.1))
      (inserted (with_forwardings done) subscriber.sub_nbr row subscriber facility.0 fits.0 bearer same facility.1 none
      ∙ ap (λ (rows : List CallForwardingRow). Some (with_forwardings rows)) last)

  pub stands_for_book : book_of_lines (lines_of_book book) ≡ Some book
  stands_for_book =
      let a = map line_of (map AddSubscriber book.subscribers) in
      let b = map line_of (map AddAccess book.access) in
      let c = map line_of (map AddFacility book.facilities) in
      let d = map line_of (map (insertion book.subscribers) book.forwardings) in
      ap book_of_lines (by_tables book)
      ∙ behind_begun (((first_line ∷ a) ++ b) ++ c) d tt
      ∙ ap (book_after_lines d)
      (behind_begun ((first_line ∷ a) ++ b) c tt
      ∙ ap (book_after_lines c)
      (behind_begun (first_line ∷ a) b tt
      ∙ ap (book_after_lines b) (rows_made AddSubscriber with_subscribers book.subscribers subscribers_made [] book.subscribers refl)
      ∙ rows_made AddAccess with_access book.access access_made [] book.access refl)
      ∙ rows_made AddFacility with_facilities book.facilities facilities_made [] book.facilities refl)
      ∙ rows_made (insertion book.subscribers) with_forwardings book.forwardings forwardings_made [] book.forwardings refl

-- what was written by tables and synced stands for the rows of the book
module _ {D : Type 0} (seen : D → List ℕ) (may_leave : D → List ℕ → Type 0) (stored : Store) (rules : IsBook stored.book) (single : HasNoTwin stored.book.subscribers) where
  pub snapshot_stored : (written : List (List ℕ)) (before tape : Tape D) → written ≡ lines_of_book stored.book → IsWhole (text (seen before.device)) → recovered (seen before.device) ≡ written
      → IsOpen seen may_leave tape → tape.synced ≡ tape.end → text (seen tape.device) ≡ text (seen before.device) → IsOnDisk seen may_leave stored tape
  snapshot_stored written before tape are whole has opened synced same =
      let now : recovered (seen tape.device) ≡ lines_of_book stored.book = ap lines same ∙ has ∙ are in
      record {
        open_tape = opened;
        synced = synced;
        whole = subst IsWhole (sym same) whole;
        begun = subst IsBegun (sym now) tt;
        rows = ap book_of_lines now ∙ stands_for_book stored.book rules single;
      }
