-- Rows that no action reads: those of a part are those of all, and the first from a subscriber on.
use Rattle.hlr_owners.proofs.Common.{◌≡◌, ◌∙◌, refl, sym, ap, ℕ, zero, suc, ◌<◌, ◌≤◌, ◌==◌, arith, drop, get_or, length, List, [], ◌∷◌, ◌++◌, Bool, true, false, Some, None, Err, nat_le, position, ok_or, AllByRecursion, filter, nat_tests, position-Some, by_test, each-weaker, facility_type, forwarding_type, forwarding_ranges, key_of, facility_key, forwarding_key, subscriber_key, row_at, SubscriberRow, SpecialFacilityRow, CallForwardingRow, facility_in_range, forwarding_in_range, subscriber_in_range, Refusal, Book, IsBook, IsWithin, facility_at, first_subscriber, forwarding_at, is_within, rows_between, subscriber_at, lies_in, Region, blank, is_loose, HasRowsOf, row_answer, PartOwnerState, AreOwners, OwnersState, book_in, state_of, store_in, Store, RegionOwner, Part, Option}
use Rattle.tatp_rows.specs.declared.refusal.Refusal.TheVariants as refusal
use Rattle.hlr_owners.proofs.StateLemmas.{lies_within}
use Rattle.hlr_owners.proofs.RegionOwnerLemmas.{part_not_loose, read_answer, owner_in, ruled_rows}

-- a row stands at a key among those that pass a test as it does among all, where each row at the key passes
kept_at : {X : Type 0} (key : X → ℕ) (test : X → Bool) (k : ℕ) (rows : List X) → AllByRecursion (λ row. key row ≡ k → test row ≡ true) rows → row_at key k (filter test rows) ≡ row_at key k rows
kept_at key test k [] passes = refl
kept_at key test k (row ∷ rows) passes =
    by_test (key row == k)
    (λ at. let same : key row ≡ k = grind (arith, nat_tests) in let kept = passes.0 same in rw (kept, at) refl)
    (λ off. by_test (test row) (λ kept. rw (kept, off) (kept_at key test k rows passes.1)) (λ gone. rw (gone, off) (kept_at key test k rows passes.1)))

module _ (lo hi s_id : ℕ) (book : Book) (rules : IsBook book) (within : IsWithin lo hi s_id) where
  -- the s_id of a range is within it
  inside : is_within lo hi s_id ≡ true
  inside = let from = within.0 in let to = within.1 in grind (arith, nat_tests)

  -- the facility of a subscriber of a range is among the rows of the range
  pub facility_between : (t : ℕ) → t < 256 → facility_at (rows_between lo hi book) s_id t ≡ facility_at book s_id t
  facility_between t low =
      kept_at facility_key (λ (row : SpecialFacilityRow). is_within lo hi row.s_id) (key_of s_id t 0) book.facilities
      (each-weaker {P = λ (row : SpecialFacilityRow). facility_in_range row ≡ true} {Q = λ (row : SpecialFacilityRow). facility_key row ≡ key_of s_id t 0 → is_within lo hi row.s_id ≡ true}
      (λ row holds at. let kind = (facility_type row holds).below in let same : row.s_id ≡ s_id = omega arith in rw same inside) book.facilities rules.facilities_in_range)

  -- so is the forwarding
  pub forwarding_between : (t u : ℕ) → t < 256 → u < 256 → forwarding_at (rows_between lo hi book) s_id t u ≡ forwarding_at book s_id t u
  forwarding_between t u low small =
      kept_at forwarding_key (λ (row : CallForwardingRow). is_within lo hi row.s_id) (key_of s_id t u) book.forwardings
      (each-weaker {P = λ (row : CallForwardingRow). forwarding_in_range row ≡ true} {Q = λ (row : CallForwardingRow). forwarding_key row ≡ key_of s_id t u → is_within lo hi row.s_id ≡ true}
      (λ row holds at.
      let kind = (forwarding_type row holds).below in
      let start = (forwarding_ranges row holds).start_time_below in
      let same : row.s_id ≡ s_id = omega arith in rw same inside) book.forwardings rules.forwardings_in_range)

  -- and the subscriber's own row
  pub subscriber_between : subscriber_at (rows_between lo hi book) s_id ≡ subscriber_at book s_id
  subscriber_between =
      kept_at subscriber_key (λ (row : SubscriberRow). is_within lo hi row.s_id) (key_of s_id 0 0) book.subscribers
      (each-weaker {P = λ (row : SubscriberRow). subscriber_in_range row ≡ true} {Q = λ (row : SubscriberRow). subscriber_key row ≡ key_of s_id 0 0 → is_within lo hi row.s_id ≡ true}
      (λ row holds at. let same : row.s_id ≡ s_id = omega arith in rw same inside) book.subscribers rules.subscribers_in_range)

-- the part that has a subscriber has what all rows have of them
module _ (h : OwnersState) (are : AreOwners h) (s_id i : ℕ) (at : position (lies_in s_id) h.regions ≡ Some i) (l : PartOwnerState) (is : Part l ≡ get_or h.owners i (Part l)) where
  abbrev region : Region
  region = get_or h.regions i blank

  here : (i < length h.regions) × (lies_in s_id region ≡ true) × ((k : ℕ) → k < i → lies_in s_id (get_or h.regions k blank) ≡ false)
  here = position-Some (lies_in s_id) h.regions i blank at

  own : rows_between region.lo region.hi (book_in h.owners) ≡ l.holding.part.book
  own = (owner_in h are i (Part l) is here.0).state.has

  pub part_rows : HasRowsOf s_id (store_in h) l.holding
  part_rows = record {
    home = part_not_loose h are s_id i at l is;
    answers = read_answer h are s_id i at l is;
    facility = λ t low. sym (facility_between region.lo region.hi s_id (book_in h.owners) (ruled_rows h are).rules (lies_within s_id region here.1) t low)
        ∙ ap (λ (book : Book). facility_at book s_id t) own;
    forwarding = λ t u low small. sym (forwarding_between region.lo region.hi s_id (book_in h.owners) (ruled_rows h are).rules (lies_within s_id region here.1) t u low small)
        ∙ ap (λ (book : Book). forwarding_at book s_id t u) own;
  }

  pub part_subscriber : subscriber_at (book_in h.owners) s_id ≡ subscriber_at l.holding.part.book s_id
  part_subscriber = sym (subscriber_between region.lo region.hi s_id (book_in h.owners) (ruled_rows h are).rules (lies_within s_id region here.1)) ∙ ap (λ (book : Book). subscriber_at book s_id) own

-- what a part's rows have is what is answered of all, and a loose piece answers Moving
pub row_found : {R : Type 0} (s_id : ℕ) (store : Store) (found own o : Option R) (none : Refusal) → is_loose s_id store.regions ≡ false → found ≡ own → o ≡ own → ok_or o none ≡ row_answer s_id store found none
row_found s_id store found own o none home has is = rw (home, has, ← is) refl

pub row_loose : {R : Type 0} (s_id : ℕ) (store : Store) (found : Option R) (none why : Refusal) → is_loose s_id store.regions ≡ true → why ≡ refusal.Moving → Err why ≡ row_answer s_id store found none
row_loose s_id store found none why loose is = rw (loose, is) refl

-- where the first rows have none from a subscriber on, the first is that of the rest
pub first_behind : (s_id : ℕ) (rows others : List SubscriberRow) → None ≡ first_subscriber s_id rows → first_subscriber s_id (rows ++ others) ≡ first_subscriber s_id others
first_behind s_id [] others none = refl
first_behind s_id (row ∷ rows) others none =
    by_test (nat_le s_id row.s_id) (λ e. let some : None ≡ Some row = rw e at none in absurd cc) (λ e. rw e (first_behind s_id rows others (rw e at none)))

-- where they have one, it is that
pub first_here : (s_id : ℕ) (rows others : List SubscriberRow) (row : SubscriberRow) → Some row ≡ first_subscriber s_id rows → Some row ≡ first_subscriber s_id (rows ++ others)
first_here s_id [] others row some = absurd cc
first_here s_id (one ∷ rows) others row some = by_test (nat_le s_id one.s_id) (λ e. rw e (rw e at some)) (λ e. rw e (first_here s_id rows others row (rw e at some)))

-- the rows from an owner on
abbrev pub rows_from : ℕ → List RegionOwner → List SubscriberRow
rows_from k owners = (book_in (drop k owners)).subscribers

-- one owner, and those behind it
pub rows_next : (k : ℕ) (owners : List RegionOwner) (owner : RegionOwner) → k < length owners → owner ≡ get_or owners k owner → rows_from k owners ≡ (state_of owner).part.book.subscribers ++ rows_from (suc k) owners
rows_next k [] owner low is = absurd (omega arith)
rows_next zero (one ∷ owners) owner low is = rw is refl
rows_next (suc k) (one ∷ owners) owner low is = rows_next k owners owner (omega arith) is

pub rows_past : (k : ℕ) (owners : List RegionOwner) → length owners ≤ k → rows_from k owners ≡ []
rows_past zero (one ∷ owners) past = absurd (omega arith)
rows_past (suc k) (one ∷ owners) past = rows_past k owners (omega arith)
rows_past k owners past = refl
