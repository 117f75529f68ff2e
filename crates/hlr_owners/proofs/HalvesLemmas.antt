-- The rows of a stretch of subscribers in a book. A part cut in two, and two parts joined: their rules, and their rows.
use Rattle.hlr_owners.proofs.Common.{◌≡◌, ◌∙◌, refl, sym, ap, ℕ, ◌≤◌, arith, List, [], ◌∷◌, Bool, true, false, nat_le, filter, AllByRecursion, nat_tests, by_test, filter_none, SubscriberRow, AccessInfoRow, SpecialFacilityRow, CallForwardingRow, Book, IsRowsOf, is_within, rows_between, empty_book, join_books, cut_low, cut_high, low_is_between, high_is_between, same_tables, cut_joined, cut_low_rows, cut_high_rows, inl, inr, ◌≢◌, ◌+◌, Touch, PartState, IsPart, low_between, high_between, both_ranges, low_half, high_half, part_half, piece_half, joint_region, touching, Place, Region, Side, Low, High, END, DeskState, HoldingState, PieceState, IsHolding, IsPiece, IsInside, IsGiven, IsTaken, IsHoldingDivided, IsMerged, as_piece, OwnerState, of_holding, of_piece, IsLawful, IsOwnerState, nat_lt, Some, ◌==◌}
use Rattle.part_table.specs.declared.region.Place.TheVariants as place
use Rattle.hlr_owners.proofs.HeldLemmas.{holding_keeps, piece_keeps}

-- a filter behind a weaker one
filter_twice : {X : Type 0} (p q : X → Bool) → ((x : X) → p x ≡ true → q x ≡ true) → (xs : List X) → filter p (filter q xs) ≡ filter p xs
filter_twice p q weaker [] = refl
filter_twice p q weaker (x ∷ xs) =
    by_test (p x)
    (λ e. let f : q x ≡ true = weaker x e in rw (f, e) (ap (λ rest. x ∷ rest) (filter_twice p q weaker xs)))
    (λ e. by_test (q x) (λ f. rw (f, e) (filter_twice p q weaker xs)) (λ f. rw (f, e) (filter_twice p q weaker xs)))

-- a subscriber of a narrower stretch
narrower : (lo a b hi s_id : ℕ) → lo ≤ a → b ≤ hi → is_within a b s_id ≡ true → is_within lo hi s_id ≡ true
narrower lo a b hi s_id from to within = grind (arith, nat_tests)

-- the rows of a stretch inside another one
pub between_inside : (lo a b hi : ℕ) (book : Book) → lo ≤ a → b ≤ hi → rows_between a b (rows_between lo hi book) ≡ rows_between a b book
between_inside lo a b hi book from to = same_tables
    (filter_twice (λ (row : SubscriberRow). is_within a b row.s_id) (λ (row : SubscriberRow). is_within lo hi row.s_id) (λ row within. narrower lo a b hi row.s_id from to within) book.subscribers)
    (filter_twice (λ (row : AccessInfoRow). is_within a b row.s_id) (λ (row : AccessInfoRow). is_within lo hi row.s_id) (λ row within. narrower lo a b hi row.s_id from to within) book.access)
    (filter_twice (λ (row : SpecialFacilityRow). is_within a b row.s_id) (λ (row : SpecialFacilityRow). is_within lo hi row.s_id) (λ row within. narrower lo a b hi row.s_id from to within) book.facilities)
    (filter_twice (λ (row : CallForwardingRow). is_within a b row.s_id) (λ (row : CallForwardingRow). is_within lo hi row.s_id) (λ row within. narrower lo a b hi row.s_id from to within) book.forwardings)

-- no row lies in an empty stretch
nobody : (n s_id : ℕ) → is_within n n s_id ≡ false
nobody n s_id = by_test (nat_le n s_id) (λ e. let f : nat_lt s_id n ≡ false = grind (arith, nat_tests) in rw (e, f) refl) (λ e. rw e refl)

each_of : {X : Type 0} (P : X → Type 0) → ((x : X) → P x) → (xs : List X) → AllByRecursion P xs
each_of P all [] = tt
each_of P all (x ∷ xs) = (all x, each_of P all xs)

pub between_none : (n : ℕ) (book : Book) → rows_between n n book ≡ empty_book
between_none n book = same_tables
    (filter_none (λ (row : SubscriberRow). is_within n n row.s_id) book.subscribers (each_of (λ (row : SubscriberRow). is_within n n row.s_id ≡ false) (λ row. nobody n row.s_id) book.subscribers))
    (filter_none (λ (row : AccessInfoRow). is_within n n row.s_id) book.access (each_of (λ (row : AccessInfoRow). is_within n n row.s_id ≡ false) (λ row. nobody n row.s_id) book.access))
    (filter_none (λ (row : SpecialFacilityRow). is_within n n row.s_id) book.facilities (each_of (λ (row : SpecialFacilityRow). is_within n n row.s_id ≡ false) (λ row. nobody n row.s_id) book.facilities))
    (filter_none (λ (row : CallForwardingRow). is_within n n row.s_id) book.forwardings (each_of (λ (row : CallForwardingRow). is_within n n row.s_id ≡ false) (λ row. nobody n row.s_id) book.forwardings))

module _ (from to : ℕ) (book : Book) (rows : IsRowsOf from to book) where
  -- the rows of a stretch keep the rules
  pub between_rows : (lo hi : ℕ) → from ≤ lo → lo ≤ hi → hi ≤ to → IsRowsOf lo hi (rows_between lo hi book)
  between_rows lo hi above some below =
      let high = cut_high lo book in
      let of_high : IsRowsOf lo to high = cut_high_rows from lo to book rows in
      let is : rows_between lo hi book ≡ cut_low hi high =
      sym (between_inside lo lo hi to book (omega arith) below) ∙ ap (λ (b : Book). rows_between lo hi b) (high_is_between from lo to book rows) ∙ low_is_between lo hi to high of_high in
      rw is (cut_low_rows lo hi to high of_high)

  -- and are those of its two halves
  pub between_halves : (lo n hi : ℕ) → from ≤ lo → lo ≤ n → n ≤ hi → hi ≤ to → join_books (rows_between lo n book) (rows_between n hi book) ≡ rows_between lo hi book
  between_halves lo n hi above low high below =
      let whole = rows_between lo hi book in
      let of_whole : IsRowsOf lo hi whole = between_rows lo hi above (omega arith) below in
      let one : rows_between lo n book ≡ cut_low n whole = sym (between_inside lo lo n hi book (omega arith) high) ∙ low_is_between lo n hi whole of_whole in
      let other : rows_between n hi book ≡ cut_high n whole = sym (between_inside lo n hi hi book low (omega arith)) ∙ high_is_between lo n hi whole of_whole in
      ap (λ (b : Book). join_books b (rows_between n hi book)) one ∙ ap (λ (b : Book). join_books (cut_low n whole) b) other ∙ cut_joined n whole of_whole.rules

-- two parts whose ranges meet at a bound, and one that has the rows of both
pub record AreHalves (at : ℕ) (whole low high : PartState) : Type 0 where
  pub from : low.lo ≡ whole.lo
  pub below : low.hi ≡ at
  pub above : high.lo ≡ at
  pub to : high.hi ≡ whole.hi
  pub low_zones : low.width ≡ whole.width
  pub high_zones : high.width ≡ whole.width
  pub low_rules : IsPart low
  pub high_rules : IsPart high
  pub rows : join_books low.book high.book ≡ whole.book

-- what equal parts have
fields : (p q : PartState) → p ≡ q → (p.lo ≡ q.lo) × (p.hi ≡ q.hi) × (p.width ≡ q.width) × (p.book ≡ q.book)
fields p q same = (ap (λ (one : PartState). one.lo) same, ap (λ (one : PartState). one.hi) same, ap (λ (one : PartState). one.width) same, ap (λ (one : PartState). one.book) same)

-- a part cut at a bound inside its range
cut_halves : (at : ℕ) (whole low high : PartState) → IsInside at whole → IsPart whole
    → (low.lo ≡ whole.lo) × (low.hi ≡ at) × (low.width ≡ whole.width) × (low.book ≡ cut_low at whole.book)
    → (high.lo ≡ at) × (high.hi ≡ whole.hi) × (high.width ≡ whole.width) × (high.book ≡ cut_high at whole.book)
    → AreHalves at whole low high
cut_halves at whole low high inside rules is_low is_high =
    let range = rules.range in
    let above = inside.0 in
    let below = inside.1 in
    record {
      from = is_low.0;
      below = is_low.1;
      above = is_high.0;
      to = is_high.1;
      low_zones = is_low.2;
      high_zones = is_high.2;
      low_rules = record {
        range = rw (is_low.0, is_low.1) (omega arith, above, omega arith);
        width = rw is_low.2 rules.width;
        rows = rw (is_low.0, is_low.1, is_low.3) (cut_low_rows whole.lo at whole.hi whole.book rules.rows);
      };
      high_rules = record {
        range = rw (is_high.0, is_high.1) (omega arith, below, omega arith);
        width = rw is_high.2 rules.width;
        rows = rw (is_high.0, is_high.1, is_high.3) (cut_high_rows whole.lo at whole.hi whole.book rules.rows);
      };
      rows = rw (is_low.3, is_high.3) (cut_joined at whole.book rules.rows.rules);
    }

-- the halves are a piece on one side of the bound, and a part
abbrev AreSides : Side → ℕ → PartState → PartState → PartState → Type 0
AreSides Low at whole piece part = AreHalves at whole piece part
AreSides High at whole piece part = AreHalves at whole part piece

-- what was given and what is left are the two sides of a bound
given_sides : (side : Side) (at : ℕ) (before : HoldingState) (given : PieceState) (after : HoldingState) → IsPart before.part → IsGiven side at before given after → AreSides side at before.part given.part after.part
given_sides Low at before given after rules is = cut_halves at before.part given.part after.part is.inside rules (fields _ _ is.given) (fields _ _ is.kept)
given_sides High at before given after rules is = cut_halves at before.part after.part given.part is.inside rules (fields _ _ is.kept) (fields _ _ is.given)

-- where a piece on one side of a part meets it
abbrev pub Meets : Side → PartState → PartState → Type 0
Meets Low piece part = piece.hi ≡ part.lo
Meets High piece part = part.hi ≡ piece.lo

-- so it is where their regions touch
pub meets_from : (side : Side) (first second : Region) (piece part : PartState) → (piece.lo ≡ first.lo) × (piece.hi ≡ first.hi) → (part.lo ≡ second.lo) × (part.hi ≡ second.hi) → touching first second ≡ Some side → Meets side piece part
meets_from Low first second piece part one other touch = let meet : first.hi ≡ second.lo = grind (arith, nat_tests) in one.1 ∙ meet ∙ sym other.0
meets_from High first second piece part one other touch = let meet : second.hi ≡ first.lo = grind (arith, nat_tests) in other.1 ∙ meet ∙ sym one.0

pub meets_touch : (side : Side) (piece part : PartState) → Meets side piece part → Touch part piece
meets_touch Low piece part meets = inr meets
meets_touch High piece part meets = inl meets

-- the bound where they meet
abbrev bound_of : Side → PartState → ℕ
bound_of Low piece = piece.hi
bound_of High piece = piece.lo

-- a piece that was taken and the part as it was are the two sides of that bound
taken_sides : (side : Side) (piece : PieceState) (before after : HoldingState) → IsPart piece.part → IsPart before.part → piece.part.width ≡ before.part.width → Meets side piece.part before.part → IsTaken before piece after
    → AreSides side (bound_of side piece.part) after.part piece.part before.part
taken_sides Low piece before after is_piece is_part zones meets is =
    let range = is_piece.range in
    let range' = is_part.range in
    let differ : before.part.hi ≢ piece.part.lo = omega arith in
    let e : (before.part.hi == piece.part.lo) ≡ false = grind (arith, nat_tests) in
    let whole = fields _ _ (rw e at is.whole) in
    record { from = sym whole.0; below = refl; above = sym meets; to = sym whole.1; low_zones = zones ∙ sym whole.2; high_zones = sym whole.2; low_rules = is_piece; high_rules = is_part; rows = sym whole.3 }
taken_sides High piece before after is_piece is_part zones meets is =
    let e : (before.part.hi == piece.part.lo) ≡ true = grind (arith, nat_tests) in
    let whole = fields _ _ (rw e at is.whole) in
    record { from = sym whole.0; below = meets; above = refl; to = sym whole.1; low_zones = sym whole.2; high_zones = zones ∙ sym whole.2; low_rules = is_part; high_rules = is_piece; rows = sym whole.3 }

-- an owner's rows are those of its region in a book
abbrev pub HasRows : Book → Region → OwnerState → Type 0
HasRows book region state = rows_between region.lo region.hi book ≡ state.part.book

-- an owner that keeps the rules beside a region, and has its rows
pub record IsOwnerIn (width : ℕ) (book : Book) (region : Region) (state : OwnerState) : Type 0 where
  pub is : IsOwnerState width region state
  pub has : HasRows book region state

-- the halves have the rows of the halves of a region
two_rows : (region : Region) (at : ℕ) (whole low high : PartState) (book : Book) → rows_between region.lo region.hi book ≡ whole.book → whole.lo ≡ region.lo → whole.hi ≡ region.hi → AreHalves at whole low high
    → (rows_between region.lo at book ≡ low.book) × (rows_between at region.hi book ≡ high.book)
two_rows region at whole low high book has from to two =
    let low_range = two.low_rules.range in
    let high_range = two.high_rules.range in
    let below = two.below in
    let above = two.above in
    let of_low : IsRowsOf low.lo at low.book = rw two.below at two.low_rules.rows in
    let of_high : IsRowsOf at high.hi high.book = rw two.above at two.high_rules.rows in
    let rows : rows_between region.lo region.hi book ≡ join_books low.book high.book = has ∙ sym two.rows in
    let same_lo : low.lo ≡ region.lo = two.from ∙ from in
    let same_hi : high.hi ≡ region.hi = two.to ∙ to in (
      sym (between_inside region.lo region.lo at region.hi book (omega arith) (omega arith)) ∙ ap (λ (b : Book). rows_between region.lo at b) rows ∙ rw same_lo at (low_between low.lo at high.hi low.book high.book of_low of_high),
      sym (between_inside region.lo at region.hi region.hi book (omega arith) (omega arith)) ∙ ap (λ (b : Book). rows_between at region.hi b) rows ∙ rw same_hi at (high_between low.lo at high.hi low.book high.book of_low of_high),
    )

module _ (width : ℕ) (book : Book) (at : ℕ) where
  -- each half of an owner has its half of the region
  module _ (region : Region) (whole : OwnerState) (owned : IsOwnerIn width book region whole) where
    low_in : (low : OwnerState) (high : PartState) → AreHalves at whole.part low.part high → IsLawful low → (q : Place) → IsOwnerIn width book (record { lo = region.lo; hi = at; place = q }) low
    low_in low high two keeps q = record {
      is = record { from = two.from ∙ owned.is.from; to = two.below; zones = two.low_zones ∙ owned.is.zones; keeps = keeps };
      has = (two_rows region at whole.part low.part high book owned.has owned.is.from owned.is.to two).0;
    }

    high_in : (low : PartState) (high : OwnerState) → AreHalves at whole.part low high.part → IsLawful high → (q : Place) → IsOwnerIn width book (record { lo = at; hi = region.hi; place = q }) high
    high_in low high two keeps q = record {
      is = record { from = two.above; to = two.to ∙ owned.is.to; zones = two.high_zones ∙ owned.is.zones; keeps = keeps };
      has = (two_rows region at whole.part low high.part book owned.has owned.is.from owned.is.to two).1;
    }

  -- an owner of both has the regions of both
  both_in : (first second : Region) (low high whole : OwnerState) → IsRowsOf 1 END book → IsOwnerIn width book first low → IsOwnerIn width book second high → AreHalves at whole.part low.part high.part → IsLawful whole
      → (q : Place) → IsOwnerIn width book (record { lo = first.lo; hi = second.hi; place = q }) whole
  both_in first second low high whole rows is_low is_high both keeps q =
      let from = is_low.is.from in
      let ends = is_low.is.to in
      let begins = is_high.is.from in
      let to = is_high.is.to in
      let below = both.below in
      let above = both.above in
      let low_range = both.low_rules.range in
      let high_range = both.high_rules.range in
      let meets : first.hi ≡ second.lo = sym ends ∙ below ∙ sym above ∙ begins in
      let behind : rows_between first.hi second.hi book ≡ high.part.book = rw (← meets) at is_high.has in
      record {
        is = record { from = sym both.from ∙ from; to = sym both.to ∙ to; zones = sym both.low_zones ∙ is_low.is.zones; keeps = keeps };
        has = sym (between_halves 1 END book rows first.lo first.hi second.hi (omega arith) (omega arith) (omega arith) (omega arith))
            ∙ ap (λ (b : Book). join_books b (rows_between first.hi second.hi book)) is_low.has ∙ ap (λ (b : Book). join_books low.part.book b) behind ∙ both.rows;
      }

module _ (width : ℕ) (book : Book) where
  module _ (region : Region) (before : HoldingState) (owned : IsOwnerIn width book region (of_holding before)) (at : ℕ) (after : HoldingState) (kept : IsHolding after) where
    -- a part that gave a piece away, and the piece
    pub given_in : (n : ℕ) (side : Side) (given : PieceState) → IsGiven side at before given after → IsPiece given
        → IsOwnerIn width book (part_half side at region) (of_holding after) × IsOwnerIn width book (piece_half n side at region) (of_piece given)
    given_in n Low given is piece =
        let two = given_sides Low at before given after owned.is.keeps.rules is in
        (high_in width book at region (of_holding before) owned given.part (of_holding after) two (holding_keeps after kept) region.place, low_in width book at region (of_holding before) owned (of_piece given) after.part two (piece_keeps given piece) (place.Piece n))
    given_in n High given is piece =
        let two = given_sides High at before given after owned.is.keeps.rules is in
        (low_in width book at region (of_holding before) owned (of_holding after) given.part two (holding_keeps after kept) region.place, high_in width book at region (of_holding before) owned after.part (of_piece given) two (piece_keeps given piece) (place.Piece n))

    -- a part that was divided, and the new part
    pub divided_in : (p : ℕ) (desk : DeskState) (new : HoldingState) → IsHoldingDivided at before desk new after → IsHolding new
        → IsOwnerIn width book (low_half at region) (of_holding after) × IsOwnerIn width book (high_half p at region) (of_holding new)
    divided_in p desk new is is_new =
        let two = given_sides High at before (as_piece new) after owned.is.keeps.rules is.given in
        (low_in width book at region (of_holding before) owned (of_holding after) new.part two (holding_keeps after kept) region.place, high_in width book at region (of_holding before) owned after.part (of_holding new) two (holding_keeps new is_new) (place.Part (p + 1)))

  -- a part that took a piece
  pub taken_in : (first second : Region) (side : Side) (piece : PieceState) (before after : HoldingState) → IsRowsOf 1 END book → IsOwnerIn width book first (of_piece piece) → IsOwnerIn width book second (of_holding before)
      → Meets side piece.part before.part → IsTaken before piece after → IsHolding after → IsOwnerIn width book (joint_region side first second) (of_holding after)
  taken_in first second Low piece before after rows one other meets is keeps =
      both_in width book piece.part.hi first second (of_piece piece) (of_holding before) (of_holding after) rows one other
      (taken_sides Low piece before after one.is.keeps.rules other.is.keeps.rules (one.is.zones ∙ sym other.is.zones) meets is) (holding_keeps after keeps) second.place
  taken_in first second High piece before after rows one other meets is keeps =
      both_in width book piece.part.lo second first (of_holding before) (of_piece piece) (of_holding after) rows other one
      (taken_sides High piece before after one.is.keeps.rules other.is.keeps.rules (one.is.zones ∙ sym other.is.zones) meets is) (holding_keeps after keeps) second.place

  -- a part with the rows of the one behind it
  pub merged_in : (front part : Region) (before gone : HoldingState) (desk : DeskState) (after : HoldingState) → IsRowsOf 1 END book → IsOwnerIn width book front (of_holding before) → IsOwnerIn width book part (of_holding gone)
      → before.part.hi ≡ gone.part.lo → IsMerged before gone desk after → IsHolding after → IsOwnerIn width book (both_ranges front part) (of_holding after)
  merged_in front part before gone desk after rows one other meets is keeps =
      both_in width book gone.part.lo front part (of_holding before) (of_holding gone) (of_holding after) rows one other
      (taken_sides High (record { part = gone.part; pending = is.counts }) before after other.is.keeps.rules one.is.keeps.rules (other.is.zones ∙ sym one.is.zones) meets is.taken) (holding_keeps after keeps) front.place
