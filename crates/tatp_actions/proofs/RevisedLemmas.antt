-- What becomes of a part when a row of it is changed where it lies.
use Rattle.tatp_actions.proofs.Common.{◌≡◌, refl, sym, ◌∙◌, ap, subst, ℕ, ◌<◌, ◌≤◌, set, true, List, Option, Some, None, IfSome, option_map, arith, unwrap_or, key_of_pair, value_at, revised_at, spent_at, revised_some, revised_none, each_found, bit_1_in_range, key_of, subscriber_key, facility_key, with_row_at, SubscriberRow, SpecialFacilityRow, subscriber_in_range, facility_in_range, Book, subscriber_at, facility_at, put_subscriber, put_facility, Heights, KeepsSubscriber, KeepsFacility, changed_to, subscriber_revised, facility_revised, PartState, IsPart, Tables, AreKeyed, stored_book}
use Rattle.tatp_actions.proofs.BookLemmas.{s_id_found, facility_found}
use Rattle.tatp_actions.proofs.KeyedLemmas.{put_subscriber_book, put_subscriber_holds, put_facility_book, put_facility_holds}
use Rattle.tatp_actions.proofs.StoredLemmas.{part_of, Holds, found_in}

-- what is spent on a row that is found
pub spent_found : {X E : Type 0} (key : ℕ) (spent : E → X → E) (revision now : E) (pairs : List (ℕ × X)) (o : Option X) → value_at key pairs ≡ o → now ≡ spent_at key spent revision pairs → IfSome o (λ row. now ≡ spent revision row)
spent_found key spent revision now pairs None is e = tt
spent_found key spent revision now pairs (Some row) is e = e ∙ ap (λ o. unwrap_or (option_map (spent revision) o) revision) is

-- the book with a row changed
pub revised_subscriber : (book : Book) (s : ℕ) (change : SubscriberRow → SubscriberRow) (o : Option SubscriberRow) → subscriber_at book s ≡ o
    → subscriber_revised book s change ≡ unwrap_or (option_map (λ row. put_subscriber book s (change row)) o) book
revised_subscriber book s change o is = ap (λ o. unwrap_or (option_map (λ row. put_subscriber book s (change row)) o) book) is

-- a Subscriber row that is stored
pub subscriber_there : (tables : Tables) (k s : ℕ) → AreKeyed tables → k ≡ key_of s 0 0 → value_at k tables.subscribers ≡ subscriber_at (stored_book tables) s
subscriber_there tables k s keyed at = found_in subscriber_key tables.subscribers k (key_of s 0 0) (value_at k tables.subscribers) keyed.subscribers at refl

-- it is changed where it lies
module _ {h : Heights} (tables tables1 : Tables) (n n1 lo hi width steps k s : ℕ)
    (change : SubscriberRow → SubscriberRow) (at : k ≡ key_of s 0 0) (holds : Holds tables n lo hi width steps h)
    (keeps : KeepsSubscriber change)
    (revision : tables1 ≡ record tables { subscribers = revised_at k change tables.subscribers }) where
  by_row : {h1 : Heights} (o : Option SubscriberRow) → subscriber_at (stored_book tables) s ≡ o
      → (stored_book tables1 ≡ subscriber_revised (stored_book tables) s change)
      × Holds tables1 n1 lo hi width steps h1
  by_row {h1} None is =
      let same : tables1 ≡ tables = revision ∙ ap (λ (pairs : List (ℕ × SubscriberRow)). record tables { subscribers = pairs }) (revised_none k change tables.subscribers (subscriber_there tables k s holds.1 at ∙ is)) in
      let rules : IsPart (part_of tables n1 lo hi width steps h1) =
      record { range = holds.0.range; width = holds.0.width; rows = holds.0.rows } in (
        ap stored_book same ∙ sym (revised_subscriber (stored_book tables) s change None is),
        subst (λ (t : Tables). Holds t n1 lo hi width steps h1) (sym same) (rules, holds.1),
      )
  by_row {h1} (Some row) is =
      let keep = keeps row (each_found subscriber_key (λ (r : SubscriberRow). subscriber_in_range r ≡ true) (key_of s 0 0) (stored_book tables).subscribers row holds.0.rows.rules.subscribers_in_range is) in
      let own : (change row).s_id ≡ s = keep.0 ∙ s_id_found (stored_book tables) s row is in
      let here : k ≡ subscriber_key (change row) = at ∙ ap (λ (j : ℕ). key_of j 0 0) (sym own) in
      let put : tables1 ≡ record tables { subscribers = with_row_at key_of_pair k (k, change row) tables.subscribers } =
      revision ∙ ap (λ (pairs : List (ℕ × SubscriberRow)). record tables { subscribers = pairs }) (revised_some k change row tables.subscribers (subscriber_there tables k s holds.1 at ∙ is)) in (
        put_subscriber_book tables tables1 n n1 lo hi width steps k (change row) here holds put
            ∙ ap (λ (j : ℕ). put_subscriber (stored_book tables) j (change row)) own ∙ sym (revised_subscriber (stored_book tables) s change (Some row) is),
        put_subscriber_holds tables tables1 n n1 lo hi width steps k (change row) here holds put keep.1,
      )

  pub subscriber_is : {h1 : Heights}
      → part_of tables1 n1 lo hi width steps h1 ≡ record (part_of tables n lo hi width steps h) {
        book = subscriber_revised (stored_book tables) s change;
        asked = n1;
        heights = h1;
      }
  subscriber_is {h1} =
      ap (λ (book : Book). record (part_of tables n lo hi width steps h) { book = book; asked = n1; heights = h1 })
      (by_row {h1 = h1} (subscriber_at (stored_book tables) s) refl).0

  pub subscriber_holds : {h1 : Heights} → Holds tables1 n1 lo hi width steps h1
  subscriber_holds {h1} = (by_row {h1 = h1} (subscriber_at (stored_book tables) s) refl).1

-- a part whose subscriber was found, and changed
pub revised_after : (before after : PartState) (s : ℕ) (change : SubscriberRow → SubscriberRow) (row : SubscriberRow) → subscriber_at before.book s ≡ Some row
    → after ≡ changed_to before (subscriber_revised before.book s change) after
    → after ≡ changed_to before (put_subscriber before.book s (change row)) after
revised_after before after s change row is kept =
    kept ∙ ap (λ (book : Book). changed_to before book after) (revised_subscriber before.book s change (Some row) is)

-- the same of a Special_Facility row
pub revised_facility : (book : Book) (s t : ℕ) (change : SpecialFacilityRow → SpecialFacilityRow) (o : Option SpecialFacilityRow) → facility_at book s t ≡ o
    → facility_revised book s t change ≡ unwrap_or (option_map (λ row. put_facility book s t (change row)) o) book
revised_facility book s t change o is = ap (λ o. unwrap_or (option_map (λ row. put_facility book s t (change row)) o) book) is

pub facility_there : (tables : Tables) (k s t : ℕ) → AreKeyed tables → k ≡ key_of s t 0 → value_at k tables.facilities ≡ facility_at (stored_book tables) s t
facility_there tables k s t keyed at = found_in facility_key tables.facilities k (key_of s t 0) (value_at k tables.facilities) keyed.facilities at refl

module _ {h : Heights} (tables tables1 : Tables) (n n1 lo hi width steps k s t : ℕ)
    (change : SpecialFacilityRow → SpecialFacilityRow) (at : k ≡ key_of s t 0) (small : t < 256)
    (holds : Holds tables n lo hi width steps h) (keeps : KeepsFacility change)
    (revision : tables1 ≡ record tables { facilities = revised_at k change tables.facilities }) where
  by_facility : {h1 : Heights} (o : Option SpecialFacilityRow) → facility_at (stored_book tables) s t ≡ o
      → (stored_book tables1 ≡ facility_revised (stored_book tables) s t change)
      × Holds tables1 n1 lo hi width steps h1
  by_facility {h1} None is =
      let same : tables1 ≡ tables = revision ∙ ap (λ (pairs : List (ℕ × SpecialFacilityRow)). record tables { facilities = pairs }) (revised_none k change tables.facilities (facility_there tables k s t holds.1 at ∙ is)) in
      let rules : IsPart (part_of tables n1 lo hi width steps h1) =
      record { range = holds.0.range; width = holds.0.width; rows = holds.0.rows } in (
        ap stored_book same ∙ sym (revised_facility (stored_book tables) s t change None is),
        subst (λ (t : Tables). Holds t n1 lo hi width steps h1) (sym same) (rules, holds.1),
      )
  by_facility {h1} (Some row) is =
      let keep = keeps row (each_found facility_key (λ (r : SpecialFacilityRow). facility_in_range r ≡ true) (key_of s t 0) (stored_book tables).facilities row holds.0.rows.rules.facilities_in_range is) in
      let parts = facility_found (stored_book tables) s t row holds.0.rows.rules small is in
      let own : (change row).s_id ≡ s = keep.0 ∙ parts.0 in
      let kind : (change row).sf_type ≡ t = keep.1 ∙ parts.1 in
      let here : k ≡ facility_key (change row) = at ∙ ap (λ (j : ℕ). key_of j t 0) (sym own) ∙ ap (λ (j : ℕ). key_of (change row).s_id j 0) (sym kind) in
      let put : tables1 ≡ record tables { facilities = with_row_at key_of_pair k (k, change row) tables.facilities } =
      revision ∙ ap (λ (pairs : List (ℕ × SpecialFacilityRow)). record tables { facilities = pairs }) (revised_some k change row tables.facilities (facility_there tables k s t holds.1 at ∙ is)) in (
        put_facility_book tables tables1 n n1 lo hi width steps k (change row) here holds put
            ∙ ap (λ (j : ℕ). put_facility (stored_book tables) j (change row).sf_type (change row)) own ∙ ap (λ (j : ℕ). put_facility (stored_book tables) s j (change row)) kind
            ∙ sym (revised_facility (stored_book tables) s t change (Some row) is),
        put_facility_holds tables tables1 n n1 lo hi width steps k (change row) here holds put keep.2,
      )

  pub facility_is : {h1 : Heights}
      → part_of tables1 n1 lo hi width steps h1 ≡ record (part_of tables n lo hi width steps h) {
        book = facility_revised (stored_book tables) s t change;
        asked = n1;
        heights = h1;
      }
  facility_is {h1} =
      ap (λ (book : Book). record (part_of tables n lo hi width steps h) { book = book; asked = n1; heights = h1 })
      (by_facility {h1 = h1} (facility_at (stored_book tables) s t) refl).0

  pub facility_holds : {h1 : Heights} → Holds tables1 n1 lo hi width steps h1
  facility_holds {h1} = (by_facility {h1 = h1} (facility_at (stored_book tables) s t) refl).1

-- a facility that is changed so keeps its key
pub facility_keeps : {h : Heights} (tables : Tables) (n lo hi width steps k s t : ℕ) (change : SpecialFacilityRow → SpecialFacilityRow) → k ≡ key_of s t 0 → t < 256 → Holds tables n lo hi width steps h → KeepsFacility change
    → IfSome (value_at k tables.facilities) (λ row. facility_key (change row) ≡ k)
facility_keeps tables n lo hi width steps k s t change at small holds keeps =
    subst (λ (o : Option SpecialFacilityRow). IfSome o (λ row. facility_key (change row) ≡ k)) (sym (facility_there tables k s t holds.1 at)) (kept (facility_at (stored_book tables) s t) refl)
  where
    kept : (o : Option SpecialFacilityRow) → facility_at (stored_book tables) s t ≡ o → IfSome o (λ row. facility_key (change row) ≡ k)
    kept None is = tt
    kept (Some row) is =
        let keep = keeps row (each_found facility_key (λ (r : SpecialFacilityRow). facility_in_range r ≡ true) (key_of s t 0) (stored_book tables).facilities row holds.0.rows.rules.facilities_in_range is) in
        let parts = facility_found (stored_book tables) s t row holds.0.rows.rules small is in
        let own : (change row).s_id ≡ s = keep.0 ∙ parts.0 in
        let kind : (change row).sf_type ≡ t = keep.1 ∙ parts.1 in
        rw (own, kind) (sym at)

-- a part whose facility was found, and changed
pub refitted_after : (before after : PartState) (s t : ℕ) (change : SpecialFacilityRow → SpecialFacilityRow) (row : SpecialFacilityRow) → facility_at before.book s t ≡ Some row
    → after ≡ changed_to before (facility_revised before.book s t change) after
    → after ≡ changed_to before (put_facility before.book s t (change row)) after
refitted_after before after s t change row is kept =
    kept ∙ ap (λ (book : Book). changed_to before book after) (revised_facility before.book s t change (Some row) is)

-- another bit_1 keeps a row in range
pub keeps_bit : (bit b : ℕ) → bit ≡ b → b ≤ 1 → KeepsSubscriber (λ row. record row { bits = set row.bits 0 bit })
keeps_bit bit b is low row in_range = (refl, bit_1_in_range row bit (omega arith) in_range)
