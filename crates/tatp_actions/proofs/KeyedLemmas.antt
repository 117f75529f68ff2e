-- What each call by keys does to a part, from what it does to the rows.
use Rattle.tatp_actions.proofs.Common.{◌≡◌, refl, sym, ◌∙◌, ap, subst, ℕ, true, false, List, None, IsSome, if◌then◌else◌, is_some, key_of_pair, key_of, subscriber_key, access_key, facility_key, forwarding_key, row_at, with_row_at, with_row, without_row, SubscriberRow, AccessInfoRow, SpecialFacilityRow, CallForwardingRow, subscriber_in_range, access_in_range, facility_in_range, forwarding_in_range, Refusal, IsWithin, subscriber_at, access_at, facility_at, forwarding_at, put_subscriber, put_facility, more_subscribers, more_access, more_facilities, more_forwardings, without_forwarding, Heights, changed_once, Tables, AreKeyed, stored_book, once_more}
use Rattle.tatp_rows.specs.declared.refusal.Refusal.TheVariants as refusal
use Rattle.tatp_actions.proofs.BookLemmas.{rules_of_put_subscriber, rules_of_addition, rules_of_access, rules_of_put_facility, rules_of_facility, rules_of_insertion, rules_of_deletion}
use Rattle.tatp_actions.proofs.StoredLemmas.{part_of, Holds, changed_is, changed_holds, absent_row, refused_pair, book_put_subscriber, keyed_put_subscriber, book_put_facility, keyed_put_facility, book_more_subscribers, keyed_more_subscribers, book_more_access, keyed_more_access, book_more_facilities, keyed_more_facilities, book_more_forwardings, keyed_more_forwardings, book_without_forwarding, keyed_without_forwarding}

-- a refused addition leaves the tables
pub same_subscribers : (tables tables1 : Tables) → tables1.subscribers ≡ tables.subscribers → tables1 ≡ record tables { subscribers = tables1.subscribers } → tables1 ≡ tables
same_subscribers tables tables1 same others = others ∙ ap (λ (pairs : List (ℕ × SubscriberRow)). record tables { subscribers = pairs }) same

pub same_access : (tables tables1 : Tables) → tables1.access ≡ tables.access → tables1 ≡ record tables { access = tables1.access } → tables1 ≡ tables
same_access tables tables1 same others = others ∙ ap (λ (pairs : List (ℕ × AccessInfoRow)). record tables { access = pairs }) same

pub same_facilities : (tables tables1 : Tables) → tables1.facilities ≡ tables.facilities → tables1 ≡ record tables { facilities = tables1.facilities } → tables1 ≡ tables
same_facilities tables tables1 same others = others ∙ ap (λ (pairs : List (ℕ × SpecialFacilityRow)). record tables { facilities = pairs }) same

pub same_forwardings : (tables tables1 : Tables) → tables1.forwardings ≡ tables.forwardings → tables1 ≡ record tables { forwardings = tables1.forwardings } → tables1 ≡ tables
same_forwardings tables tables1 same others = others ∙ ap (λ (pairs : List (ℕ × CallForwardingRow)). record tables { forwardings = pairs }) same

-- a Subscriber row is put in the place of the one with its key
module _ {h : Heights} (tables tables1 : Tables) (n n1 lo hi width steps k : ℕ) (row : SubscriberRow)
    (at : k ≡ subscriber_key row) (holds : Holds tables n lo hi width steps h)
    (changed : tables1 ≡ record tables { subscribers = with_row_at key_of_pair k (k, row) tables.subscribers }) where
  pub put_subscriber_book : stored_book tables1 ≡ put_subscriber (stored_book tables) row.s_id row
  put_subscriber_book =
      ap stored_book changed ∙ book_put_subscriber tables k row holds.1
      ∙ ap (λ (j : ℕ). record (stored_book tables) { subscribers = with_row_at subscriber_key j row (stored_book tables).subscribers }) at

  pub put_subscriber_holds : {h1 : Heights} → subscriber_in_range row ≡ true → Holds tables1 n1 lo hi width steps h1
  put_subscriber_holds in_range =
      changed_holds tables tables1 n n1 lo hi width steps _ put_subscriber_book holds.0 (rules_of_put_subscriber lo hi (stored_book tables) row holds.0.rows in_range)
      (subst AreKeyed (sym changed) (keyed_put_subscriber tables k row holds.1 at))

-- a Special_Facility row is put in the place of the one with its key
module _ {h : Heights} (tables tables1 : Tables) (n n1 lo hi width steps k : ℕ) (row : SpecialFacilityRow)
    (at : k ≡ facility_key row) (holds : Holds tables n lo hi width steps h)
    (changed : tables1 ≡ record tables { facilities = with_row_at key_of_pair k (k, row) tables.facilities }) where
  pub put_facility_book : stored_book tables1 ≡ put_facility (stored_book tables) row.s_id row.sf_type row
  put_facility_book =
      ap stored_book changed ∙ book_put_facility tables k row holds.1
      ∙ ap (λ (j : ℕ). record (stored_book tables) { facilities = with_row_at facility_key j row (stored_book tables).facilities }) at

  pub put_facility_holds : {h1 : Heights} → facility_in_range row ≡ true → Holds tables1 n1 lo hi width steps h1
  put_facility_holds in_range =
      changed_holds tables tables1 n n1 lo hi width steps _ put_facility_book holds.0 (rules_of_put_facility lo hi (stored_book tables) row holds.0.rows in_range)
      (subst AreKeyed (sym changed) (keyed_put_facility tables k row holds.1 at))

-- a Subscriber row is added
module _ {h : Heights} (tables tables1 : Tables) (n n1 lo hi width steps k : ℕ) (row : SubscriberRow)
    (at : k ≡ subscriber_key row) (holds : Holds tables n lo hi width steps h)
    (added : (row_at key_of_pair k tables.subscribers ≡ None) × (tables1.subscribers ≡ with_row key_of_pair (k, row) tables.subscribers))
    (others : tables1 ≡ record tables { subscribers = tables1.subscribers }) where
  subscribers_edit : tables1 ≡ record tables { subscribers = with_row key_of_pair (k, row) tables.subscribers }
  subscribers_edit = others ∙ ap (λ (pairs : List (ℕ × SubscriberRow)). record tables { subscribers = pairs }) added.1

  subscribers_absent : subscriber_at (stored_book tables) row.s_id ≡ None
  subscribers_absent = absent_row subscriber_key tables.subscribers k (subscriber_key row) holds.1.subscribers at added.0

  subscribers_book : stored_book tables1 ≡ more_subscribers (stored_book tables) row
  subscribers_book = ap stored_book subscribers_edit ∙ book_more_subscribers tables k row holds.1 at

  pub more_subscribers_added : (is_some (subscriber_at (stored_book tables) row.s_id) ≡ false) × (stored_book tables1 ≡ more_subscribers (stored_book tables) row)
  more_subscribers_added = (rw subscribers_absent refl, subscribers_book)

  pub more_subscribers_holds : {h1 : Heights} → IsWithin lo hi row.s_id → subscriber_in_range row ≡ true
      → Holds tables1 n1 lo hi width steps h1
  more_subscribers_holds whole in_range =
      changed_holds tables tables1 n n1 lo hi width steps _ subscribers_book holds.0 (rules_of_addition lo hi (stored_book tables) row holds.0.rows subscribers_absent whole in_range)
      (subst AreKeyed (sym subscribers_edit) (keyed_more_subscribers tables k row holds.1 at))

-- or refused
pub more_subscribers_refused : {h : Heights} (tables tables1 : Tables) (n lo hi width steps k : ℕ)
    (row : SubscriberRow) (why : Refusal) → k ≡ subscriber_key row → Holds tables n lo hi width steps h
    → tables1.subscribers ≡ tables.subscribers → tables1 ≡ record tables { subscribers = tables1.subscribers }
    → why ≡ (if is_some (row_at key_of_pair k tables.subscribers) then refusal.Exists else refusal.Memory)
    → (stored_book tables1 ≡ stored_book tables) × (why ≡ (if is_some (subscriber_at (stored_book tables) row.s_id) then refusal.Exists else refusal.Memory))
more_subscribers_refused tables tables1 n lo hi width steps k row why at holds same others is =
    (ap stored_book (same_subscribers tables tables1 same others), refused_pair subscriber_key tables.subscribers k (subscriber_key row) why holds.1.subscribers at is)

-- a Access_Info row is added
module _ {h : Heights} (tables tables1 : Tables) (n n1 lo hi width steps k : ℕ) (row : AccessInfoRow)
    (at : k ≡ access_key row) (holds : Holds tables n lo hi width steps h)
    (added : (row_at key_of_pair k tables.access ≡ None) × (tables1.access ≡ with_row key_of_pair (k, row) tables.access))
    (others : tables1 ≡ record tables { access = tables1.access }) where
  access_edit : tables1 ≡ record tables { access = with_row key_of_pair (k, row) tables.access }
  access_edit = others ∙ ap (λ (pairs : List (ℕ × AccessInfoRow)). record tables { access = pairs }) added.1

  access_absent : access_at (stored_book tables) row.s_id row.ai_type ≡ None
  access_absent = absent_row access_key tables.access k (access_key row) holds.1.access at added.0

  access_book : stored_book tables1 ≡ more_access (stored_book tables) row
  access_book = ap stored_book access_edit ∙ book_more_access tables k row holds.1 at

  pub more_access_added : (is_some (access_at (stored_book tables) row.s_id row.ai_type) ≡ false) × (stored_book tables1 ≡ more_access (stored_book tables) row)
  more_access_added = (rw access_absent refl, access_book)

  pub more_access_holds : {h1 : Heights} → IsSome (subscriber_at (stored_book tables) row.s_id)
      → access_in_range row ≡ true → Holds tables1 n1 lo hi width steps h1
  more_access_holds whole in_range =
      changed_holds tables tables1 n n1 lo hi width steps _ access_book holds.0 (rules_of_access lo hi (stored_book tables) row holds.0.rows whole access_absent in_range)
      (subst AreKeyed (sym access_edit) (keyed_more_access tables k row holds.1 at))

-- or refused
pub more_access_refused : {h : Heights} (tables tables1 : Tables) (n lo hi width steps k : ℕ) (row : AccessInfoRow)
    (why : Refusal) → k ≡ access_key row → Holds tables n lo hi width steps h
    → tables1.access ≡ tables.access → tables1 ≡ record tables { access = tables1.access }
    → why ≡ (if is_some (row_at key_of_pair k tables.access) then refusal.Exists else refusal.Memory)
    → (stored_book tables1 ≡ stored_book tables) × (why ≡ (if is_some (access_at (stored_book tables) row.s_id row.ai_type) then refusal.Exists else refusal.Memory))
more_access_refused tables tables1 n lo hi width steps k row why at holds same others is =
    (ap stored_book (same_access tables tables1 same others), refused_pair access_key tables.access k (access_key row) why holds.1.access at is)

-- a Special_Facility row is added
module _ {h : Heights} (tables tables1 : Tables) (n n1 lo hi width steps k : ℕ) (row : SpecialFacilityRow)
    (at : k ≡ facility_key row) (holds : Holds tables n lo hi width steps h)
    (added : (row_at key_of_pair k tables.facilities ≡ None) × (tables1.facilities ≡ with_row key_of_pair (k, row) tables.facilities))
    (others : tables1 ≡ record tables { facilities = tables1.facilities }) where
  facilities_edit : tables1 ≡ record tables { facilities = with_row key_of_pair (k, row) tables.facilities }
  facilities_edit = others ∙ ap (λ (pairs : List (ℕ × SpecialFacilityRow)). record tables { facilities = pairs }) added.1

  facilities_absent : facility_at (stored_book tables) row.s_id row.sf_type ≡ None
  facilities_absent = absent_row facility_key tables.facilities k (facility_key row) holds.1.facilities at added.0

  facilities_book : stored_book tables1 ≡ more_facilities (stored_book tables) row
  facilities_book = ap stored_book facilities_edit ∙ book_more_facilities tables k row holds.1 at

  pub more_facilities_added : (is_some (facility_at (stored_book tables) row.s_id row.sf_type) ≡ false) × (stored_book tables1 ≡ more_facilities (stored_book tables) row)
  more_facilities_added = (rw facilities_absent refl, facilities_book)

  pub more_facilities_holds : {h1 : Heights} → IsSome (subscriber_at (stored_book tables) row.s_id)
      → facility_in_range row ≡ true → Holds tables1 n1 lo hi width steps h1
  more_facilities_holds whole in_range =
      changed_holds tables tables1 n n1 lo hi width steps _ facilities_book holds.0 (rules_of_facility lo hi (stored_book tables) row holds.0.rows whole facilities_absent in_range)
      (subst AreKeyed (sym facilities_edit) (keyed_more_facilities tables k row holds.1 at))

-- or refused
pub more_facilities_refused : {h : Heights} (tables tables1 : Tables) (n lo hi width steps k : ℕ)
    (row : SpecialFacilityRow) (why : Refusal) → k ≡ facility_key row → Holds tables n lo hi width steps h
    → tables1.facilities ≡ tables.facilities → tables1 ≡ record tables { facilities = tables1.facilities }
    → why ≡ (if is_some (row_at key_of_pair k tables.facilities) then refusal.Exists else refusal.Memory)
    → (stored_book tables1 ≡ stored_book tables) × (why ≡ (if is_some (facility_at (stored_book tables) row.s_id row.sf_type) then refusal.Exists else refusal.Memory))
more_facilities_refused tables tables1 n lo hi width steps k row why at holds same others is =
    (ap stored_book (same_facilities tables tables1 same others), refused_pair facility_key tables.facilities k (facility_key row) why holds.1.facilities at is)

-- a Call_Forwarding row is added
module _ {h : Heights} (tables tables1 : Tables) (n n1 lo hi width steps k : ℕ) (row : CallForwardingRow)
    (at : k ≡ forwarding_key row) (holds : Holds tables n lo hi width steps h)
    (added : (row_at key_of_pair k tables.forwardings ≡ None) × (tables1.forwardings ≡ with_row key_of_pair (k, row) tables.forwardings))
    (others : tables1 ≡ record tables { forwardings = tables1.forwardings }) where
  forwardings_edit : tables1 ≡ record tables { forwardings = with_row key_of_pair (k, row) tables.forwardings }
  forwardings_edit = others ∙ ap (λ (pairs : List (ℕ × CallForwardingRow)). record tables { forwardings = pairs }) added.1

  forwardings_absent : forwarding_at (stored_book tables) row.s_id row.sf_type row.start_time ≡ None
  forwardings_absent = absent_row forwarding_key tables.forwardings k (forwarding_key row) holds.1.forwardings at added.0

  forwardings_book : stored_book tables1 ≡ more_forwardings (stored_book tables) row
  forwardings_book = ap stored_book forwardings_edit ∙ book_more_forwardings tables k row holds.1 at

  pub more_forwardings_added : (is_some (forwarding_at (stored_book tables) row.s_id row.sf_type row.start_time) ≡ false) × (stored_book tables1 ≡ more_forwardings (stored_book tables) row)
  more_forwardings_added = (rw forwardings_absent refl, forwardings_book)

  pub more_forwardings_holds : {h1 : Heights} → IsSome (facility_at (stored_book tables) row.s_id row.sf_type)
      → forwarding_in_range row ≡ true → Holds tables1 n1 lo hi width steps h1
  more_forwardings_holds whole in_range =
      changed_holds tables tables1 n n1 lo hi width steps _ forwardings_book holds.0 (rules_of_insertion lo hi (stored_book tables) row holds.0.rows whole forwardings_absent in_range)
      (subst AreKeyed (sym forwardings_edit) (keyed_more_forwardings tables k row holds.1 at))

-- or refused
pub more_forwardings_refused : {h : Heights} (tables tables1 : Tables) (n lo hi width steps k : ℕ)
    (row : CallForwardingRow) (why : Refusal) → k ≡ forwarding_key row → Holds tables n lo hi width steps h
    → tables1.forwardings ≡ tables.forwardings → tables1 ≡ record tables { forwardings = tables1.forwardings }
    → why ≡ (if is_some (row_at key_of_pair k tables.forwardings) then refusal.Exists else refusal.Memory)
    → (stored_book tables1 ≡ stored_book tables) × (why ≡ (if is_some (forwarding_at (stored_book tables) row.s_id row.sf_type row.start_time) then refusal.Exists else refusal.Memory))
more_forwardings_refused tables tables1 n lo hi width steps k row why at holds same others is =
    (ap stored_book (same_forwardings tables tables1 same others), refused_pair forwarding_key tables.forwardings k (forwarding_key row) why holds.1.forwardings at is)

-- a forwarding is taken away
module _ {h : Heights} (tables tables1 : Tables) (n n1 lo hi width steps k s t u : ℕ) (at : k ≡ key_of s t u)
    (holds : Holds tables n lo hi width steps h)
    (changed : tables1 ≡ record tables { forwardings = without_row key_of_pair k tables.forwardings }) where
  removed_book : stored_book tables1 ≡ without_forwarding (stored_book tables) s t u
  removed_book = ap stored_book changed ∙ book_without_forwarding tables k (key_of s t u) holds.1 at

  pub removed_is : {h1 : Heights} → n1 ≡ once_more n
      → part_of tables1 n1 lo hi width steps h1 ≡ changed_once (part_of tables n lo hi width steps h)
      (without_forwarding (stored_book tables) s t u) h1
  removed_is asked = changed_is h tables tables1 n n1 lo hi width steps _ removed_book asked

  pub removed_holds : {h1 : Heights} → Holds tables1 n1 lo hi width steps h1
  removed_holds =
      changed_holds tables tables1 n n1 lo hi width steps _ removed_book holds.0 (rules_of_deletion lo hi (stored_book tables) s t u holds.0.rows)
      (subst AreKeyed (sym changed) (keyed_without_forwarding tables k holds.1))
