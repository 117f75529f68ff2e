-- An action on a subscriber of one of two books does to their join what it does to that book.
use Rattle.tatp_actions.proofs.Common.{◌≡◌, ◌∙◌, refl, sym, ap, ℕ, ◌*◌, ◌<◌, ◌≤◌, ◌==◌, ◌&&◌, arith, nat_le, nat_lt, true, false, List, [], ◌∷◌, ◌++◌, map, set, Option, Some, None, inl, inr, if◌then◌else◌, filter, nat_tests, append-nil, filter-append, row_at-low, row_at-high, with_row_at-low, with_row_at-high, with_row-low, with_row-high, without_row-low, without_row-high, key_below, key_from, by_test, each_from_two, each-weaker, filter_none, both, between_is, access_type, facility_type, forwarding_type, forwarding_ranges, key_of, subscriber_key, access_key, facility_key, forwarding_key, AllBelow, AllFrom, SubscriberRow, AccessInfoRow, SpecialFacilityRow, CallForwardingRow, is_between, is_start_time, access_in_range, facility_in_range, forwarding_in_range, LAST_SUBSCRIBER, IsOutcome, effect, is_in_range, is_typed, s_id_of, takes_call, destinations, subscriber_data, new_destination, access_data, update_subscriber, update_location, insert_forwarding, delete_forwarding, add_subscriber, add_access, add_facility, set_active, set_number, Book, IsRowsOf, IsWithin, subscriber_at, access_at, facility_at, has_active, forwarding_at, join_books, Action, SubscriberData, NewDestination, AccessData, UpdateSubscriber, UpdateLocation, InsertForwarding, DeleteForwarding, AddSubscriber, AddAccess, AddFacility, SetActive, SetNumber, RowReply}

-- the low book has rows of subscribers below n alone, and the high book of those from n on
pub record Apart (n : ℕ) (low high : Book) : Type 0 where
  pub subscribers_below : AllBelow subscriber_key (n * 65536) low.subscribers
  pub access_below : AllBelow access_key (n * 65536) low.access
  pub facilities_below : AllBelow facility_key (n * 65536) low.facilities
  pub forwardings_below : AllBelow forwarding_key (n * 65536) low.forwardings
  pub subscribers_from : AllFrom subscriber_key (n * 65536) high.subscribers
  pub access_from : AllFrom access_key (n * 65536) high.access
  pub facilities_from : AllFrom facility_key (n * 65536) high.facilities
  pub forwardings_from : AllFrom forwarding_key (n * 65536) high.forwardings

-- the rows of two ranges that meet are apart
pub apart : (lo n hi : ℕ) (low high : Book) → IsRowsOf lo n low → IsRowsOf n hi high → Apart n low high
apart lo n hi low high of_low of_high = record {
  subscribers_below = each_from_two {P = λ (row : SubscriberRow). IsWithin lo n row.s_id} {Q = λ (row : SubscriberRow). IsWithin lo n row.s_id} (λ row within same. let below = within.1 in omega arith) low.subscribers of_low.subscribers of_low.subscribers;
  access_below = each_from_two {P = λ (row : AccessInfoRow). IsWithin lo n row.s_id} {Q = λ (row : AccessInfoRow). access_in_range row ≡ true} (λ row within holds. let below = within.1 in let kind = (access_type row holds).below in omega arith) low.access of_low.access of_low.rules.access_in_range;
  facilities_below = each_from_two {P = λ (row : SpecialFacilityRow). IsWithin lo n row.s_id} {Q = λ (row : SpecialFacilityRow). facility_in_range row ≡ true} (λ row within holds. let below = within.1 in let kind = (facility_type row holds).below in omega arith) low.facilities of_low.facilities of_low.rules.facilities_in_range;
  forwardings_below = each_from_two {P = λ (row : CallForwardingRow). IsWithin lo n row.s_id} {Q = λ (row : CallForwardingRow). forwarding_in_range row ≡ true} (λ row within holds. let below = within.1 in let kind = (forwarding_type row holds).below in let start = (forwarding_ranges row holds).start_time_below in omega arith) low.forwardings of_low.forwardings of_low.rules.forwardings_in_range;
  subscribers_from = each_from_two {P = λ (row : SubscriberRow). IsWithin n hi row.s_id} {Q = λ (row : SubscriberRow). IsWithin n hi row.s_id} (λ row within same. key_from n row.s_id 0 0 within.0) high.subscribers of_high.subscribers of_high.subscribers;
  access_from = each_from_two {P = λ (row : AccessInfoRow). IsWithin n hi row.s_id} {Q = λ (row : AccessInfoRow). IsWithin n hi row.s_id} (λ row within same. key_from n row.s_id row.ai_type 0 within.0) high.access of_high.access of_high.access;
  facilities_from = each_from_two {P = λ (row : SpecialFacilityRow). IsWithin n hi row.s_id} {Q = λ (row : SpecialFacilityRow). IsWithin n hi row.s_id} (λ row within same. key_from n row.s_id row.sf_type 0 within.0) high.facilities of_high.facilities of_high.facilities;
  forwardings_from = each_from_two {P = λ (row : CallForwardingRow). IsWithin n hi row.s_id} {Q = λ (row : CallForwardingRow). IsWithin n hi row.s_id} (λ row within same. key_from n row.s_id row.sf_type row.start_time within.0) high.forwardings of_high.forwardings of_high.forwardings;
}

-- a subscriber below n has its rows in the low book
pub subscriber-low : (n : ℕ) (low high : Book) (s : ℕ) → Apart n low high → s < n → subscriber_at (join_books low high) s ≡ subscriber_at low s
subscriber-low n low high s parts under = row_at-low subscriber_key (n * 65536) (key_of s 0 0) low.subscribers high.subscribers parts.subscribers_from (omega arith)

pub facility-low : (n : ℕ) (low high : Book) (s t : ℕ) → Apart n low high → s < n → t < 256 → facility_at (join_books low high) s t ≡ facility_at low s t
facility-low n low high s t parts under kind = row_at-low facility_key (n * 65536) (key_of s t 0) low.facilities high.facilities parts.facilities_from (key_below n s t 0 kind (omega arith) under)

pub access-low : (n : ℕ) (low high : Book) (s t : ℕ) → Apart n low high → s < n → t < 256 → access_at (join_books low high) s t ≡ access_at low s t
access-low n low high s t parts under kind = row_at-low access_key (n * 65536) (key_of s t 0) low.access high.access parts.access_from (key_below n s t 0 kind (omega arith) under)

pub forwarding-low : (n : ℕ) (low high : Book) (s t u : ℕ) → Apart n low high → s < n → t < 256 → u < 256 → forwarding_at (join_books low high) s t u ≡ forwarding_at low s t u
forwarding-low n low high s t u parts under kind start = row_at-low forwarding_key (n * 65536) (key_of s t u) low.forwardings high.forwardings parts.forwardings_from (key_below n s t u kind start under)

-- a subscriber from n on has its rows in the high book
pub subscriber-high : (n : ℕ) (low high : Book) (s : ℕ) → Apart n low high → n ≤ s → subscriber_at (join_books low high) s ≡ subscriber_at high s
subscriber-high n low high s parts over = row_at-high subscriber_key (n * 65536) (key_of s 0 0) low.subscribers high.subscribers parts.subscribers_below (key_from n s 0 0 over)

pub facility-high : (n : ℕ) (low high : Book) (s t : ℕ) → Apart n low high → n ≤ s → facility_at (join_books low high) s t ≡ facility_at high s t
facility-high n low high s t parts over = row_at-high facility_key (n * 65536) (key_of s t 0) low.facilities high.facilities parts.facilities_below (key_from n s t 0 over)

pub access-high : (n : ℕ) (low high : Book) (s t : ℕ) → Apart n low high → n ≤ s → access_at (join_books low high) s t ≡ access_at high s t
access-high n low high s t parts over = row_at-high access_key (n * 65536) (key_of s t 0) low.access high.access parts.access_below (key_from n s t 0 over)

pub forwarding-high : (n : ℕ) (low high : Book) (s t u : ℕ) → Apart n low high → n ≤ s → forwarding_at (join_books low high) s t u ≡ forwarding_at high s t u
forwarding-high n low high s t u parts over = row_at-high forwarding_key (n * 65536) (key_of s t u) low.forwardings high.forwardings parts.forwardings_below (key_from n s t u over)

-- the forwardings of a subscriber on one side of n are not on the other
no_call : (s t a e : ℕ) (row : CallForwardingRow) → (row.s_id ≡ s → row.sf_type ≡ t → row.start_time ≤ a → ⊥) → takes_call s t a e row ≡ false
no_call s t a e row never = by_test (takes_call s t a e row)
    (λ takes. let halves = both (row.s_id == s && row.sf_type == t) (nat_le row.start_time a && nat_lt e row.end_time) takes in
    let own = both (row.s_id == s) (row.sf_type == t) halves.0 in
    let begun = (both (nat_le row.start_time a) (nat_lt e row.end_time) halves.1).0 in
    absurd (never (grind (arith, nat_tests)) (grind (arith, nat_tests)) (grind (arith, nat_tests))))
    (λ fails. fails)

destinations-low : (n : ℕ) (low high : Book) (s t a e : ℕ) → Apart n low high → s < n → t < 256 → a < 256 → destinations (join_books low high) s t a e ≡ destinations low s t a e
destinations-low n low high s t a e parts under kind small =
    ap (λ (o : Option SpecialFacilityRow). if has_active o then map number (filter (takes_call s t a e) (low.forwardings ++ high.forwardings)) else []) (facility-low n low high s t parts under kind)
    ∙ ap (λ (rows : List CallForwardingRow). if has_active (facility_at low s t) then map number rows else [])
    (filter-append (takes_call s t a e) low.forwardings high.forwardings ∙ ap (λ (rows : List CallForwardingRow). filter (takes_call s t a e) low.forwardings ++ rows) none ∙ append-nil (filter (takes_call s t a e) low.forwardings))
  where
    number : CallForwardingRow → ℕ
    number row = row.numberx

    none : filter (takes_call s t a e) high.forwardings ≡ []
    none = filter_none (takes_call s t a e) high.forwardings (each-weaker {P = λ (row : CallForwardingRow). n * 65536 ≤ forwarding_key row}
        (λ row from. no_call s t a e row (λ own own' begun. omega arith)) high.forwardings parts.forwardings_from)

destinations-high : (n : ℕ) (low high : Book) (s t a e : ℕ) → Apart n low high → n ≤ s → destinations (join_books low high) s t a e ≡ destinations high s t a e
destinations-high n low high s t a e parts over =
    ap (λ (o : Option SpecialFacilityRow). if has_active o then map number (filter (takes_call s t a e) (low.forwardings ++ high.forwardings)) else []) (facility-high n low high s t parts over)
    ∙ ap (λ (rows : List CallForwardingRow). if has_active (facility_at high s t) then map number rows else [])
    (filter-append (takes_call s t a e) low.forwardings high.forwardings ∙ ap (λ (rows : List CallForwardingRow). rows ++ filter (takes_call s t a e) high.forwardings) none)
  where
    number : CallForwardingRow → ℕ
    number row = row.numberx

    none : filter (takes_call s t a e) low.forwardings ≡ []
    none = filter_none (takes_call s t a e) low.forwardings (each-weaker {P = λ (row : CallForwardingRow). forwarding_key row < n * 65536}
        (λ row below. no_call s t a e row (λ own own' begun. omega arith)) low.forwardings parts.forwardings_below)

-- a type that is in range
kind_of : (s t : ℕ) → is_typed s t ≡ true → t < 256
kind_of s t typed =
    let kind = between_is 1 4 t (both (is_between 1 LAST_SUBSCRIBER s) (is_between 1 4 t) typed).1 in
    let to = kind.1 in omega arith

start_of : (u : ℕ) → is_start_time u ≡ true → u < 256
start_of u start = grind (arith, nat_tests)

kind_in : (row : CallForwardingRow) → forwarding_in_range row ≡ true → row.sf_type < 256
kind_in row holds = let kind = (forwarding_type row holds).below in omega arith

start_in : (row : CallForwardingRow) → forwarding_in_range row ≡ true → row.start_time < 256
start_in row holds = let start = (forwarding_ranges row holds).start_time_below in omega arith

access_kind : (row : AccessInfoRow) → access_in_range row ≡ true → row.ai_type < 256
access_kind row holds = let kind = (access_type row holds).below in omega arith

facility_kind : (row : SpecialFacilityRow) → facility_in_range row ≡ true → row.sf_type < 256
facility_kind row holds = let kind = (facility_type row holds).below in omega arith

-- an action on a subscriber below n
pub effect-low : (n : ℕ) (action : Action) (low high : Book) → Apart n low high → s_id_of action < n → is_in_range action ≡ true
    → effect action (join_books low high) ≡ ((effect action low).0, join_books (effect action low).1 high)
effect-low n (SubscriberData s) low high parts under in_range = rw (subscriber-low n low high s parts under) (read (subscriber_at low s))
  where
    read : (o : Option SubscriberRow) → subscriber_data (join_books low high) o ≡ ((subscriber_data low o).0, join_books (subscriber_data low o).1 high)
    read None = refl
    read (Some row) = refl
effect-low n (NewDestination s t a e) low high parts under in_range =
    let halves = both (is_typed s t) (is_start_time a && is_between 1 24 e) in_range in
    let start = (both (is_start_time a) (is_between 1 24 e) halves.1).0 in
    rw (destinations-low n low high s t a e parts under (kind_of s t halves.0) (start_of a start)) (read (destinations low s t a e))
  where
    read : (ns : List ℕ) → new_destination (join_books low high) ns ≡ ((new_destination low ns).0, join_books (new_destination low ns).1 high)
    read [] = refl
    read (n ∷ ns) = refl
effect-low n (AccessData s t) low high parts under in_range = rw (access-low n low high s t parts under (kind_of s t in_range)) (read (access_at low s t))
  where
    read : (o : Option AccessInfoRow) → access_data (join_books low high) o ≡ ((access_data low o).0, join_books (access_data low o).1 high)
    read None = refl
    read (Some row) = refl
effect-low n (UpdateSubscriber s t b d) low high parts under in_range = rw (subscriber-low n low high s parts under, facility-low n low high s t parts under (kind_of s t (both (is_typed s t) (is_between 0 1 b && is_between 0 255 d) in_range).0)) (updated (subscriber_at low s) (facility_at low s t))
  where
    updated : (o : Option SubscriberRow) (p : Option SpecialFacilityRow) → update_subscriber (join_books low high) s t b d o p ≡ ((update_subscriber low s t b d o p).0, join_books (update_subscriber low s t b d o p).1 high)
    updated None p = refl
    updated (Some row) None = refl
    updated (Some row) (Some facility) =
        rw (
          with_row_at-low subscriber_key (n * 65536) (key_of s 0 0) (record row { bits = set row.bits 0 b }) low.subscribers high.subscribers parts.subscribers_from (omega arith),
          with_row_at-low facility_key (n * 65536) (key_of s t 0) (record facility { data_a = d }) low.facilities high.facilities parts.facilities_from (key_below n s t 0 (kind_of s t (both (is_typed s t) (is_between 0 1 b && is_between 0 255 d) in_range).0) (omega arith) under),
        ) refl
effect-low n (UpdateLocation s v) low high parts under in_range = rw (subscriber-low n low high s parts under) (moved (subscriber_at low s))
  where
    moved : (o : Option SubscriberRow) → update_location (join_books low high) s v o ≡ ((update_location low s v o).0, join_books (update_location low s v o).1 high)
    moved None = refl
    moved (Some row) = rw (with_row_at-low subscriber_key (n * 65536) (key_of s 0 0) (record row { vlr_location = v }) low.subscribers high.subscribers parts.subscribers_from (omega arith)) refl
effect-low n (InsertForwarding row) low high parts under in_range = rw (facility-low n low high row.s_id row.sf_type parts under (kind_in row in_range), forwarding-low n low high row.s_id row.sf_type row.start_time parts under (kind_in row in_range) (start_in row in_range)) (added (facility_at low row.s_id row.sf_type) (forwarding_at low row.s_id row.sf_type row.start_time))
  where
    added : (o : Option SpecialFacilityRow) (p : Option CallForwardingRow) → insert_forwarding (join_books low high) row o p ≡ ((insert_forwarding low row o p).0, join_books (insert_forwarding low row o p).1 high)
    added None p = refl
    added (Some facility) None = rw (with_row-low forwarding_key (n * 65536) row low.forwardings high.forwardings parts.forwardings_from (key_below n row.s_id row.sf_type row.start_time (kind_in row in_range) (start_in row in_range) under)) refl
    added (Some facility) (Some other) = refl
effect-low n (DeleteForwarding s t u) low high parts under in_range = rw (forwarding-low n low high s t u parts under (kind_of s t (both (is_typed s t) (is_start_time u) in_range).0) (start_of u (both (is_typed s t) (is_start_time u) in_range).1)) (removed (forwarding_at low s t u))
  where
    removed : (o : Option CallForwardingRow) → delete_forwarding (join_books low high) s t u o ≡ ((delete_forwarding low s t u o).0, join_books (delete_forwarding low s t u o).1 high)
    removed None = refl
    removed (Some row) = rw (without_row-low forwarding_key (n * 65536) (key_of s t u) low.forwardings high.forwardings parts.forwardings_from (key_below n s t u (kind_of s t (both (is_typed s t) (is_start_time u) in_range).0) (start_of u (both (is_typed s t) (is_start_time u) in_range).1) under)) refl
effect-low n (AddSubscriber row) low high parts under in_range = rw (subscriber-low n low high row.s_id parts under) (added (subscriber_at low row.s_id))
  where
    added : (o : Option SubscriberRow) → add_subscriber (join_books low high) row o ≡ ((add_subscriber low row o).0, join_books (add_subscriber low row o).1 high)
    added None = rw (with_row-low subscriber_key (n * 65536) row low.subscribers high.subscribers parts.subscribers_from (omega arith)) refl
    added (Some other) = refl
effect-low n (AddAccess row) low high parts under in_range = rw (subscriber-low n low high row.s_id parts under, access-low n low high row.s_id row.ai_type parts under (access_kind row in_range)) (added (subscriber_at low row.s_id) (access_at low row.s_id row.ai_type))
  where
    added : (o : Option SubscriberRow) (p : Option AccessInfoRow) → add_access (join_books low high) row o p ≡ ((add_access low row o p).0, join_books (add_access low row o p).1 high)
    added None p = refl
    added (Some subscriber) None = rw (with_row-low access_key (n * 65536) row low.access high.access parts.access_from (key_below n row.s_id row.ai_type 0 (access_kind row in_range) (omega arith) under)) refl
    added (Some subscriber) (Some other) = refl
effect-low n (AddFacility row) low high parts under in_range = rw (subscriber-low n low high row.s_id parts under, facility-low n low high row.s_id row.sf_type parts under (facility_kind row in_range)) (added (subscriber_at low row.s_id) (facility_at low row.s_id row.sf_type))
  where
    added : (o : Option SubscriberRow) (p : Option SpecialFacilityRow) → add_facility (join_books low high) row o p ≡ ((add_facility low row o p).0, join_books (add_facility low row o p).1 high)
    added None p = refl
    added (Some subscriber) None = rw (with_row-low facility_key (n * 65536) row low.facilities high.facilities parts.facilities_from (key_below n row.s_id row.sf_type 0 (facility_kind row in_range) (omega arith) under)) refl
    added (Some subscriber) (Some other) = refl
effect-low n (SetActive s t v) low high parts under in_range = rw (facility-low n low high s t parts under (kind_of s t (both (is_typed s t) (is_between 0 1 v) in_range).0)) (switched (facility_at low s t))
  where
    switched : (o : Option SpecialFacilityRow) → set_active (join_books low high) s t v o ≡ ((set_active low s t v o).0, join_books (set_active low s t v o).1 high)
    switched None = refl
    switched (Some row) = rw (with_row_at-low facility_key (n * 65536) (key_of s t 0) (record row { is_active = v }) low.facilities high.facilities parts.facilities_from (key_below n s t 0 (kind_of s t (both (is_typed s t) (is_between 0 1 v) in_range).0) (omega arith) under)) refl
effect-low n (SetNumber s m) low high parts under in_range = rw (subscriber-low n low high s parts under) (renumbered (subscriber_at low s))
  where
    renumbered : (o : Option SubscriberRow) → set_number (join_books low high) s m o ≡ ((set_number low s m o).0, join_books (set_number low s m o).1 high)
    renumbered None = refl
    renumbered (Some row) = rw (with_row_at-low subscriber_key (n * 65536) (key_of s 0 0) (record row { sub_nbr = m }) low.subscribers high.subscribers parts.subscribers_from (omega arith)) refl

-- an action on a subscriber from n on
pub effect-high : (n : ℕ) (action : Action) (low high : Book) → Apart n low high → n ≤ s_id_of action
    → effect action (join_books low high) ≡ ((effect action high).0, join_books low (effect action high).1)
effect-high n (SubscriberData s) low high parts over = rw (subscriber-high n low high s parts over) (read (subscriber_at high s))
  where
    read : (o : Option SubscriberRow) → subscriber_data (join_books low high) o ≡ ((subscriber_data high o).0, join_books low (subscriber_data high o).1)
    read None = refl
    read (Some row) = refl
effect-high n (NewDestination s t a e) low high parts over = rw (destinations-high n low high s t a e parts over) (read (destinations high s t a e))
  where
    read : (ns : List ℕ) → new_destination (join_books low high) ns ≡ ((new_destination high ns).0, join_books low (new_destination high ns).1)
    read [] = refl
    read (n ∷ ns) = refl
effect-high n (AccessData s t) low high parts over = rw (access-high n low high s t parts over) (read (access_at high s t))
  where
    read : (o : Option AccessInfoRow) → access_data (join_books low high) o ≡ ((access_data high o).0, join_books low (access_data high o).1)
    read None = refl
    read (Some row) = refl
effect-high n (UpdateSubscriber s t b d) low high parts over = rw (subscriber-high n low high s parts over, facility-high n low high s t parts over) (updated (subscriber_at high s) (facility_at high s t))
  where
    updated : (o : Option SubscriberRow) (p : Option SpecialFacilityRow) → update_subscriber (join_books low high) s t b d o p ≡ ((update_subscriber high s t b d o p).0, join_books low (update_subscriber high s t b d o p).1)
    updated None p = refl
    updated (Some row) None = refl
    updated (Some row) (Some facility) =
        rw (
          with_row_at-high subscriber_key (n * 65536) (key_of s 0 0) (record row { bits = set row.bits 0 b }) low.subscribers high.subscribers parts.subscribers_below (key_from n s 0 0 over),
          with_row_at-high facility_key (n * 65536) (key_of s t 0) (record facility { data_a = d }) low.facilities high.facilities parts.facilities_below (key_from n s t 0 over),
        ) refl
effect-high n (UpdateLocation s v) low high parts over = rw (subscriber-high n low high s parts over) (moved (subscriber_at high s))
  where
    moved : (o : Option SubscriberRow) → update_location (join_books low high) s v o ≡ ((update_location high s v o).0, join_books low (update_location high s v o).1)
    moved None = refl
    moved (Some row) = rw (with_row_at-high subscriber_key (n * 65536) (key_of s 0 0) (record row { vlr_location = v }) low.subscribers high.subscribers parts.subscribers_below (key_from n s 0 0 over)) refl
effect-high n (InsertForwarding row) low high parts over = rw (facility-high n low high row.s_id row.sf_type parts over, forwarding-high n low high row.s_id row.sf_type row.start_time parts over) (added (facility_at high row.s_id row.sf_type) (forwarding_at high row.s_id row.sf_type row.start_time))
  where
    added : (o : Option SpecialFacilityRow) (p : Option CallForwardingRow) → insert_forwarding (join_books low high) row o p ≡ ((insert_forwarding high row o p).0, join_books low (insert_forwarding high row o p).1)
    added None p = refl
    added (Some facility) None = rw (with_row-high forwarding_key (n * 65536) row low.forwardings high.forwardings parts.forwardings_below (key_from n row.s_id row.sf_type row.start_time over)) refl
    added (Some facility) (Some other) = refl
effect-high n (DeleteForwarding s t u) low high parts over = rw (forwarding-high n low high s t u parts over) (removed (forwarding_at high s t u))
  where
    removed : (o : Option CallForwardingRow) → delete_forwarding (join_books low high) s t u o ≡ ((delete_forwarding high s t u o).0, join_books low (delete_forwarding high s t u o).1)
    removed None = refl
    removed (Some row) = rw (without_row-high forwarding_key (n * 65536) (key_of s t u) low.forwardings high.forwardings parts.forwardings_below (key_from n s t u over)) refl
effect-high n (AddSubscriber row) low high parts over = rw (subscriber-high n low high row.s_id parts over) (added (subscriber_at high row.s_id))
  where
    added : (o : Option SubscriberRow) → add_subscriber (join_books low high) row o ≡ ((add_subscriber high row o).0, join_books low (add_subscriber high row o).1)
    added None = rw (with_row-high subscriber_key (n * 65536) row low.subscribers high.subscribers parts.subscribers_below (key_from n row.s_id 0 0 over)) refl
    added (Some other) = refl
effect-high n (AddAccess row) low high parts over = rw (subscriber-high n low high row.s_id parts over, access-high n low high row.s_id row.ai_type parts over) (added (subscriber_at high row.s_id) (access_at high row.s_id row.ai_type))
  where
    added : (o : Option SubscriberRow) (p : Option AccessInfoRow) → add_access (join_books low high) row o p ≡ ((add_access high row o p).0, join_books low (add_access high row o p).1)
    added None p = refl
    added (Some subscriber) None = rw (with_row-high access_key (n * 65536) row low.access high.access parts.access_below (key_from n row.s_id row.ai_type 0 over)) refl
    added (Some subscriber) (Some other) = refl
effect-high n (AddFacility row) low high parts over = rw (subscriber-high n low high row.s_id parts over, facility-high n low high row.s_id row.sf_type parts over) (added (subscriber_at high row.s_id) (facility_at high row.s_id row.sf_type))
  where
    added : (o : Option SubscriberRow) (p : Option SpecialFacilityRow) → add_facility (join_books low high) row o p ≡ ((add_facility high row o p).0, join_books low (add_facility high row o p).1)
    added None p = refl
    added (Some subscriber) None = rw (with_row-high facility_key (n * 65536) row low.facilities high.facilities parts.facilities_below (key_from n row.s_id row.sf_type 0 over)) refl
    added (Some subscriber) (Some other) = refl
effect-high n (SetActive s t v) low high parts over = rw (facility-high n low high s t parts over) (switched (facility_at high s t))
  where
    switched : (o : Option SpecialFacilityRow) → set_active (join_books low high) s t v o ≡ ((set_active high s t v o).0, join_books low (set_active high s t v o).1)
    switched None = refl
    switched (Some row) = rw (with_row_at-high facility_key (n * 65536) (key_of s t 0) (record row { is_active = v }) low.facilities high.facilities parts.facilities_below (key_from n s t 0 over)) refl
effect-high n (SetNumber s m) low high parts over = rw (subscriber-high n low high s parts over) (renumbered (subscriber_at high s))
  where
    renumbered : (o : Option SubscriberRow) → set_number (join_books low high) s m o ≡ ((set_number high s m o).0, join_books low (set_number high s m o).1)
    renumbered None = refl
    renumbered (Some row) = rw (with_row_at-high subscriber_key (n * 65536) (key_of s 0 0) (record row { sub_nbr = m }) low.subscribers high.subscribers parts.subscribers_below (key_from n s 0 0 over)) refl

-- a right outcome on one of the books is a right outcome on their join
pub outcome-low : (n : ℕ) (action : Action) (low high after : Book) (answer : RowReply) → Apart n low high → s_id_of action < n
    → IsOutcome action low answer after → IsOutcome action (join_books low high) answer (join_books after high)
outcome-low n action low high after answer parts under (inl (out, field, same)) = inl (out, field, ap (λ (book : Book). join_books book high) same)
outcome-low n action low high after answer parts under (inr (inl (in_range, done))) =
    inr (inl (in_range, ap (λ (p : RowReply × Book). (p.0, join_books p.1 high)) done ∙ sym (effect-low n action low high parts under in_range)))
outcome-low n action low high after answer parts under (inr (inr (in_range, adds, done, memory, same))) =
    inr (inr (in_range, adds, ap (λ (p : RowReply × Book). p.0) (effect-low n action low high parts under in_range) ∙ done, memory, ap (λ (book : Book). join_books book high) same))

pub outcome-high : (n : ℕ) (action : Action) (low high after : Book) (answer : RowReply) → Apart n low high → n ≤ s_id_of action
    → IsOutcome action high answer after → IsOutcome action (join_books low high) answer (join_books low after)
outcome-high n action low high after answer parts over (inl (out, field, same)) = inl (out, field, ap (λ (book : Book). join_books low book) same)
outcome-high n action low high after answer parts over (inr (inl (in_range, done))) =
    inr (inl (in_range, ap (λ (p : RowReply × Book). (p.0, join_books low p.1)) done ∙ sym (effect-high n action low high parts over)))
outcome-high n action low high after answer parts over (inr (inr (in_range, adds, done, memory, same))) =
    inr (inr (in_range, adds, ap (λ (p : RowReply × Book). p.0) (effect-high n action low high parts over) ∙ done, memory, ap (λ (book : Book). join_books low book) same))
