-- The counts of the cells after a change of a table.
use Rattle.tatp_actions.proofs.Common.{◌≡◌, ◌≢◌, ℕ, ◌+◌, ◌-◌, ◌<◌, ◌==◌, ◌&&◌, refl, arith, Bool, true, false, List, [], nat_lt, Some, None, IsSome, subst, ℤ, pos, ◌+ℤ◌, count_by, nat_tests, ints, sum_by, by_test, each-weaker, sum_by-same, sum_by-with_row_at, sum_by-with_row, sum_by-without_row, row_at-with_row_other, key_of, subscriber_key, access_key, facility_key, forwarding_key, row_at, with_row_at, with_row, without_row, SubscriberRow, AccessInfoRow, SpecialFacilityRow, CallForwardingRow, zone_of, area_of, Book, IsBook, subscriber_at, facility_at, forwarding_at, put_subscriber, more_access, more_facilities, more_forwardings, without_forwarding, covers, has_active_facility, change_at, IsChange, area_moved, subscriber_added, row_moved, AreForwardingNotes, FIRST_AREA, FIRST_ZONE}
use Rattle.tatp_actions.specs.Cell.{active_forwardings, in_area, in_zone}
use Rattle.tatp_actions.proofs.HourLemmas.{forwarding_notes-hour, forwarding_notes-area, forwarding_notes-zone}
use Rattle.tatp_actions.proofs.ChangeLemmas.{Moved, moved_by_one, not_moved, row_moved-low, row_moved-zone, one, area_moved-low, area_moved-area, area_moved-zone, subscriber_added-low, subscriber_added-area, subscriber_added-zone}

-- how many of the subscribers are in an area, and in a zone
abbrev pub area_count : ℕ → List SubscriberRow → ℕ
area_count a rows = count_by (λ (row : SubscriberRow). area_of row.vlr_location == a) rows

abbrev pub zone_count : ℕ → ℕ → List SubscriberRow → ℕ
zone_count width z rows = count_by (λ (row : SubscriberRow). zone_of width row.s_id == z) rows

-- a book with other subscribers, by its three kinds of cells
pub active-subscribers : (hour : ℕ) (book : Book) (rows : List SubscriberRow) → active_forwardings hour (record book { subscribers = rows }) ≡ active_forwardings hour book
unfolding active_forwardings
active-subscribers hour book rows = refl

pub area-subscribers : (a : ℕ) (book : Book) (rows : List SubscriberRow) → in_area a (record book { subscribers = rows }) ≡ area_count a rows
unfolding in_area
area-subscribers a book rows = refl

pub area-own : (a : ℕ) (book : Book) → in_area a book ≡ area_count a book.subscribers
unfolding in_area
area-own a book = refl

pub zone-subscribers : (width z : ℕ) (book : Book) (rows : List SubscriberRow) → in_zone width z (record book { subscribers = rows }) + zone_count width z book.subscribers ≡ in_zone width z book + zone_count width z rows
unfolding in_zone
zone-subscribers width z book rows = omega arith

-- notes that are right for the three kinds of cells are the exact change of the subscribers
pub change_of_subscribers : (width : ℕ) (book : Book) (rows : List SubscriberRow) (notes : List (ℕ × ℤ))
    → ((c : ℕ) → c < FIRST_AREA → change_at notes c ≡ pos 0)
    → ((a : ℕ) → a < 16 → pos (area_count a rows) ≡ pos (area_count a book.subscribers) +ℤ change_at notes (FIRST_AREA + a))
    → ((z : ℕ) → pos (zone_count width z rows) ≡ pos (zone_count width z book.subscribers) +ℤ change_at notes (FIRST_ZONE + z))
    → IsChange width book (record book { subscribers = rows }) notes
change_of_subscribers width book rows notes low areas zones c within =
    by_test (nat_lt c FIRST_AREA)
    (λ e. let small : c < FIRST_AREA = grind (arith, nat_tests) in
    rw (e, active-subscribers c book rows, low c small) (omega (arith, ints)))
    (λ e. by_test (nat_lt c FIRST_ZONE)
    (λ f. let is : FIRST_AREA + (c - FIRST_AREA) ≡ c = grind (arith, nat_tests) in
    let small : c - FIRST_AREA < 16 = grind (arith, nat_tests) in
    let here = subst (λ (k : ℕ). pos (area_count (c - FIRST_AREA) rows) ≡ pos (area_count (c - FIRST_AREA) book.subscribers) +ℤ change_at notes k) is (areas (c - FIRST_AREA) small) in
    rw (e, f, area-subscribers (c - FIRST_AREA) book rows, area-own (c - FIRST_AREA) book) here)
    (λ f. let is : FIRST_ZONE + (c - FIRST_ZONE) ≡ c = grind (arith, nat_tests) in
    let here = subst (λ (k : ℕ). pos (zone_count width (c - FIRST_ZONE) rows) ≡ pos (zone_count width (c - FIRST_ZONE) book.subscribers) +ℤ change_at notes k) is (zones (c - FIRST_ZONE)) in
    rw (e, f) (let counts = zone-subscribers width (c - FIRST_ZONE) book rows in omega (arith, ints))))

-- a location moves: the exact change
pub change_of_move : (width : ℕ) (book : Book) (s_id : ℕ) (row new : SubscriberRow) → subscriber_at book s_id ≡ Some row → new.s_id ≡ row.s_id
    → area_of row.vlr_location < 16 → area_of new.vlr_location < 16
    → IsChange width book (record book { subscribers = with_row_at subscriber_key (key_of s_id 0 0) new book.subscribers }) (area_moved (area_of row.vlr_location) (area_of new.vlr_location))
change_of_move width book s_id row new found same small small' =
    change_of_subscribers width book (with_row_at subscriber_key (key_of s_id 0 0) new book.subscribers) (area_moved (area_of row.vlr_location) (area_of new.vlr_location))
    (λ c low. area_moved-low (area_of row.vlr_location) (area_of new.vlr_location) c low)
    (λ a below. area_moved-area (area_of row.vlr_location) (area_of new.vlr_location) a _ _
    (sum_by-with_row_at subscriber_key (λ (x : SubscriberRow). one (area_of x.vlr_location == a)) (key_of s_id 0 0) row new book.subscribers found))
    (λ z. let counts = sum_by-with_row_at subscriber_key (λ (x : SubscriberRow). one (zone_of width x.s_id == z)) (key_of s_id 0 0) row new book.subscribers found in
    let counts' = subst (λ (s : ℕ). zone_count width z (with_row_at subscriber_key (key_of s_id 0 0) new book.subscribers) + one (zone_of width row.s_id == z) ≡ zone_count width z book.subscribers + one (zone_of width s == z)) same counts in
    rw (area_moved-zone (area_of row.vlr_location) (area_of new.vlr_location) z small small') (omega (arith, ints)))

-- a subscriber is added: the exact change
pub change_of_addition : (width : ℕ) (book : Book) (row : SubscriberRow) → area_of row.vlr_location < 16
    → IsChange width book (record book { subscribers = with_row subscriber_key row book.subscribers }) (subscriber_added (area_of row.vlr_location) (zone_of width row.s_id))
change_of_addition width book row small =
    change_of_subscribers width book (with_row subscriber_key row book.subscribers) (subscriber_added (area_of row.vlr_location) (zone_of width row.s_id))
    (λ c low. subscriber_added-low (area_of row.vlr_location) (zone_of width row.s_id) c low)
    (λ a below. subscriber_added-area (area_of row.vlr_location) (zone_of width row.s_id) a _ _ below
    (sum_by-with_row subscriber_key (λ (x : SubscriberRow). one (area_of x.vlr_location == a)) row book.subscribers))
    (λ z. subscriber_added-zone (area_of row.vlr_location) (zone_of width row.s_id) z _ _ small
    (sum_by-with_row subscriber_key (λ (x : SubscriberRow). one (zone_of width x.s_id == z)) row book.subscribers))

-- notes that are right for the three kinds of cells are the exact change
pub change_by_kinds : (width : ℕ) (before after : Book) (notes : List (ℕ × ℤ))
    → ((c : ℕ) → c < FIRST_AREA → pos (active_forwardings c after) ≡ pos (active_forwardings c before) +ℤ change_at notes c)
    → ((a : ℕ) → a < 16 → pos (in_area a after) ≡ pos (in_area a before) +ℤ change_at notes (FIRST_AREA + a))
    → ((z : ℕ) → pos (in_zone width z after) ≡ pos (in_zone width z before) +ℤ change_at notes (FIRST_ZONE + z))
    → IsChange width before after notes
change_by_kinds width before after notes low areas zones c within =
    by_test (nat_lt c FIRST_AREA)
    (λ e. let small : c < FIRST_AREA = grind (arith, nat_tests) in rw e (low c small))
    (λ e. by_test (nat_lt c FIRST_ZONE)
    (λ f. let is : FIRST_AREA + (c - FIRST_AREA) ≡ c = grind (arith, nat_tests) in
    let small : c - FIRST_AREA < 16 = grind (arith, nat_tests) in
    let here = subst (λ (k : ℕ). pos (in_area (c - FIRST_AREA) after) ≡ pos (in_area (c - FIRST_AREA) before) +ℤ change_at notes k) is (areas (c - FIRST_AREA) small) in
    rw (e, f) here)
    (λ f. let is : FIRST_ZONE + (c - FIRST_ZONE) ≡ c = grind (arith, nat_tests) in
    let here = subst (λ (k : ℕ). pos (in_zone width (c - FIRST_ZONE) after) ≡ pos (in_zone width (c - FIRST_ZONE) before) +ℤ change_at notes k) is (zones (c - FIRST_ZONE)) in
    rw (e, f) here))

-- a book with other rows in one of the other tables
active-access : (hour : ℕ) (book : Book) (rows : List AccessInfoRow) → active_forwardings hour (record book { access = rows }) ≡ active_forwardings hour book
unfolding active_forwardings
active-access hour book rows = refl

area-access : (a : ℕ) (book : Book) (rows : List AccessInfoRow) → in_area a (record book { access = rows }) ≡ in_area a book
unfolding in_area
area-access a book rows = refl

zone_moved-access : (up : Bool) (width z : ℕ) (book : Book) (rows : List AccessInfoRow) (n : ℕ)
    → Moved up (count_by (λ (row : AccessInfoRow). zone_of width row.s_id == z) rows) (count_by (λ (row : AccessInfoRow). zone_of width row.s_id == z) book.access) n
    → Moved up (in_zone width z (record book { access = rows })) (in_zone width z book) n
unfolding in_zone
zone_moved-access true width z book rows n moved = omega arith
zone_moved-access false width z book rows n moved = omega arith

pub area-facilities : (a : ℕ) (book : Book) (rows : List SpecialFacilityRow) → in_area a (record book { facilities = rows }) ≡ in_area a book
unfolding in_area
area-facilities a book rows = refl

zone_moved-facilities : (up : Bool) (width z : ℕ) (book : Book) (rows : List SpecialFacilityRow) (n : ℕ)
    → Moved up (count_by (λ (row : SpecialFacilityRow). zone_of width row.s_id == z) rows) (count_by (λ (row : SpecialFacilityRow). zone_of width row.s_id == z) book.facilities) n
    → Moved up (in_zone width z (record book { facilities = rows })) (in_zone width z book) n
unfolding in_zone
zone_moved-facilities true width z book rows n moved = omega arith
zone_moved-facilities false width z book rows n moved = omega arith

active_moved-forwardings : (up : Bool) (hour : ℕ) (book : Book) (rows : List CallForwardingRow) (n : ℕ)
    → Moved up (count_by (λ (row : CallForwardingRow). covers row hour && has_active_facility book row) rows) (count_by (λ (row : CallForwardingRow). covers row hour && has_active_facility book row) book.forwardings) n
    → Moved up (active_forwardings hour (record book { forwardings = rows })) (active_forwardings hour book) n
unfolding active_forwardings
active_moved-forwardings up hour book rows n moved = moved

area-forwardings : (a : ℕ) (book : Book) (rows : List CallForwardingRow) → in_area a (record book { forwardings = rows }) ≡ in_area a book
unfolding in_area
area-forwardings a book rows = refl

zone_moved-forwardings : (up : Bool) (width z : ℕ) (book : Book) (rows : List CallForwardingRow) (n : ℕ)
    → Moved up (count_by (λ (row : CallForwardingRow). zone_of width row.s_id == z) rows) (count_by (λ (row : CallForwardingRow). zone_of width row.s_id == z) book.forwardings) n
    → Moved up (in_zone width z (record book { forwardings = rows })) (in_zone width z book) n
unfolding in_zone
zone_moved-forwardings true width z book rows n moved = omega arith
zone_moved-forwardings false width z book rows n moved = omega arith

-- an access is added: the exact change
pub change_of_access : (width : ℕ) (book : Book) (row : AccessInfoRow) → IsChange width book (more_access book row) (row_moved true (zone_of width row.s_id))
change_of_access width book row =
    change_by_kinds width book (more_access book row) (row_moved true (zone_of width row.s_id))
    (λ c low. rw (active-access c book (with_row access_key row book.access), row_moved-low true (zone_of width row.s_id) c (omega arith)) (not_moved _ _ refl))
    (λ a below. rw (area-access a book (with_row access_key row book.access), row_moved-low true (zone_of width row.s_id) (FIRST_AREA + a) (omega arith)) (not_moved _ _ refl))
    (λ z. rw (row_moved-zone true (zone_of width row.s_id) z) (moved_by_one true (zone_of width row.s_id == z) _ _
    (zone_moved-access true width z book (with_row access_key row book.access) _ (sum_by-with_row access_key (λ (x : AccessInfoRow). one (zone_of width x.s_id == z)) row book.access))))

-- no forwarding has a facility that is new
active-more_facilities : (hour : ℕ) (book : Book) (row : SpecialFacilityRow) → IsBook book → facility_at book row.s_id row.sf_type ≡ None
    → active_forwardings hour (more_facilities book row) ≡ active_forwardings hour book
unfolding active_forwardings
active-more_facilities hour book row rules absent =
    sum_by-same (λ (r : CallForwardingRow). one (covers r hour && has_active_facility (more_facilities book row) r)) (λ (r : CallForwardingRow). one (covers r hour && has_active_facility book r)) book.forwardings
    (each-weaker {P = λ (r : CallForwardingRow). IsSome (facility_at book r.s_id r.sf_type)}
    (λ r some. rw (row_at-with_row_other facility_key (key_of r.s_id r.sf_type 0) (facility_key row) row book.facilities refl (other (key_of r.s_id r.sf_type 0) some)) refl)
    book.forwardings rules.forwardings_have_facility)
  where
    other : (k : ℕ) → IsSome (row_at facility_key k book.facilities) → k ≢ facility_key row
    other k some same =
        let some' = subst (λ (j : ℕ). IsSome (row_at facility_key j book.facilities)) same some in
        let no : false ≡ true = rw absent at some' in absurd cc

-- a facility is added: the exact change
pub change_of_facility : (width : ℕ) (book : Book) (row : SpecialFacilityRow) → IsBook book → facility_at book row.s_id row.sf_type ≡ None
    → IsChange width book (more_facilities book row) (row_moved true (zone_of width row.s_id))
change_of_facility width book row rules absent =
    change_by_kinds width book (more_facilities book row) (row_moved true (zone_of width row.s_id))
    (λ c low. rw (active-more_facilities c book row rules absent, row_moved-low true (zone_of width row.s_id) c (omega arith)) (not_moved _ _ refl))
    (λ a below. rw (area-facilities a book (with_row facility_key row book.facilities), row_moved-low true (zone_of width row.s_id) (FIRST_AREA + a) (omega arith)) (not_moved _ _ refl))
    (λ z. rw (row_moved-zone true (zone_of width row.s_id) z) (moved_by_one true (zone_of width row.s_id == z) _ _
    (zone_moved-facilities true width z book (with_row facility_key row book.facilities) _ (sum_by-with_row facility_key (λ (x : SpecialFacilityRow). one (zone_of width x.s_id == z)) row book.facilities))))

-- a forwarding comes or goes: the exact change
change_of_forwardings : (up : Bool) (width : ℕ) (book : Book) (rows : List CallForwardingRow) (row : CallForwardingRow) (active : Bool) (notes : List (ℕ × ℤ))
    → ((f : CallForwardingRow → ℕ) → Moved up (sum_by f rows) (sum_by f book.forwardings) (f row))
    → active ≡ has_active_facility book row → AreForwardingNotes up active row (zone_of width row.s_id) notes
    → IsChange width book (record book { forwardings = rows }) notes
change_of_forwardings up width book rows row active notes moved is are =
    change_by_kinds width book (record book { forwardings = rows }) notes
    (λ c low. rw (forwarding_notes-hour up active row (zone_of width row.s_id) c notes are low, is)
    (moved_by_one up (covers row c && has_active_facility book row) _ _ (active_moved-forwardings up c book rows _ (moved (λ (x : CallForwardingRow). one (covers x c && has_active_facility book x))))))
    (λ a below. rw (area-forwardings a book rows, forwarding_notes-area up active row (zone_of width row.s_id) a notes are below) (not_moved _ _ refl))
    (λ z. rw (forwarding_notes-zone up active row (zone_of width row.s_id) z notes are)
    (moved_by_one up (zone_of width row.s_id == z) _ _ (zone_moved-forwardings up width z book rows _ (moved (λ (x : CallForwardingRow). one (zone_of width x.s_id == z))))))

pub change_of_insertion : (width : ℕ) (book : Book) (row : CallForwardingRow) (active : Bool) (notes : List (ℕ × ℤ)) → active ≡ has_active_facility book row
    → AreForwardingNotes true active row (zone_of width row.s_id) notes → IsChange width book (more_forwardings book row) notes
change_of_insertion width book row active notes is are =
    change_of_forwardings true width book (with_row forwarding_key row book.forwardings) row active notes (λ f. sum_by-with_row forwarding_key f row book.forwardings) is are

pub change_of_deletion : (width : ℕ) (book : Book) (s t u : ℕ) (row : CallForwardingRow) (active : Bool) (notes : List (ℕ × ℤ)) → forwarding_at book s t u ≡ Some row → active ≡ has_active_facility book row
    → AreForwardingNotes false active row (zone_of width row.s_id) notes → IsChange width book (without_forwarding book s t u) notes
change_of_deletion width book s t u row active notes found is are =
    change_of_forwardings false width book (without_row forwarding_key (key_of s t u) book.forwardings) row active notes (λ f. sum_by-without_row forwarding_key f (key_of s t u) row book.forwardings found) is are

-- a subscriber that stays in its area: nothing moves
pub change_of_put_subscriber : (width : ℕ) (book : Book) (s_id : ℕ) (row new : SubscriberRow) → subscriber_at book s_id ≡ Some row → new.s_id ≡ row.s_id → new.vlr_location ≡ row.vlr_location
    → area_of row.vlr_location < 16 → IsChange width book (put_subscriber book s_id new) []
change_of_put_subscriber width book s_id row new found same there small =
    subst (λ (notes : List (ℕ × ℤ)). IsChange width book (put_subscriber book s_id new) notes) none
    (change_of_move width book s_id row new found same small (rw there small))
  where
    none : area_moved (area_of row.vlr_location) (area_of new.vlr_location) ≡ []
    none = let e : (area_of row.vlr_location == area_of row.vlr_location) ≡ true = grind (arith, nat_tests) in rw (there, e) refl

-- two changes that move nothing
pub change_twice : (width : ℕ) (a b c : Book) → IsChange width a b [] → IsChange width b c [] → IsChange width a c []
change_twice width a b c first second cell within = let one = first cell within in let two = second cell within in omega (arith, ints)
