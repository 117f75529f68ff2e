-- What the administrative actions do to a part.
use Rattle.tatp_actions.proofs.Common.{◌≡◌, refl, sym, ◌∙◌, ap, subst, ℕ, ◌<◌, ◌≤◌, ◌+◌, arith, Bool, true, false, List, [], Option, Some, None, IfSome, if◌then◌else◌, ℤ, ◌==◌, not, is_some, nat_tests, by_test, each_found, with_row_at_same, both_from, between_is, between_from, number_test, subscriber_ranges, facility_ranges, key_of, facility_key, SubscriberRow, AccessInfoRow, SpecialFacilityRow, is_between, subscriber_in_range, access_in_range, facility_in_range, zone_of, area_of, is_in_range, Book, IsWithin, subscriber_at, access_at, facility_at, forwarding_at, put_subscriber, put_facility, more_subscribers, more_access, more_facilities, IsChange, PartState, IsPart, Acts, subscriber_added, row_moved, AreHours, span_amount, until, asked_once, changed_once, changed_to, subscriber_revised, facility_revised, once_more, AddSubscriber, AddAccess, AddFacility, SetActive, SetNumber, FIRST_AREA, Spans, SwapActive}
use mathlib.Core.Bool.{beq}
use Rattle.tatp_actions.specs.declared.action.RowReply.TheVariants as reply
use Rattle.tatp_actions.proofs.ActsLemmas.{acts_done, no_change, few_1, few_2, few_3, is_subscriber, is_typed_from, none_from, area_below, area_found}
use Rattle.tatp_actions.proofs.BookLemmas.{facility_found}
use Rattle.tatp_actions.proofs.ActiveLemmas.{change_of_switch}
use Rattle.tatp_actions.proofs.RevisedLemmas.{revised_after, refitted_after}
use Rattle.tatp_actions.proofs.CellLemmas.{change_of_addition, change_of_access, change_of_facility, change_of_put_subscriber}

-- SetNumber
number_in_range : (before : PartState) (s n : ℕ) → IsPart before → IsWithin before.lo before.hi s → n < 1000000000000000 → is_in_range (SetNumber s n) ≡ true
number_in_range before s n rules within small = both_from _ _ (is_subscriber before s rules within) (number_test n small)

pub number_set : (before after : PartState) (s n : ℕ) (o : Option SubscriberRow) → IsPart before → IsWithin before.lo before.hi s → n < 1000000000000000
    → subscriber_at before.book s ≡ o → true ≡ is_some o
    → after ≡ changed_to before (subscriber_revised before.book s (λ row. record row { sub_nbr = n })) after
    → after.asked ≤ before.asked + 2
    → Acts (SetNumber s n) before reply.Done [] after
number_set before after s n None rules within small is some kept few = absurd cc
number_set before after s n (Some row) rules within small is some kept few =
    acts_done (SetNumber s n) before after [] (put_subscriber before.book s (record row { sub_nbr = n })) after.asked
    (revised_after before after s (λ row. record row { sub_nbr = n }) row is kept) (omega arith) (number_in_range before s n rules within small)
    (rw is refl)
    (change_of_put_subscriber before.width before.book s row (record row { sub_nbr = n }) is refl refl (area_found before.book s row rules.rows.rules is))

-- AddSubscriber
pub subscriber_is_added : (before after : PartState) (s zone v : ℕ) (row : SubscriberRow) (notes : List (ℕ × ℤ)) → s ≡ row.s_id → subscriber_in_range row ≡ true
    → (is_some (subscriber_at before.book row.s_id) ≡ false) × (after.book ≡ more_subscribers before.book row)
    → after ≡ changed_once before after.book after.heights
    → zone ≡ zone_of after.width s → v ≡ row.vlr_location → notes ≡ subscriber_added (area_of v) zone
    → Acts (AddSubscriber row) before reply.Done notes after
subscriber_is_added before after s zone v row notes own in_range added kept zoned located noted =
    acts_done (AddSubscriber row) before after notes (more_subscribers before.book row) (once_more before.asked)
    (kept ∙ ap (λ (b : Book). changed_once before b after.heights) added.1) (few_1 before.asked) in_range
    (rw (none_from (subscriber_at before.book row.s_id) added.0) refl)
    (subst (λ (ns : List (ℕ × ℤ)). IsChange before.width before.book (more_subscribers before.book row) ns) (sym noted_so)
    (change_of_addition before.width before.book row (area_below row.vlr_location (subscriber_ranges row in_range).vlr_location_below)))
  where
    noted_so : notes ≡ subscriber_added (area_of row.vlr_location) (zone_of before.width row.s_id)
    noted_so = noted ∙ ap (λ (w : ℕ). subscriber_added (area_of w) zone) located
        ∙ ap (λ (z : ℕ). subscriber_added (area_of row.vlr_location) z) (zoned ∙ ap (λ (n : ℕ). zone_of after.width n) own ∙ ap (λ (p : PartState). zone_of p.width row.s_id) kept)

-- the notes of a row that is added
row_noted : (before after : PartState) (s n zone : ℕ) (notes : List (ℕ × ℤ)) → s ≡ n → after.width ≡ before.width → zone ≡ zone_of after.width s → notes ≡ row_moved true zone
    → notes ≡ row_moved true (zone_of before.width n)
row_noted before after s n zone notes own wide zoned noted =
    noted ∙ ap (λ (z : ℕ). row_moved true z) (zoned ∙ ap (λ (m : ℕ). zone_of after.width m) own ∙ ap (λ (w : ℕ). zone_of w n) wide)

-- AddAccess
pub access_is_added : (before found after : PartState) (s zone : ℕ) (row : AccessInfoRow) (subscriber : SubscriberRow) (notes : List (ℕ × ℤ)) → s ≡ row.s_id → access_in_range row ≡ true
    → found ≡ asked_once before → Some subscriber ≡ subscriber_at before.book s
    → (is_some (access_at found.book row.s_id row.ai_type) ≡ false) × (after.book ≡ more_access found.book row)
    → after ≡ changed_once found after.book after.heights
    → zone ≡ zone_of after.width s → notes ≡ row_moved true zone
    → Acts (AddAccess row) before reply.Done notes after
access_is_added before found after s zone row subscriber notes own in_range kept is added changed zoned noted =
    acts_done (AddAccess row) before after notes (more_access before.book row) (once_more (once_more before.asked))
    settled (few_2 before.asked) in_range
    (rw (here, none_from (access_at before.book row.s_id row.ai_type) added'.0) refl)
    (subst (λ (ns : List (ℕ × ℤ)). IsChange before.width before.book (more_access before.book row) ns)
    (sym (row_noted before after s row.s_id zone notes own (ap (λ (p : PartState). p.width) settled) zoned noted)) (change_of_access before.width before.book row))
  where
    here : subscriber_at before.book row.s_id ≡ Some subscriber
    here = sym (is ∙ ap (λ (n : ℕ). subscriber_at before.book n) own)

    added' : (is_some (access_at before.book row.s_id row.ai_type) ≡ false) × (after.book ≡ more_access before.book row)
    added' = subst (λ (p : PartState). (is_some (access_at p.book row.s_id row.ai_type) ≡ false) × (after.book ≡ more_access p.book row)) kept added

    settled : after ≡ record before {
      book = more_access before.book row;
      asked = once_more (once_more before.asked);
      heights = after.heights;
    }
    settled = changed ∙ ap (λ (p : PartState). changed_once p after.book after.heights) kept
        ∙ ap (λ (b : Book). changed_once (asked_once before) b after.heights) added'.1

-- AddFacility
pub facility_is_added : (before found after : PartState) (s zone : ℕ) (row : SpecialFacilityRow) (subscriber : SubscriberRow) (notes : List (ℕ × ℤ)) → IsPart before → s ≡ row.s_id → facility_in_range row ≡ true
    → found ≡ asked_once before → Some subscriber ≡ subscriber_at before.book s
    → (is_some (facility_at found.book row.s_id row.sf_type) ≡ false) × (after.book ≡ more_facilities found.book row)
    → after ≡ changed_once found after.book after.heights
    → zone ≡ zone_of after.width s → notes ≡ row_moved true zone
    → Acts (AddFacility row) before reply.Done notes after
facility_is_added before found after s zone row subscriber notes rules own in_range kept is added changed zoned noted =
    acts_done (AddFacility row) before after notes (more_facilities before.book row) (once_more (once_more before.asked))
    settled (few_2 before.asked) in_range
    (rw (here, absent) refl)
    (subst (λ (ns : List (ℕ × ℤ)). IsChange before.width before.book (more_facilities before.book row) ns)
    (sym (row_noted before after s row.s_id zone notes own (ap (λ (p : PartState). p.width) settled) zoned noted)) (change_of_facility before.width before.book row rules.rows.rules absent))
  where
    here : subscriber_at before.book row.s_id ≡ Some subscriber
    here = sym (is ∙ ap (λ (n : ℕ). subscriber_at before.book n) own)

    added' : (is_some (facility_at before.book row.s_id row.sf_type) ≡ false) × (after.book ≡ more_facilities before.book row)
    added' = subst (λ (p : PartState). (is_some (facility_at p.book row.s_id row.sf_type) ≡ false) × (after.book ≡ more_facilities p.book row)) kept added

    absent : facility_at before.book row.s_id row.sf_type ≡ None
    absent = none_from (facility_at before.book row.s_id row.sf_type) added'.0

    settled : after ≡ record before {
      book = more_facilities before.book row;
      asked = once_more (once_more before.asked);
      heights = after.heights;
    }
    settled = changed ∙ ap (λ (p : PartState). changed_once p after.book after.heights) kept
        ∙ ap (λ (b : Book). changed_once (asked_once before) b after.heights) added'.1

-- SetActive
pub switch_in_range : (before : PartState) (s t v : ℕ) → IsPart before → IsWithin before.lo before.hi s → is_between 1 4 t ≡ true → v ≤ 1 → is_in_range (SetActive s t v) ≡ true
switch_in_range before s t v rules within kind bit = both_from _ _ (is_typed_from before s t rules within kind) (between_from 0 1 v (omega arith) bit)

-- what a comparison of two tests says
same_by : (a b : Bool) → beq a b ≡ true → a ≡ b
same_by true true is = refl
same_by true false is = absurd cc
same_by false true is = absurd cc
same_by false false is = refl

other_by : (a b : Bool) → beq a b ≡ false → a ≡ not b
other_by true true is = absurd cc
other_by true false is = refl
other_by false true is = refl
other_by false false is = absurd cc

-- a part whose facility was found, and switched
bit_of : (n : ℕ) → n ≤ 1 → ◌≡◌ {A = ℕ} (if n == 1 then 1 else 0) n
bit_of n small = by_test (n == 1) (λ e. rw e (grind (arith, nat_tests))) (λ e. rw e (grind (arith, nat_tests)))

switched_after : (before after : PartState) (s t v : ℕ) (row : SpecialFacilityRow) → facility_at before.book s t ≡ Some row → v ≤ 1
    → after ≡ changed_to before
    (facility_revised before.book s t (λ row. record row { is_active = if v == 1 then 1 else 0 })) after
    → after ≡ changed_to before (put_facility before.book s t (record row { is_active = v })) after
switched_after before after s t v row is bit kept =
    refitted_after before after s t (λ row. record row { is_active = if v == 1 then 1 else 0 }) row is kept
    ∙ ap (λ (n : ℕ). changed_to before (put_facility before.book s t (record row { is_active = n })) after)
    (bit_of v bit)

-- a facility that is as active as it shall be
pub switch_stands : (before after : PartState) (s t v : ℕ) (o : Option SpecialFacilityRow) (swap : SwapActive) → IsPart before → IsWithin before.lo before.hi s → is_between 1 4 t ≡ true → v ≤ 1
    → facility_at before.book s t ≡ o → true ≡ is_some o → IfSome o (λ row. swap ≡ record { is_active = row.is_active == 1 }) → beq swap.is_active (v == 1) ≡ true
    → after ≡ changed_to before
    (facility_revised before.book s t (λ row. record row { is_active = if v == 1 then 1 else 0 })) after
    → after.asked ≤ before.asked + 2
    → Acts (SetActive s t v) before reply.Done [] after
switch_stands before after s t v None swap rules within kind bit is some so same kept few = absurd cc
switch_stands before after s t v (Some row) swap rules within kind bit is some so same kept few =
    acts_done (SetActive s t v) before after [] (put_facility before.book s t (record row { is_active = v })) after.asked (switched_after before after s t v row is bit kept) (omega arith) (switch_in_range before s t v rules within kind bit)
    (rw is refl) (subst (λ (book : Book). IsChange before.width before.book book []) (sym stands) (no_change before.width before.book))
  where
    alike : (a b : ℕ) → a ≤ 1 → b ≤ 1 → (a == 1) ≡ (b == 1) → a ≡ b
    alike a b small small' same = grind (arith, nat_tests)

    bit_found : row.is_active ≤ 1
    bit_found = (between_is 0 1 row.is_active (facility_ranges row (each_found facility_key (λ (r : SpecialFacilityRow). facility_in_range r ≡ true) (key_of s t 0) before.book.facilities row rules.rows.rules.facilities_in_range is)).is_active_between).1

    stands : put_facility before.book s t (record row { is_active = v }) ≡ before.book
    stands =
        subst (λ (m : ℕ). put_facility before.book s t (record row { is_active = m }) ≡ before.book) (alike row.is_active v bit_found bit (sym (ap (λ (w : SwapActive). w.is_active) so) ∙ same_by swap.is_active (v == 1) same))
        (ap (λ (rows : List SpecialFacilityRow). record before.book { facilities = rows }) (with_row_at_same facility_key (key_of s t 0) row before.book.facilities is))

-- a facility that is switched, and then asked for its forwardings
pub switch_done : (p0 p1 p2 p3 p4 : PartState) (s t v : ℕ) (o : Option SpecialFacilityRow) (swap : SwapActive) (spans : Spans) (notes : List (ℕ × ℤ))
    → IsPart p0 → IsWithin p0.lo p0.hi s → is_between 1 4 t ≡ true → t < 256 → v ≤ 1
    → facility_at p0.book s t ≡ o → true ≡ is_some o → IfSome o (λ row. swap ≡ record { is_active = row.is_active == 1 }) → beq swap.is_active (v == 1) ≡ false
    → p1 ≡ changed_to p0 (facility_revised p0.book s t (λ row. record row { is_active = if v == 1 then 1 else 0 })) p1
    → p1.asked ≤ p0.asked + 2
    → spans.from_0 ≡ until (forwarding_at p1.book s t 0) → p2 ≡ asked_once p1 → spans.from_8 ≡ until (forwarding_at p2.book s t 8) → p3 ≡ asked_once p2
    → spans.from_16 ≡ until (forwarding_at p3.book s t 16) → p4 ≡ asked_once p3 → AreHours (span_amount (v == 1) spans) FIRST_AREA notes
    → Acts (SetActive s t v) p0 reply.Done notes p4
switch_done p0 p1 p2 p3 p4 s t v None swap spans notes rules within kind small bit is some so differ kept few is0 kept2 is8 kept3 is16 kept4 noted = absurd cc
switch_done p0 p1 p2 p3 p4 s t v (Some row) swap spans notes rules within kind small bit is some so differ kept few is0 kept2 is8 kept3 is16 kept4 noted =
    acts_done (SetActive s t v) p0 p4 notes (put_facility p0.book s t row1) (once_more (once_more (once_more p1.asked)))
    (kept4 ∙ ap asked_once (kept3 ∙ ap asked_once (kept2 ∙ ap asked_once second))) (few_3 p0.asked p1.asked few) (switch_in_range p0 s t v rules within kind bit)
    (rw is refl)
    (change_of_switch p0.book s t row row1 is key p0.width (v == 1) spans notes rules.rows.rules small refl (sym (ap (λ (w : SwapActive). w.is_active) so) ∙ other_by swap.is_active (v == 1) differ) refl
    (is0 ∙ ap (λ (p : PartState). until (forwarding_at p.book s t 0)) second)
    (is8 ∙ ap (λ (p : PartState). until (forwarding_at p.book s t 8)) (kept2 ∙ ap asked_once second))
    (is16 ∙ ap (λ (p : PartState). until (forwarding_at p.book s t 16)) (kept3 ∙ ap asked_once (kept2 ∙ ap asked_once second))) noted)
  where
    row1 : SpecialFacilityRow
    row1 = record row { is_active = v }

    parts : (row.s_id ≡ s) × (row.sf_type ≡ t)
    parts = facility_found p0.book s t row rules.rows.rules small is

    key : facility_key row1 ≡ key_of s t 0
    key = let first = parts.0 in let second = parts.1 in omega arith

    second : p1 ≡ changed_to p0 (put_facility p0.book s t row1) p1
    second = switched_after p0 p1 s t v row is bit kept
