-- What the transactions do to a part.
use Rattle.tatp_actions.proofs.Common.{◌≡◌, refl, sym, ◌∙◌, ap, subst, ℕ, ◌^◌, ◌<◌, ◌≤◌, arith, Bool, true, false, List, [], set, Option, Some, None, IsSome, IfSome, ◌+◌, if◌then◌else◌, ℤ, ◌==◌, is_some, kept, each_found, without_row_absent, both_from, between_from, key_of, facility_key, forwarding_key, SubscriberRow, SpecialFacilityRow, CallForwardingRow, is_between, is_start_time, forwarding_in_range, zone_of, area_of, Refusal, effect, Book, IsWithin, subscriber_at, facility_at, has_active, forwarding_at, put_subscriber, put_facility, more_forwardings, without_forwarding, IsChange, PartState, IsPart, Acts, area_moved, AreForwardingNotes, asked_once, changed_once, changed_to, subscriber_revised, facility_revised, once_more, UpdateSubscriber, UpdateLocation, InsertForwarding, DeleteForwarding}
use Rattle.tatp_rows.specs.declared.refusal.Refusal.TheVariants as refusal
use Rattle.tatp_actions.specs.declared.action.RowReply.TheVariants as reply
use Rattle.tatp_actions.proofs.ActiveLemmas.{change_of_put_facility}
use Rattle.tatp_actions.proofs.ActsLemmas.{acts_done, acts_refused, addition_refused, by_effect, few_1, few_2, is_subscriber, is_typed_from, none_from, area_below, area_found}
use Rattle.tatp_actions.proofs.BookLemmas.{facility_found, forwarding_found}
use Rattle.tatp_actions.proofs.RevisedLemmas.{revised_after, refitted_after}
use Rattle.tatp_actions.proofs.CellLemmas.{change_of_move, change_of_put_subscriber, change_of_insertion, change_of_deletion, change_twice}

-- UpdateLocation
pub location_moved : (before after : PartState) (s v new was : ℕ) (notes : List (ℕ × ℤ)) (o : Option SubscriberRow)
    → IsPart before → IsWithin before.lo before.hi s → 0 < v → v < 2 ^ 32
    → subscriber_at before.book s ≡ o → true ≡ is_some o → IfSome o (λ row. was ≡ row.vlr_location)
    → new ≡ v
    → after ≡ changed_to before (subscriber_revised before.book s (λ row. record row { vlr_location = new })) after
    → after.asked ≤ before.asked + 2
    → notes ≡ area_moved (area_of was) (area_of v)
    → Acts (UpdateLocation s v) before reply.Done notes after
location_moved before after s v new was notes None rules within from below is some old brought kept few noted =
    absurd cc
location_moved before after s v new was notes (Some row) rules within from below is some old brought kept few noted =
    acts_done (UpdateLocation s v) before after notes (put_subscriber before.book s (record row { vlr_location = v })) after.asked
    (revised_after before after s (λ row. record row { vlr_location = new }) row is kept
    ∙ ap (λ (l : ℕ). changed_to before (put_subscriber before.book s (record row { vlr_location = l })) after) brought) (omega arith)
    (both_from _ _ (is_subscriber before s rules within) (between_from 1 4294967295 v from (omega arith)))
    (rw is refl)
    (subst (λ (ns : List (ℕ × ℤ)). IsChange before.width before.book (put_subscriber before.book s (record row { vlr_location = v })) ns) (sym (noted ∙ ap (λ (l : ℕ). area_moved (area_of l) (area_of v)) old))
    (change_of_move before.width before.book s row (record row { vlr_location = v }) is refl (area_found before.book s row rules.rows.rules is) (area_below v below)))

-- UpdateSubscriber
pub subscriber_updated : (p0 p1 p2 : PartState) (s t b bit d : ℕ) (there : Option SpecialFacilityRow) → IsPart p0 → IsWithin p0.lo p0.hi s → is_between 1 4 t ≡ true → t < 256 → b ≤ 1 → d < 256
    → facility_at p0.book s t ≡ there → true ≡ is_some there
    → p1 ≡ changed_to p0 (facility_revised p0.book s t (λ row. record row { data_a = d })) p1 → p1.asked ≤ p0.asked + 2
    → bit ≡ b → p2 ≡ changed_to p1 (subscriber_revised p1.book s (λ row. record row { bits = set row.bits 0 bit })) p2
    → p2.asked ≤ p1.asked + 2
    → Acts (UpdateSubscriber s t b d) p0 reply.Done [] p2
subscriber_updated p0 p1 p2 s t b bit d None rules within kind small low byte is some kept few brought kept' few' = absurd cc
subscriber_updated p0 p1 p2 s t b bit d (Some facility) rules within kind small low byte is some kept few brought kept' few' = of_subscriber (subscriber_at p0.book s) refl owner
  where
    facility1 : SpecialFacilityRow
    facility1 = record facility { data_a = d }

    parts : (facility.s_id ≡ s) × (facility.sf_type ≡ t)
    parts = facility_found p0.book s t facility rules.rows.rules small is

    key : facility_key facility1 ≡ key_of s t 0
    key = let first = parts.0 in let second = parts.1 in omega arith

    owner : IsSome (subscriber_at p0.book s)
    owner =
        subst (λ (n : ℕ). IsSome (subscriber_at p0.book n)) parts.0
        (each_found facility_key (λ (r : SpecialFacilityRow). IsSome (subscriber_at p0.book r.s_id)) (key_of s t 0) p0.book.facilities facility rules.rows.rules.facilities_have_subscriber is)

    first : p1 ≡ changed_to p0 (put_facility p0.book s t facility1) p1
    first = refitted_after p0 p1 s t (λ row. record row { data_a = d }) facility is kept

    of_subscriber : (o : Option SubscriberRow) → subscriber_at p0.book s ≡ o → IsSome o → Acts (UpdateSubscriber s t b d) p0 reply.Done [] p2
    of_subscriber None who some = absurd cc
    of_subscriber (Some row) who some =
        let row1 : SubscriberRow = record row { bits = set row.bits 0 b } in
        let later : p2 ≡ changed_to p1 (put_subscriber p1.book s (record row { bits = set row.bits 0 bit })) p2 =
        revised_after p1 p2 s (λ row. record row { bits = set row.bits 0 bit }) row (ap (λ (p : PartState). subscriber_at p.book s) first ∙ who) kept' in
        let second : p2 ≡ changed_to p0 (put_subscriber (put_facility p0.book s t facility1) s row1) p2 =
        later
        ∙ ap (λ (p : PartState). changed_to p (put_subscriber p.book s (record row { bits = set row.bits 0 bit })) p2) first
        ∙ ap (λ (n : ℕ). changed_to p0 (put_subscriber (put_facility p0.book s t facility1) s (record row { bits = set row.bits 0 n })) p2)
        brought in
        acts_done (UpdateSubscriber s t b d) p0 p2 [] (put_subscriber (put_facility p0.book s t facility1) s row1) p2.asked second (omega arith)
        (both_from _ _ (is_typed_from p0 s t rules within kind) (both_from _ _ (between_from 0 1 b (omega arith) low) (between_from 0 255 d (omega arith) (omega arith))))
        (rw (who, is) refl)
        (change_twice p0.width p0.book (put_facility p0.book s t facility1) (put_subscriber (put_facility p0.book s t facility1) s row1)
        (change_of_put_facility p0.book s t facility facility1 is key p0.width refl refl)
        (change_of_put_subscriber p0.width (put_facility p0.book s t facility1) s row row1 who refl refl (area_found p0.book s row rules.rows.rules who)))

-- InsertForwarding
pub forwarding_inserted : (before found after : PartState) (s t zone : ℕ) (active : Bool) (row : CallForwardingRow) (facility : SpecialFacilityRow) (notes : List (ℕ × ℤ))
    → s ≡ row.s_id → t ≡ row.sf_type → forwarding_in_range row ≡ true
    → found ≡ asked_once before → Some facility ≡ facility_at before.book s t
    → (is_some (forwarding_at found.book row.s_id row.sf_type row.start_time) ≡ false)
    × (after.book ≡ more_forwardings found.book row) → after ≡ changed_once found after.book after.heights
    → active ≡ (facility.is_active == 1) → zone ≡ zone_of after.width s → AreForwardingNotes true active row zone notes
    → Acts (InsertForwarding row) before reply.Done notes after
forwarding_inserted before found after s t zone active row facility notes own own' in_range kept is added changed switched zoned noted =
    acts_done (InsertForwarding row) before after notes (more_forwardings before.book row) (once_more (once_more before.asked))
    settled (few_2 before.asked) in_range
    (rw (here, none_from (forwarding_at before.book row.s_id row.sf_type row.start_time) added'.0) refl)
    (change_of_insertion before.width before.book row active notes (switched ∙ ap has_active (sym here)) (subst (λ (z : ℕ). AreForwardingNotes true active row z notes) zoned_so noted))
  where
    here : facility_at before.book row.s_id row.sf_type ≡ Some facility
    here = sym (is ∙ ap (λ (n : ℕ). facility_at before.book n t) own ∙ ap (λ (n : ℕ). facility_at before.book row.s_id n) own')

    added' : (is_some (forwarding_at before.book row.s_id row.sf_type row.start_time) ≡ false) × (after.book ≡ more_forwardings before.book row)
    added' = subst (λ (p : PartState). (is_some (forwarding_at p.book row.s_id row.sf_type row.start_time) ≡ false) × (after.book ≡ more_forwardings p.book row)) kept added

    settled : after ≡ record before {
      book = more_forwardings before.book row;
      asked = once_more (once_more before.asked);
      heights = after.heights;
    }
    settled = changed ∙ ap (λ (p : PartState). changed_once p after.book after.heights) kept
        ∙ ap (λ (b : Book). changed_once (asked_once before) b after.heights) added'.1

    zoned_so : zone ≡ zone_of before.width row.s_id
    zoned_so = zoned ∙ ap (λ (n : ℕ). zone_of after.width n) own ∙ ap (λ (p : PartState). zone_of p.width row.s_id) settled

pub insertion_refused : (before found after : PartState) (s t : ℕ) (row : CallForwardingRow) (facility : SpecialFacilityRow) (why : Refusal)
    → s ≡ row.s_id → t ≡ row.sf_type → forwarding_in_range row ≡ true → found ≡ asked_once before → Some facility ≡ facility_at before.book s t
    → (after.book ≡ found.book)
    × (why ≡ (if is_some (forwarding_at found.book row.s_id row.sf_type row.start_time) then refusal.Exists else refusal.Memory))
    → after ≡ changed_once found after.book after.heights
    → Acts (InsertForwarding row) before (reply.Refused why) [] after
insertion_refused before found after s t row facility why own own' in_range kept is refused changed =
    acts_refused (InsertForwarding row) before after why (once_more (once_more before.asked))
    (changed ∙ ap (λ (p : PartState). changed_once p after.book after.heights) kept
    ∙ ap (λ (b : Book). changed_once (asked_once before) b after.heights) refused'.0) (few_2 before.asked)
    (addition_refused (InsertForwarding row) before.book (more_forwardings before.book row) (is_some (forwarding_at before.book row.s_id row.sf_type row.start_time)) why in_range refl
    (taken (forwarding_at before.book row.s_id row.sf_type row.start_time) refl) (λ absent. rw (here, none_from (forwarding_at before.book row.s_id row.sf_type row.start_time) absent) refl) refused'.1)
  where
    here : facility_at before.book row.s_id row.sf_type ≡ Some facility
    here = sym (is ∙ ap (λ (n : ℕ). facility_at before.book n t) own ∙ ap (λ (n : ℕ). facility_at before.book row.s_id n) own')

    refused' : (after.book ≡ before.book) × (why ≡ (if is_some (forwarding_at before.book row.s_id row.sf_type row.start_time) then refusal.Exists else refusal.Memory))
    refused' = subst (λ (p : PartState). (after.book ≡ p.book) × (why ≡ (if is_some (forwarding_at p.book row.s_id row.sf_type row.start_time) then refusal.Exists else refusal.Memory))) kept refused

    taken : (o : Option CallForwardingRow) → forwarding_at before.book row.s_id row.sf_type row.start_time ≡ o → is_some (forwarding_at before.book row.s_id row.sf_type row.start_time) ≡ true
        → effect (InsertForwarding row) before.book ≡ (reply.Refused refusal.Exists, before.book)
    taken None e there = let no : false ≡ true = rw e at there in absurd cc
    taken (Some other) e there = rw (here, e) refl

-- DeleteForwarding
pub forwarding_deleted : (before removed after : PartState) (s t u zone : ℕ) (active : Bool) (row : CallForwardingRow) (notes : List (ℕ × ℤ)) → IsPart before → IsWithin before.lo before.hi s
    → is_between 1 4 t ≡ true → is_start_time u ≡ true → t < 256 → u < 256
    → Some row ≡ forwarding_at before.book s t u
    → removed ≡ changed_once before (without_forwarding before.book s t u) removed.heights
    → active ≡ has_active (facility_at removed.book s t) → after ≡ asked_once removed
    → zone ≡ zone_of after.width s → AreForwardingNotes false active row zone notes
    → Acts (DeleteForwarding s t u) before reply.Done notes after
forwarding_deleted before removed after s t u zone active row notes rules within kind start small small' is kept switched asked zoned noted =
    acts_done (DeleteForwarding s t u) before after notes (without_forwarding before.book s t u) (once_more (once_more before.asked))
    settled (few_2 before.asked)
    (both_from _ _ (is_typed_from before s t rules within kind) start)
    (rw (← is) refl)
    (change_of_deletion before.width before.book s t u row active notes (sym is) active_so (subst (λ (z : ℕ). AreForwardingNotes false active row z notes) zoned_so noted))
  where
    settled : after ≡ record before {
      book = without_forwarding before.book s t u;
      asked = once_more (once_more before.asked);
      heights = removed.heights;
    }
    settled = asked ∙ ap asked_once kept

    parts : (row.s_id ≡ s) × (row.sf_type ≡ t) × (row.start_time ≡ u)
    parts = forwarding_found before.book s t u row rules.rows.rules small small' (sym is)

    active_so : active ≡ has_active (facility_at before.book row.s_id row.sf_type)
    active_so = switched ∙ ap (λ (p : PartState). has_active (facility_at p.book s t)) kept
        ∙ ap (λ (n : ℕ). has_active (facility_at before.book n t)) (sym parts.0) ∙ ap (λ (n : ℕ). has_active (facility_at before.book row.s_id n)) (sym parts.1)

    zoned_so : zone ≡ zone_of before.width row.s_id
    zoned_so = zoned ∙ ap (λ (n : ℕ). zone_of after.width n) (sym parts.0) ∙ ap (λ (p : PartState). zone_of p.width row.s_id) settled

pub no_forwarding : (before removed : PartState) (s t u : ℕ) → IsPart before → IsWithin before.lo before.hi s → is_between 1 4 t ≡ true → is_start_time u ≡ true
    → None ≡ forwarding_at before.book s t u
    → removed ≡ changed_once before (without_forwarding before.book s t u) removed.heights
    → Acts (DeleteForwarding s t u) before (reply.Refused refusal.NoForwarding) [] removed
no_forwarding before removed s t u rules within kind start is kept =
    acts_refused (DeleteForwarding s t u) before removed refusal.NoForwarding (once_more before.asked)
    (kept ∙ ap (λ (rows : List CallForwardingRow). changed_once before (record before.book { forwardings = rows }) removed.heights)
    (without_row_absent forwarding_key (key_of s t u) before.book.forwardings (sym is)))
    (few_1 before.asked)
    (by_effect (DeleteForwarding s t u) before.book before.book (reply.Refused refusal.NoForwarding) (both_from _ _ (is_typed_from before s t rules within kind) start) (rw (← is) refl))
