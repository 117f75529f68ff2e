-- The way from an event to its line and back, kind by kind.
use Rattle.edit_lines.proofs.Common.{◌≡◌, refl, ap, ◌∙◌, ℕ, ◌^◌, ◌<◌, Bool, true, cond, ◌==◌, ◌&&◌, ◌||◌, nat_lt, List, [], ◌∷◌, ◌++◌, take, drop, append_assoc, append-nil, take-append-drop, arith, nat_tests, Result, Ok, both, between_is, number_below, subscriber_ranges, is_between, is_number, are_between, LAST_SUBSCRIBER, SubscriberRow, AccessInfoRow, SpecialFacilityRow}
use Rattle.tatp_rows.specs.Packed.{packed}
use Rattle.tatp_actions.specs.Action.{is_typed}
use Rattle.hlr_core.specs.Step.{has_forwarding_key}
use Rattle.edit_lines.specs.Lines.{digits, line_of, has_line}
use Rattle.edit_lines.specs.Reading.{if_has_line, fields_in, location_from, update_from, insert_from, delete_from, subscriber_from, access_from, facility_from, active_from, number_from, event_of}
use Rattle.edit_lines.specs.declared.error.LineError.{LineError}
use Rattle.hlr_core.specs.declared.event.Event.{Event}
use Rattle.hlr_core.specs.declared.event.Event.TheVariants.{UpdateSubscriber, UpdateLocation, InsertForwarding, DeleteForwarding, AddSubscriber, AddAccess, AddFacility, SetActive, SetNumber}
use Rattle.edit_lines.proofs.FieldLemmas.{written, AllFit, fields_back}
use Rattle.edit_lines.proofs.PackLemmas.{unpacked-packed, packed-small, small_from, low_half, high_half}

-- lists one after another, grouped from the left as a line is, and from the right as fields are
pub two : (a b : List ℕ) → a ++ b ≡ a ++ (b ++ [])
two a b = simp append-nil

pub three : (a b c : List ℕ) → a ++ b ++ c ≡ a ++ (b ++ (c ++ []))
three a b c = simp (append_assoc, append-nil)

pub four : (a b c d : List ℕ) → a ++ b ++ c ++ d ≡ a ++ (b ++ (c ++ (d ++ [])))
four a b c d = simp (append_assoc, append-nil)

pub five : (a b c d e : List ℕ) → a ++ b ++ c ++ d ++ e ≡ a ++ (b ++ (c ++ (d ++ (e ++ []))))
five a b c d e = simp (append_assoc, append-nil)

pub six : (a b c d e f : List ℕ) → a ++ b ++ c ++ d ++ e ++ f ≡ a ++ (b ++ (c ++ (d ++ (e ++ (f ++ [])))))
six a b c d e f = simp (append_assoc, append-nil)

pub eight : (a b c d e f g h : List ℕ) → a ++ b ++ c ++ d ++ e ++ f ++ g ++ h ≡ a ++ (b ++ (c ++ (d ++ (e ++ (f ++ (g ++ (h ++ [])))))))
eight a b c d e f g h = simp (append_assoc, append-nil)

-- an event whose fields are in range is made
held : (event : Event) → has_line event ≡ true → if_has_line event ≡ Ok event
held event holds = rw holds refl

-- fields in any grouping are read as they were written
again : (counts ns bytes : List ℕ) (make : List ℕ → Result Event LineError) (event : Event) → bytes ≡ written counts ns → AllFit counts ns → make ns ≡ Ok event → fields_in counts make bytes ≡ Ok event
again counts ns bytes make event grouped fit made = ap (fields_in counts make) grouped ∙ fields_back counts ns make fit ∙ made

-- ---- from an event to its line and back

location_again : (sub_nbr vlr_location : ℕ) → has_line (UpdateLocation sub_nbr vlr_location) ≡ true → event_of (line_of (UpdateLocation sub_nbr vlr_location)) ≡ Ok (UpdateLocation sub_nbr vlr_location)
location_again sub_nbr vlr_location holds =
    let parts = both (is_between 1 4294967295 vlr_location) (is_number sub_nbr) holds in
    let location = between_is 1 4294967295 vlr_location parts.0 in
    let number = number_below sub_nbr parts.1 in
    let to = location.1 in
    again (8 ∷ 5 ∷ []) (sub_nbr ∷ vlr_location ∷ []) _ location_from _ (two (digits 8 sub_nbr) (digits 5 vlr_location)) (omega arith, (omega arith, tt)) (held (UpdateLocation sub_nbr vlr_location) holds)

-- the s_id and the type of a row, below the numbers that their digits can spell
record IsTyped (s_id kind : ℕ) : Type 0 where
  s_id_below : s_id < 128 ^ 4
  kind_below : kind < 128 ^ 1

typed : (s_id kind : ℕ) → is_typed s_id kind ≡ true → IsTyped s_id kind
typed s_id kind holds =
    let parts = both (is_between 1 LAST_SUBSCRIBER s_id) (is_between 1 4 kind) holds in
    let first = between_is 1 LAST_SUBSCRIBER s_id parts.0 in
    let second = between_is 1 4 kind parts.1 in
    record { s_id_below = let to = first.1 in omega arith; kind_below = let to = second.1 in omega arith }

-- the type and the start time of a forwarding
record IsForwardingKey (sf_type start_time : ℕ) : Type 0 where
  type_below : sf_type < 128 ^ 1
  start_below : start_time < 128 ^ 1

starts : (n : ℕ) → (n == 0 || (n == 8 || n == 16)) ≡ true → n < 128 ^ 1
starts n holds = let below : n < 128 = grind (arith, nat_tests) in omega arith

forwarding_key : (sf_type start_time : ℕ) → has_forwarding_key sf_type start_time ≡ true → IsForwardingKey sf_type start_time
forwarding_key sf_type start_time holds =
    let parts = both (is_between 1 4 sf_type) (start_time == 0 || (start_time == 8 || start_time == 16)) holds in
    let first = between_is 1 4 sf_type parts.0 in
    record { type_below = let to = first.1 in omega arith; start_below = starts start_time parts.1 }

update_again : (s_id sf_type bit_1 data_a : ℕ) → has_line (UpdateSubscriber s_id sf_type bit_1 data_a) ≡ true → event_of (line_of (UpdateSubscriber s_id sf_type bit_1 data_a)) ≡ Ok (UpdateSubscriber s_id sf_type bit_1 data_a)
update_again s_id sf_type bit_1 data_a holds =
    let change = both (is_typed s_id sf_type && (is_between 0 1 bit_1 && is_between 0 255 data_a)) true holds in
    let parts = both (is_typed s_id sf_type) (is_between 0 1 bit_1 && is_between 0 255 data_a) change.0 in
    let rest = both (is_between 0 1 bit_1) (is_between 0 255 data_a) parts.1 in
    let row = typed s_id sf_type parts.0 in
    let bit = (between_is 0 1 bit_1 rest.0).1 in
    let data_to = (between_is 0 255 data_a rest.1).1 in
    again (4 ∷ 1 ∷ 1 ∷ 2 ∷ []) (s_id ∷ sf_type ∷ bit_1 ∷ data_a ∷ []) _ update_from _ (four (digits 4 s_id) (digits 1 sf_type) (digits 1 bit_1) (digits 2 data_a))
    (row.s_id_below, (row.kind_below, (omega arith, (omega arith, tt)))) (held (UpdateSubscriber s_id sf_type bit_1 data_a) holds)

insert_again : (sub_nbr sf_type start_time end_time numberx : ℕ) → has_line (InsertForwarding sub_nbr sf_type start_time end_time numberx) ≡ true
    → event_of (line_of (InsertForwarding sub_nbr sf_type start_time end_time numberx)) ≡ Ok (InsertForwarding sub_nbr sf_type start_time end_time numberx)
insert_again sub_nbr sf_type start_time end_time numberx holds =
    let parts = both (has_forwarding_key sf_type start_time && is_between 1 24 end_time) (is_number sub_nbr && is_number numberx) holds in
    let change = both (has_forwarding_key sf_type start_time) (is_between 1 24 end_time) parts.0 in
    let numbers = both (is_number sub_nbr) (is_number numberx) parts.1 in
    let key = forwarding_key sf_type start_time change.0 in
    let end = (between_is 1 24 end_time change.1).1 in
    let first = number_below sub_nbr numbers.0 in
    let second = number_below numberx numbers.1 in
    again (8 ∷ 1 ∷ 1 ∷ 1 ∷ 8 ∷ []) (sub_nbr ∷ sf_type ∷ start_time ∷ end_time ∷ numberx ∷ []) _ insert_from _ (five (digits 8 sub_nbr) (digits 1 sf_type) (digits 1 start_time) (digits 1 end_time) (digits 8 numberx))
    (omega arith, (key.type_below, (key.start_below, (omega arith, (omega arith, tt))))) (held (InsertForwarding sub_nbr sf_type start_time end_time numberx) holds)

delete_again : (sub_nbr sf_type start_time : ℕ) → has_line (DeleteForwarding sub_nbr sf_type start_time) ≡ true → event_of (line_of (DeleteForwarding sub_nbr sf_type start_time)) ≡ Ok (DeleteForwarding sub_nbr sf_type start_time)
delete_again sub_nbr sf_type start_time holds =
    let parts = both (has_forwarding_key sf_type start_time) (is_number sub_nbr) holds in
    let key = forwarding_key sf_type start_time parts.0 in
    let number = number_below sub_nbr parts.1 in
    again (8 ∷ 1 ∷ 1 ∷ []) (sub_nbr ∷ sf_type ∷ start_time ∷ []) _ delete_from _ (three (digits 8 sub_nbr) (digits 1 sf_type) (digits 1 start_time))
    (omega arith, (key.type_below, (key.start_below, tt))) (held (DeleteForwarding sub_nbr sf_type start_time) holds)

active_again : (s_id sf_type is_active : ℕ) → has_line (SetActive s_id sf_type is_active) ≡ true → event_of (line_of (SetActive s_id sf_type is_active)) ≡ Ok (SetActive s_id sf_type is_active)
active_again s_id sf_type is_active holds =
    let change = both (is_typed s_id sf_type && is_between 0 1 is_active) true holds in
    let parts = both (is_typed s_id sf_type) (is_between 0 1 is_active) change.0 in
    let row = typed s_id sf_type parts.0 in
    let active = (between_is 0 1 is_active parts.1).1 in
    again (4 ∷ 1 ∷ 1 ∷ []) (s_id ∷ sf_type ∷ is_active ∷ []) _ active_from _ (three (digits 4 s_id) (digits 1 sf_type) (digits 1 is_active))
    (row.s_id_below, (row.kind_below, (omega arith, tt))) (held (SetActive s_id sf_type is_active) holds)

number_again : (s_id sub_nbr : ℕ) → has_line (SetNumber s_id sub_nbr) ≡ true → event_of (line_of (SetNumber s_id sub_nbr)) ≡ Ok (SetNumber s_id sub_nbr)
number_again s_id sub_nbr holds =
    let parts = both (is_between 1 LAST_SUBSCRIBER s_id) (is_number sub_nbr) holds in
    let id = (between_is 1 LAST_SUBSCRIBER s_id parts.0).1 in
    let number = number_below sub_nbr parts.1 in
    again (4 ∷ 8 ∷ []) (s_id ∷ sub_nbr ∷ []) _ number_from _ (two (digits 4 s_id) (digits 8 sub_nbr)) (omega arith, (omega arith, tt)) (held (SetNumber s_id sub_nbr) holds)

access_again : (row : AccessInfoRow) → has_line (AddAccess row) ≡ true → event_of (line_of (AddAccess row)) ≡ Ok (AddAccess row)
access_again row holds =
    let three_letters = are_between 3 65 90 row.data3 in
    let five_letters = are_between 5 65 90 row.data4 in
    let first = both (is_between 1 LAST_SUBSCRIBER row.s_id) (is_between 1 4 row.ai_type && (is_between 0 255 row.data1 && (is_between 0 255 row.data2 && (three_letters && five_letters)))) holds in
    let second = both (is_between 1 4 row.ai_type) (is_between 0 255 row.data1 && (is_between 0 255 row.data2 && (three_letters && five_letters))) first.1 in
    let third = both (is_between 0 255 row.data1) (is_between 0 255 row.data2 && (three_letters && five_letters)) second.1 in
    let fourth = both (is_between 0 255 row.data2) (three_letters && five_letters) third.1 in
    let letters = both three_letters five_letters fourth.1 in
    let id = (between_is 1 LAST_SUBSCRIBER row.s_id first.0).1 in
    let kind = (between_is 1 4 row.ai_type second.0).1 in
    let data1 = (between_is 0 255 row.data1 third.0).1 in
    let data2 = (between_is 0 255 row.data2 fourth.0).1 in
    let small3 = small_from 128 3 65 90 row.data3 letters.0 (omega arith) in
    let small5 = small_from 128 5 65 90 row.data4 letters.1 (omega arith) in
    let back3 = unpacked-packed 128 3 row.data3 small3 in
    let back5 = unpacked-packed 128 5 row.data4 small5 in
    again (4 ∷ 1 ∷ 2 ∷ 2 ∷ 3 ∷ 5 ∷ []) (row.s_id ∷ row.ai_type ∷ row.data1 ∷ row.data2 ∷ packed 128 row.data3 ∷ packed 128 row.data4 ∷ []) _ access_from _
    (six (digits 4 row.s_id) (digits 1 row.ai_type) (digits 2 row.data1) (digits 2 row.data2) (digits 3 (packed 128 row.data3)) (digits 5 (packed 128 row.data4)))
    (omega arith, (omega arith, (omega arith, (omega arith, (packed-small 128 3 row.data3 small3, (packed-small 128 5 row.data4 small5, tt))))))
    (rw (back3, back5) (held (AddAccess row) holds))

facility_again : (row : SpecialFacilityRow) → has_line (AddFacility row) ≡ true → event_of (line_of (AddFacility row)) ≡ Ok (AddFacility row)
facility_again row holds =
    let five_letters = are_between 5 65 90 row.data_b in
    let first = both (is_between 1 LAST_SUBSCRIBER row.s_id) (is_between 1 4 row.sf_type && (is_between 0 1 row.is_active && (is_between 0 255 row.error_cntrl && (is_between 0 255 row.data_a && five_letters)))) holds in
    let second = both (is_between 1 4 row.sf_type) (is_between 0 1 row.is_active && (is_between 0 255 row.error_cntrl && (is_between 0 255 row.data_a && five_letters))) first.1 in
    let third = both (is_between 0 1 row.is_active) (is_between 0 255 row.error_cntrl && (is_between 0 255 row.data_a && five_letters)) second.1 in
    let fourth = both (is_between 0 255 row.error_cntrl) (is_between 0 255 row.data_a && five_letters) third.1 in
    let fifth = both (is_between 0 255 row.data_a) five_letters fourth.1 in
    let id = (between_is 1 LAST_SUBSCRIBER row.s_id first.0).1 in
    let kind = (between_is 1 4 row.sf_type second.0).1 in
    let active = (between_is 0 1 row.is_active third.0).1 in
    let error = (between_is 0 255 row.error_cntrl fourth.0).1 in
    let data_to = (between_is 0 255 row.data_a fifth.0).1 in
    let small = small_from 128 5 65 90 row.data_b fifth.1 (omega arith) in
    let back = unpacked-packed 128 5 row.data_b small in
    again (4 ∷ 1 ∷ 1 ∷ 2 ∷ 2 ∷ 5 ∷ []) (row.s_id ∷ row.sf_type ∷ row.is_active ∷ row.error_cntrl ∷ row.data_a ∷ packed 128 row.data_b ∷ []) _ facility_from _
    (six (digits 4 row.s_id) (digits 1 row.sf_type) (digits 1 row.is_active) (digits 2 row.error_cntrl) (digits 2 row.data_a) (digits 5 (packed 128 row.data_b)))
    (omega arith, (omega arith, (omega arith, (omega arith, (omega arith, (packed-small 128 5 row.data_b small, tt))))))
    (rw back (held (AddFacility row) holds))

-- four tests that hold let the event be made
four_tests : (a b c d : Bool) (x y : Result Event LineError) → a ≡ true → b ≡ true → c ≡ true → d ≡ true → cond (a && (b && (c && d))) x y ≡ x
four_tests a b c d x y first second third fourth = rw (first, second, third, fourth) refl

below_test : (n limit : ℕ) → n < limit → nat_lt n limit ≡ true
below_test n limit below = grind (arith, nat_tests)

subscriber_again : (row : SubscriberRow) → has_line (AddSubscriber row) ≡ true → event_of (line_of (AddSubscriber row)) ≡ Ok (AddSubscriber row)
subscriber_again row holds =
    let ranges = subscriber_ranges row holds in
    let id = ranges.s_id_below in
    let number = ranges.sub_nbr_below in
    let msc = ranges.msc_location_below in
    let vlr = ranges.vlr_location_below in
    let bits = small_from 2 10 0 1 row.bits ranges.bits_between (omega arith) in
    let hexes = small_from 16 10 0 15 row.hexes ranges.hexes_between (omega arith) in
    let bytes = small_from 256 10 0 255 row.bytes ranges.bytes_between (omega arith) in
    let low = low_half row.bytes bytes in
    let high = high_half row.bytes bytes in
    let bits_below = packed-small 2 10 row.bits bits in
    let hexes_below = packed-small 16 10 row.hexes hexes in
    let low_below = packed-small 256 5 (take 5 row.bytes) low in
    let high_below = packed-small 256 5 (drop 5 row.bytes) high in
    let ns : List ℕ = row.s_id ∷ row.sub_nbr ∷ packed 2 row.bits ∷ packed 16 row.hexes ∷ packed 256 (take 5 row.bytes) ∷ packed 256 (drop 5 row.bytes) ∷ row.msc_location ∷ row.vlr_location ∷ [] in
    let made : subscriber_from ns ≡ Ok (AddSubscriber row) =
    four_tests _ _ _ _ _ _ (below_test (packed 2 row.bits) (2 ^ 10) bits_below) (below_test (packed 16 row.hexes) (2 ^ 40) (omega arith)) (below_test (packed 256 (take 5 row.bytes)) (2 ^ 40) (omega arith)) (below_test (packed 256 (drop 5 row.bytes)) (2 ^ 40) (omega arith))
    ∙ rw (unpacked-packed 2 10 row.bits bits, unpacked-packed 16 10 row.hexes hexes, unpacked-packed 256 5 (take 5 row.bytes) low, unpacked-packed 256 5 (drop 5 row.bytes) high, take-append-drop 5 row.bytes) (held (AddSubscriber row) holds) in
    again (4 ∷ 8 ∷ 2 ∷ 6 ∷ 6 ∷ 6 ∷ 5 ∷ 5 ∷ []) ns _ subscriber_from _
    (eight (digits 4 row.s_id) (digits 8 row.sub_nbr) (digits 2 (packed 2 row.bits)) (digits 6 (packed 16 row.hexes)) (digits 6 (packed 256 (take 5 row.bytes))) (digits 6 (packed 256 (drop 5 row.bytes))) (digits 5 row.msc_location) (digits 5 row.vlr_location))
    (omega arith, (omega arith, (omega arith, (omega arith, (omega arith, (omega arith, (omega arith, (omega arith, tt))))))))
    made

-- the line of an event is read as this event
pub line_again : (event : Event) → has_line event ≡ true → event_of (line_of event) ≡ Ok event
line_again (UpdateLocation sub_nbr vlr_location) holds = location_again sub_nbr vlr_location holds
line_again (UpdateSubscriber s_id sf_type bit_1 data_a) holds = update_again s_id sf_type bit_1 data_a holds
line_again (InsertForwarding sub_nbr sf_type start_time end_time numberx) holds = insert_again sub_nbr sf_type start_time end_time numberx holds
line_again (DeleteForwarding sub_nbr sf_type start_time) holds = delete_again sub_nbr sf_type start_time holds
line_again (AddSubscriber row) holds = subscriber_again row holds
line_again (AddAccess row) holds = access_again row holds
line_again (AddFacility row) holds = facility_again row holds
line_again (SetActive s_id sf_type is_active) holds = active_again s_id sf_type is_active holds
line_again (SetNumber s_id sub_nbr) holds = number_again s_id sub_nbr holds
line_again other holds = absurd cc
