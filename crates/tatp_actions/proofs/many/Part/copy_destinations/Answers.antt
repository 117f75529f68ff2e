use Rattle.tatp_actions.proofs.Common.{◌≡◌, ◌∙◌, ℕ, ap, get_or, map, refl, value_at, facility_key, key_of, destinations, facility_at, facility_span, forwardings_listed, stored_book, tables_of}
use Rattle.tatp_actions.proofs.ForwardedLemmas.{group_destinations}
use Rattle.tatp_actions.proofs.ManyLemmas.{all_found, group_at, made_at, one_more_made}
use Rattle.tatp_actions.proofs.many.Part.copy_destinations.Goals.{After-push}
use Rattle.tatp_actions.proofs.many.Part.copy_destinations.Goals as goal

facilities_found : (c : After-push) → c.copy_many.new.found.items ≡ map (λ (q : ℕ × ℕ × ℕ × ℕ). facility_at (stored_book (tables_of c.self.inside.rows)) q.0 q.1) c.args.asked.now
facilities_found c =
    let pairs = c.self.inside.rows.facilities.rows in
    c.copy_many.ensures ∙ ap (map (λ key. value_at key pairs)) (c.as_slice.ensures.value ∙ c.call_keys-keys.ensures) ∙ all_found facility_key (λ (q : ℕ × ℕ × ℕ × ℕ). key_of q.0 q.1 0) pairs c.args.asked.now c.self.invariant.1.facilities

pub loop-place-preserved : goal.loop-place-preserved
loop-place-preserved c =
    let book = stored_book (tables_of c.self.inside.rows) in
    let pairs = c.self.inside.rows.forwardings.rows in
    let place = c.loop-place.place in
    let call = get_or c.args.asked.now place (0, 0, 0, 0) in
    let facility = made_at (λ (q : ℕ × ℕ × ℕ × ℕ). facility_at book q.0 q.1) c.args.asked.now place (0, 0, 0, 0) c.as_slice-in-loop-place.result.now c.index-as_slice-place.result c.loop-place-test.true
    (c.as_slice-in-loop-place.ensures.value ∙ facilities_found c) c.index-as_slice-place.is in
    let group = group_at facility_span forwardings_listed pairs (λ (q : ℕ × ℕ × ℕ × ℕ). key_of q.0 q.1 0) c.args.asked.now c.as_slice-2.result.now c.copy_groups.new.found.items place (0, 0, 0, 0) c.index-as_slice-place-in-loop-place.result c.loop-place-test.true
    (c.as_slice-2.ensures.value ∙ c.call_keys-keys.ensures) c.copy_groups.ensures (c.index-as_slice-place-in-loop-place.is ∙ ap (λ l. get_or l place c.index-as_slice-place-in-loop-place.result) c.as_slice-in-loop-place-2.ensures.value) in
    let numbers = group_destinations book pairs call.0 call.1 call.2 call.3 (key_of call.0 call.1 0) c.index-as_slice-place-in-loop-place.result c.self.invariant.0.rows.rules refl c.self.invariant.1.forwardings refl c.loop-place-test.element_fits.fits group
    c.index-as_slice-place.result c.numbers_of_active.result.items facility c.numbers_of_active.ensures in
    one_more_made (λ (q : ℕ × ℕ × ℕ × ℕ). record { items = destinations c.args.self.now.book q.0 q.1 q.2 q.3 }) c.args.asked.now place (0, 0, 0, 0) c.loop-place.found.items c.push.new.self.items c.numbers_of_active.result c.loop-place-test.true c.loop-place.invariant c.push.ensures.items
    (rw (← c.self.view_is) (ap (λ ns. record { items = ns }) numbers))
