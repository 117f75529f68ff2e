-- What actions leave of the book; and those that leave each subscriber's number: the index and the rule of numbers
-- stay.
use Rattle.hlr_core.proofs.Common.{◌≡◌, ℕ, ◌+◌, refl, sym, ap, ◌∙◌, List, [], ◌∷◌, map, Option, Some, None, inl, inr, ◌⊎◌, ◌==◌, option_map, slice_set, by_test, key_of, subscriber_key, in_order, row_at, with_row_at, SubscriberRow, SpecialFacilityRow, LAST_SUBSCRIBER, Refusal, effect, IsOutcome, subscriber_data, new_destination, access_data, update_subscriber, update_location, insert_forwarding, delete_forwarding, add_subscriber, add_access, add_facility, set_active, set_number, destinations, Book, IsRowsOf, subscriber_at, access_at, facility_at, forwarding_at, Action, RowReply, given_number, key_of_pair, HasNoTwin, bearer_id, number_pair, IsRegister}
use Rattle.tatp_actions.specs.declared.action.Action.TheVariants as action
use Rattle.tatp_actions.specs.declared.action.RowReply.TheVariants as row_reply
use Rattle.hlr_core.proofs.NumbersLemmas.{AllDiffer}

-- what is of the pairs alone: which number a subscriber has, who has a number, and that no number stands twice
pub record HaveSame (rows others : List SubscriberRow) : Type 0 where
  pub number : (k : ℕ) → option_map (λ (row : SubscriberRow). row.sub_nbr) (row_at subscriber_key k others) ≡ option_map (λ (row : SubscriberRow). row.sub_nbr) (row_at subscriber_key k rows)
  pub bearer : (n : ℕ) → bearer_id others n ≡ bearer_id rows n
  pub differ : (n : ℕ) → AllDiffer n rows → AllDiffer n others
  pub alone : HasNoTwin rows → HasNoTwin others

pub have_same : (rows others : List SubscriberRow) → map number_pair others ≡ map number_pair rows → HaveSame rows others
have_same [] [] same = record { number = λ k. refl; bearer = λ n. refl; differ = λ n each. tt; alone = λ alone. tt }
have_same (x ∷ xs) (y ∷ ys) same =
    let pair : number_pair y ≡ number_pair x = cc in
    let number : y.sub_nbr ≡ x.sub_nbr = ap (λ (one : ℕ × ℕ). one.0) pair in
    let bearer : y.s_id ≡ x.s_id = ap (λ (one : ℕ × ℕ). one.1) pair in
    let key : subscriber_key y ≡ subscriber_key x = ap (λ (one : ℕ × ℕ). key_of one.1 0 0) pair in
    let tail : map number_pair ys ≡ map number_pair xs = cc in
    let rest = have_same xs ys tail in
    record {
      number = λ k. by_test (subscriber_key x == k) (λ e. rw (key, e, number) refl) (λ e. rw (key, e) (rest.number k));
      bearer = λ n. by_test (x.sub_nbr == n) (λ e. rw (number, e) (ap Some bearer)) (λ e. rw (number, e) (rest.bearer n));
      differ = λ n each. (λ e. each.0 (e ∙ number), rest.differ n each.1);
      alone = λ alone. (rw (← number) at (rest.differ x.sub_nbr alone.0), rest.alone alone.1);
    }
have_same xs ys same = absurd cc

-- a row replaced by one of the same number and subscriber
pub pairs_with_row_at : (k : ℕ) (new old : SubscriberRow) (rows : List SubscriberRow) → row_at subscriber_key k rows ≡ Some old → number_pair new ≡ number_pair old
    → map number_pair (with_row_at subscriber_key k new rows) ≡ map number_pair rows
pairs_with_row_at k new old [] found same = refl
pairs_with_row_at k new old (x ∷ xs) found same =
    by_test (subscriber_key x == k)
    (λ e. let one : Some x ≡ Some old = rw e at found in
    let is : x ≡ old = cc in
    rw e (ap (λ (pair : ℕ × ℕ). pair ∷ map number_pair xs) (same ∙ ap number_pair (sym is))))
    (λ e. rw e (ap (λ (pairs : List (ℕ × ℕ)). number_pair x ∷ pairs) (pairs_with_row_at k new old xs (rw e at found) same)))

-- each subscriber keeps the number
abbrev pub KeepsPairs : List SubscriberRow → List SubscriberRow → Type 0
KeepsPairs before after = map number_pair after ≡ map number_pair before

-- an effect leaves the book; or it is Done, and leaves the pairs where its action gives no number
abbrev pub IsShaped : Action → Book → RowReply × Book → Type 0
IsShaped act before done = (done.1 ≡ before) ⊎ ((done.0 ≡ row_reply.Done) × (given_number act ≡ None → KeepsPairs before.subscribers done.1.subscribers))

pub effect_shaped : (act : Action) (before : Book) → IsShaped act before (effect act before)
effect_shaped (action.SubscriberData s_id) before =
    elim (subscriber_at before s_id) as (λ o. IsShaped (action.SubscriberData s_id) before (subscriber_data before o)) [ None ↦ inl refl | Some row ↦ inl refl ]
effect_shaped (action.NewDestination s_id sf_type start_time end_time) before =
    elim (destinations before s_id sf_type start_time end_time) as (λ found. IsShaped (action.NewDestination s_id sf_type start_time end_time) before (new_destination before found)) [ [] ↦ inl refl | number ∷ numbers ↦ inl refl ]
effect_shaped (action.AccessData s_id ai_type) before =
    elim (access_at before s_id ai_type) as (λ o. IsShaped (action.AccessData s_id ai_type) before (access_data before o)) [ None ↦ inl refl | Some row ↦ inl refl ]
effect_shaped (action.UpdateSubscriber s_id sf_type bit_1 data_a) before = cases (subscriber_at before s_id) (facility_at before s_id sf_type) refl
  where
    cases : (o : Option SubscriberRow) (f : Option SpecialFacilityRow) → subscriber_at before s_id ≡ o
        → IsShaped (action.UpdateSubscriber s_id sf_type bit_1 data_a) before (update_subscriber before s_id sf_type bit_1 data_a o f)
    cases None f e = inl refl
    cases (Some row) None e = inl refl
    cases (Some row) (Some facility) e = inr (refl, λ leaves. pairs_with_row_at (key_of s_id 0 0) (record row { bits = slice_set row.bits 0 bit_1 }) row before.subscribers e refl)
effect_shaped (action.UpdateLocation s_id vlr_location) before = cases (subscriber_at before s_id) refl
  where
    cases : (o : Option SubscriberRow) → subscriber_at before s_id ≡ o → IsShaped (action.UpdateLocation s_id vlr_location) before (update_location before s_id vlr_location o)
    cases None e = inl refl
    cases (Some row) e = inr (refl, λ leaves. pairs_with_row_at (key_of s_id 0 0) (record row { vlr_location = vlr_location }) row before.subscribers e refl)
effect_shaped (action.InsertForwarding row) before =
    elim (facility_at before row.s_id row.sf_type) as (λ o. IsShaped (action.InsertForwarding row) before (insert_forwarding before row o (forwarding_at before row.s_id row.sf_type row.start_time))) [
      | None ↦ inl refl
      | Some facility ↦ elim (forwarding_at before row.s_id row.sf_type row.start_time) as (λ o. IsShaped (action.InsertForwarding row) before (insert_forwarding before row (Some facility) o)) [ None ↦ inr (refl, λ leaves. refl) | Some other ↦ inl refl ]
    ]
effect_shaped (action.DeleteForwarding s_id sf_type start_time) before =
    elim (forwarding_at before s_id sf_type start_time) as (λ o. IsShaped (action.DeleteForwarding s_id sf_type start_time) before (delete_forwarding before s_id sf_type start_time o)) [ None ↦ inl refl | Some row ↦ inr (refl, λ leaves. refl) ]
effect_shaped (action.AddSubscriber row) before =
    elim (subscriber_at before row.s_id) as (λ o. IsShaped (action.AddSubscriber row) before (add_subscriber before row o)) [ None ↦ inr (refl, λ leaves. absurd cc) | Some other ↦ inl refl ]
effect_shaped (action.AddAccess row) before =
    elim (subscriber_at before row.s_id) as (λ o. IsShaped (action.AddAccess row) before (add_access before row o (access_at before row.s_id row.ai_type))) [
      | None ↦ inl refl
      | Some subscriber ↦ elim (access_at before row.s_id row.ai_type) as (λ o. IsShaped (action.AddAccess row) before (add_access before row (Some subscriber) o)) [ None ↦ inr (refl, λ leaves. refl) | Some other ↦ inl refl ]
    ]
effect_shaped (action.AddFacility row) before =
    elim (subscriber_at before row.s_id) as (λ o. IsShaped (action.AddFacility row) before (add_facility before row o (facility_at before row.s_id row.sf_type))) [
      | None ↦ inl refl
      | Some subscriber ↦ elim (facility_at before row.s_id row.sf_type) as (λ o. IsShaped (action.AddFacility row) before (add_facility before row (Some subscriber) o)) [ None ↦ inr (refl, λ leaves. refl) | Some other ↦ inl refl ]
    ]
effect_shaped (action.SetActive s_id sf_type is_active) before =
    elim (facility_at before s_id sf_type) as (λ o. IsShaped (action.SetActive s_id sf_type is_active) before (set_active before s_id sf_type is_active o)) [ None ↦ inl refl | Some row ↦ inr (refl, λ leaves. refl) ]
effect_shaped (action.SetNumber s_id sub_nbr) before =
    elim (subscriber_at before s_id) as (λ o. IsShaped (action.SetNumber s_id sub_nbr) before (set_number before s_id sub_nbr o)) [ None ↦ inl refl | Some row ↦ inr (refl, λ leaves. absurd cc) ]

-- a refusal leaves the book
pub effect_refused : (act : Action) (before : Book) (why : Refusal) → (effect act before).0 ≡ row_reply.Refused why → (effect act before).1 ≡ before
effect_refused act before why is =
    elim (effect_shaped act before) [
      | inl same ↦ same
      | inr done ↦ (let clash : row_reply.Done ≡ row_reply.Refused why = sym done.0 ∙ is in absurd cc)
    ]

-- an outcome leaves the book as it was, or as the effect says
pub outcome_book : (act : Action) (before after : Book) (answer : RowReply) → IsOutcome act before answer after → (after ≡ before) ⊎ ((answer, after) ≡ effect act before)
outcome_book act before after answer outcome =
    elim outcome [
      | inl field ↦ inl field.2
      | inr in_range ↦ elim in_range [ inl done ↦ inr done.1 | inr memory ↦ inl memory.4 ]
    ]

-- rows with the same pairs are those of a register with the same index
pub same_registered : (before after : Book) (pairs : List (ℕ × ℕ)) → IsRegister before pairs → IsRowsOf 1 (LAST_SUBSCRIBER + 1) after → KeepsPairs before.subscribers after.subscribers → IsRegister after pairs
same_registered before after pairs register rows keeps = record {
  rows = rows;
  alone = (have_same before.subscribers after.subscribers keeps).alone register.alone;
  index = register.index ∙ sym (ap (in_order key_of_pair) keeps);
}
