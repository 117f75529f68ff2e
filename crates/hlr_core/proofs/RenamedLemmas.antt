-- A subscriber's number becomes another one, in the index first and then in the row.
use Rattle.hlr_core.proofs.Common.{◌≡◌, ◌≢◌, ℕ, ◌+◌, refl, arith, List, map, true, false, Option, Some, None, Ok, Err, sym, ap, ◌∙◌, inl, inr, option_map, nat_lt, Result, nat_tests, IsNumber, SubscriberRow, is_between, key_of, subscriber_key, LAST_SUBSCRIBER, Refusal, key_found, each-without_row, bearer_in, renamed, IsRenamed, is_in_range, set_number, IsOutcome, Book, IsRowsOf, subscriber_at, put_subscriber, RowReply, index_of, IsRegister, number_pair, IsRowStep, is_loose, given_number, takes_number, reply_of, Store, Reply}
use Rattle.tatp_rows.specs.declared.refusal.Refusal.TheVariants as refusal
use Rattle.tatp_actions.specs.declared.action.Action.TheVariants as action
use Rattle.tatp_actions.specs.declared.action.RowReply.TheVariants as row_reply
use Rattle.hlr_core.specs.declared.event.Reply.TheVariants as reply
use Rattle.hlr_core.proofs.NumbersLemmas.{other_numbers, bearer_found, no_twin-with_row_at}
use Rattle.hlr_core.proofs.IndexLemmas.{index_renamed, bearer_indexed, free_number}
use Rattle.hlr_core.proofs.PairsLemmas.{pairs_with_row_at, same_registered}
use Rattle.hlr_core.proofs.RegisterLemmas.{acted_step, refused_step, unpaired_step, free_to_take}

-- a subscriber's row and the renaming of its number in the index
record IsRenaming (s n : ℕ) (book : Book) (pairs new : List (ℕ × ℕ)) (result : Result (Unit {0}) Refusal) : Type 0 where
  row : SubscriberRow
  found : subscriber_at book s ≡ Some row
  own : row.s_id ≡ s
  answer : IsRenamed row.sub_nbr n pairs new result (Some s)

-- the row whose number is renamed
renaming : (s old n : ℕ) (book : Book) (pairs new : List (ℕ × ℕ)) (result : Result (Unit {0}) Refusal) → IsRegister book pairs
    → Some old ≡ option_map (λ (row : SubscriberRow). row.sub_nbr) (subscriber_at book s) → IsRenamed old n pairs new result (bearer_in old pairs)
    → IsRenaming s n book pairs new result
renaming s old n book pairs new result register number result_is = cases (subscriber_at book s) refl number
  where
    cases : (o : Option SubscriberRow) → subscriber_at book s ≡ o → Some old ≡ option_map (λ (row : SubscriberRow). row.sub_nbr) o → IsRenaming s n book pairs new result
    cases None e is = absurd cc
    cases (Some row) e is =
        let same : old ≡ row.sub_nbr = cc in
        let key : subscriber_key row ≡ key_of s 0 0 = key_found subscriber_key (key_of s 0 0) book.subscribers row e in
        let own : row.s_id ≡ s = omega arith in
        let owner : bearer_in row.sub_nbr pairs ≡ Some s =
        bearer_indexed book pairs row.sub_nbr register ∙ ap (option_map (λ (r : SubscriberRow). r.s_id)) (bearer_found (key_of s 0 0) row book.subscribers register.alone e) ∙ ap (λ (k : ℕ). Some k) own in
        record { row = row; found = e; own = own; answer = rw (same, owner) at result_is }

-- a subscriber without a row
pub unnumbered_step : (s n : ℕ) (before : Store) → is_loose s before.regions ≡ false → None ≡ option_map (λ (row : SubscriberRow). row.sub_nbr) (subscriber_at before.book s)
    → IsRowStep true (Some (action.SetNumber s n)) before (reply.Refused refusal.NoSubscriber) before
unnumbered_step s n before home none =
    refused_step (action.SetNumber s n) before refusal.NoSubscriber home
    ((elim (subscriber_at before.book s) as (λ o. None ≡ option_map (λ (row : SubscriberRow). row.sub_nbr) o → set_number before.book s n o ≡ (row_reply.Refused refusal.NoSubscriber, before.book)) [ None ↦ λ is. refl | Some row ↦ λ is. absurd cc ]) none)

-- a number that the index refuses
pub unrenamed_step : (s old n : ℕ) (before : Store) (pairs new : List (ℕ × ℕ)) (why : Refusal) → IsRegister before.book pairs → is_loose s before.regions ≡ false
    → Some old ≡ option_map (λ (row : SubscriberRow). row.sub_nbr) (subscriber_at before.book s) → IsRenamed old n pairs new (Err why) (bearer_in old pairs)
    → IsRowStep true (Some (action.SetNumber s n)) before (reply.Refused why) before
unrenamed_step s old n before pairs new why register home number changed =
    let found = renaming s old n before.book pairs new (Err why) register number changed in
    elim (found.answer) [
      | inl same ↦ (let clash : Err why ≡ Ok tt = same.1 in absurd cc)
      | inr refused ↦ (let other : found.row.sub_nbr ≢ n = refused.0 in
          unpaired_step (action.SetNumber s n) s n before pairs why register refl (λ row is. let at : row ≡ found.row = one row found.row (sym is ∙ found.found) in rw at other)
          home (rw (found.found) refl) (rw (found.found) (grind (arith, nat_tests))) refused.1.1)
    ]
  where
    one : (x y : SubscriberRow) → Some x ≡ Some y → x ≡ y
    one x y is = cc

-- the fields of a renaming are in range
pub renaming_in_range : (s n value : ℕ) → is_between 1 LAST_SUBSCRIBER s ≡ true → value ≡ n → IsNumber value → is_in_range (action.SetNumber s n) ≡ true
renaming_in_range s n value own is number = let below : nat_lt n 1000000000000000 ≡ true = grind (arith, nat_tests) in rw (own, below) refl

-- a number that the row has now
numbered_book : (s n : ℕ) (row : SubscriberRow) (before after : Book) (answer : RowReply) → is_in_range (action.SetNumber s n) ≡ true → subscriber_at before s ≡ Some row
    → IsOutcome (action.SetNumber s n) before answer after → after ≡ put_subscriber before s (record row { sub_nbr = n })
numbered_book s n row before after answer fits found outcome =
    elim outcome [
      | inl field ↦ (let clash : true ≡ false = sym fits ∙ field.0 in absurd cc)
      | inr in_range ↦ elim in_range [
        | inl done ↦ ap (λ (p : RowReply × Book). p.1) (rw found at done.1)
        | inr memory ↦ (let clash : false ≡ true = memory.1 in absurd cc)
      ]
    ]

pub renamed_registered : (s old n : ℕ) (before after : Book) (pairs new : List (ℕ × ℕ)) (answer : RowReply) → IsRegister before pairs → IsRowsOf 1 (LAST_SUBSCRIBER + 1) after
    → Some old ≡ option_map (λ (row : SubscriberRow). row.sub_nbr) (subscriber_at before s) → IsRenamed old n pairs new (Ok tt) (bearer_in old pairs)
    → is_in_range (action.SetNumber s n) ≡ true → IsOutcome (action.SetNumber s n) before answer after → IsRegister after new
renamed_registered s old n before after pairs new answer register rows number changed fits outcome =
    let found = renaming s old n before pairs new (Ok tt) register number changed in
    let is = numbered_book s n found.row before after answer fits found.found outcome in
    elim (found.answer) [
      | inl same ↦ rw (same.2) (same_registered before after pairs register rows
          (ap (λ (b : Book). map number_pair b.subscribers) is
          ∙ pairs_with_row_at (key_of s 0 0) (record found.row { sub_nbr = n }) found.row before.subscribers found.found (ap (λ (k : ℕ). (k, found.row.s_id)) (sym same.0))))
      | inr other ↦ (let free = free_number before pairs n register other.1.0 in
          rw is (record {
            rows = rw is at rows;
            alone = no_twin-with_row_at (key_of s 0 0) (record found.row { sub_nbr = n }) before.subscribers register.alone
                (each-without_row subscriber_key (λ (r : SubscriberRow). n ≢ r.sub_nbr) (key_of s 0 0) before.subscribers (other_numbers before.subscribers n free));
            index = other.1.1 ∙ ap (renamed found.row.sub_nbr n s) register.index ∙ ap (λ (k : ℕ). renamed found.row.sub_nbr n k (index_of before.subscribers)) (sym found.own)
                ∙ sym (index_renamed (key_of s 0 0) (record found.row { sub_nbr = n }) found.row before.subscribers register.alone found.found free);
          }))
    ]

-- a number that is given is a right step
pub renamed_step : (s old n : ℕ) (before after : Store) (pairs new : List (ℕ × ℕ)) (rows : RowReply) (answer : Reply) → IsRegister before.book pairs → is_loose s before.regions ≡ false
    → Some old ≡ option_map (λ (row : SubscriberRow). row.sub_nbr) (subscriber_at before.book s) → IsRenamed old n pairs new (Ok tt) (bearer_in old pairs)
    → is_in_range (action.SetNumber s n) ≡ true → IsOutcome (action.SetNumber s n) before.book rows after.book → after ≡ record before { book = after.book } → answer ≡ reply_of rows
    → IsRowStep true (Some (action.SetNumber s n)) before answer after
renamed_step s old n before after pairs new rows answer register home number changed fits outcome same is =
    let found = renaming s old n before.book pairs new (Ok tt) register number changed in
    acted_step (action.SetNumber s n) before after rows answer fits home (takes found (found.answer)) outcome same is
  where
    takes : (found : IsRenaming s n before.book pairs new (Ok tt)) → IsRenamed found.row.sub_nbr n pairs new (Ok tt) (Some s) → takes_number (given_number (action.SetNumber s n)) before.book ≡ false
    takes found changed = elim changed [
      | inl kept ↦ (let owner = bearer_found (key_of s 0 0) found.row before.book.subscribers register.alone found.found in
          rw (← kept.0, owner, found.own) (grind (arith, nat_tests)))
      | inr other ↦ free_to_take (action.SetNumber s n) s n before.book pairs register refl other.1.0
    ]
