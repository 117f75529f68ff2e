-- Right steps of the register, from what its owners and its index do.
use Rattle.hlr_core.proofs.Common.{◌≡◌, ◌≢◌, ℕ, ◌+◌, refl, List, Bool, true, false, Option, Some, None, Ok, Err, sym, ap, ◌∙◌, inl, inr, is_some, option_map, ◌||◌, if◌then◌else◌, SubscriberRow, subscriber_key, by_test, with_row, without_row, LAST_SUBSCRIBER, Refusal, without_row-with_row, key_of_pair, pair_of, IsAdded, adds_row, is_in_range, s_id_of, effect, add_subscriber, done_reply, IsOutcome, Book, IsRowsOf, subscriber_at, Action, RowReply, IsAsked, IsRowStep, IsAnswered, is_loose, IsRegister, bearer_of, IsPostStep, IsWholeOutcome, posted_reply, given_number, takes_number, changes_number, reply_of, edited_reply, IsPosting, Store, Reply, Result}
use Rattle.tatp_rows.specs.declared.refusal.Refusal.TheVariants as refusal
use Rattle.tatp_actions.specs.declared.action.Action.TheVariants as action
use Rattle.tatp_actions.specs.declared.action.RowReply.TheVariants as row_reply
use Rattle.hlr_core.specs.declared.event.Reply.TheVariants as reply
use Rattle.hlr_core.proofs.NumbersLemmas.{bearer_is_another, no_twin-with_row}
use Rattle.hlr_core.proofs.IndexLemmas.{index-with_row, free_number, taken_number}
use Rattle.hlr_core.proofs.PairsLemmas.{outcome_book}

-- an outcome on a part is one on the whole book, where the action takes no number
whole_from_part : (act : Action) (before : Book) (answer : RowReply) (after : Book) → is_in_range act ≡ true → takes_number (given_number act) before ≡ false
    → IsOutcome act before answer after → IsWholeOutcome act before answer after
whole_from_part act before answer after ranges takes outcome =
    elim outcome [
      | inl field ↦ let clash : is_in_range act ≡ false = field.0 in absurd cc
      | inr in_range ↦ elim in_range [
        | inl done ↦ rw takes (inl done.1)
        | inr memory ↦ rw (takes, memory.1) (inr (refl, memory.2, memory.3, memory.4))
      ]
    ]

-- an action whose fields are in range, that takes no number and whose rows lie in a part is a right step
pub acted_step : (act : Action) (before after : Store) (rows : RowReply) (answer : Reply) → is_in_range act ≡ true → is_loose (s_id_of act) before.regions ≡ false
    → takes_number (given_number act) before.book ≡ false → IsOutcome act before.book rows after.book → after ≡ record before { book = after.book } → answer ≡ reply_of rows
    → IsRowStep true (Some act) before answer after
acted_step act before after rows answer in_range home free outcome same is =
    rw home (rows, after.book, whole_from_part act before.book rows after.book in_range free outcome, is, same)

-- an action whose rows lie in a loose piece is a right step
pub moving_step : (act : Action) (before after : Store) (answer : Reply) → is_loose (s_id_of act) before.regions ≡ true → answer ≡ reply.Refused refusal.Moving → after ≡ before
    → IsRowStep true (Some act) before answer after
moving_step act before after answer loose is same = rw loose (is, same)

-- what the rows' owner answers where the fields are in range or not
module _ (act : Action) (before after : Store) (rows : RowReply) (answer : Reply) (same : after ≡ record before { book = after.book }) (is : answer ≡ reply_of rows) where
  fields_refused : (loose : Bool) → false ≡ is_in_range act → IsAnswered loose act before.book rows after.book → (answer ≡ reply.Refused refusal.Field) × (after ≡ before)
  fields_refused true unfit answered =
      (is ∙ ap reply_of (rw (← unfit) at answered.0), same ∙ ap (λ (b : Book). record before { book = b }) answered.1)
  fields_refused false unfit outcome =
      elim outcome [
        | inl field ↦ (is ∙ ap reply_of field.1, same ∙ ap (λ (b : Book). record before { book = b }) field.2)
        | inr in_range ↦ elim in_range [
          | inl done ↦ (let clash : false ≡ true = unfit ∙ done.0 in absurd cc)
          | inr memory ↦ (let clash : false ≡ true = unfit ∙ memory.0 in absurd cc)
        ]
      ]

  answered_step : (loose : Bool) → is_loose (s_id_of act) before.regions ≡ loose → given_number act ≡ None → is_in_range act ≡ true → IsAnswered loose act before.book rows after.book
      → IsRowStep true (Some act) before answer after
  answered_step true loose gives fits answered =
      moving_step act before after answer loose (is ∙ ap reply_of (rw fits at answered.0)) (same ∙ ap (λ (b : Book). record before { book = b }) answered.1)
  answered_step false home gives fits outcome = acted_step act before after rows answer fits home (rw gives refl) outcome same is

-- what is answered of rows that lie in a part is a right outcome
pub outcome_of_answer : (act : Action) (loose : Bool) (before after : Book) (rows : RowReply) → loose ≡ false → IsAnswered loose act before rows after → IsOutcome act before rows after
outcome_of_answer act loose before after rows home answered = rw home at answered

-- an action that was asked for and gives no number is a right step
pub asked_step : (fits : Bool) (wanted : Option Action) (act : Action) (before after : Store) (rows : RowReply) (answer : Reply) → given_number act ≡ None
    → IsAsked fits wanted (Ok act) → IsAnswered (is_loose (s_id_of act) before.regions) act before.book rows after.book → after ≡ record before { book = after.book } → answer ≡ reply_of rows
    → IsRowStep fits wanted before answer after
asked_step false wanted act before after rows answer gives asked answered same is =
    fields_refused act before after rows answer same is (is_loose (s_id_of act) before.regions) asked.1 answered
asked_step true wanted act before after rows answer gives asked answered same is =
    rw (asked.0) (answered_step act before after rows answer same is (is_loose (s_id_of act) before.regions) refl gives (sym asked.1) answered)

-- the reply to an event that changes rows is the rows' own
pub edited_is : (done : Result (Unit {0}) Refusal) → edited_reply done ≡ reply_of (done_reply done)
edited_is (Ok u) = refl
edited_is (Err why) = refl

-- an event that is refused as it is asked for is a right step
pub unasked_step : (fits : Bool) (wanted : Option Action) (why : Refusal) (before : Store) → IsAsked fits wanted (Err why) → IsRowStep fits wanted before (reply.Refused why) before
unasked_step false wanted why before field = rw field (refl, refl)
unasked_step true None why before missing = rw missing (refl, refl)
unasked_step true (Some act) why before clash = absurd clash

-- what is refused is not done
pub not_done : (why : Refusal) → row_reply.Refused why ≡ row_reply.Done → ⊥
not_done why is = cc

-- a refusal of the rows comes before that of a number
pub refused_step : (act : Action) (before : Store) (why : Refusal) → is_loose (s_id_of act) before.regions ≡ false → effect act before.book ≡ (row_reply.Refused why, before.book) → IsRowStep true (Some act) before (reply.Refused why) before
refused_step act before why home is =
    rw home (row_reply.Refused why, before.book, inl (by_test (takes_number (given_number act) before.book) (λ e. rw (e, is) refl) (λ e. rw (e, is) refl)), refl, refl)

-- a subscriber whose row has another number, or who has none
abbrev HasNot : Book → ℕ → ℕ → Type 0
HasNot book s n = (row : SubscriberRow) → subscriber_at book s ≡ Some row → row.sub_nbr ≢ n

-- an action that the rows would do is refused with the index: its number is taken, or memory was refused
pub unpaired_step : (act : Action) (s n : ℕ) (before : Store) (pairs : List (ℕ × ℕ)) (why : Refusal) → IsRegister before.book pairs → given_number act ≡ Some (s, n) → HasNot before.book s n
    → is_loose (s_id_of act) before.regions ≡ false → (effect act before.book).0 ≡ row_reply.Done → (adds_row act || changes_number (given_number act) before.book) ≡ true
    → why ≡ (if is_some (pair_of n pairs) then refusal.NumberTaken else refusal.Memory)
    → IsRowStep true (Some act) before (reply.Refused why) before
unpaired_step act s n before pairs why register gives differ home done grows is = cases (pair_of n pairs) refl
  where
    takes : takes_number (given_number act) before.book ≡ is_some (bearer_of before.book.subscribers n)
    takes = rw gives (bearer_is_another before.book.subscribers s n register.rows.rules.subscribers_ordered differ)

    cases : (o : Option (ℕ × ℕ)) → pair_of n pairs ≡ o → IsRowStep true (Some act) before (reply.Refused why) before
    cases None e =
        let free : takes_number (given_number act) before.book ≡ false = takes ∙ ap is_some (free_number before.book pairs n register e) in
        let memory : why ≡ refusal.Memory = rw e at is in
        rw (memory, home) (row_reply.Refused refusal.Memory, before.book, inr (grows, rw free done, refl, refl), refl, refl)
    cases (Some pair) e =
        let owned : takes_number (given_number act) before.book ≡ true = takes ∙ taken_number before.book pairs n pair register e in
        let taken : why ≡ refusal.NumberTaken = rw e at is in
        rw (taken, home) (row_reply.Refused refusal.NumberTaken, before.book, inl (rw (owned, done) refl), refl, refl)

-- a subscriber who lies in a part, and has a row or has none
pub record IsHome (row : SubscriberRow) (store : Store) (has : Bool) : Type 0 where
  pub home : is_loose row.s_id store.regions ≡ false
  pub there : is_some (subscriber_at store.book row.s_id) ≡ has

pub some_number : (o : Option SubscriberRow) → is_some (option_map (λ (row : SubscriberRow). row.sub_nbr) o) ≡ is_some o
some_number None = refl
some_number (Some row) = refl

pub at_home : (s : ℕ) (row : SubscriberRow) (store : Store) (number : Option ℕ) (has : Bool) → s ≡ row.s_id → is_loose s store.regions ≡ false
    → number ≡ option_map (λ (r : SubscriberRow). r.sub_nbr) (subscriber_at store.book s) → has ≡ is_some number → IsHome row store has
at_home s row store number has same home is there = record {
  home = rw same at home;
  there = rw same at (sym (there ∙ ap is_some is ∙ some_number (subscriber_at store.book s)));
}

-- a subscriber who has a row is refused
pub exists_step : (row : SubscriberRow) (before : Store) → IsHome row before true → IsRowStep true (Some (action.AddSubscriber row)) before (reply.Refused refusal.Exists) before
exists_step row before here =
    refused_step (action.AddSubscriber row) before refusal.Exists here.home
    ((elim (subscriber_at before.book row.s_id) as (λ o. is_some o ≡ true → add_subscriber before.book row o ≡ (row_reply.Refused refusal.Exists, before.book)) [ None ↦ λ has. absurd cc | Some other ↦ λ has. refl ]) here.there)

-- a subscriber without a row
absent : (o : Option SubscriberRow) → is_some o ≡ false → o ≡ None
absent None lacks = refl
absent (Some row) lacks = absurd cc

-- a subscriber whose pair the index refuses
pub unadded_step : (row : SubscriberRow) (before : Store) (pairs new : List (ℕ × ℕ)) (why : Refusal) → IsRegister before.book pairs → IsHome row before false
    → IsAdded row.sub_nbr row.s_id pairs new (Err why) → IsRowStep true (Some (action.AddSubscriber row)) before (reply.Refused why) before
unadded_step row before pairs new why register here refused =
    let none = absent (subscriber_at before.book row.s_id) here.there in
    unpaired_step (action.AddSubscriber row) row.s_id row.sub_nbr before pairs why register refl (λ other found. let clash : Some other ≡ None = sym found ∙ none in absurd cc)
    here.home (rw none refl) refl refused.1

-- a subscriber who is added, with the pair in the index
pub added_registered : (row : SubscriberRow) (before after : Book) (pairs new : List (ℕ × ℕ)) → IsRegister before pairs → IsRowsOf 1 (LAST_SUBSCRIBER + 1) after
    → is_some (subscriber_at before row.s_id) ≡ false → pair_of row.sub_nbr pairs ≡ None → new ≡ with_row key_of_pair (row.sub_nbr, row.s_id) pairs
    → IsOutcome (action.AddSubscriber row) before row_reply.Done after → IsRegister after new
added_registered row before after pairs new register rows lacks unpaired grew outcome =
    let free = free_number before pairs row.sub_nbr register unpaired in
    let is : after ≡ record before { subscribers = with_row subscriber_key row before.subscribers } = done outcome in
    rw is (record {
      rows = rw is at rows;
      alone = no_twin-with_row row before.subscribers register.alone free;
      index = grew ∙ ap (with_row key_of_pair (row.sub_nbr, row.s_id)) register.index ∙ sym (index-with_row row before.subscribers free);
    })
  where
    none : subscriber_at before row.s_id ≡ None
    none = absent (subscriber_at before row.s_id) lacks

    done : IsOutcome (action.AddSubscriber row) before row_reply.Done after → after ≡ record before { subscribers = with_row subscriber_key row before.subscribers }
    done o = elim o [
      | inl field ↦ (let clash : row_reply.Done ≡ row_reply.Refused refusal.Field = field.1 in absurd cc)
      | inr in_range ↦ elim in_range [
        | inl effect_is ↦ ap (λ (p : RowReply × Book). p.1) (rw none at effect_is.1)
        | inr memory ↦ (let clash : row_reply.Done ≡ row_reply.Refused refusal.Memory = memory.3 in absurd cc)
      ]
    ]

-- a subscriber whose row the part refuses, with the pair taken out again
pub undone_registered : (row : SubscriberRow) (before after : Book) (answer : RowReply) (pairs new last : List (ℕ × ℕ)) → IsRegister before pairs
    → pair_of row.sub_nbr pairs ≡ None → new ≡ with_row key_of_pair (row.sub_nbr, row.s_id) pairs → last ≡ without_row key_of_pair row.sub_nbr new → after ≡ before → IsRegister after last
undone_registered row before after answer pairs new last register unpaired grew shrunk same =
    let back : last ≡ pairs = shrunk ∙ ap (without_row key_of_pair row.sub_nbr) grew ∙ without_row-with_row key_of_pair row.sub_nbr (row.sub_nbr, row.s_id) pairs refl unpaired in
    rw (same, back) register

-- a subscriber who isn't added leaves the book
pub undone_same : (row : SubscriberRow) (before after : Book) (answer : RowReply) → is_some (subscriber_at before row.s_id) ≡ false → (answer ≡ row_reply.Done → ⊥)
    → IsOutcome (action.AddSubscriber row) before answer after → after ≡ before
undone_same row before after answer lacks undone outcome =
    elim (outcome_book (action.AddSubscriber row) before after answer outcome) [
      | inl same ↦ same
      | inr is ↦ (let done : answer ≡ row_reply.Done = ap (λ (p : RowReply × Book). p.0) (rw (absent (subscriber_at before row.s_id) lacks) at is) in absurd (undone done))
    ]

-- a number without a pair is free to take
pub free_to_take : (act : Action) (s n : ℕ) (book : Book) (pairs : List (ℕ × ℕ)) → IsRegister book pairs → given_number act ≡ Some (s, n) → pair_of n pairs ≡ None → takes_number (given_number act) book ≡ false
free_to_take act s n book pairs register gives unpaired = rw (gives, free_number book pairs n register unpaired) refl

-- a posting is a right step, with its reply
pub posted_step : (slots : Option (List ℕ)) (part limit : ℕ) (before after : Store) (posted : Result ℕ Refusal) → IsPosting slots part limit before posted after
    → IsPostStep slots part limit before (posted_reply posted) after
posted_step slots part limit before after posted is = (posted, is, refl)
