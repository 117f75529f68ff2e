-- What a right step says of the book: an event that is answered Done changes it as its line says, and any other leaves it.
use Rattle.std.proofs.Common.{◌≡◌, ◌∙◌, refl, sym, ap, Bool, true, false, [], ◌∷◌, inl, inr, Some, None, Ok, Err}
use Rattle.std.specs.Prelude.{Result, ◌&&◌}
use Rattle.tatp_rows.proofs.OrderedLemmas.{by_test}
use Rattle.tatp_rows.specs.declared.refusal.Refusal.{Refusal}
use Rattle.part_table.specs.Regions.{pieces_of}
use Rattle.tatp_actions.specs.Action.{effect, s_id_of}
use Rattle.tatp_actions.specs.Book.{Book}
use Rattle.tatp_actions.specs.declared.action.Action.{Action}
use Rattle.tatp_actions.specs.declared.action.RowReply.{RowReply}
use Rattle.tatp_actions.specs.declared.action.RowReply.TheVariants as row_reply
use Rattle.hlr_owners.specs.Answered.{is_loose}
use Rattle.hlr_owners.specs.Store.{Store}
use Rattle.hlr_core.specs.Kept.{is_on_rows}
use Rattle.hlr_core.specs.Step.{IsStep, IsAskedStep, IsOwnedStep, action_for, given_number, is_done, reply_of, takes_number, whole_effect}
use Rattle.hlr_core.specs.declared.event.Event.{Event}
use Rattle.hlr_core.specs.declared.event.Event.TheVariants.{Post, Give, Take, Divide, Dissolve}
use Rattle.hlr_core.specs.declared.event.Reply.{Reply}
use Rattle.hlr_core.specs.declared.event.Reply.TheVariants as reply
use Rattle.hlr_core.specs.declared.order.Answer.TheVariants as answer
use Rattle.hlr_core.specs.declared.order.Order.TheVariants as order
use Rattle.hlr_core.proofs.AtHomeLemmas.{nobody_loose, same_at_home}
use Rattle.hlr_core.proofs.PairsLemmas.{effect_shaped}
use Rattle.hlr_core.proofs.RouteLemmas.{row_step}
use Rattle.edit_lines.specs.Lines.{is_change}
use Rattle.edit_lines.proofs.DoneLemmas.{step_is_change}
use Rattle.hlr_kept.specs.Runs.{tells_done, wants_memory}
use Rattle.hlr_kept.specs.Rows.{book_after_action, book_after_event, done_book}

-- a reply says Done if the rows do
pub tells_rows : (rows : RowReply) → tells_done (reply_of rows) ≡ is_done rows
tells_rows (row_reply.Refused why) = refl
tells_rows row_reply.Done = refl
tells_rows (row_reply.Row row) = refl
tells_rows (row_reply.Numbers numbers) = refl
tells_rows (row_reply.AccessRow data1 data2 data3 data4) = refl

-- rows that say Done
done_is : (rows : RowReply) → is_done rows ≡ true → rows ≡ row_reply.Done
done_is row_reply.Done done = refl
done_is _ done = absurd cc

-- a reply that says Done
pub tells_is : (told : Reply) → tells_done told ≡ true → told ≡ reply.Rows row_reply.Done
tells_is (reply.Rows rows) done = ap reply.Rows (done_is rows done)
tells_is _ done = absurd cc

-- an effect that isn't done leaves the book
whole_stays : (act : Action) (book : Book) → is_done (whole_effect act book).0 ≡ false → (whole_effect act book).1 ≡ book
whole_stays act book =
    by_test (takes_number (given_number act) book && is_done (effect act book).0)
    (λ e. rw e (λ left. refl))
    (λ e. rw e (λ left. elim (effect_shaped act book) [
      | inl same ↦ same
      | inr done ↦ (let clash : true ≡ false = sym (ap is_done done.0) ∙ left in absurd cc)
    ]))

module _ (before after : Store) (told : Reply) where
  -- an action that was done
  owned_done : (loose : Bool) (act : Action) → tells_done told ≡ true → IsOwnedStep loose act before told after
      → done_book (whole_effect act before.book) ≡ Some after.book
  owned_done true act done step = let clash : false ≡ true = sym (ap tells_done step.0) ∙ done in absurd cc
  owned_done false act done step =
      let is : is_done step.0 ≡ true = sym (tells_rows step.0) ∙ sym (ap tells_done step.3) ∙ done in
      let left : after.book ≡ step.1 = ap (λ (s : Store). s.book) step.4 in
      elim step.2 [
        | inl same ↦ rw (← same, is, left) refl
        | inr memory ↦ (let clash : false ≡ true = sym (ap is_done memory.2) ∙ is in absurd cc)
      ]

  asked_done : (wanted : Result Action Refusal) → tells_done told ≡ true → IsAskedStep wanted before told after
      → book_after_action wanted before.book ≡ Some after.book
  asked_done (Err why) done step = let clash : false ≡ true = sym (ap tells_done step.0) ∙ done in absurd cc
  asked_done (Ok act) done step = owned_done (is_loose (s_id_of act) before.regions) act done step

  -- an action that wasn't done leaves the book
  owned_left : (loose : Bool) (act : Action) → tells_done told ≡ false → IsOwnedStep loose act before told after → after.book ≡ before.book
  owned_left true act left step = ap (λ (s : Store). s.book) step.1
  owned_left false act left step =
      let is : is_done step.0 ≡ false = sym (tells_rows step.0) ∙ sym (ap tells_done step.3) ∙ left in
      ap (λ (s : Store). s.book) step.4
      ∙ elim step.2 [
        | inl same ↦ (
            ap (λ (p : RowReply × Book). p.1) same
            ∙ whole_stays act before.book (sym (ap (λ (p : RowReply × Book). is_done p.0) same) ∙ is))
        | inr memory ↦ memory.3
      ]

  asked_left : (wanted : Result Action Refusal) → tells_done told ≡ false → IsAskedStep wanted before told after → after.book ≡ before.book
  asked_left (Err why) left step = ap (λ (s : Store). s.book) step.1
  asked_left (Ok act) left step = owned_left (is_loose (s_id_of act) before.regions) act left step

  -- where no piece is loose and memory isn't wanted, what isn't done can't be
  module _ (none : pieces_of before.regions ≡ []) (left : tells_done told ≡ false) (room : wants_memory told ≡ false) where
    owned_not : (loose : Bool) (act : Action) → loose ≡ false → IsOwnedStep loose act before told after → done_book (whole_effect act before.book) ≡ None
    owned_not true act isnt step = absurd cc
    owned_not false act isnt step =
        let is : is_done step.0 ≡ false = sym (tells_rows step.0) ∙ sym (ap tells_done step.3) ∙ left in
        elim step.2 [
          | inl same ↦ rw (← same, is) refl
          | inr memory ↦ (let clash : true ≡ false = sym (ap wants_memory (step.3 ∙ ap reply_of memory.2)) ∙ room in absurd cc)
        ]

    asked_not : (wanted : Result Action Refusal) → IsAskedStep wanted before told after → book_after_action wanted before.book ≡ None
    asked_not (Err why) step = refl
    asked_not (Ok act) step = owned_not (is_loose (s_id_of act) before.regions) act (nobody_loose (s_id_of act) before.regions none) step

-- an event that is answered Done is on rows
done_on_rows : (event : Event) → is_change event ≡ true → is_on_rows event ≡ true
done_on_rows (Post part limit) change = absurd cc
done_on_rows (Give part side at) change = absurd cc
done_on_rows (Take piece part) change = absurd cc
done_on_rows (Divide part at) change = absurd cc
done_on_rows (Dissolve part) change = absurd cc
done_on_rows _ change = refl

-- an event that is answered Done changes rows, and its plain numbers are in range
pub done_changes : (event : Event) (before after : Store) (told : Reply) → tells_done told ≡ true → IsStep event before told after → is_change event ≡ true
done_changes event before after told done step = step_is_change event before after (rw (tells_is told done) at step)

-- and leads to the book of its line
pub done_step : (event : Event) (before after : Store) (told : Reply) → tells_done told ≡ true → IsStep event before told after
    → book_after_event event before.book ≡ Some after.book
done_step event before after told done step =
    let rows = done_on_rows event (done_changes event before after told done step) in
    asked_done before after told (action_for event before.book) done ((row_step event before told after rows).0 step)

-- any other event leaves the book
other_step : (event : Event) (before after : Store) (told : Reply) → is_on_rows event ≡ false → IsStep event before told after → after.book ≡ before.book
other_step event before after told off step =
    let stays = same_at_home (order.Event event ∷ []) (answer.Reply told ∷ []) before after (after, step, refl) (record before { regions = [] }) refl in
    ap (λ (s : Store). s.book) (rw off at stays)

pub left_step : (event : Event) (before after : Store) (told : Reply) → tells_done told ≡ false → IsStep event before told after → after.book ≡ before.book
left_step event before after told left step =
    by_test (is_on_rows event)
    (λ e. asked_left before after told (action_for event before.book) left ((row_step event before told after e).0 step))
    (λ e. other_step event before after told e step)

-- an event with a line isn't done again only for want of memory
pub not_again : (event : Event) (before after : Store) (told : Reply) → is_change event ≡ true → pieces_of before.regions ≡ [] → tells_done told ≡ false → wants_memory told ≡ false → IsStep event before told after
    → book_after_event event before.book ≡ None
not_again event before after told change none left room step =
    asked_not before after told none left room (action_for event before.book) ((row_step event before told after (done_on_rows event change)).0 step)

-- and changes nothing but rows
asked_rows : (wanted : Result Action Refusal) (before after : Store) (told : Reply) → IsAskedStep wanted before told after → after ≡ record before { book = after.book }
asked_rows (Err why) before after told step = step.1 ∙ ap (λ (s : Store). record before { book = s.book }) (sym step.1)
asked_rows (Ok act) before after told step = owned (is_loose (s_id_of act) before.regions) act step
  where
    owned : (loose : Bool) (act : Action) → IsOwnedStep loose act before told after → after ≡ record before { book = after.book }
    owned true act step = step.1 ∙ ap (λ (s : Store). record before { book = s.book }) (sym step.1)
    owned false act step = step.4 ∙ ap (λ (b : Book). record before { book = b }) (sym (ap (λ (s : Store). s.book) step.4))

pub other_rows : (event : Event) (before after : Store) (told : Reply) → is_change event ≡ true → IsStep event before told after → after ≡ record before { book = after.book }
other_rows event before after told change step =
    asked_rows (action_for event before.book) before after told ((row_step event before told after (done_on_rows event change)).0 step)

pub same_regions : (event : Event) (before after : Store) (told : Reply) → is_change event ≡ true → IsStep event before told after → after.regions ≡ before.regions
same_regions event before after told change step = ap (λ (s : Store). s.regions) (other_rows event before after told change step)
