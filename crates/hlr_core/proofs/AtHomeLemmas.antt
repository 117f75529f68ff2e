-- Where no piece is loose, the events on rows have the replies that they have elsewhere, but for Moving and Memory.
use Rattle.hlr_core.proofs.Common.{◌≡◌, ◌∙◌, refl, sym, ap, subst, ℕ, List, [], ◌∷◌, ◌++◌, Bool, true, false, inl, inr, ◌&&◌, Result, by_test, Refusal, effect, s_id_of, Book, Action, RowReply, recut_answer, lies_in, piece_number, pieces_of, Place, Piece, Region, IsSameAtHome, is_kept, is_on_rows, is_lasting, kept_answers, kept_orders, IsOrderStep, IsRun, IsStep, IsAskedStep, IsOwnedStep, IsPostStep, action_for, whole_effect, takes_number, given_number, is_done, reply_of, is_loose, is_loose_place, IsDissolved, IsDivided, Store, slots_of, Event, Post, Give, Take, Divide, Dissolve, Reply, Answer, Order, both, recut_stays, Option, Some, None, Ok, Err}
use Rattle.tatp_actions.specs.declared.action.RowReply.TheVariants as row_reply
use Rattle.part_table.specs.declared.region.Place.TheVariants.{Part}
use Rattle.hlr_core.specs.declared.order.Answer.TheVariants as answer
use Rattle.hlr_core.specs.declared.order.Order.TheVariants as order
use Rattle.hlr_core.proofs.PairsLemmas.{effect_refused}
use Rattle.hlr_core.proofs.RouteLemmas.{row_step}

-- a store with another book
abbrev with_book : Store → Book → Store
with_book base book = record base { book = book }

-- where no piece is loose, neither the first region nor any other is one
none_loose : (p : Place) (pieces : List ℕ) → piece_number p ++ pieces ≡ [] → (is_loose_place (Some p) ≡ false) × (pieces ≡ [])
none_loose (Part q) pieces none = (refl, none)
none_loose (Piece n) pieces none = absurd cc

-- where no piece is loose, no subscriber lies in one
pub nobody_loose : (s : ℕ) (regions : List Region) → pieces_of regions ≡ [] → is_loose s regions ≡ false
nobody_loose s [] none = refl
nobody_loose s (region ∷ regions) none =
    let both = none_loose region.place (pieces_of regions) none in
    let rest = nobody_loose s regions both.1 in
    by_test (lies_in s region) (λ e. rw e both.0) (λ e. rw e rest)

-- a step with a lasting reply is one where no piece is loose
module _ (base before after : Store) (reply : Reply) (none : pieces_of base.regions ≡ [])
    (lasts : is_lasting reply ≡ true) where
  owned_at_home : (loose : Bool) (act : Action) → IsOwnedStep loose act before reply after
      → IsOwnedStep false act (with_book base before.book) reply (with_book base after.book)
  owned_at_home true act step = let clash : true ≡ false = sym lasts ∙ ap is_lasting step.0 in absurd cc
  owned_at_home false act step =
      (step.0, step.1, step.2, step.3, ap (λ (s : Store). with_book base s.book) step.4)

  asked_at_home : (wanted : Result Action Refusal) → IsAskedStep wanted before reply after
      → IsAskedStep wanted (with_book base before.book) reply (with_book base after.book)
  asked_at_home (Err why) step = (step.0, ap (λ (s : Store). with_book base s.book) step.1)
  asked_at_home (Ok act) step =
      let here : is_loose (s_id_of act) base.regions ≡ false = nobody_loose (s_id_of act) base.regions none in
      rw here (owned_at_home (is_loose (s_id_of act) before.regions) act step)

-- a reply that does not last is a refusal
passing_refuses : (rows : RowReply) → is_lasting (reply_of rows) ≡ false
    → (why : Refusal) × (rows ≡ row_reply.Refused why)
passing_refuses (row_reply.Refused why) passes = (why, refl)
passing_refuses rows passes = absurd cc

-- a refusal leaves the whole book
whole_refused : (act : Action) (before : Book) (why : Refusal)
    → (whole_effect act before).0 ≡ row_reply.Refused why → (whole_effect act before).1 ≡ before
whole_refused act before why =
    by_test (takes_number (given_number act) before && is_done (effect act before).0)
    (λ e. rw e (λ is. refl))
    (λ e. rw e (λ is. effect_refused act before why is))

-- a step whose reply does not last leaves the book
module _ (before after : Store) (reply : Reply) (passes : is_lasting reply ≡ false) where
  owned_stays : (loose : Bool) (act : Action) → IsOwnedStep loose act before reply after → after.book ≡ before.book
  owned_stays true act step = ap (λ (s : Store). s.book) step.1
  owned_stays false act step =
      let refused = passing_refuses step.0 (rw (step.3) at passes) in
      ap (λ (s : Store). s.book) step.4
      ∙ elim step.2 [
        | inl done ↦
            (ap (λ (p : RowReply × Book). p.1) done
            ∙ whole_refused act before.book refused.0 (sym (ap (λ (p : RowReply × Book). p.0) done) ∙ refused.1))
        | inr memory ↦ memory.3
      ]

  asked_stays : (wanted : Result Action Refusal) → IsAskedStep wanted before reply after → after.book ≡ before.book
  asked_stays (Err why) step = ap (λ (s : Store). s.book) step.1
  asked_stays (Ok act) step = owned_stays (is_loose (s_id_of act) before.regions) act step

-- an event that isn't on rows leaves the book
post_stays : (slots : Option (List ℕ)) (part limit : ℕ) (before after : Store) (reply : Reply)
    → IsPostStep slots part limit before reply after → after.book ≡ before.book
post_stays None part limit before after reply step = ap (λ (s : Store). s.book) step.1.1
post_stays (Some slots) part limit before after reply step = ap (λ (s : Store). s.book) step.1.1

-- so does a part that comes or goes
divided_stays : (part at : ℕ) (done : Result (ℕ × ℕ × ℕ) Refusal) (before after : Store)
    → IsDivided part at done before after → after.book ≡ before.book
divided_stays part at (Err why) before after is = ap (λ (s : Store). s.book) is
divided_stays part at (Ok new) before after is = ap (λ (s : Store). s.book) is

dissolved_stays : (part : ℕ) (done : Result (ℕ × ℕ × ℕ) Refusal) (before after : Store)
    → IsDissolved part done before after → after.book ≡ before.book
dissolved_stays part (Err why) before after is = ap (λ (s : Store). s.book) is
dissolved_stays part (Ok front) before after is = ap (λ (s : Store). s.book) is.0

other_stays : (event : Event) (before after : Store) (reply : Reply) → is_on_rows event ≡ false
    → IsStep event before reply after → after.book ≡ before.book
other_stays (Post part limit) before after reply off step =
    post_stays (slots_of before part) part limit before after reply step
other_stays (Give part side at) before after reply off step = ap (λ (s : Store). s.book) step.3
other_stays (Take piece part) before after reply off step = ap (λ (s : Store). s.book) step.3
other_stays (Divide part at) before after reply off step = divided_stays part at step.0 before after step.3
other_stays (Dissolve part) before after reply off step = dissolved_stays part step.0 before after step.3
other_stays _ before after reply off step = absurd cc

-- one step, that is kept or left out
step_at_home : (base before after : Store) (event : Event) (reply : Reply) → pieces_of base.regions ≡ []
    → (is_on_rows event && is_lasting reply) ≡ true → IsStep event before reply after
    → IsStep event (with_book base before.book) reply (with_book base after.book)
step_at_home base before after event reply none keeps step =
    let is = both (is_on_rows event) (is_lasting reply) keeps in
    (row_step event (with_book base before.book) reply (with_book base after.book) is.0).1
    (asked_at_home base before after reply none is.1 (action_for event before.book) ((row_step event before reply after is.0).0 step))

step_stays : (before after : Store) (event : Event) (reply : Reply) → (is_on_rows event && is_lasting reply) ≡ false
    → IsStep event before reply after → after.book ≡ before.book
step_stays before after event reply out step =
    by_test (is_on_rows event)
    (λ e. asked_stays before after reply (rw e at out) (action_for event before.book) ((row_step event before reply after e).0 step))
    (λ e. other_stays event before after reply e step)

-- one order, that is kept or left out
order_at_home : (base before after : Store) (one : Order) (told : Answer) → pieces_of base.regions ≡ []
    → is_kept one told ≡ true → IsOrderStep one before told after
    → IsOrderStep one (with_book base before.book) told (with_book base after.book)
order_at_home base before after (order.Event event) (answer.Reply reply) none keeps step =
    step_at_home base before after event reply none keeps step
order_at_home base before after (order.Event event) (answer.Recut done) none keeps step = absurd step
order_at_home base before after (order.Recut bounds) told none keeps step = absurd cc

order_stays : (before after : Store) (one : Order) (told : Answer) → is_kept one told ≡ false
    → IsOrderStep one before told after → after.book ≡ before.book
order_stays before after (order.Event event) (answer.Reply reply) out step =
    step_stays before after event reply out step
order_stays before after (order.Recut bounds) (answer.Recut done) out step =
    recut_stays (recut_answer before.regions bounds.items) bounds.items before after done step
order_stays before after one told out step = absurd step

-- a run, and what is left of it where no piece is loose
run_at_home : (base before after : Store) (orders : List Order) (answers : List Answer) → pieces_of base.regions ≡ []
    → IsRun orders before answers after
    → IsRun (kept_orders orders answers) (with_book base before.book) (kept_answers orders answers)
    (with_book base after.book)
run_at_home base before after [] [] none run = ap (λ (s : Store). with_book base s.book) run
run_at_home base before after (one ∷ orders) (told ∷ answers) none run =
    let rest = run_at_home base run.0 after orders answers none run.2 in
    by_test (is_kept one told)
    (λ e. rw e (with_book base run.0.book, order_at_home base before run.0 one told none e run.1, rest))
    (λ e. rw e (subst
    (λ (b : Book).
    IsRun (kept_orders orders answers) (with_book base b) (kept_answers orders answers) (with_book base after.book))
    (order_stays before run.0 one told e run.1) rest))
run_at_home base before after orders answers none run = absurd run

-- so the kept orders have the same answers
pub same_at_home : (orders : List Order) (answers : List Answer) (before after : Store)
    → IsRun orders before answers after → IsSameAtHome orders before.book answers after.book
same_at_home orders answers before after run base none = run_at_home base before after orders answers none run
