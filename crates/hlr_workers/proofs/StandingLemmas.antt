-- Where an engine stands after each of its moves.
use Rattle.hlr_workers.proofs.Common.{◌≡◌, ◌∙◌, refl, sym, ap, subst, ℕ, zero, suc, ◌+◌, ◌<◌, ◌≤◌, List, [], ◌∷◌, ◌++◌, length, get_or, set, arith, Some, None, length-append, inl, inr, Option, Result, slice_get, ◌⊎◌, ◌≢◌, AllByRecursion, none-some, same_Some, slice_get_within, slice_get-get_or, get_or_from_slice_get, set-set, length-set, cases_lt, eqb_tells, Refusal, HoldingState, Job, IsRecut, Store, IsOrderStep, IsRun, IsJobDone, IsStep, Event, Reply, Answer, Order, IsSession, IsSessionBy, AreEnds, numbered, numbered_in, HasKept, Asked, Took, Cut, orders_of, events_in, answers_by, answers_with, put_answers, InOrder}
use Rattle.hlr_core.specs.declared.order.Answer.TheVariants as answer
use Rattle.hlr_core.specs.declared.order.Order.TheVariants as order

-- two numbers are the same, or not
by_number : {A : Type 0} (i j : ℕ) → (i ≡ j → A) → (i ≢ j → A) → A
by_number i j same apart = elim (eqb_tells i j) [
  | inl is ↦ same is.1
  | inr is ↦ apart is.1
]

-- places of a list
module _ {A : Type 0} where
  pub get_front : (xs ys : List A) (k : ℕ) (x : A) → slice_get xs k ≡ Some x → slice_get (xs ++ ys) k ≡ Some x
  get_front [] ys k x is = absurd (none-some x is)
  get_front (y ∷ xs) ys zero x is = is
  get_front (y ∷ xs) ys (suc k) x is = get_front xs ys k x is

  pub get_last : (xs : List A) (x : A) → slice_get (xs ++ x ∷ []) (length xs) ≡ Some x
  get_last [] x = refl
  get_last (y ∷ xs) x = get_last xs x

  pub get_elsewhere : (xs : List A) (i k : ℕ) (y : A) → (k ≡ i → ⊥) → slice_get (set xs i y) k ≡ slice_get xs k
  get_elsewhere [] i k y apart = refl
  get_elsewhere (x ∷ xs) zero zero y apart = absurd (apart refl)
  get_elsewhere (x ∷ xs) zero (suc k) y apart = refl
  get_elsewhere (x ∷ xs) (suc i) zero y apart = refl
  get_elsewhere (x ∷ xs) (suc i) (suc k) y apart = get_elsewhere xs i k y (λ e. apart (ap suc e))

  pub get_there : (xs : List A) (i : ℕ) (y : A) → i < length xs → slice_get (set xs i y) i ≡ Some y
  get_there [] i y low = absurd (omega arith)
  get_there (x ∷ xs) zero y low = refl
  get_there (x ∷ xs) (suc i) y low = get_there xs i y (omega arith)

  pub get_more : (xs : List A) (y : A) (k : ℕ) (z : A) → slice_get (xs ++ y ∷ []) k ≡ Some z → (slice_get xs k ≡ Some z) ⊎ ((k ≡ length xs) × (z ≡ y))
  get_more [] y zero z is = inr (refl, sym (same_Some y z is))
  get_more [] y (suc k) z is = absurd (none-some z is)
  get_more (x ∷ xs) y zero z is = inl is
  get_more (x ∷ xs) y (suc k) z is = elim (get_more xs y k z is) [
    | inl front ↦ inl front
    | inr last ↦ inr (let here = last.0 in omega arith, last.1)
  ]

  -- two places may be written in either order
  set_apart : (xs : List A) (i j : ℕ) (x y : A) → (i ≡ j → ⊥) → set (set xs i x) j y ≡ set (set xs j y) i x
  set_apart [] i j x y apart = refl
  set_apart (z ∷ xs) zero zero x y apart = absurd (apart refl)
  set_apart (z ∷ xs) zero (suc j) x y apart = refl
  set_apart (z ∷ xs) (suc i) zero x y apart = refl
  set_apart (z ∷ xs) (suc i) (suc j) x y apart = ap (λ (zs : List A). z ∷ zs) (set_apart xs i j x y (λ e. apart (ap suc e)))

  -- a place written again with what it has
  pub set_again : (xs : List A) (i : ℕ) (y : A) → slice_get xs i ≡ Some y → set xs i y ≡ xs
  set_again [] i y is = refl
  set_again (x ∷ xs) zero y is = ap (λ (z : A). z ∷ xs) (sym (same_Some x y is))
  set_again (x ∷ xs) (suc i) y is = ap (λ (zs : List A). x ∷ zs) (set_again xs i y is)

-- how many jobs have a number
numbered_more : (k : ℕ) (own : List (ℕ × Job)) (job : ℕ × Job) → numbered k (own ++ job ∷ []) ≡ numbered k own + numbered k (job ∷ [])
numbered_more k [] job = omega arith
numbered_more k (one ∷ own) job = let rest = numbered_more k own job in omega arith

numbered_self : (k : ℕ) (job : Job) → numbered k ((k, job) ∷ []) ≡ 1
numbered_self k job = grind arith

numbered_other : (k n : ℕ) (job : Job) → (n ≡ k → ⊥) → numbered k ((n, job) ∷ []) ≡ 0
numbered_other k n job apart = grind (arith, apart)

numbered_set : (k : ℕ) (jobs : List (List (ℕ × Job))) (p : ℕ) (own : List (ℕ × Job)) → p < length jobs
    → numbered_in k (set jobs p own) + numbered k (get_or jobs p []) ≡ numbered_in k jobs + numbered k own
numbered_set k [] p own low = absurd (omega arith)
numbered_set k (js ∷ jobs) zero own low = omega arith
numbered_set k (js ∷ jobs) (suc p) own low = let rest = numbered_set k jobs p own (omega arith) in omega arith

-- no more than all
numbered_there : (k : ℕ) (jobs : List (List (ℕ × Job))) (p : ℕ) (own : List (ℕ × Job)) → slice_get jobs p ≡ Some own → numbered k own ≤ numbered_in k jobs
numbered_there k [] p own is = absurd (none-some own is)
numbered_there k (js ∷ jobs) zero own is = let same = ap (numbered k) (same_Some js own is) in omega arith
numbered_there k (js ∷ jobs) (suc p) own is = let rest = numbered_there k jobs p own is in omega arith

-- a job more of a part
sent_numbered : (k : ℕ) (jobs : List (List (ℕ × Job))) (p : ℕ) (job : ℕ × Job) → p < length jobs
    → numbered_in k (set jobs p (get_or jobs p [] ++ job ∷ [])) ≡ numbered_in k jobs + numbered k (job ∷ [])
sent_numbered k jobs p job low =
    omega (arith, numbered_set k jobs p (get_or jobs p [] ++ job ∷ []) low, numbered_more k (get_or jobs p []) job)

-- runs, one order more
run_more : (orders : List Order) (before : Store) (answers : List Answer) (mid : Store) (one : Order) (told : Answer) (after : Store)
    → IsRun orders before answers mid → IsOrderStep one mid told after → IsRun (orders ++ one ∷ []) before (answers ++ told ∷ []) after
run_more [] before [] mid one told after run step = (after, subst (λ (s : Store). IsOrderStep one s told after) run step, refl)
run_more [] before (x ∷ answers) mid one told after run step = absurd run
run_more (o ∷ orders) before [] mid one told after run step = absurd run
run_more (o ∷ orders) before (x ∷ answers) mid one told after run step = (run.0, run.1, run_more orders run.0 answers mid one told after run.2 step)

orders_more : (asked : List Asked) (more : List Asked) → orders_of (asked ++ more) ≡ orders_of asked ++ orders_of more
orders_more [] more = refl
orders_more (Took event ∷ asked) more = ap (λ (os : List Order). order.Event event ∷ os) (orders_more asked more)
orders_more (Cut bounds done ∷ asked) more = ap (λ (os : List Order). order.Recut (record { items = bounds }) ∷ os) (orders_more asked more)

events_more : (asked more : List Asked) → events_in (asked ++ more) ≡ events_in asked + events_in more
events_more [] more = omega arith
events_more (Took event ∷ asked) more = let rest = events_more asked more in omega arith
events_more (Cut bounds done ∷ asked) more = events_more asked more

answers_more : (reply : ℕ → Reply) (k : ℕ) (asked more : List Asked)
    → answers_by reply k (asked ++ more) ≡ answers_by reply k asked ++ answers_by reply (k + events_in asked) more
answers_more reply k [] more = ap (λ (n : ℕ). answers_by reply n more) (let here : k ≡ k + 0 = omega arith in here)
answers_more reply k (Took event ∷ asked) more =
    let here : k + 1 + events_in asked ≡ k + (1 + events_in asked) = omega arith in
    ap (λ (told : List Answer). answer.Reply (reply k) ∷ told)
    (answers_more reply (k + 1) asked more ∙ ap (λ (n : ℕ). answers_by reply (k + 1) asked ++ answers_by reply n more) here)
answers_more reply k (Cut bounds done ∷ asked) more = ap (λ (told : List Answer). answer.Recut done ∷ told) (answers_more reply k asked more)

run_took : (reply : ℕ → Reply) (asked : List Asked) (before mid after : Store) (event : Event) → IsRun (orders_of asked) before (answers_by reply 0 asked) mid
    → IsStep event mid (reply (events_in asked)) after → IsRun (orders_of (asked ++ Took event ∷ [])) before (answers_by reply 0 (asked ++ Took event ∷ [])) after
run_took reply asked before mid after event run step =
    let here : 0 + events_in asked ≡ events_in asked = omega arith in
    rw (orders_more asked (Took event ∷ []), answers_more reply 0 asked (Took event ∷ []), here)
    (run_more (orders_of asked) before (answers_by reply 0 asked) mid (order.Event event) (answer.Reply (reply (events_in asked))) after run step)

run_cut : (reply : ℕ → Reply) (asked : List Asked) (before mid after : Store) (bounds : List ℕ) (done : Result ℕ Refusal) → IsRun (orders_of asked) before (answers_by reply 0 asked) mid
    → IsRecut bounds mid done after → IsRun (orders_of (asked ++ Cut bounds done ∷ [])) before (answers_by reply 0 (asked ++ Cut bounds done ∷ [])) after
run_cut reply asked before mid after bounds done run step =
    rw (orders_more asked (Cut bounds done ∷ []), answers_more reply 0 asked (Cut bounds done ∷ []))
    (run_more (orders_of asked) before (answers_by reply 0 asked) mid (order.Recut (record { items = bounds })) (answer.Recut done) after run step)

-- the replies as a list
replies_with : (reply : ℕ → Reply) (k : ℕ) (replies : List (ℕ × Reply)) (asked : List Asked) → events_in asked ≡ length replies
    → ((i : ℕ) (one : ℕ × Reply) → slice_get replies i ≡ Some one → reply (k + i) ≡ one.1) → answers_by reply k asked ≡ answers_with replies asked
replies_with reply k replies [] long same = refl
replies_with reply k [] (Took event ∷ asked) long same = absurd (omega arith)
replies_with reply k (one ∷ replies) (Took event ∷ asked) long same =
    let here : k + 0 ≡ k = omega arith in
    let first : reply k ≡ one.1 = ap reply (sym here) ∙ same 0 one refl in
    rw first
    (ap (λ (told : List Answer). answer.Reply one.1 ∷ told)
    (replies_with reply (k + 1) replies asked (omega arith) (λ i next is. ap reply (let e : k + 1 + i ≡ k + suc i = omega arith in e) ∙ same (suc i) next is)))
replies_with reply k replies (Cut bounds done ∷ asked) long same = ap (λ (told : List Answer). answer.Recut done ∷ told) (replies_with reply k replies asked long same)

-- sessions
session_last : (reply : ℕ → Reply) (x : HoldingState) (own : List (ℕ × Job)) (job : ℕ × Job) (y : HoldingState) → IsSessionBy reply x (own ++ job ∷ []) y
    → (m : HoldingState) × IsSessionBy reply x own m × IsJobDone job.1 m (reply job.0) y
session_last reply x [] job y session = (x, refl, subst (λ (z : HoldingState). IsJobDone job.1 x (reply job.0) z) (sym session.2) session.1)
session_last reply x (one ∷ own) job y session =
    let rest = session_last reply session.0 own job y session.2 in
    (rest.0, (session.0, session.1, rest.1), rest.2)

-- the last job of a part that is out, taken off
sent_ends : (reply : ℕ → Reply) (outs : List (Option HoldingState)) (jobs : List (List (ℕ × Job))) (ends : List HoldingState) (p : ℕ) (x : HoldingState) (job : ℕ × Job)
    → slice_get outs p ≡ Some (Some x) → AreEnds reply outs (set jobs p (get_or jobs p [] ++ job ∷ [])) ends
    → (m y : HoldingState) × (slice_get ends p ≡ Some y) × AreEnds reply outs jobs (set ends p m) × IsJobDone job.1 m (reply job.0) y
sent_ends reply [] jobs ends p x job out are = absurd (none-some (Some x) out)
sent_ends reply (o ∷ outs) [] ends p x job out are = absurd are
sent_ends reply (o ∷ outs) (own ∷ jobs) [] zero x job out are = absurd are
sent_ends reply (o ∷ outs) (own ∷ jobs) [] (suc p) x job out are = absurd are
sent_ends reply (None ∷ outs) (own ∷ jobs) (y ∷ ends) zero x job out are = absurd (none-some x (same_Some None (Some x) out))
sent_ends reply (Some l ∷ outs) (own ∷ jobs) (y ∷ ends) zero x job out are =
    let last = session_last reply l own job y are.0 in
    (last.0, y, refl, (last.1, are.1), last.2)
sent_ends reply (o ∷ outs) (own ∷ jobs) (y ∷ ends) (suc p) x job out are =
    let rest = sent_ends reply outs jobs ends p x job out are.1 in
    (rest.0, rest.1, rest.2, (are.0, rest.3), rest.4)

-- the first job of a part that is out, put in front
filled_ends : (reply : ℕ → Reply) (outs : List (Option HoldingState)) (jobs : List (List (ℕ × Job))) (ends : List HoldingState) (p : ℕ) (x m : HoldingState) (job : ℕ × Job) (own : List (ℕ × Job))
    → slice_get outs p ≡ Some (Some x) → slice_get jobs p ≡ Some (job ∷ own) → IsJobDone job.1 x (reply job.0) m → AreEnds reply (set outs p (Some m)) (set jobs p own) ends
    → AreEnds reply outs jobs ends
filled_ends reply [] jobs ends p x m job own out first done are = absurd (none-some (Some x) out)
filled_ends reply (o ∷ outs) [] ends p x m job own out first done are = absurd (none-some (job ∷ own) first)
filled_ends reply (o ∷ outs) (js ∷ jobs) [] zero x m job own out first done are = absurd are
filled_ends reply (o ∷ outs) (js ∷ jobs) [] (suc p) x m job own out first done are = absurd are
filled_ends reply (o ∷ outs) (js ∷ jobs) (y ∷ ends) zero x m job own out first done are =
    let o_is : o ≡ Some x = same_Some o (Some x) out in
    let js_is : js ≡ job ∷ own = same_Some js (job ∷ own) first in
    rw (o_is, js_is) ((m, done, are.0), are.1)
filled_ends reply (o ∷ outs) (js ∷ jobs) (y ∷ ends) (suc p) x m job own out first done are =
    (are.0, filled_ends reply outs jobs ends p x m job own out first done are.1)

-- a part at home goes out, with no job yet
lent_ends : (reply : ℕ → Reply) (outs : List (Option HoldingState)) (jobs : List (List (ℕ × Job))) (ends : List HoldingState) (p : ℕ) (x : HoldingState)
    → slice_get outs p ≡ Some None → slice_get jobs p ≡ Some [] → AreEnds reply (set outs p (Some x)) jobs ends → (slice_get ends p ≡ Some x) × AreEnds reply outs jobs ends
lent_ends reply [] jobs ends p x home none are = absurd (none-some None home)
lent_ends reply (o ∷ outs) [] ends p x home none are = absurd (none-some [] none)
lent_ends reply (o ∷ outs) (js ∷ jobs) [] zero x home none are = absurd are
lent_ends reply (o ∷ outs) (js ∷ jobs) [] (suc p) x home none are = absurd are
lent_ends reply (o ∷ outs) (js ∷ jobs) (y ∷ ends) zero x home none are =
    let o_is : o ≡ None = same_Some o None home in
    let js_is : js ≡ [] = same_Some js [] none in
    let is : y ≡ x = rw js_is at are.0 in
    (ap Some is, rw o_is (tt, are.1))
lent_ends reply (o ∷ outs) (js ∷ jobs) (y ∷ ends) (suc p) x home none are =
    let rest = lent_ends reply outs jobs ends p x home none are.1 in
    (rest.0, (are.0, rest.1))

-- a part that is out with no job comes home
back_ends : (reply : ℕ → Reply) (outs : List (Option HoldingState)) (jobs : List (List (ℕ × Job))) (ends : List HoldingState) (p : ℕ) (x : HoldingState)
    → slice_get outs p ≡ Some (Some x) → slice_get jobs p ≡ Some [] → AreEnds reply (set outs p None) jobs ends → AreEnds reply outs jobs (set ends p x)
back_ends reply [] jobs ends p x out none are = absurd (none-some (Some x) out)
back_ends reply (o ∷ outs) [] ends p x out none are = absurd (none-some [] none)
back_ends reply (o ∷ outs) (js ∷ jobs) [] zero x out none are = absurd are
back_ends reply (o ∷ outs) (js ∷ jobs) [] (suc p) x out none are = absurd are
back_ends reply (o ∷ outs) (js ∷ jobs) (y ∷ ends) zero x out none are =
    let o_is : o ≡ Some x = same_Some o (Some x) out in
    let js_is : js ≡ [] = same_Some js [] none in
    rw (o_is, js_is) (refl, are.1)
back_ends reply (o ∷ outs) (js ∷ jobs) (y ∷ ends) (suc p) x out none are = (are.0, back_ends reply outs jobs ends p x out none are.1)

-- an end for each part
pub ends_long : (reply : ℕ → Reply) (outs : List (Option HoldingState)) (jobs : List (List (ℕ × Job))) (ends : List HoldingState) → AreEnds reply outs jobs ends → length ends ≡ length outs
ends_long reply [] [] [] are = refl
ends_long reply [] [] (y ∷ ends) are = absurd are
ends_long reply [] (own ∷ jobs) ends are = absurd are
ends_long reply (o ∷ outs) [] ends are = absurd are
ends_long reply (o ∷ outs) (own ∷ jobs) [] are = absurd are
ends_long reply (o ∷ outs) (own ∷ jobs) (y ∷ ends) are = ap suc (ends_long reply outs jobs ends are.1)

-- what was asked for leads so, whatever is out: `f` makes a store of the ends
abbrev pub Leads : (List HoldingState → Store) → List (Option HoldingState) → List (List (ℕ × Job)) → List (ℕ × Reply) → Store → List Asked → Type 0
Leads f outs jobs replies before asked =
    (events_in asked ≡ length replies)
    × ((reply : ℕ → Reply) (ends : List HoldingState) → HasKept reply jobs replies → AreEnds reply outs jobs ends → IsRun (orders_of asked) before (answers_by reply 0 asked) (f ends))

module _ (outs : List (Option HoldingState)) (jobs : List (List (ℕ × Job))) (replies : List (ℕ × Reply)) (order : InOrder jobs replies) where
  -- a place more
  pub places_more : (reply : Reply) (k : ℕ) (place : ℕ × Reply) → slice_get (replies ++ (length replies, reply) ∷ []) k ≡ Some place → place.0 ≡ k
  places_more reply k place is = elim (get_more replies (length replies, reply) k place is) [
    | inl front ↦ order.places k place front
    | inr last ↦ ap (λ (one : ℕ × Reply). one.0) last.1 ∙ sym last.0
  ]

  -- the store is that of `g` now
  module _ (f g : List HoldingState → Store) (before : Store) (asked : List Asked) where
    -- an event was answered at once; parts may have come or gone, and `back` makes ends as they were of ends as they
    -- are
    pub leads_told : (outs_now : List (Option HoldingState)) (jobs_now : List (List (ℕ × Job))) (back : List HoldingState → List HoldingState) → ((k : ℕ) → numbered_in k jobs_now ≡ numbered_in k jobs)
        → ((reply : ℕ → Reply) (ends : List HoldingState) → AreEnds reply outs_now jobs_now ends → AreEnds reply outs jobs (back ends)) → (event : Event) (r : Reply)
        → ((reply : ℕ → Reply) (ends : List HoldingState) → AreEnds reply outs_now jobs_now ends → IsStep event (f (back ends)) r (g ends))
        → Leads f outs jobs replies before asked → Leads g outs_now jobs_now (replies ++ (length replies, r) ∷ []) before (asked ++ Took event ∷ [])
    leads_told outs_now jobs_now back numbers ends_back event r law leads = (
      (let long = length-append replies ((length replies, r) ∷ []) in let was = leads.0 in events_more asked (Took event ∷ []) ∙ omega arith),
      λ reply ends kept are.
          let is : reply (events_in asked) ≡ r =
          ap reply leads.0 ∙ kept (length replies) (length replies, r) (get_last replies (length replies, r)) (numbers (length replies) ∙ order.below (length replies) (omega arith)) in
          let had : HasKept reply jobs replies = λ k one there none. kept k one (get_front replies ((length replies, r) ∷ []) k one there) (numbers k ∙ none) in
          run_took reply asked before (f (back ends)) (g ends) event (leads.1 reply (back ends) had (ends_back reply ends are)) (rw is (law reply ends are)),
    )

    -- a re-cut was made
    pub leads_cut : (bounds : List ℕ) (done : Result ℕ Refusal) → ((reply : ℕ → Reply) (ends : List HoldingState) → AreEnds reply outs jobs ends → IsRecut bounds (f ends) done (g ends))
        → Leads f outs jobs replies before asked → Leads g outs jobs replies before (asked ++ Cut bounds done ∷ [])
    leads_cut bounds done law leads = (
      (let was = leads.0 in events_more asked (Cut bounds done ∷ []) ∙ omega arith),
      λ reply ends kept are. run_cut reply asked before (f ends) (g ends) bounds done (leads.1 reply ends kept are) (law reply ends are),
    )

  -- a job was sent to a part that is out
  module _ (f : List HoldingState → Store) (before : Store) (asked : List Asked) (p : ℕ) (x : HoldingState) (job : Job) (blank : Reply) (event : Event) (out : slice_get outs p ≡ Some (Some x))
      (low : p < length jobs) where
    abbrev more : List (ℕ × Job)
    more = get_or jobs p [] ++ (length replies, job) ∷ []

    pub leads_sent : ((reply : ℕ → Reply) (ends : List HoldingState) (m y : HoldingState) → AreEnds reply outs jobs ends → slice_get ends p ≡ Some m → IsJobDone job m (reply (length replies)) y
        → IsStep event (f ends) (reply (length replies)) (f (set ends p y)))
        → Leads f outs jobs replies before asked → Leads f outs (set jobs p more) (replies ++ (length replies, blank) ∷ []) before (asked ++ Took event ∷ [])
    leads_sent law leads = (
      (let long = length-append replies ((length replies, blank) ∷ []) in let was = leads.0 in events_more asked (Took event ∷ []) ∙ omega arith),
      λ reply ends kept are.
          let off = sent_ends reply outs jobs ends p x (length replies, job) out are in
          let m = off.0 in
          let y = off.1 in
          let within = slice_get_within ends p y off.2 in
          let back : set (set ends p m) p y ≡ ends = set-set ends p m y ∙ set_again ends p y off.2 in
          let was : HasKept reply jobs replies = λ k one is none.
          let sent = sent_numbered k jobs p (length replies, job) low in
          let inside = slice_get_within replies k one is in
          let other = numbered_other k (length replies) job (λ e. absurd (omega arith)) in
          kept k one (get_front replies ((length replies, blank) ∷ []) k one is) (omega arith) in
          let step = law reply (set ends p m) m y off.3 (get_there ends p m within) off.4 in
          run_took reply asked before (f (set ends p m)) (f ends) event (leads.1 reply (set ends p m) was off.3)
          (subst (λ (s : ℕ × List HoldingState). IsStep event (f (set ends p m)) (reply s.0) (f s.1)) (λ i. (sym leads.0 i, back i)) step),
    )

  -- a part at home goes out, with no job yet
  pub leads_lent : (f g : List HoldingState → Store) (before : Store) (asked : List Asked) (p : ℕ) (x : HoldingState) → slice_get outs p ≡ Some None → slice_get jobs p ≡ Some []
      → ((ends : List HoldingState) → slice_get ends p ≡ Some x → g ends ≡ f ends)
      → Leads f outs jobs replies before asked → Leads g (set outs p (Some x)) jobs replies before asked
  leads_lent f g before asked p x home none law leads = (
    leads.0,
    λ reply ends kept are.
        let was = lent_ends reply outs jobs ends p x home none are in
        subst (λ (s : Store). IsRun (orders_of asked) before (answers_by reply 0 asked) s) (sym (law ends was.0)) (leads.1 reply ends kept was.1),
  )

  -- a part that is out with no job comes home
  pub leads_back : (f g : List HoldingState → Store) (before : Store) (asked : List Asked) (p : ℕ) (x : HoldingState) → slice_get outs p ≡ Some (Some x) → slice_get jobs p ≡ Some []
      → ((ends : List HoldingState) → length ends ≡ length outs → g ends ≡ f (set ends p x))
      → Leads f outs jobs replies before asked → Leads g (set outs p None) jobs replies before asked
  leads_back f g before asked p x out none law leads = (
    leads.0,
    λ reply ends kept are.
        subst (λ (s : Store). IsRun (orders_of asked) before (answers_by reply 0 asked) s) (sym (law ends (ends_long reply (set outs p None) jobs ends are ∙ length-set outs p None)))
        (leads.1 reply (set ends p x) kept (back_ends reply outs jobs ends p x out none are)),
  )

  -- numbers, after an event was answered at once
  pub order_told : (r : Reply) → InOrder jobs (replies ++ (length replies, r) ∷ [])
  order_told r =
      let long = length-append replies ((length replies, r) ∷ []) in
      record {
        places = places_more r;
        once = order.once;
        below = λ k high. order.below k (omega arith);
        few = λ p own is. let was = order.few p own is in omega arith;
      }

  -- and after a job was sent
  module _ (p : ℕ) (job : Job) (blank : Reply) (low : p < length jobs) where
    sent_once : (k : ℕ) → numbered_in k (set jobs p (get_or jobs p [] ++ (length replies, job) ∷ [])) ≤ 1
    sent_once k =
        let sent = sent_numbered k jobs p (length replies, job) low in
        by_number (length replies) k
        (λ is. let none = order.below k (omega arith) in let self = ap (λ (n : ℕ). numbered k ((n, job) ∷ [])) is ∙ numbered_self k job in omega arith)
        (λ apart. let other = numbered_other k (length replies) job apart in let was = order.once k in omega arith)

    sent_few : (q : ℕ) (own : List (ℕ × Job)) → slice_get (set jobs p (get_or jobs p [] ++ (length replies, job) ∷ [])) q ≡ Some own → length own ≤ length replies + 1
    sent_few q own is =
        by_number q p
        (λ e.
        let one : own ≡ get_or jobs p [] ++ (length replies, job) ∷ [] =
        same_Some own (get_or jobs p [] ++ (length replies, job) ∷ []) (sym is ∙ (ap (slice_get (set jobs p (get_or jobs p [] ++ (length replies, job) ∷ []))) e ∙ get_there jobs p (get_or jobs p [] ++ (length replies, job) ∷ []) low)) in
        let long = ap length one ∙ length-append (get_or jobs p []) ((length replies, job) ∷ []) in
        let was = order.few p (get_or jobs p []) (slice_get-get_or jobs p [] low) in
        omega arith)
        (λ apart. let was = order.few q own (sym (get_elsewhere jobs p q (get_or jobs p [] ++ (length replies, job) ∷ []) apart) ∙ is) in omega arith)

    pub order_sent : InOrder (set jobs p (get_or jobs p [] ++ (length replies, job) ∷ [])) (replies ++ (length replies, blank) ∷ [])
    order_sent =
        let long = length-append replies ((length replies, blank) ∷ []) in
        record {
          places = places_more blank;
          once = sent_once;
          below = λ k high.
              let sent = sent_numbered k jobs p (length replies, job) low in
              let was = order.below k (omega arith) in
              let apart = numbered_other k (length replies) job (λ e. absurd (omega arith)) in
              omega arith;
          few = λ q own is. let was = sent_few q own is in omega arith;
        }

-- the first job of a part that is out was done, and its reply put at its number
module _ (outs : List (Option HoldingState)) (jobs : List (List (ℕ × Job))) (replies : List (ℕ × Reply)) (order : InOrder jobs replies)
    (p : ℕ) (x m : HoldingState) (k : ℕ) (job : Job) (own : List (ℕ × Job)) (r : Reply) (out : slice_get outs p ≡ Some (Some x)) (first : slice_get jobs p ≡ Some ((k, job) ∷ own)) where
  filled_numbered : (j : ℕ) → numbered_in j (set jobs p own) + numbered j ((k, job) ∷ []) ≡ numbered_in j jobs
  filled_numbered j =
      let low = slice_get_within jobs p ((k, job) ∷ own) first in
      omega (arith, numbered_set j jobs p own low, ap (numbered j) (get_or_from_slice_get jobs p ((k, job) ∷ own) [] first))

  filled_none : numbered_in k (set jobs p own) ≡ 0
  filled_none = let was = filled_numbered k in let self = numbered_self k job in let once = order.once k in omega arith

  filled_low : k < length replies
  filled_low = elim (cases_lt k (length replies)) [
    | inl low ↦ low
    | inr high ↦ absurd (let was = filled_numbered k in let self = numbered_self k job in let none = order.below k high in omega arith)
  ]

  leads_filled : (f : List HoldingState → Store) (before : Store) (asked : List Asked) → IsJobDone job x r m
      → Leads f outs jobs replies before asked → Leads f (set outs p (Some m)) (set jobs p own) (set replies k (k, r)) before asked
  leads_filled f before asked done leads = (
    leads.0 ∙ sym (length-set replies k (k, r)),
    λ reply ends kept are.
        let is : reply k ≡ r = kept k (k, r) (get_there replies k (k, r) filled_low) filled_none in
        let was : HasKept reply jobs replies = λ j one there none.
        let apart : j ≢ k = λ e. (let self = numbered_self k job in let lands = filled_numbered k in let same = ap (λ (i : ℕ). numbered_in i jobs) e in absurd (omega arith)) in
        let less = filled_numbered j in
        kept j one (get_elsewhere replies k j (k, r) apart ∙ there) (omega arith) in
        leads.1 reply ends was
        (filled_ends reply outs jobs ends p x m (k, job) own out first (subst (λ (z : Reply). IsJobDone job x z m) (sym is) done) are),
  )

  order_filled : InOrder (set jobs p own) (set replies k (k, r))
  order_filled =
      let long = length-set replies k (k, r) in
      record {
        places = λ j place is.
            by_number j k
            (λ e. let one : place ≡ (k, r) = same_Some place (k, r) (sym is ∙ (ap (slice_get (set replies k (k, r))) e ∙ get_there replies k (k, r) filled_low)) in ap (λ (z : ℕ × Reply). z.0) one ∙ sym e)
            (λ apart. order.places j place (sym (get_elsewhere replies k j (k, r) apart) ∙ is));
        once = λ j. let less = filled_numbered j in let was = order.once j in omega arith;
        below = λ j high. let less = filled_numbered j in let was = order.below j (omega arith) in omega arith;
        few = λ q there is.
            by_number q p
            (λ e.
            let low = slice_get_within jobs p ((k, job) ∷ own) first in
            let one : there ≡ own = same_Some there own (sym is ∙ (ap (slice_get (set jobs p own)) e ∙ get_there jobs p own low)) in
            let shorter = ap length one in
            let was = order.few p ((k, job) ∷ own) first in omega arith)
            (λ apart. let was = order.few q there (sym (get_elsewhere jobs p q own apart) ∙ is) in omega arith);
      }

-- a reply may be put before those of a session in which no job has its number
put_first : (k : ℕ) (one : ℕ × Reply) (x y : HoldingState) (own : List (ℕ × Job)) (answers replies : List (ℕ × Reply)) → IsSession x own answers y → numbered k own ≡ 0
    → put_answers (set replies k one) answers ≡ set (put_answers replies answers) k one
put_first k one x y [] [] replies session none = refl
put_first k one x y [] (a ∷ answers) replies session none = absurd session
put_first k one x y (job ∷ own) [] replies session none = absurd session
put_first k one x y (job ∷ own) (a ∷ answers) replies session none =
    let apart : k ≡ a.0 → ⊥ = λ e. (let self = numbered_self k job.1 in let same = ap (λ (n : ℕ). numbered k ((n, job.1) ∷ [])) (e ∙ session.0) in absurd (omega arith)) in
    ap (λ (l : List (ℕ × Reply)). set l a.0 a) (put_first k one session.1.0 y own answers replies session.1.2 (omega arith))
    ∙ set_apart (put_answers replies answers) k a.0 one a apart

-- the last reply is put first
pub put_last : (replies answers : List (ℕ × Reply)) (one : ℕ × Reply) → put_answers replies (answers ++ one ∷ []) ≡ put_answers (set replies one.0 one) answers
put_last replies [] one = refl
put_last replies (a ∷ answers) one = ap (λ (l : List (ℕ × Reply)). set l a.0 a) (put_last replies answers one)

-- a part came home with its holding and its replies
abbrev pub CameHome : List (Option HoldingState) → List (List (ℕ × Job)) → List (ℕ × Reply) → ℕ → List (ℕ × Reply) → HoldingState → Type 0
CameHome outs jobs replies p answers y =
    InOrder (set jobs p []) (put_answers replies answers)
    × ((f : List HoldingState → Store) (before : Store) (asked : List Asked) → Leads f outs jobs replies before asked
    → Leads f (set outs p (Some y)) (set jobs p []) (put_answers replies answers) before asked)

pub came_home : (outs : List (Option HoldingState)) (jobs : List (List (ℕ × Job))) (replies : List (ℕ × Reply)) (p : ℕ) (own : List (ℕ × Job)) (answers : List (ℕ × Reply)) (x y : HoldingState)
    → InOrder jobs replies → slice_get outs p ≡ Some (Some x) → slice_get jobs p ≡ Some own → IsSession x own answers y → CameHome outs jobs replies p answers y
came_home outs jobs replies p [] [] x y order out is session = (
  rw (set_again jobs p [] is) order,
  λ f before asked leads. rw (set_again jobs p [] is, session, set_again outs p (Some x) out) leads,
)
came_home outs jobs replies p [] (one ∷ answers) x y order out is session = absurd session
came_home outs jobs replies p (job ∷ own) [] x y order out is session = absurd session
came_home outs jobs replies p (job ∷ own) (one ∷ answers) x y order out is session =
    let m = session.1.0 in
    let jobs_now = set jobs p own in
    let outs_now = set outs p (Some m) in
    let replies_now = set replies job.0 (job.0, one.1) in
    let low = slice_get_within jobs p (job ∷ own) is in
    let out_low = slice_get_within outs p (Some x) out in
    let order_now = order_filled outs jobs replies order p x m job.0 job.1 own one.1 out is in
    let rest = came_home outs_now jobs_now replies_now p own answers m y order_now (get_there outs p (Some m) out_low) (get_there jobs p own low) session.1.2 in
    let numbered_one : numbered one.0 own ≡ 0 =
    (let none = filled_none outs jobs replies order p x m job.0 job.1 own one.1 out is in
    let some = numbered_there job.0 jobs_now p own (get_there jobs p own low) in
    let same = ap (λ (k : ℕ). numbered k own) session.0 in
    omega (arith, none, some, same)) in
    let same_replies : replies_now ≡ set replies one.0 one = λ i. set replies (sym session.0 i) (sym session.0 i, one.1) in
    let filled : put_answers replies_now answers ≡ set (put_answers replies answers) one.0 one =
    ap (λ (l : List (ℕ × Reply)). put_answers l answers) same_replies ∙ put_first one.0 one m y own answers replies session.1.2 numbered_one in
    let same_jobs : set jobs_now p [] ≡ set jobs p [] = set-set jobs p own [] in
    let same_outs : set outs_now p (Some y) ≡ set outs p (Some y) = set-set outs p (Some m) (Some y) in (
      subst (λ (z : List (List (ℕ × Job)) × List (ℕ × Reply)). InOrder z.0 z.1) (λ i. (same_jobs i, filled i)) rest.0,
      λ f before asked leads.
          subst (λ (z : List (Option HoldingState) × List (List (ℕ × Job)) × List (ℕ × Reply)). Leads f z.0 z.1 z.2 before asked) (λ i. (same_outs i, same_jobs i, filled i))
          (rest.1 f before asked (leads_filled outs jobs replies order p x m job.0 job.1 own one.1 out is f before asked session.1.1 leads)),
    )

-- as many places as before
pub put_answers-length : (replies answers : List (ℕ × Reply)) → length (put_answers replies answers) ≡ length replies
put_answers-length replies [] = refl
put_answers-length replies (one ∷ answers) = length-set (put_answers replies answers) one.0 one ∙ put_answers-length replies answers

-- nothing was asked for yet
pub leads_new : (f : List HoldingState → Store) (outs : List (Option HoldingState)) (jobs : List (List (ℕ × Job))) (before : Store) → ((ends : List HoldingState) → f ends ≡ before)
    → Leads f outs jobs [] before []
leads_new f outs jobs before law = (refl, λ reply ends kept are. law ends)

-- no job is out, and no part
none_numbered : (k : ℕ) (jobs : List (List (ℕ × Job))) → AllByRecursion (λ own. own ≡ []) jobs → numbered_in k jobs ≡ 0
none_numbered k [] none = refl
none_numbered k (own ∷ jobs) none =
    omega (arith, ap (numbered k) none.0, none_numbered k jobs none.1)

home_ends : (reply : ℕ → Reply) (outs : List (Option HoldingState)) (jobs : List (List (ℕ × Job))) (ends : List HoldingState) → AllByRecursion (λ out. out ≡ None) outs
    → length jobs ≡ length outs → length ends ≡ length outs → AreEnds reply outs jobs ends
home_ends reply [] [] [] home one two = tt
home_ends reply [] [] (y ∷ ends) home one two = absurd (omega arith)
home_ends reply [] (own ∷ jobs) ends home one two = absurd (omega arith)
home_ends reply (out ∷ outs) [] ends home one two = absurd (omega arith)
home_ends reply (out ∷ outs) (own ∷ jobs) [] home one two = absurd (omega arith)
home_ends reply (out ∷ outs) (own ∷ jobs) (y ∷ ends) home one two = (rw home.0 tt, home_ends reply outs jobs ends home.1 (omega arith) (omega arith))

pub order_new : (jobs : List (List (ℕ × Job))) → AllByRecursion (λ own. own ≡ []) jobs → InOrder jobs []
order_new jobs none = record {
  places = λ k place is. absurd (none-some place is);
  once = λ k. let here = none_numbered k jobs none in omega arith;
  below = λ k high. none_numbered k jobs none;
  few = λ p own is. (let e = ap length (empty jobs p own none is) in omega arith);
}
  where
    empty : (jobs : List (List (ℕ × Job))) (p : ℕ) (own : List (ℕ × Job)) → AllByRecursion (λ own. own ≡ []) jobs → slice_get jobs p ≡ Some own → own ≡ []
    empty [] p own none is = absurd (none-some own is)
    empty (js ∷ jobs) zero own none is = sym (same_Some js own is) ∙ none.0
    empty (js ∷ jobs) (suc p) own none is = empty jobs p own none.1 is

-- so what was asked for is answered
pub leads_settled : (f : List HoldingState → Store) (outs : List (Option HoldingState)) (jobs : List (List (ℕ × Job))) (replies : List (ℕ × Reply)) (before : Store) (asked : List Asked)
    (ends : List HoldingState) (blank : Reply) → AllByRecursion (λ out. out ≡ None) outs → length jobs ≡ length outs → length ends ≡ length outs
    → Leads f outs jobs replies before asked → IsRun (orders_of asked) before (answers_with replies asked) (f ends)
leads_settled f outs jobs replies before asked ends blank home one two leads =
    let reply : ℕ → Reply = λ k. (get_or replies k (0, blank)).1 in
    let kept : (k : ℕ) (place : ℕ × Reply) → slice_get replies k ≡ Some place → reply k ≡ place.1 = λ k place is. ap (λ (z : ℕ × Reply). z.1) (get_or_from_slice_get replies k place (0, blank) is) in
    let told : answers_by reply 0 asked ≡ answers_with replies asked =
    replies_with reply 0 replies asked leads.0 (λ i place is. ap reply (let e : 0 + i ≡ i = omega arith in e) ∙ kept i place is) in
    subst (λ (answers : List Answer). IsRun (orders_of asked) before answers (f ends)) told
    (leads.1 reply ends (λ k place is none. kept k place is) (home_ends reply outs jobs ends home one two))
