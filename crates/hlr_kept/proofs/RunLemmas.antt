-- Runs of orders, and the book that their lines lead to.
use Rattle.std.proofs.Common.{◌≡◌, ◌∙◌, refl, sym, ap, ℕ, suc, true, false, List, [], ◌∷◌, ◌++◌, append_assoc, arith, Option, Some, None}
use Rattle.tatp_rows.proofs.OrderedLemmas.{by_test}
use Rattle.journal_file.specs.Device.{IsFront}
use Rattle.journal.specs.Lines.{recovered, HasFence}
use Rattle.journal.specs.Tape.{HasLinesBetween}
use Rattle.part_table.specs.Recut.{recut_answer}
use Rattle.tatp_actions.specs.Book.{Book}
use Rattle.edit_lines.specs.Lines.{has_line, line_of}
use Rattle.edit_lines.specs.Reading.{first_checked}
use Rattle.edit_lines.proofs.KindLemmas.{line_again}
use Rattle.hlr_owners.proofs.RecutLemmas.{recut_stays}
use Rattle.hlr_owners.specs.Store.{Store}
use Rattle.hlr_core.specs.Run.{IsOrderStep, IsRun}
use Rattle.hlr_core.specs.Step.{IsStep}
use Rattle.hlr_core.specs.declared.event.Event.{Event}
use Rattle.hlr_core.specs.declared.event.Reply.{Reply}
use Rattle.hlr_core.specs.declared.order.Answer.{Answer}
use Rattle.hlr_core.specs.declared.order.Answer.TheVariants as answer
use Rattle.hlr_core.specs.declared.order.Order.{Order}
use Rattle.hlr_core.specs.declared.order.Order.TheVariants as order
use Rattle.hlr_kept.specs.Runs.{HaveLines, IsBegun, StandsAfterSome, changed_rows, is_writable, line_for, lines_of, tells_done}
use Rattle.hlr_kept.specs.Laws.{AreAfterSome}
use Rattle.hlr_kept.specs.Rows.{book_after_first, book_after_line, book_after_lines, book_after_read, book_of_lines}
use Rattle.hlr_kept.proofs.EventLemmas.{done_step, left_step}

-- one more order
pub lines_more : (orders : List Order) (answers : List Answer) (one : Order) (told : Answer) (a b : Store) → IsRun orders a answers b
    → lines_of (orders ++ one ∷ []) (answers ++ told ∷ []) ≡ lines_of orders answers ++ lines_of (one ∷ []) (told ∷ [])
lines_more [] [] one told a b run = refl
lines_more (first ∷ orders) (said ∷ answers) one told a b run =
    let rest = lines_more orders answers one told run.0 b run.2 in
    by_test (changed_rows first said)
    (λ e. rw e (ap (λ (l : List (List ℕ)). line_for first ∷ l) rest))
    (λ e. rw e rest)
lines_more orders answers one told a b run = absurd run

pub fit_more : (orders : List Order) (answers : List Answer) (one : Order) (told : Answer) (a b : Store) → IsRun orders a answers b
    → HaveLines orders answers → (changed_rows one told ≡ true → is_writable one ≡ true) → HaveLines (orders ++ one ∷ []) (answers ++ told ∷ [])
fit_more [] [] one told a b run fit writable = (writable, tt)
fit_more (first ∷ orders) (said ∷ answers) one told a b run fit writable = (fit.0, fit_more orders answers one told run.0 b run.2 fit.1 writable)
fit_more orders answers one told a b run fit writable = absurd run

-- the line of an event that is answered Done
line_step : (event : Event) (before after : Store) (told : Reply) → has_line event ≡ true → tells_done told ≡ true → IsStep event before told after
    → book_after_line (line_of event) (Some before.book) ≡ Some after.book
line_step event before after told line done step =
    ap (λ read. book_after_read read before.book) (line_again event line) ∙ done_step event before after told done step

-- the same of an order
written_step : (one : Order) (before after : Store) (told : Answer) → is_writable one ≡ true → changed_rows one told ≡ true → IsOrderStep one before told after
    → book_after_line (line_for one) (Some before.book) ≡ Some after.book
written_step (order.Event event) before after (answer.Reply told) line done step = line_step event before after told line done step
written_step _ before after told line done step = absurd cc

-- an order that has changed no rows
unwritten_step : (one : Order) (before after : Store) (told : Answer) → changed_rows one told ≡ false → IsOrderStep one before told after → after.book ≡ before.book
unwritten_step (order.Event event) before after (answer.Reply told) left step = left_step event before after told left step
unwritten_step (order.Recut bounds) before after (answer.Recut done) left step = recut_stays (recut_answer before.regions bounds.items) bounds.items before after done step
unwritten_step one before after told left step = absurd step

none_after : (orders : List Order) (answers : List Answer) (before : Store) → AreAfterSome orders answers before []
none_after orders answers before = record { count = 0; within = omega arith; after = before; run = refl; rows = refl }

-- with one order more in front, which leads to a store
one_more : (one : Order) (orders : List Order) (told : Answer) (answers : List Answer) (before next : Store) (front rest : List (List ℕ)) → IsOrderStep one before told next
    → AreAfterSome orders answers next rest → book_after_lines front (Some before.book) ≡ book_after_lines rest (Some next.book)
    → AreAfterSome (one ∷ orders) (told ∷ answers) before front
one_more one orders told answers before next front rest step some same = record {
  count = suc some.count;
  within = omega (arith, some.within);
  after = some.after;
  run = (next, step, some.run);
  rows = same ∙ some.rows;
}

pub some_orders : (orders : List Order) (answers : List Answer) (before after : Store) → IsRun orders before answers after → HaveLines orders answers
    → (front : List (List ℕ)) → IsFront front (lines_of orders answers) → AreAfterSome orders answers before front
some_orders orders answers before after run fit [] is = none_after orders answers before
some_orders [] [] before after run fit (l ∷ ls) is = absurd (let clash = is.1 in cc)
some_orders (one ∷ orders) (told ∷ answers) before after run fit (l ∷ ls) is =
    by_test (changed_rows one told)
    (λ e. let whole : line_for one ∷ lines_of orders answers ≡ l ∷ (ls ++ is.0) = rw e at (is.1) in
    let here : line_for one ≡ l = cc in
    let behind : lines_of orders answers ≡ ls ++ is.0 = cc in
    let done : book_after_line l (Some before.book) ≡ Some run.0.book = ap (λ (line : List ℕ). book_after_line line (Some before.book)) (sym here) ∙ written_step one before run.0 told (fit.0 e) e run.1 in
    one_more one orders told answers before run.0 (l ∷ ls) ls run.1 (some_orders orders answers run.0 after run.2 fit.1 ls (is.0, behind)) (ap (book_after_lines ls) done))
    (λ e. let whole : lines_of orders answers ≡ (l ∷ ls) ++ is.0 = rw e at (is.1) in
    let left : run.0.book ≡ before.book = unwritten_step one before run.0 told e run.1 in
    one_more one orders told answers before run.0 (l ∷ ls) (l ∷ ls) run.1 (some_orders orders answers run.0 after run.2 fit.1 (l ∷ ls) (is.0, whole)) (ap (λ (b : Book). book_after_lines (l ∷ ls) (Some b)) (sym left)))
some_orders orders answers before after run fit front is = absurd run

-- all lines of a run lead to its book
pub all_orders : (orders : List Order) (answers : List Answer) (before after : Store) → IsRun orders before answers after → HaveLines orders answers
    → book_after_lines (lines_of orders answers) (Some before.book) ≡ Some after.book
all_orders [] [] before after run fit = ap (λ (s : Store). Some s.book) (sym run)
all_orders (one ∷ orders) (told ∷ answers) before after run fit =
    let rest = all_orders orders answers run.0 after run.2 fit.1 in
    by_test (changed_rows one told)
    (λ e. rw e (ap (book_after_lines (lines_of orders answers)) (written_step one before run.0 told (fit.0 e) e run.1) ∙ rest))
    (λ e. rw e (ap (λ (b : Book). book_after_lines (lines_of orders answers) (Some b)) (sym (unwritten_step one before run.0 told e run.1)) ∙ rest))
all_orders orders answers before after run fit = absurd run

-- nothing comes of what isn't right
pub none_stays : (lines : List (List ℕ)) → book_after_lines lines None ≡ None
none_stays [] = refl
none_stays (l ∷ lines) = none_stays lines

-- lines behind others
pub after-append : (a b : List (List ℕ)) (book : Option Book) → book_after_lines (a ++ b) book ≡ book_after_lines b (book_after_lines a book)
after-append [] b book = refl
after-append (l ∷ a) b book = after-append a b (book_after_line l book)

pub behind_begun : (a b : List (List ℕ)) → IsBegun a → book_of_lines (a ++ b) ≡ book_after_lines b (book_of_lines a)
behind_begun [] b begun = absurd begun
behind_begun (first ∷ a) b begun = after-append a b (book_after_first (first_checked first))

pub cancel : {A : Type 0} (xs ys zs : List A) → xs ++ ys ≡ xs ++ zs → ys ≡ zs
cancel [] ys zs same = same
cancel (x ∷ xs) ys zs same = cancel xs ys zs cc

-- what a crash leaves between the lines of a store and those of the orders behind it
pub stands : (orders : List Order) (answers : List Answer) (before after : Store) (low group : List (List ℕ)) (file : List ℕ) → IsRun orders before answers after → HaveLines orders answers
    → IsBegun low → book_of_lines low ≡ Some before.book → group ≡ lines_of orders answers → HasLinesBetween low (low ++ group) file
    → HasFence file × StandsAfterSome orders answers before file
stands orders answers before after low group file run fit begun rows is between =
    let more = between.at_least.0 in
    let here : recovered file ≡ low ++ more = between.at_least.1 in
    let whole : low ++ group ≡ low ++ (more ++ between.at_most.0) =
    between.at_most.1 ∙ ap (λ (l : List (List ℕ)). l ++ between.at_most.0) here ∙ append_assoc low more between.at_most.0 in
    let some = some_orders orders answers before after run fit more (between.at_most.0, sym is ∙ cancel low group (more ++ between.at_most.0) whole) in (
      between.fence,
      record {
        count = some.count;
        within = some.within;
        after = some.after;
        run = some.run;
        rows = ap book_of_lines here ∙ behind_begun low more begun ∙ ap (book_after_lines more) rows ∙ some.rows;
      },
    )
