-- From the store before a record, the text of its answer tells the answer.
use Rattle.hlr.proofs.Common.{◌≡◌, refl, sym, ap, ◌∙◌, ℕ, ◌<◌, List, [], ◌∷◌, Option, Some, None, Bool, true, false, inl, inr, arith, Result, Ok, Err, Refusal, Action, RowReply, Book, ArrayVec, recut_answer, CutMove, Side, dissolve_answer, divide_answer, give_answer, take_answer, is_loose, MayAnswer, IsPosting, IsRecutBy, Store, slots_of, s_id_of, action_for, divided_reply, dissolved_reply, given_reply, posted_reply, reply_of, taken_reply, IsAskedStep, IsOwnedStep, IsStep, IsWholeOutcome, Event, SubscriberData, NewDestination, AccessData, UpdateSubscriber, UpdateLocation, InsertForwarding, DeleteForwarding, AddSubscriber, AddAccess, AddFacility, SetActive, SetNumber, Post, Give, Take, Divide, Dissolve, Reply, Command, ok_line, recut_line, reply_line, answer_in, recut_answer_in, bounds_of, command_of, CommandText, RecutText}
use Rattle.tatp_rows.specs.declared.refusal.Refusal.TheVariants as refusal
use Rattle.tatp_actions.specs.declared.action.RowReply.TheVariants as row_reply
use Rattle.hlr_core.specs.declared.order.Answer.TheVariants as answer
use Rattle.hlr.specs.Command.{Command as command}
use Rattle.hlr.specs.Lines.{part_change_line, refused_line, region_line, taken_line, total_line}
use Rattle.hlr.specs.Orders.{TellAnswers}
use Rattle.hlr.specs.Text.{RecordsText}

-- the first byte of a text, and its third
abbrev first_of : List ℕ → ℕ
first_of [] = 0
first_of (a ∷ rest) = a

abbrev third_of : List ℕ → ℕ
third_of (a ∷ b ∷ c ∷ rest) = c
third_of _ = 0

-- a number is no greater one
not_both : (m n : ℕ) → m ≡ n → m < n → ⊥
not_both m n same less = absurd (omega arith)

-- the line of want of memory is no other one that it may stand for
no_ok : ok_line ≡ refused_line refusal.Memory → ⊥
unfolding refused_line
no_ok same = not_both 111 114 (ap first_of same) (omega arith)

no_given : (done : ℕ × ℕ × ℕ) → reply_line (given_reply (Ok done)) ≡ reply_line (given_reply (Err refusal.Memory)) → ⊥
unfolding refused_line region_line
no_given done same = not_both 112 114 (ap first_of same) (omega arith)

no_taken : (n q : ℕ) (side : Side) → reply_line (taken_reply n q (Ok side)) ≡ reply_line (taken_reply n q (Err refusal.Memory)) → ⊥
unfolding refused_line taken_line
no_taken n q side same = not_both 114 116 (ap first_of (sym same)) (omega arith)

no_divided : (done : ℕ × ℕ × ℕ) → reply_line (divided_reply (Ok done)) ≡ reply_line (divided_reply (Err refusal.Memory)) → ⊥
unfolding refused_line part_change_line
no_divided done same = not_both 100 114 (ap first_of same) (omega arith)

no_dissolved : (done : ℕ × ℕ × ℕ) → reply_line (dissolved_reply (Ok done)) ≡ reply_line (dissolved_reply (Err refusal.Memory)) → ⊥
unfolding refused_line part_change_line
no_dissolved done same = not_both 100 114 (ap first_of same) (omega arith)

no_moves : (n : ℕ) → recut_line (Ok n) ≡ recut_line (Err refusal.Memory) → ⊥
unfolding refused_line total_line
no_moves n same = not_both 99 102 (ap third_of same) (omega arith)

-- the line of what the rows answer tells it
outcome_told : (act : Action) (book : Book) (x y : RowReply) (a b : Book) → IsWholeOutcome act book x a → IsWholeOutcome act book y b
    → reply_line (reply_of x) ≡ reply_line (reply_of y) → x ≡ y
outcome_told act book x y a b (inl p) (inl q) same = ap (λ (r : RowReply × Book). r.0) (p ∙ sym q)
outcome_told act book x y a b (inl p) (inr q) same =
    let done : x ≡ row_reply.Done = ap (λ (r : RowReply × Book). r.0) p ∙ q.1 in
    absurd (no_ok (rw (done, q.2) at same))
outcome_told act book x y a b (inr p) (inl q) same =
    let done : y ≡ row_reply.Done = ap (λ (r : RowReply × Book). r.0) q ∙ p.1 in
    absurd (no_ok (sym (rw (done, p.2) at same)))
outcome_told act book x y a b (inr p) (inr q) same = p.2 ∙ sym q.2

-- the line of the reply to an event on rows tells it
owned_told : (loose : Bool) (act : Action) (before : Store) (x y : Reply) (a b : Store) → IsOwnedStep loose act before x a → IsOwnedStep loose act before y b
    → reply_line x ≡ reply_line y → x ≡ y
owned_told true act before x y a b p q same = p.0 ∙ sym q.0
owned_told false act before x y a b p q same =
    let rows = outcome_told act before.book p.0 q.0 p.1 q.1 p.2 q.2 (rw (p.3, q.3) at same) in
    p.3 ∙ ap reply_of rows ∙ sym q.3

asked_told : (asked : Result Action Refusal) (before : Store) (x y : Reply) (a b : Store) → IsAskedStep asked before x a → IsAskedStep asked before y b
    → reply_line x ≡ reply_line y → x ≡ y
asked_told (Ok act) before x y a b p q same = owned_told (is_loose (s_id_of act) before.regions) act before x y a b p q same
asked_told (Err why) before x y a b p q same = p.0 ∙ sym q.0

-- the line of what the regions answer tells it
moved_told : {A : Type 0} (right x y : Result A Refusal) (line : Result A Refusal → List ℕ) → ((done : A) → line (Ok done) ≡ line (Err refusal.Memory) → ⊥)
    → MayAnswer right x → MayAnswer right y → line x ≡ line y → x ≡ y
moved_told (Ok done) x y line differs (inl p) (inl q) same = p ∙ sym q
moved_told (Ok done) x y line differs (inl p) (inr q) same = absurd (differs done (rw (p, q) at same))
moved_told (Ok done) x y line differs (inr p) (inl q) same = absurd (differs done (sym (rw (p, q) at same)))
moved_told (Ok done) x y line differs (inr p) (inr q) same = p ∙ sym q
moved_told (Err why) x y line differs p q same = p ∙ sym q

-- a posting has one answer
posted_told : (slots : Option (List ℕ)) (part limit : ℕ) (before : Store) (x y : Result ℕ Refusal) (a b : Store) → IsPosting slots part limit before x a
    → IsPosting slots part limit before y b → x ≡ y
posted_told None part limit before x y a b p q = p.0 ∙ sym q.0
posted_told (Some slots) part limit before x y a b p q = p.0 ∙ sym q.0

-- so the line of a right reply tells it
pub reply_told : (event : Event) (before : Store) (x y : Reply) (a b : Store) → IsStep event before x a → IsStep event before y b → reply_line x ≡ reply_line y → x ≡ y
reply_told (SubscriberData s_id) before x y a b p q same = asked_told (action_for (SubscriberData s_id) before.book) before x y a b p q same
reply_told (NewDestination s_id t u v) before x y a b p q same = asked_told (action_for (NewDestination s_id t u v) before.book) before x y a b p q same
reply_told (AccessData s_id t) before x y a b p q same = asked_told (action_for (AccessData s_id t) before.book) before x y a b p q same
reply_told (UpdateSubscriber s_id t u v) before x y a b p q same = asked_told (action_for (UpdateSubscriber s_id t u v) before.book) before x y a b p q same
reply_told (UpdateLocation n v) before x y a b p q same = asked_told (action_for (UpdateLocation n v) before.book) before x y a b p q same
reply_told (InsertForwarding n t u v w) before x y a b p q same = asked_told (action_for (InsertForwarding n t u v w) before.book) before x y a b p q same
reply_told (DeleteForwarding n t u) before x y a b p q same = asked_told (action_for (DeleteForwarding n t u) before.book) before x y a b p q same
reply_told (AddSubscriber row) before x y a b p q same = asked_told (action_for (AddSubscriber row) before.book) before x y a b p q same
reply_told (AddAccess row) before x y a b p q same = asked_told (action_for (AddAccess row) before.book) before x y a b p q same
reply_told (AddFacility row) before x y a b p q same = asked_told (action_for (AddFacility row) before.book) before x y a b p q same
reply_told (SetActive s_id t v) before x y a b p q same = asked_told (action_for (SetActive s_id t v) before.book) before x y a b p q same
reply_told (SetNumber s_id n) before x y a b p q same = asked_told (action_for (SetNumber s_id n) before.book) before x y a b p q same
reply_told (Post part limit) before x y a b p q same =
    p.2 ∙ ap posted_reply (posted_told (slots_of before part) part limit before p.0 q.0 a b p.1 q.1) ∙ sym q.2
reply_told (Give part side at) before x y a b p q same =
    let done = moved_told (give_answer part side at before.regions) p.0 q.0 (λ r. reply_line (given_reply r)) no_given p.1 q.1 (rw (p.2, q.2) at same) in
    p.2 ∙ ap given_reply done ∙ sym q.2
reply_told (Take piece part) before x y a b p q same =
    let done = moved_told (take_answer piece part before.regions) p.0 q.0 (λ r. reply_line (taken_reply piece part r)) (no_taken piece part) p.1 q.1 (rw (p.2, q.2) at same) in
    p.2 ∙ ap (taken_reply piece part) done ∙ sym q.2
reply_told (Divide part at) before x y a b p q same =
    let done = moved_told (divide_answer part at before.regions) p.0 q.0 (λ r. reply_line (divided_reply r)) no_divided p.1 q.1 (rw (p.2, q.2) at same) in
    p.2 ∙ ap divided_reply done ∙ sym q.2
reply_told (Dissolve part) before x y a b p q same =
    let done = moved_told (dissolve_answer part before.regions) p.0 q.0 (λ r. reply_line (dissolved_reply r)) no_dissolved p.1 q.1 (rw (p.2, q.2) at same) in
    p.2 ∙ ap dissolved_reply done ∙ sym q.2

-- and so does the line of a right re-cut
recut_by_told : (moves : Result (List CutMove) Refusal) (bounds : List ℕ) (before : Store) (x y : Result ℕ Refusal) (a b : Store) → IsRecutBy moves bounds before x a
    → IsRecutBy moves bounds before y b → recut_line x ≡ recut_line y → x ≡ y
recut_by_told (Err why) bounds before x y a b p q same = p.0 ∙ sym q.0
recut_by_told (Ok moves) bounds before (Ok x) (Ok y) a b p q same = ap Ok (p.0 ∙ sym q.0)
recut_by_told (Ok moves) bounds before (Ok x) (Err y) a b p q same = absurd (no_moves x (rw q.0 at same))
recut_by_told (Ok moves) bounds before (Err x) (Ok y) a b p q same = absurd (no_moves y (sym (rw p.0 at same)))
recut_by_told (Ok moves) bounds before (Err x) (Err y) a b p q same = ap Err (p.0 ∙ sym q.0)

recut_told : (bounds : Result (ArrayVec ℕ) Refusal) (before : Store) (text : List ℕ) (a b : Store) (x : RecutText bounds before text a) (y : RecutText bounds before text b)
    → recut_answer_in bounds before text b y ≡ recut_answer_in bounds before text a x
recut_told (Ok bounds) before text a b x y =
    ap (λ (r : Result ℕ Refusal). answer.Recut r ∷ [])
    (recut_by_told (recut_answer before.regions bounds.items) bounds.items before y.answer x.answer b a y.right x.right (sym y.line ∙ x.line))
recut_told (Err why) before text a b x y = refl

-- the text of a command tells its answer
command_told : (fields : List (List ℕ)) (asked : Result Command Refusal) (before : Store) (text : List ℕ) (a b : Store) (x : CommandText fields asked before text a)
    (y : CommandText fields asked before text b) → answer_in fields asked before text b y ≡ answer_in fields asked before text a x
command_told fields (Ok (command.Ask event)) before text a b x y =
    ap (λ (r : Reply). answer.Reply r ∷ []) (reply_told event before y.reply x.reply b a y.right x.right (sym y.line ∙ x.line))
command_told fields (Ok command.Recut) before text a b x y = recut_told (bounds_of fields) before text a b x y
command_told fields (Ok command.Views) before text a b x y = refl
command_told fields (Ok command.Scan) before text a b x y = refl
command_told fields (Ok command.Index) before text a b x y = refl
command_told fields (Ok command.Regions) before text a b x y = refl
command_told fields (Ok command.Propose) before text a b x y = refl
command_told fields (Err why) before text a b x y = refl

-- and that of records their answers
pub answers_told : (rows : List (List (List ℕ))) (before : Store) (text : List ℕ) (after : Store) (told : RecordsText rows before text after) → TellAnswers rows before text after told
unfolding RecordsText TellAnswers
answers_told [] before text after told = tt
answers_told (fields ∷ rows) before text after told =
    (λ later other. command_told fields (command_of fields) before told.0 told.1 later told.3 other, answers_told rows told.1 told.2 after told.4)
