-- How the text of a run with a journal grows, and what a crash leaves of the journal meanwhile.
use Rattle.hlr.proofs.Common.{◌≡◌, ◌≢◌, refl, sym, ap, ◌∙◌, subst, ℕ, suc, ◌+◌, ◌≤◌, ◌<◌, List, [], ◌∷◌, ◌++◌, length, take, Option, Some, None, Bool, true, false, append_assoc, length-append, take-append-le, ◌⊎◌, inl, inr, arith, ◌||◌, IfSome, option_map, Result, Ok, Err, MatchResult, false≢true, append-nil, Appends, Keeps, AreRecords, strip_bom, ArrayVec, Store, store_in, IsRun, IsRecut, IsStep, Reply, reply_line, recut_line, Answer, Order, Event, Refusal, Command, answer_in, order_of, orders_of, recut_answer_in, recut_order, bounds_of, command_of, CommandText, RecordText, RecutText, Adds, AddsFront, AppendsFront, AddsWhole, Outgoing, outgoing, Answers, AnsweredRecords, AsksEvent, IsStop, AreRead, GaveEvent, ReadsOne, Seen, StopsBehind, Unread, Fault, Stalled, RECORDS, AreReadBy, RanJournaled, Wrote, StandsFor, AreCutOff, AreKept, AreSynced, HasComeKept, HasHeld, HasKept, JoinsAnswer, KeepsNext, has_stopped, JournalFault, LeavesOnly, Journaled, IsUnderWay, IsErrAnd, IsOnDisk, IsReady, IsUnchanged, OnErr, OnOk, StandsAfterSome, Tape}
use Rattle.csv.specs.Reading.{Reached}
use Rattle.csv.specs.declared.parser.State.TheVariants as st
use Rattle.hlr_core.specs.declared.order.Answer.TheVariants as answer
use Rattle.hlr_core.specs.declared.order.Order.TheVariants as order
use Rattle.hlr.specs.Command.{Command as command}
use Rattle.hlr.specs.Lines.{refused_line}
use Rattle.hlr.specs.Orders.{answers_in}
use Rattle.hlr.specs.Text.{RecordsText}
use Rattle.hlr.specs.declared.fault.Fault.TheVariants as fault
use Rattle.journal.proofs.MomentLemmas.{joined, weaker}
use Rattle.journal.proofs.OpenLemmas.{all_only, open_fence}
use Rattle.journal.specs.Lines.{HasFence}
use Rattle.hlr_kept.specs.Rows.{book_of}
use Rattle.hlr.specs.Journaled.{AreAcknowledged}
use Rattle.hlr_kept.proofs.UnderWayLemmas.{carried, stands_now, unchanged_under_way}
use Rattle.hlr.proofs.OrderFacts.{answered_records, records_run}
use Rattle.hlr.proofs.RunFacts.{if_known, if_some, is_stop, keeps_same, read_all, read_is_no_write, read_more, read_none, stopped_at_last, stopped_by_read}
use Rattle.hlr.proofs.SinkFacts.{adds_all, adds_begun, adds_both, adds_front_after, adds_front_wider, adds_grown, adds_none, adds_unflushed, appends_kept, appends_none, begins_all}

-- the orders of records, and of more behind them
orders_joined : (rows more : List (List (List ℕ))) → orders_of (rows ++ more) ≡ orders_of rows ++ orders_of more
orders_joined [] more = refl
orders_joined (row ∷ rows) more =
    ap (λ (o : List Order). order_of row (command_of row) ++ o) (orders_joined rows more)
    ∙ sym (append_assoc (order_of row (command_of row)) (orders_of rows) (orders_of more))

-- records answered one after another, and then more, and the answers of both
records_joined : (rows more : List (List (List ℕ))) (s m t : Store) (text behind : List ℕ) (h : RecordsText rows s text m) (k : RecordsText more m behind t)
    → (told : RecordsText (rows ++ more) s (text ++ behind) t)
    × (answers_in (rows ++ more) s (text ++ behind) t told ≡ answers_in rows s text m h ++ answers_in more m behind t k)
unfolding RecordsText answers_in
records_joined [] more s m t text behind h k =
    let here = subst (λ (from : Store). (told : RecordsText more from behind t) × (answers_in more from behind t told ≡ answers_in more m behind t k)) h.1 (k, refl) in
    subst (λ (front : List ℕ). (told : RecordsText more s (front ++ behind) t) × (answers_in more s (front ++ behind) t told ≡ answers_in more m behind t k)) (sym h.0) here
records_joined (row ∷ rows) more s m t text behind h k =
    let rest = records_joined rows more h.1 m t h.2 behind h.4 k in
    let one = answer_in row (command_of row) s h.0 h.1 h.3 in (
      (h.0, h.1, h.2 ++ behind, h.3, rest.0, ap (λ w. w ++ behind) h.5 ∙ append_assoc h.0 h.2 behind),
      ap (λ (a : List Answer). one ++ a) rest.1 ∙ sym (append_assoc one (answers_in rows h.1 h.2 m h.4) (answers_in more m behind t k)),
    )

-- one record, as a list
one_record : (fields : List (List ℕ)) (s t : Store) (text : List ℕ) (answer : RecordText fields s text t)
    → (told : RecordsText (fields ∷ []) s (text ++ []) t) × (answers_in (fields ∷ []) s (text ++ []) t told ≡ answer_in fields (command_of fields) s text t answer)
unfolding RecordsText answers_in
one_record fields s t text answer = ((text, t, [], answer, (refl, refl), refl), append-nil (answer_in fields (command_of fields) s text t answer))

-- nothing, as records
no_records : (s : Store) → (told : RecordsText [] s [] s) × (answers_in [] s [] s told ≡ [])
unfolding RecordsText answers_in
no_records s = ((refl, refl), refl)

-- the same records, by what else is known of them
told_as : (rows others : List (List (List ℕ))) (start a b : Store) (text : List ℕ) (answers : List Answer) → rows ≡ others → b ≡ a
    → (told : RecordsText others start text a) × (answers_in others start text a told ≡ answers)
    → (told : RecordsText rows start text b) × (answers_in rows start text b told ≡ answers)
told_as rows others start a b text answers same here was =
    subst (λ (end : Store). (told : RecordsText rows start text end) × (answers_in rows start text end told ≡ answers)) (sym here)
    (subst (λ (list : List (List (List ℕ))). (told : RecordsText list start text a) × (answers_in list start text a told ≡ answers)) (sym same) was)

-- as many answers as orders
run_lengths : (orders : List Order) (answers : List Answer) (a b : Store) → IsRun orders a answers b → length answers ≡ length orders
run_lengths [] [] a b run = refl
run_lengths [] (t ∷ answers) a b run = absurd run
run_lengths (o ∷ orders) [] a b run = absurd run
run_lengths (o ∷ orders) (t ∷ answers) a b run = ap suc (run_lengths orders answers run.0 b run.2)

many_answers : (rows : List (List (List ℕ))) (s t : Store) (text : List ℕ) (told : RecordsText rows s text t) → length (answers_in rows s text t told) ≡ length (orders_of rows)
many_answers rows s t text told = run_lengths (orders_of rows) (answers_in rows s text t told) s t (records_run rows s text t told)

-- the rows after the first so many of some orders are those after the first so many of more
stands_wider : (start : Store) (orders more : List Order) (answers others : List Answer) (c : List ℕ) → length answers ≡ length orders
    → StandsFor start orders answers c → StandsFor start (orders ++ more) (answers ++ others) c
stands_wider start orders more answers others c many stands =
    let some = stands.1 in
    let within = some.within in (
      stands.0,
      record {
        count = some.count;
        within = rw (length-append orders more) (omega arith);
        after = some.after;
        run = rw (take-append-le some.count orders more (omega arith), take-append-le some.count answers others (omega arith)) some.run;
        rows = some.rows;
      },
    )

-- and of those behind others
some_behind : (first : List Order) (firsts : List Answer) (s m : Store) (orders : List Order) (answers : List Answer) (c : List ℕ)
    → IsRun first s firsts m → StandsAfterSome orders answers m c → StandsAfterSome (first ++ orders) (firsts ++ answers) s c
some_behind [] [] s m orders answers c run some = subst (λ (from : Store). StandsAfterSome orders answers from c) run some
some_behind [] (t ∷ firsts) s m orders answers c run some = absurd run
some_behind (o ∷ first) [] s m orders answers c run some = absurd run
some_behind (o ∷ first) (t ∷ firsts) s m orders answers c run some =
    let rest = some_behind first firsts run.0 m orders answers c run.2 some in
    record { count = suc rest.count; within = omega (arith, rest.within); after = rest.after; run = (run.0, run.1, rest.run); rows = rest.rows }

-- the same of other spellings of the lists
stands_as : (start : Store) (orders others : List Order) (answers told : List Answer) (c : List ℕ) → others ≡ orders → told ≡ answers → StandsFor start orders answers c → StandsFor start others told c
stands_as start orders others answers told c same alike stands =
    subst (λ (o : List Order). StandsFor start o told c) (sym same) (subst (λ (a : List Answer). StandsFor start orders a c) (sym alike) stands)

-- a record of which the journal has the line was answered, as the command that it is
pub joins_as : {D : Type 0} (seen : D → List ℕ) (may_leave : D → List ℕ → Type 0) (fields : List (List ℕ)) (asked other : Result Command Refusal) (before after : Journaled D) (old new : List ℕ)
    → asked ≡ other → JoinsAnswer seen may_leave fields asked before after old new → JoinsAnswer seen may_leave fields other before after old new
joins_as seen may_leave fields asked other before after old new is joins =
    subst (λ (a : Result Command Refusal). JoinsAnswer seen may_leave fields a before after old new) is joins

-- a record that is no command was answered
pub refusal_joins : {D : Type 0} (seen : D → List ℕ) (may_leave : D → List ℕ → Type 0) (fields : List (List ℕ)) (why : Refusal) (now : Journaled D) (old new line : List ℕ)
    → CommandText fields (Err why) (store_in now.register) line (store_in now.register) → new ≡ old ++ line → JoinsAnswer seen may_leave fields (Err why) now now old new
refusal_joins seen may_leave fields why now old new line answer grew = record {
  text = line;
  answer = answer;
  grew = grew;
  joins = λ stored orders answers under.
      subst (λ (o : List Order). IsUnderWay seen may_leave stored o (answers ++ []) now) (sym (append-nil orders))
      (subst (λ (a : List Answer). IsUnderWay seen may_leave stored orders a now) (sym (append-nil answers)) under);
  tape = refl;
}

-- the reply to an event
pub event_joins : {D : Type 0} (seen : D → List ℕ) (may_leave : D → List ℕ → Type 0) (fields : List (List ℕ)) (event : Event) (told : Reply) (before after : Journaled D) (old new : List ℕ)
    → IsStep event (store_in before.register) told (store_in after.register)
    → ((stored : Store) (orders : List Order) (answers : List Answer) → IsUnderWay seen may_leave stored orders answers before
    → IsUnderWay seen may_leave stored (orders ++ order.Event event ∷ []) (answers ++ answer.Reply told ∷ []) after)
    → after.journal.tape ≡ before.journal.tape → new ≡ old ++ reply_line told → JoinsAnswer seen may_leave fields (Ok (command.Ask event)) before after old new
event_joins seen may_leave fields event told before after old new step ahead same grew =
    record { text = reply_line told; answer = record { reply = told; right = step; line = refl }; grew = grew; joins = ahead; tape = same }

-- the answer to a recut to bounds, which joins those that are under way
pub record RecutJoins {D : Type 0} (seen : D → List ℕ) (may_leave : D → List ℕ → Type 0) (bounds : Result (ArrayVec ℕ) Refusal) (before after : Journaled D) (old new : List ℕ) : Type 0 where
  pub text : List ℕ
  pub answer : RecutText bounds (store_in before.register) text (store_in after.register)
  pub grew : new ≡ old ++ text
  pub joins : (stored : Store) (orders : List Order) (answers : List Answer) → IsUnderWay seen may_leave stored orders answers before
      → IsUnderWay seen may_leave stored (orders ++ recut_order bounds) (answers ++ recut_answer_in bounds (store_in before.register) text (store_in after.register) answer) after
  pub tape : after.journal.tape ≡ before.journal.tape

pub recut_joins : {D : Type 0} (seen : D → List ℕ) (may_leave : D → List ℕ → Type 0) (fields : List (List ℕ)) (bounds : Result (ArrayVec ℕ) Refusal) (before after : Journaled D) (old new : List ℕ)
    → bounds ≡ bounds_of fields → RecutJoins seen may_leave bounds before after old new → JoinsAnswer seen may_leave fields (Ok command.Recut) before after old new
recut_joins seen may_leave fields bounds before after old new is was =
    let joins = subst (λ (b : Result (ArrayVec ℕ) Refusal). RecutJoins seen may_leave b before after old new) is was in
    record { text = joins.text; answer = joins.answer; grew = joins.grew; joins = joins.joins; tape = joins.tape }

pub recut_done : {D : Type 0} (seen : D → List ℕ) (may_leave : D → List ℕ → Type 0) (bounds : ArrayVec ℕ) (done : Result ℕ Refusal) (before after : Journaled D) (old new : List ℕ)
    → IsRecut bounds.items (store_in before.register) done (store_in after.register) → after.journal.tape ≡ before.journal.tape → after.journal.group.items ≡ before.journal.group.items → after.journal.fault ≡ before.journal.fault
    → new ≡ old ++ recut_line done → RecutJoins seen may_leave (Ok bounds) before after old new
recut_done seen may_leave bounds done before after old new right tape group works grew = record {
  text = recut_line done;
  answer = record { answer = done; right = right; line = refl };
  grew = grew;
  joins = carried seen may_leave before after (order.Recut bounds) (answer.Recut done) tape works right (λ e. absurd (false≢true e)) (group ∙ sym (append-nil before.journal.group.items));
  tape = tape;
}

pub recut_refused : {D : Type 0} (seen : D → List ℕ) (may_leave : D → List ℕ → Type 0) (why : Refusal) (now : Journaled D) (old new : List ℕ)
    → new ≡ old ++ refused_line why → RecutJoins seen may_leave (Err why) now now old new
recut_refused seen may_leave why now old new grew = record {
  text = refused_line why;
  answer = (refl, refl);
  grew = grew;
  joins = λ stored orders answers under.
      subst (λ (o : List Order). IsUnderWay seen may_leave stored o (answers ++ []) now) (sym (append-nil orders))
      (subst (λ (a : List Answer). IsUnderWay seen may_leave stored orders a now) (sym (append-nil answers)) under);
  tape = refl;
}

module _ {D : Type 0} (seen : D → List ℕ) (may_leave : D → List ℕ → Type 0) (moment : D → ℕ) (left_since : D → ℕ → List ℕ → Type 0) where
  -- behind records, one more is answered whose line waits
  pub kept_more : (rows : List (List (List ℕ))) (fields : List (List ℕ)) (start : Store) (first : D) (before after : Journaled D) (old : Outgoing) (line grown : List ℕ) (taken : Option (List ℕ))
      → AreKept seen may_leave moment left_since rows start first before old (outgoing line taken)
      → JoinsAnswer seen may_leave fields (command_of fields) before after line grown
      → AreKept seen may_leave moment left_since (rows ++ fields ∷ []) start first after old (outgoing grown taken)
  kept_more rows fields start first before after old line grown taken was more =
      let one = one_record fields (store_in before.register) (store_in after.register) more.text more.answer in
      let all = records_joined was.held (fields ∷ []) was.stored (store_in before.register) (store_in after.register) was.text (more.text ++ []) was.waiting one.0 in
      let orders : orders_of (was.held ++ fields ∷ []) ≡ orders_of was.held ++ order_of fields (command_of fields) =
      orders_joined was.held (fields ∷ []) ∙ ap (λ (o : List Order). orders_of was.held ++ o) (append-nil (order_of fields (command_of fields))) in
      let told = answers_in was.held was.stored was.text (store_in before.register) was.waiting in
      let said = answer_in fields (command_of fields) (store_in before.register) more.text (store_in after.register) more.answer in
      let answers = all.1 ∙ ap (λ (a : List Answer). told ++ a) one.1 in
      record {
        kept = was.kept;
        held = was.held ++ fields ∷ [];
        all = ap (λ (list : List (List (List ℕ))). list ++ fields ∷ []) was.all ∙ append_assoc was.kept was.held (fields ∷ []);
        told = was.told;
        stored = was.stored;
        on_disk = was.on_disk;
        text = was.text ++ (more.text ++ []);
        waiting = all.0;
        unsent = was.unsent;
        line = more.grew ∙ ap (λ w. w ++ more.text) was.line ∙ append_assoc was.unsent was.text more.text ∙ ap (λ w. was.unsent ++ (was.text ++ w)) (sym (append-nil more.text));
        grew = was.grew;
        under_way = subst (λ (o : List Order). IsUnderWay seen may_leave was.stored o (answers_in (was.held ++ fields ∷ []) was.stored (was.text ++ (more.text ++ [])) (store_in after.register) all.0) after) (sym orders)
            (subst (λ (a : List Answer). IsUnderWay seen may_leave was.stored (orders_of was.held ++ order_of fields (command_of fields)) a after) (sym answers)
            (more.joins was.stored (orders_of was.held) told was.under_way));
        leaves =
            let kept = orders_of was.kept in
            let kept_told = answers_in was.kept start was.told was.stored was.on_disk in
            let many : length (kept_told ++ told) ≡ length (kept ++ orders_of was.held) =
            length-append kept_told told ∙ ap (λ n. n + length told) (many_answers was.kept start was.stored was.told was.on_disk)
            ∙ ap (λ n. length kept + n) (many_answers was.held was.stored (store_in before.register) was.text was.waiting) ∙ sym (length-append kept (orders_of was.held)) in
            weaker moment left_since first after.journal.tape.device (StandsFor start (kept ++ orders_of was.held) (kept_told ++ told))
            (StandsFor start (kept ++ orders_of (was.held ++ fields ∷ [])) (kept_told ++ answers_in (was.held ++ fields ∷ []) was.stored (was.text ++ (more.text ++ [])) (store_in after.register) all.0))
            (subst (λ (t : D). LeavesOnly moment left_since first t (StandsFor start (kept ++ orders_of was.held) (kept_told ++ told))) (sym (ap (λ (t : Tape D). t.device) more.tape)) was.leaves)
            (λ c stands.
            stands_as start ((kept ++ orders_of was.held) ++ order_of fields (command_of fields)) _ ((kept_told ++ told) ++ said) _ c
            (ap (λ (o : List Order). kept ++ o) orders ∙ sym (append_assoc kept (orders_of was.held) (order_of fields (command_of fields))))
            (ap (λ (a : List Answer). kept_told ++ a) answers ∙ sym (append_assoc kept_told told said))
            (stands_wider start (kept ++ orders_of was.held) (order_of fields (command_of fields)) (kept_told ++ told) said c many stands));
      }

  -- records that are kept, of a journal in which nothing has changed
  pub kept_same : (rows : List (List (List ℕ))) (start : Store) (first : D) (before after : Journaled D) (old new : Outgoing) (line : List ℕ) → IsUnchanged before after → line ≡ new.line
      → AreKept seen may_leave moment left_since rows start first before old new → AreKept seen may_leave moment left_since rows start first after old (outgoing line new.taken)
  kept_same rows start first before after old new line same here was =
      let register : store_in after.register ≡ store_in before.register = ap store_in same.register in
      let held = orders_of was.held in
      let told = answers_in was.held was.stored was.text (store_in before.register) was.waiting in
      let waits = told_as was.held was.held was.stored (store_in before.register) (store_in after.register) was.text told refl register (was.waiting, refl) in
      record {
        kept = was.kept;
        held = was.held;
        all = was.all;
        told = was.told;
        stored = was.stored;
        on_disk = was.on_disk;
        text = was.text;
        waiting = waits.0;
        unsent = was.unsent;
        line = here ∙ was.line;
        grew = was.grew;
        under_way = subst (λ (a : List Answer). IsUnderWay seen may_leave was.stored held a after) (sym waits.1)
            (unchanged_under_way seen may_leave was.stored held told before after same was.under_way);
        leaves =
            weaker moment left_since first after.journal.tape.device _ _
            (subst (λ (t : D). LeavesOnly moment left_since first t (StandsFor start (orders_of was.kept ++ held) (answers_in was.kept start was.told was.stored was.on_disk ++ told))) (sym (ap (λ (t : Tape D). t.device) same.tape)) was.leaves)
            (λ c stands. stands_as start _ _ _ _ c refl (ap (λ (a : List Answer). answers_in was.kept start was.told was.stored was.on_disk ++ a) waits.1) stands);
      }

  module _ (rows : List (List (List ℕ))) (start : Store) (first : D) (before after : Journaled D) (old new : Outgoing)
      (was : AreKept seen may_leave moment left_since rows start first before old new)
      (left : LeavesOnly moment left_since before.journal.tape.device after.journal.tape.device
      (StandsFor was.stored (orders_of was.held) (answers_in was.held was.stored was.text (store_in before.register) was.waiting))) where
    both : List Answer
    both = answers_in was.kept start was.told was.stored was.on_disk ++ answers_in was.held was.stored was.text (store_in before.register) was.waiting

    -- the text of all records
    all_told : (end : Store) → end ≡ store_in before.register
        → (told : RecordsText rows start (was.told ++ was.text) end) × (answers_in rows start (was.told ++ was.text) end told ≡ both)
    unfolding both
    all_told end here =
        told_as rows (was.kept ++ was.held) start (store_in before.register) end (was.told ++ was.text) both was.all here
        (records_joined was.kept was.held start was.stored (store_in before.register) was.told was.text was.on_disk was.waiting)

    -- and what a crash leaves
    all_left : (answers : List Answer) → answers ≡ both → LeavesOnly moment left_since first after.journal.tape.device (StandsFor start (orders_of rows) answers)
    unfolding both
    all_left answers alike =
        let orders : orders_of rows ≡ orders_of was.kept ++ orders_of was.held = ap orders_of was.all ∙ orders_joined was.kept was.held in
        weaker moment left_since first after.journal.tape.device (StandsFor start (orders_of was.kept ++ orders_of was.held) both) (StandsFor start (orders_of rows) answers)
        (joined moment left_since first before.journal.tape.device after.journal.tape.device _ was.leaves
        (weaker moment left_since before.journal.tape.device after.journal.tape.device _ _ left
        (λ c stands. (stands.0, some_behind (orders_of was.kept) (answers_in was.kept start was.told was.stored was.on_disk) start was.stored _ _ c (records_run was.kept start was.told was.stored was.on_disk) stands.1))))
        (λ c stands. stands_as start _ _ _ _ c orders alike stands)

    -- all records are on the disk
    pub kept_synced : after.register ≡ before.register → IsUnderWay seen may_leave (store_in after.register) [] [] after → AreSynced seen may_leave moment left_since rows start first after old new
    kept_synced same under =
        let told = all_told (store_in after.register) (ap store_in same) in
        record {
          text = was.told ++ was.text;
          on_disk = told.0;
          grew = adds_both was.told was.text old (outgoing was.unsent new.taken) new was.grew (adds_grown was.text was.unsent new.line new.taken was.line);
          under_way = under;
          leaves = all_left (answers_in rows start (was.told ++ was.text) (store_in after.register) told.0) told.1;
        }

    -- or the journal failed
    pub kept_cut : (counts_now : (d : D) (t : ℕ) (c : List ℕ) → t ≤ moment d → may_leave d c → left_since d t c) (stopped : Bool) → stopped ≡ true → AreCutOff may_leave moment left_since rows start first after.journal.tape.device old new stopped
    kept_cut counts_now stopped failed =
        let told = all_told (store_in before.register) refl in
        record {
          text = was.told ++ was.text;
          end = store_in before.register;
          answers = told.0;
          front = adds_front_wider was.told was.text old new (adds_unflushed was.told was.unsent old new.taken new.taken was.grew (keeps_same new.taken));
          told = failed;
          leaves = all_left (answers_in rows start (was.told ++ was.text) (store_in before.register) told.0) told.1;
          acknowledged = record {
            kept = was.kept;
            held = was.held;
            all = was.all;
            text = was.told;
            stored = was.stored;
            on_disk = was.on_disk;
            told = adds_unflushed was.told was.unsent old new.taken new.taken was.grew (keeps_same new.taken);
            answers = answers_in was.held was.stored was.text (store_in before.register) was.waiting;
            leaves = λ c may. left.each c (counts_now after.journal.tape.device (moment before.journal.tape.device) c left.later may);
          };
        }

  -- records that are on the disk, of whose text a front was taken
  pub disk_acknowledged : (rows : List (List (List ℕ))) (start stored : Store) (text : List ℕ) (tape : Tape D) (took : List ℕ → Type 0) → RecordsText rows start text stored
      → IsOnDisk seen may_leave stored tape → took text → AreAcknowledged may_leave start rows tape.device took
  disk_acknowledged rows start stored text tape took answers disk told = record {
    kept = rows;
    held = [];
    all = sym (append-nil rows);
    text = text;
    stored = stored;
    on_disk = answers;
    told = told;
    answers = [];
    leaves = λ c may.
        let same = all_only seen may_leave tape disk.open_tape disk.synced c may in (
          subst HasFence (sym same) (open_fence seen may_leave tape disk.open_tape),
          record { count = 0; within = omega arith; after = stored; run = refl; rows = ap book_of same ∙ disk.rows },
        );
  }

  -- a sync that ended well leaves the rows of the register on the disk
  pub synced_disk : (before after : Journaled D) (done : Result (Unit {0}) JournalFault) → done ≡ Ok tt → IsReady seen may_leave before
      → IfSome before.journal.fault (λ why. (done ≡ Err why) × (after.journal.fault ≡ Some why))
      → ((stored : Store) (orders : List Order) (answers : List Answer) → IsUnderWay seen may_leave stored orders answers before → IsUnderWay seen may_leave (store_in after.register) [] [] after)
      → IsOnDisk seen may_leave (store_in after.register) after.journal.tape
  synced_disk before after done well ready stays settled = by before.journal.fault refl stays
    where
      by : (o : Option JournalFault) → before.journal.fault ≡ o → IfSome o (λ why. (done ≡ Err why) × (after.journal.fault ≡ Some why)) → IsOnDisk seen may_leave (store_in after.register) after.journal.tape
      by None works stays = let some = ready.under_way works in (settled some.0 some.1 some.2 some.3).disk
      by (Some why) broken stays = absurd (let clash : Ok tt ≡ Err why = sym well ∙ stays.0 in cc)

  -- the line of records that are on the disk is handed on
  pub synced_handed : (rows : List (List (List ℕ))) (start : Store) (first : D) (now : Journaled D) (old mid new : Outgoing) (stalled : Bool) (r : Result (Unit {0}) Stalled)
      → AreSynced seen may_leave moment left_since rows start first now old mid → Adds [] mid new stalled r
      → MatchResult r (λ done. AreSynced seen may_leave moment left_since rows start first now old new) (λ why. AreCutOff may_leave moment left_since rows start first now.journal.tape.device old new (has_stopped stalled now.journal.fault))
  synced_handed rows start first now old mid new stalled (Ok done) was put = record {
    text = was.text;
    on_disk = was.on_disk;
    grew = rw (append-nil was.text) at (adds_both was.text [] old mid new was.grew put);
    under_way = was.under_way;
    leaves = was.leaves;
  }
  synced_handed rows start first now old mid new stalled (Err why) was put = record {
    text = was.text;
    end = store_in now.register;
    answers = was.on_disk;
    front = rw (append-nil was.text) at (adds_front_after was.text [] old mid new was.grew put.0);
    told = rw put.1 refl;
    leaves = was.leaves;
    acknowledged = disk_acknowledged rows start (store_in now.register) was.text now.journal.tape (λ told. AddsFront told old new) was.on_disk was.under_way.disk
        (rw (append-nil was.text) at (adds_front_after was.text [] old mid new was.grew put.0));
  }

  -- records that are on the disk are kept
  pub synced_kept : (rows : List (List (List ℕ))) (start : Store) (first : D) (now : Journaled D) (old new : Outgoing) → AreSynced seen may_leave moment left_since rows start first now old new
      → AreKept seen may_leave moment left_since rows start first now old new
  synced_kept rows start first now old new was =
      let none = no_records (store_in now.register) in
      record {
        kept = rows;
        held = [];
        all = sym (append-nil rows);
        told = was.text;
        stored = store_in now.register;
        on_disk = was.on_disk;
        text = [];
        waiting = none.0;
        unsent = new.line;
        line = sym (append-nil new.line);
        grew = was.grew;
        under_way = subst (λ (a : List Answer). IsUnderWay seen may_leave (store_in now.register) [] a now) (sym none.1) was.under_way;
        leaves =
            weaker moment left_since first now.journal.tape.device (StandsFor start (orders_of rows) (answers_in rows start was.text (store_in now.register) was.on_disk)) _ was.leaves
            (λ c stands.
            stands_as start _ _ _ _ c (append-nil (orders_of rows))
            (ap (λ (a : List Answer). answers_in rows start was.text (store_in now.register) was.on_disk ++ a) none.1 ∙ append-nil (answers_in rows start was.text (store_in now.register) was.on_disk)) stands);
      }

  -- a report is answered behind records that are on the disk
  module _ (rows : List (List (List ℕ))) (fields : List (List ℕ)) (start : Store) (first : D) (now : Journaled D) (old mid new : Outgoing) (stalled : Bool) (r : Result (Unit {0}) Stalled)
      (was : AreSynced seen may_leave moment left_since rows start first now old mid) (more : Answers fields (store_in now.register) (store_in now.register) mid new stalled r) where
    more_told : (told : RecordsText (rows ++ fields ∷ []) start (was.text ++ (more.text ++ [])) (store_in now.register))
        × LeavesOnly moment left_since first now.journal.tape.device (StandsFor start (orders_of (rows ++ fields ∷ [])) (answers_in (rows ++ fields ∷ []) start (was.text ++ (more.text ++ [])) (store_in now.register) told))
    more_told =
        let one = one_record fields (store_in now.register) (store_in now.register) more.text more.answer in
        let all = records_joined rows (fields ∷ []) start (store_in now.register) (store_in now.register) was.text (more.text ++ []) was.on_disk one.0 in (
          all.0,
          weaker moment left_since first now.journal.tape.device _ _ was.leaves
              (λ c stands.
              stands_as start _ _ _ _ c (orders_joined rows (fields ∷ [])) all.1
              (stands_wider start (orders_of rows) (orders_of (fields ∷ [])) (answers_in rows start was.text (store_in now.register) was.on_disk) _ c (many_answers rows start (store_in now.register) was.text was.on_disk) stands)),
        )

  pub report_kept : (rows : List (List (List ℕ))) (fields : List (List ℕ)) (start : Store) (first : D) (now : Journaled D) (old mid new : Outgoing) (stalled : Bool) (done : Result (Unit {0}) Stalled) (r : Result (Unit {0}) Fault)
      → AreSynced seen may_leave moment left_since rows start first now old mid → Answers fields (store_in now.register) (store_in now.register) mid new stalled done
      → MatchResult done (λ unit. r ≡ Ok unit) (λ why. r ≡ Err fault.Write)
      → HasKept seen may_leave moment left_since rows fields start first now old new (has_stopped stalled now.journal.fault) r
  report_kept rows fields start first now old mid new stalled (Ok done) r was more is =
      let all = more_told rows fields start first now old mid new stalled (Ok done) was more in
      rw is
      (synced_kept (rows ++ fields ∷ []) start first now old new (record {
        text = was.text ++ (more.text ++ []);
        on_disk = all.0;
        grew = rw (append-nil more.text) (adds_both was.text more.text old mid new was.grew more.put);
        under_way = was.under_way;
        leaves = all.1;
      }))
  report_kept rows fields start first now old mid new stalled (Err why) r was more is =
      let all = more_told rows fields start first now old mid new stalled (Err why) was more in
      rw is
      (inr (record {
        text = was.text ++ (more.text ++ []);
        end = store_in now.register;
        answers = all.0;
        front = rw (append-nil more.text) (adds_front_after was.text more.text old mid new was.grew more.put.0);
        told = rw more.put.1 refl;
        leaves = all.1;
        acknowledged = disk_acknowledged (rows ++ fields ∷ []) start (store_in now.register) (was.text ++ (more.text ++ [])) now.journal.tape (λ told. AddsFront told old new) all.0 was.under_way.disk
            (rw (append-nil more.text) (adds_front_after was.text more.text old mid new was.grew more.put.0));
      }))

  -- a record is answered, and then the line is handed on
  pub handed_kept : (rows : List (List (List ℕ))) (fields : List (List ℕ)) (start : Store) (first : D) (now : Journaled D) (old new : Outgoing) (stopped : Bool) (done : Result (Unit {0}) Stalled) (r : Result (Unit {0}) Fault)
      → MatchResult done (λ unit. AreSynced seen may_leave moment left_since (rows ++ fields ∷ []) start first now old new) (λ why. AreCutOff may_leave moment left_since (rows ++ fields ∷ []) start first now.journal.tape.device old new stopped)
      → MatchResult done (λ unit. r ≡ Ok unit) (λ why. r ≡ Err fault.Write)
      → HasKept seen may_leave moment left_since rows fields start first now old new stopped r
  handed_kept rows fields start first now old new stopped (Ok done) r was is = rw is (synced_kept (rows ++ fields ∷ []) start first now old new was)
  handed_kept rows fields start first now old new stopped (Err why) r was is = rw is (inr was)

  -- no record is answered yet
  module _ (only_now : (d : D) (c : List ℕ) → left_since d (moment d) c → may_leave d c) (now : Journaled D) (under : IsUnderWay seen may_leave (store_in now.register) [] [] now) where
    pub synced_begun : (old : Outgoing) → AreSynced seen may_leave moment left_since [] (store_in now.register) now.journal.tape.device now old old
    synced_begun old =
        let none = no_records (store_in now.register) in
        record {
          text = [];
          on_disk = none.0;
          grew = adds_none old;
          under_way = under;
          leaves = stands_now seen may_leave moment left_since only_now (store_in now.register) [] (answers_in [] (store_in now.register) [] (store_in now.register) none.0) now.journal.tape under.disk;
        }

  -- an event is answered behind records, or there is no memory for its line
  pub event_kept : (fields : List (List ℕ)) (event : Event) (before after : Journaled D) (line grown : List ℕ) (taken : Option (List ℕ)) (stopped : Bool) (r : Result (Unit {0}) Fault)
      → command_of fields ≡ Ok (command.Ask event)
      → OnOk r ((fields : List (List ℕ)) → JoinsAnswer seen may_leave fields (Ok (command.Ask event)) before after line grown)
      → OnErr r ((r ≡ Err fault.Memory) × IsUnchanged before after × (grown ≡ line))
      → KeepsNext seen may_leave moment left_since fields before after (outgoing line taken) (outgoing grown taken) stopped r
  event_kept fields event before after line grown taken stopped (Ok done) asked joins refused = λ rows start first old was.
      kept_more rows fields start first before after old line grown taken was
      (joins_as seen may_leave fields (Ok (command.Ask event)) (command_of fields) before after line grown (sym asked) (joins fields))
  event_kept fields event before after line grown taken stopped (Err why) asked joins refused = λ rows start first old was.
      subst (λ (f : Result (Unit {0}) Fault). HasKept seen may_leave moment left_since rows fields start first after old (outgoing grown taken) stopped f) (sym refused.0)
      (kept_same rows start first before after old (outgoing line taken) grown refused.1 refused.2 was, (event, asked))

  -- another command is
  pub command_kept : (fields : List (List ℕ)) (asked : Result Command Refusal) (before after : Journaled D) (line grown : List ℕ) (taken : Option (List ℕ))
      → command_of fields ≡ asked → JoinsAnswer seen may_leave fields asked before after line grown
      → KeepsNext seen may_leave moment left_since fields before after (outgoing line taken) (outgoing grown taken) true (Ok tt)
  command_kept fields asked before after line grown taken is joins = λ rows start first old was.
      kept_more rows fields start first before after old line grown taken was (joins_as seen may_leave fields asked (command_of fields) before after line grown (sym is) joins)

-- a sink or a journal that failed has stopped a run
pub journal_stopped : (stalled : Bool) (fault : Option JournalFault) (why : JournalFault) → fault ≡ Some why → has_stopped stalled fault ≡ true
journal_stopped true fault why is = refl
journal_stopped false fault why is = rw is refl

-- where a sink stalled, a run ends with Write
pub stalled_is_write : (Q : Stalled → Type 0) (done : Result (Unit {0}) Stalled) (r : Result (Unit {0}) Fault) → IsErrAnd done Q
    → MatchResult done (λ unit. r ≡ Ok unit) (λ why. r ≡ Err fault.Write) → r ≡ Err fault.Write
stalled_is_write Q (Ok done) r failed is = absurd failed
stalled_is_write Q (Err why) r failed is = is

pub stalled_so : (Q : Stalled → Type 0) (done : Result (Unit {0}) Stalled) (A B : Type 0) → IsErrAnd done Q → B → MatchResult done (λ unit. A) (λ why. B)
stalled_so Q (Ok done) A B failed b = absurd failed
stalled_so Q (Err why) A B failed b = b

-- so many records were read, of the bytes if they are known, and are kept
pub record SoFarKept {D : Type 0} (seen : D → List ℕ) (may_leave : D → List ℕ → Type 0) (moment : D → ℕ) (left_since : D → ℕ → List ℕ → Type 0) (start : Store) (first : D)
    (known : Option (List ℕ)) (unread : Unread) (now : Journaled D) (old new : Outgoing) (count : ℕ) : Type 0 where
  pub rows : List (List (List ℕ))
  pub many : length rows ≡ count
  pub read : IfSome known (λ bytes. AreRead bytes unread rows)
  pub kept : AreKept seen may_leave moment left_since rows start first now old new

-- records that are kept are held, after no fault of the sink or the journal
held_so : {D : Type 0} (seen : D → List ℕ) (may_leave : D → List ℕ → Type 0) (moment : D → ℕ) (left_since : D → ℕ → List ℕ → Type 0) (rows : List (List (List ℕ))) (start : Store) (first : D)
    (now : Journaled D) (old new : Outgoing) (stopped : Bool) (why : Fault) → (why ≡ fault.Write → ⊥) → AreKept seen may_leave moment left_since rows start first now old new
    → HasHeld seen may_leave moment left_since rows start first now old new stopped (Err why)
held_so seen may_leave moment left_since rows start first now old new stopped fault.Memory unless kept = kept
held_so seen may_leave moment left_since rows start first now old new stopped fault.Field unless kept = kept
held_so seen may_leave moment left_since rows start first now old new stopped fault.Thread unless kept = kept
held_so seen may_leave moment left_since rows start first now old new stopped fault.Read unless kept = kept
held_so seen may_leave moment left_since rows start first now old new stopped fault.Write unless kept = absurd (unless refl)

pub kept_so : {D : Type 0} (seen : D → List ℕ) (may_leave : D → List ℕ → Type 0) (moment : D → ℕ) (left_since : D → ℕ → List ℕ → Type 0) (rows : List (List (List ℕ))) (start : Store) (first : D)
    (now : Journaled D) (old new : Outgoing) (stopped : Bool) (r : Result (Unit {0}) Fault) → (r ≡ Err fault.Write → ⊥)
    → HasHeld seen may_leave moment left_since rows start first now old new stopped r → AreKept seen may_leave moment left_since rows start first now old new
kept_so seen may_leave moment left_since rows start first now old new stopped (Ok done) unless held = held
kept_so seen may_leave moment left_since rows start first now old new stopped (Err fault.Memory) unless held = held
kept_so seen may_leave moment left_since rows start first now old new stopped (Err fault.Field) unless held = held
kept_so seen may_leave moment left_since rows start first now old new stopped (Err fault.Thread) unless held = held
kept_so seen may_leave moment left_since rows start first now old new stopped (Err fault.Read) unless held = held
kept_so seen may_leave moment left_since rows start first now old new stopped (Err fault.Write) unless held = absurd (unless refl)

module _ {D : Type 0} (seen : D → List ℕ) (may_leave : D → List ℕ → Type 0) (moment : D → ℕ) (left_since : D → ℕ → List ℕ → Type 0) (start : Store) (first : D) (known : Option (List ℕ)) where
  -- one more record is read and kept
  module _ (a b : Unread) (fields : List (List ℕ)) (found : Bool) (taken : ReadsOne a b found fields) (now : Journaled D) (old mid : Outgoing) (count : ℕ)
      (so : SoFarKept seen may_leave moment left_since start first known a now old mid count) where
    pub goes_on_kept : (next : Journaled D) (new : Outgoing) → found ≡ true → AreKept seen may_leave moment left_since (so.rows ++ fields ∷ []) start first next old new
        → SoFarKept seen may_leave moment left_since start first known b next old new (count + 1)
    goes_on_kept next new there more =
        let many = so.many in
        record {
          rows = so.rows ++ fields ∷ [];
          many = rw length-append (omega arith);
          read = if_some known _ _ (λ bytes read. read_more bytes a b so.rows fields read found there taken) so.read;
          kept = more;
        }

    -- the bytes end
    pub ends_kept : (stops : List ℕ → List (List (List ℕ)) → Fault → Type 0) (stopped : Bool) → found ≡ false → count ≤ 1048576
        → HasComeKept seen may_leave moment left_since stops known start first now old mid stopped (Ok tt)
    ends_kept stops stopped none within =
        let many = so.many in
        record { rows = so.rows; few = omega arith; read = if_some known _ _ (λ bytes read. read_all bytes a b so.rows fields read found none taken) so.read; holds = so.kept }

  -- a run stops behind the records so far
  stops_kept : (unread : Unread) (now : Journaled D) (old new : Outgoing) (count : ℕ) (so : SoFarKept seen may_leave moment left_since start first known unread now old new count)
      (stops : List ℕ → List (List (List ℕ)) → Fault → Type 0) (next : Journaled D) (later : Outgoing) (stopped : Bool) (why : Fault) → count ≤ 1048576 → (why ≡ fault.Write → ⊥)
      → AreKept seen may_leave moment left_since so.rows start first next old later → ((bytes : List ℕ) → AreRead bytes unread so.rows → stops bytes so.rows why)
      → HasComeKept seen may_leave moment left_since stops known start first next old later stopped (Err why)
  stops_kept unread now old new count so stops next later stopped why within unless kept reason =
      let many = so.many in
      record {
        rows = so.rows;
        few = omega arith;
        read = if_some known _ _ (λ bytes read. (unread.state, read.left, read.reached, λ other. reason bytes read)) so.read;
        holds = held_so seen may_leave moment left_since so.rows start first next old later stopped why unless kept;
      }

  module _ {T : Type 0} (source : Seen T) (last : T) where
    -- a read failed
    pub read_fails_kept : (at : T) (now : Journaled D) (old new : Outgoing) (count : ℕ) (stopped : Bool) (why : Fault) → SoFarKept seen may_leave moment left_since start first known (source.unread at) now old new count
        → count ≤ 1048576 → source.begun last ≡ source.unread at → source.fails at last why → (why ≡ fault.Memory) ⊎ (why ≡ fault.Read)
        → HasComeKept seen may_leave moment left_since (λ bytes. StopsBehind source true bytes last) known start first now old new stopped (Err why)
    read_fails_kept at now old new count stopped why so within begun failed either =
        stops_kept (source.unread at) now old new count so (λ bytes. StopsBehind source true bytes last) now new stopped why within (read_is_no_write why either) so.kept
        (λ bytes read. stopped_by_read source true bytes so.rows last at why read begun failed either)

    module _ (a : Unread) (fields : List (List ℕ)) (found : Bool) (taken : ReadsOne a (source.unread last) found fields) (now : Journaled D) (old mid : Outgoing) (count : ℕ)
        (so : SoFarKept seen may_leave moment left_since start first known a now old mid count) (there : found ≡ true) where
      one_more : (bytes : List ℕ) → AreRead bytes a so.rows → AreRead bytes (source.unread last) (so.rows ++ fields ∷ [])
      one_more bytes read = read_more bytes a (source.unread last) so.rows fields read found there taken

      -- the record is one too many
      pub full_kept : (stopped : Bool) → count ≡ 1048576 → HasComeKept seen may_leave moment left_since (λ bytes. StopsBehind source true bytes last) known start first now old mid stopped (Err fault.Read)
      full_kept stopped full =
          let many = so.many in
          stops_kept a now old mid count so (λ bytes. StopsBehind source true bytes last) now mid stopped fault.Read (omega arith) (λ is. cc) so.kept
          (λ bytes read. stopped_at_last source true bytes so.rows last fields (omega arith) (one_more bytes read))

      -- the record ended the run
      pub fails_kept : (next : Journaled D) (new : Outgoing) (stopped : Bool) (why : Fault) → count < 1048576 → HasKept seen may_leave moment left_since so.rows fields start first next old new stopped (Err why)
          → HasComeKept seen may_leave moment left_since (λ bytes. StopsBehind source true bytes last) known start first next old new stopped (Err why)
      fails_kept next new stopped fault.Memory below was =
          stops_kept a now old mid count so (λ bytes. StopsBehind source true bytes last) next new stopped fault.Memory (omega arith) (λ is. cc) was.0
          (λ bytes read. inr (refl, (fields, was.1, one_more bytes read)))
      fails_kept next new stopped fault.Thread below was = absurd was
      fails_kept next new stopped fault.Field below was = absurd was
      fails_kept next new stopped fault.Read below was = absurd was
      fails_kept next new stopped fault.Write below was =
          let many = so.many in
          elim was [
            | inl cut ↦ record {
              rows = so.rows;
              few = omega arith;
              read = if_some known _ _ (λ bytes read. (a.state, read.left, read.reached, λ other. absurd (other refl))) so.read;
              holds = cut;
            }
            | inr cut ↦ record {
              rows = so.rows ++ fields ∷ [];
              few = rw length-append (omega arith);
              read = if_some known _ _ (λ bytes read. let more = one_more bytes read in ((source.unread last).state, more.left, more.reached, λ other. absurd (other refl))) so.read;
              holds = cut;
            }
          ]

-- no record is read yet
pub begun_kept : {D : Type 0} (seen : D → List ℕ) (may_leave : D → List ℕ → Type 0) (moment : D → ℕ) (left_since : D → ℕ → List ℕ → Type 0)
    (only_now : (d : D) (c : List ℕ) → left_since d (moment d) c → may_leave d c) (now : Journaled D) (unread : Unread) (old : Outgoing) → IsUnderWay seen may_leave (store_in now.register) [] [] now
    → unread.state ≡ st.StartRecord → SoFarKept seen may_leave moment left_since (store_in now.register) now.journal.tape.device unread.bytes unread now old old 0
begun_kept seen may_leave moment left_since only_now now unread old under at_start = record {
  rows = [];
  many = refl;
  read = if_known unread.bytes _ (λ bytes is. read_none bytes unread is at_start);
  kept = synced_kept seen may_leave moment left_since [] (store_in now.register) now.journal.tape.device now old old (synced_begun seen may_leave moment left_since only_now now under old);
}

-- a record that ended a run was no option out of range and no start of a thread, and where the sink or the journal failed it is told
pub kept_fault : {D : Type 0} (seen : D → List ℕ) (may_leave : D → List ℕ → Type 0) (moment : D → ℕ) (left_since : D → ℕ → List ℕ → Type 0) (rows : List (List (List ℕ))) (fields : List (List ℕ))
    (start : Store) (first : D) (now : Journaled D) (old new : Outgoing) (stopped : Bool) (why : Fault)
    → HasKept seen may_leave moment left_since rows fields start first now old new stopped (Err why) → (why ≡ fault.Memory) ⊎ ((why ≡ fault.Write) × (stopped ≡ true))
kept_fault seen may_leave moment left_since rows fields start first now old new stopped fault.Memory was = inl refl
kept_fault seen may_leave moment left_since rows fields start first now old new stopped fault.Thread was = absurd was
kept_fault seen may_leave moment left_since rows fields start first now old new stopped fault.Field was = absurd was
kept_fault seen may_leave moment left_since rows fields start first now old new stopped fault.Read was = absurd was
kept_fault seen may_leave moment left_since rows fields start first now old new stopped fault.Write was = inr (
  refl,
  elim was [
    | inl cut ↦ cut.told
    | inr cut ↦ cut.told
  ],
)

-- so that a run ends with no other fault than these two
module _ (why : Fault) (stopped : Bool) (cause : (why ≡ fault.Memory) ⊎ ((why ≡ fault.Write) × (stopped ≡ true))) (r : Result (Unit {0}) Fault) (ended : r ≡ Err why) where
  pub kept_told : r ≡ Err fault.Write → stopped ≡ true
  kept_told is = elim cause [
    | inl memory ↦ let one = subst (λ (f : Fault). r ≡ Err f) memory ended in absurd (let clash = sym one ∙ is in cc)
    | inr write ↦ write.1
  ]

  pub kept_no_field : r ≡ Err fault.Field → ⊥
  kept_no_field is = elim cause [
    | inl memory ↦ let one = subst (λ (f : Fault). r ≡ Err f) memory ended in let clash = sym one ∙ is in cc
    | inr write ↦ let one = subst (λ (f : Fault). r ≡ Err f) write.0 ended in let clash = sym one ∙ is in cc
  ]

  pub kept_no_thread : r ≡ Err fault.Thread → ⊥
  kept_no_thread is = elim cause [
    | inl memory ↦ let one = subst (λ (f : Fault). r ≡ Err f) memory ended in let clash = sym one ∙ is in cc
    | inr write ↦ let one = subst (λ (f : Fault). r ≡ Err f) write.0 ended in let clash = sym one ∙ is in cc
  ]

-- what was written of a text
wrote_whole : (text : List ℕ) (old new : Option (List ℕ)) (r : Result (Unit {0}) Fault) → (r ≡ Err fault.Write → ⊥) → Appends old new text → Wrote text old new r
wrote_whole text old new (Ok done) unless all = all
wrote_whole text old new (Err fault.Memory) unless all = all
wrote_whole text old new (Err fault.Field) unless all = all
wrote_whole text old new (Err fault.Thread) unless all = all
wrote_whole text old new (Err fault.Read) unless all = all
wrote_whole text old new (Err fault.Write) unless all = absurd (unless refl)

wrote_some : (text : List ℕ) (old new : Option (List ℕ)) → Appends old new text → AppendsFront old new text
wrote_some text old new all = record { front = text; begins = begins_all text; grew = all }

wrote_front : (text : List ℕ) (old new : Option (List ℕ)) (r : Result (Unit {0}) Fault) → Wrote text old new r → AppendsFront old new text
wrote_front text old new (Ok done) wrote = wrote_some text old new wrote
wrote_front text old new (Err fault.Memory) wrote = wrote_some text old new wrote
wrote_front text old new (Err fault.Field) wrote = wrote_some text old new wrote
wrote_front text old new (Err fault.Thread) wrote = wrote_some text old new wrote
wrote_front text old new (Err fault.Read) wrote = wrote_some text old new wrote
wrote_front text old new (Err fault.Write) wrote = wrote

front_stays : (text : List ℕ) (old mid new : Option (List ℕ)) → AppendsFront old mid text → Keeps mid new → AppendsFront old new text
front_stays text old mid new wrote kept = record { front = wrote.front; begins = wrote.begins; grew = appends_kept old mid new wrote.front wrote.grew kept }

wrote_stays : (text : List ℕ) (old mid new : Option (List ℕ)) (r : Result (Unit {0}) Fault) → Wrote text old mid r → Keeps mid new → Wrote text old new r
wrote_stays text old mid new (Ok done) wrote kept = appends_kept old mid new text wrote kept
wrote_stays text old mid new (Err fault.Memory) wrote kept = appends_kept old mid new text wrote kept
wrote_stays text old mid new (Err fault.Field) wrote kept = appends_kept old mid new text wrote kept
wrote_stays text old mid new (Err fault.Thread) wrote kept = appends_kept old mid new text wrote kept
wrote_stays text old mid new (Err fault.Read) wrote kept = appends_kept old mid new text wrote kept
wrote_stays text old mid new (Err fault.Write) wrote kept = front_stays text old mid new wrote kept

-- the records that were read, where a run ends with a fault of the sink or the journal
read_cut : (stops others : List (List (List ℕ)) → Fault → Type 0) (bytes : List ℕ) (rows : List (List (List ℕ))) (r : Result (Unit {0}) Fault) → AreReadBy stops bytes rows r
    → AreReadBy others bytes rows (Err fault.Write)
read_cut stops others bytes rows (Ok done) read = (read.0, read.1, read.2, λ other. absurd (other refl))
read_cut stops others bytes rows (Err why) read = (read.0, read.1, read.2, λ other. absurd (other refl))

-- and where less is known of why it stopped
read_less : (stops others : List (List (List ℕ)) → Fault → Type 0) (bytes : List ℕ) (rows : List (List (List ℕ))) (r : Result (Unit {0}) Fault)
    → ((why : Fault) → stops rows why → others rows why) → AreReadBy stops bytes rows r → AreReadBy others bytes rows r
read_less stops others bytes rows (Ok done) less read = read
read_less stops others bytes rows (Err why) less read = (read.0, read.1, read.2, λ other. less why (read.3 other))

module _ {D : Type 0} (may_leave : D → List ℕ → Type 0) (moment : D → ℕ) (left_since : D → ℕ → List ℕ → Type 0) (stops : List ℕ → List (List (List ℕ)) → Fault → Type 0) (known : Option (List ℕ)) (start : Store) (first last : D) where
  -- the sink or the journal failed
  pub ran_cut : (rows : List (List (List ℕ))) (old new : Outgoing) (stopped : Bool) (r : Result (Unit {0}) Fault) → old.line ≡ [] → length rows ≤ RECORDS
      → IfSome known (λ bytes. AreReadBy (stops bytes) bytes rows r) → AreCutOff may_leave moment left_since rows start first last old new stopped
      → RanJournaled may_leave moment left_since stops known start first last old.taken new.taken (Err fault.Write)
  ran_cut rows old new stopped r none few read cut = record {
    done = answered_records start rows cut.text cut.end few cut.answers;
    read = if_some known _ _ (λ bytes was. read_cut (stops bytes) (stops bytes) bytes rows r was) read;
    wrote = adds_begun cut.text old new none cut.front;
    leaves = cut.leaves;
    acknowledged =
        let was = cut.acknowledged in
        record {
          kept = was.kept;
          held = was.held;
          all = was.all;
          text = was.text;
          stored = was.stored;
          on_disk = was.on_disk;
          told = adds_begun was.text old new none was.told;
          answers = was.answers;
          leaves = was.leaves;
        };
  }

  -- or all is handed on
  pub ran_synced : (seen : D → List ℕ) (rows : List (List (List ℕ))) (now : Journaled D) (old new : Outgoing) (r : Result (Unit {0}) Fault) → now.journal.tape.device ≡ last
      → old.line ≡ [] → new.line ≡ [] → (r ≡ Err fault.Write → ⊥) → length rows ≤ RECORDS
      → IfSome known (λ bytes. AreReadBy (stops bytes) bytes rows r) → AreSynced seen may_leave moment left_since rows start first now old new
      → RanJournaled may_leave moment left_since stops known start first last old.taken new.taken r
  ran_synced seen rows now old new r here none empty unless few read all = record {
    done = answered_records start rows all.text (store_in now.register) few all.on_disk;
    read = read;
    wrote = wrote_whole all.text old.taken new.taken r unless (adds_all all.text old new none empty all.grew);
    leaves = subst (λ (d : D). LeavesOnly moment left_since first d (StandsFor start (orders_of rows) (answers_in rows start all.text (store_in now.register) all.on_disk))) here all.leaves;
    acknowledged = subst (λ (d : D). AreAcknowledged may_leave start rows d (AppendsFront old.taken new.taken)) here
        (disk_acknowledged seen may_leave moment left_since rows start (store_in now.register) all.text now.journal.tape (AppendsFront old.taken new.taken) all.on_disk all.under_way.disk
        (wrote_some all.text old.taken new.taken (adds_all all.text old new none empty all.grew)));
  }

  -- what was taken stays so
  stays_acknowledged : (rows : List (List (List ℕ))) (old mid new : Option (List ℕ)) → AreAcknowledged may_leave start rows last (AppendsFront old mid) → Keeps mid new
      → AreAcknowledged may_leave start rows last (AppendsFront old new)
  stays_acknowledged rows old mid new was kept = record {
    kept = was.kept;
    held = was.held;
    all = was.all;
    text = was.text;
    stored = was.stored;
    on_disk = was.on_disk;
    told = front_stays was.text old mid new was.told kept;
    answers = was.answers;
    leaves = was.leaves;
  }

  -- the run ends with a flush
  pub ran_ended : (others : List ℕ → List (List (List ℕ)) → Fault → Type 0) → ((bytes : List ℕ) (rows : List (List (List ℕ))) (why : Fault) → stops bytes rows why → others bytes rows why)
      → (old mid new : Option (List ℕ)) (done r : Result (Unit {0}) Fault) → RanJournaled may_leave moment left_since stops known start first last old mid done → Keeps mid new
      → (r ≡ done) ⊎ (r ≡ Err fault.Write) → RanJournaled may_leave moment left_since others known start first last old new r
  ran_ended others less old mid new done r ran kept (inl same) = rw same (record {
    done = ran.done;
    read = if_some known _ _ (λ bytes read. read_less (stops bytes) (others bytes) bytes ran.done.rows done (less bytes ran.done.rows) read) ran.read;
    wrote = wrote_stays ran.done.text old mid new done ran.wrote kept;
    leaves = ran.leaves;
    acknowledged = stays_acknowledged ran.done.rows old mid new ran.acknowledged kept;
  })
  ran_ended others less old mid new done r ran kept (inr failed) = rw failed (record {
    done = ran.done;
    read = if_some known _ _ (λ bytes read. read_cut (stops bytes) (others bytes) bytes ran.done.rows done read) ran.read;
    wrote = front_stays ran.done.text old mid new (wrote_front ran.done.text old mid done ran.wrote) kept;
    leaves = ran.leaves;
    acknowledged = stays_acknowledged ran.done.rows old mid new ran.acknowledged kept;
  })

-- nothing is read
pub ran_none : {D : Type 0} (seen : D → List ℕ) (may_leave : D → List ℕ → Type 0) (moment : D → ℕ) (left_since : D → ℕ → List ℕ → Type 0)
    (only_now : (d : D) (c : List ℕ) → left_since d (moment d) c → may_leave d c) (now : Journaled D) (known : Option (List ℕ)) (old : Option (List ℕ)) → IsUnderWay seen may_leave (store_in now.register) [] [] now
    → RanJournaled may_leave moment left_since IsStop known (store_in now.register) now.journal.tape.device now.journal.tape.device old old (Err fault.Memory)
unfolding Reached
ran_none seen may_leave moment left_since only_now now known old under =
    ran_synced may_leave moment left_since IsStop known (store_in now.register) now.journal.tape.device now.journal.tape.device seen [] now (outgoing [] old) (outgoing [] old) (Err fault.Memory) refl refl refl (λ is. cc) (omega arith)
    (if_known known _ (λ bytes is. (st.StartRecord, bytes, (refl, refl), λ other. tt)))
    (synced_begun seen may_leave moment left_since only_now now under (outgoing [] old))

-- a run over a source is one over the bytes of its reader
pub ran_journaled : {D T : Type 0} (may_leave : D → List ℕ → Type 0) (moment : D → ℕ) (left_since : D → ℕ → List ℕ → Type 0) (source : Seen T) (now : T) (known given : Option (List ℕ)) (start : Store) (first last : D)
    (old mid new : Option (List ℕ)) (done r : Result (Unit {0}) Fault) → given ≡ known
    → RanJournaled may_leave moment left_since (λ bytes. StopsBehind source true bytes now) given start first last old mid done → Keeps mid new
    → (r ≡ done) ⊎ (r ≡ Err fault.Write) → RanJournaled may_leave moment left_since IsStop known start first last old new r
ran_journaled may_leave moment left_since source now known given start first last old mid new done r is ran kept ended =
    ran_ended may_leave moment left_since (λ bytes. StopsBehind source true bytes now) known start first last IsStop (λ bytes rows why. is_stop source true bytes now rows why) old mid new done r
    (subst (λ (o : Option (List ℕ)). RanJournaled may_leave moment left_since (λ bytes. StopsBehind source true bytes now) o start first last old mid done) is ran) kept ended
