-- Orders under way in a register with its journal.
use Rattle.std.proofs.Common.{◌≡◌, ◌∙◌, refl, sym, ap, subst, ℕ, true, List, [], ◌∷◌, ◌++◌, length, take, drop, Option, Some, None, Result, Ok, Err, IfErr, IfSome, OnOk, arith}
use Rattle.std.proofs.lemmas.List.{take-append-drop}
use Rattle.tatp_actions.specs.Book.{Book}
use Rattle.journal_file.specs.Device.{LeavesOnly}
use Rattle.journal_file.specs.declared.fault.JournalFault.{JournalFault}
use Rattle.journal.specs.Lines.{HasFence, lines}
use Rattle.journal.specs.declared.tape.Tape.{Tape}
use Rattle.journal.proofs.MomentLemmas.{joined, started, weaker}
use Rattle.journal.proofs.OpenLemmas.{all_only, open_fence}
use Rattle.hlr_owners.specs.Owners.{AllHome, OwnersState, book_in, store_in}
use Rattle.hlr_owners.specs.Store.{Store}
use Rattle.hlr_core.specs.Run.{IsOrderStep, IsRun}
use Rattle.hlr_core.specs.declared.order.Answer.{Answer}
use Rattle.hlr_core.specs.declared.order.Order.{Order}
use Rattle.hlr_kept.specs.Rows.{book_after_lines, book_of}
use Rattle.hlr_kept.specs.Runs.{IsAhead, IsOnDisk, StandsAfterSome, changed_rows, is_writable, line_bytes, lines_of}
use Rattle.hlr_kept.specs.Keeping.{IsSettled, StandsAfterFirst, StandsFor}
use Rattle.hlr_kept.specs.UnderWay.{IsReady, IsUnchanged, IsUnderWay}
use Rattle.hlr_kept.specs.declared.journaled.Journaled.{Journaled}
use Rattle.hlr_kept.specs.declared.keeping.Journal.{Journal}
use Rattle.hlr_kept.proofs.KeptLemmas.{none_ahead, order_ahead}
use Rattle.hlr_kept.proofs.JournalLemmas.{settled_disk}
use Rattle.hlr_kept.proofs.RunLemmas.{all_orders, some_orders}

module _ {D : Type 0} (seen : D → List ℕ) (may_leave : D → List ℕ → Type 0) where
  -- what hasn't changed is under way as before, and ready
  pub unchanged_under_way : (stored : Store) (orders : List Order) (answers : List Answer) (before after : Journaled D) → IsUnchanged before after
      → IsUnderWay seen may_leave stored orders answers before → IsUnderWay seen may_leave stored orders answers after
  unchanged_under_way stored orders answers before after same was = record {
    works = same.fault ∙ was.works;
    disk = subst (λ (t : Tape D). IsOnDisk seen may_leave stored t) (sym same.tape) was.disk;
    ahead = subst (λ (r : OwnersState). IsAhead stored orders r answers after.journal.group.items) (sym same.register)
        (subst (λ (b : List ℕ). IsAhead stored orders before.register answers b) (sym same.group) was.ahead);
  }

  pub unchanged_ready : (before after : Journaled D) → IsUnchanged before after → IsReady seen may_leave before → IsReady seen may_leave after
  unchanged_ready before after same was = record {
    home = subst (λ (r : OwnersState). AllHome r.owners) (sym same.register) was.home;
    under_way = λ works.
        let some = was.under_way (sym same.fault ∙ works) in
        (some.0, some.1, some.2, unchanged_under_way some.0 some.1 some.2 before after same some.3);
  }

  -- one order more is under way
  module _ (before after : Journaled D) (one : Order) (told : Answer) (tape : after.journal.tape ≡ before.journal.tape) (fault : after.journal.fault ≡ before.journal.fault)
      (step : IsOrderStep one (store_in before.register) told (store_in after.register))
      (fits : changed_rows one told ≡ true → is_writable one ≡ true) (put : after.journal.group.items ≡ before.journal.group.items ++ line_bytes one told) where
    pub carried : (stored : Store) (orders : List Order) (answers : List Answer) → IsUnderWay seen may_leave stored orders answers before
        → IsUnderWay seen may_leave stored (orders ++ one ∷ []) (answers ++ told ∷ []) after
    carried stored orders answers was = record {
      works = fault ∙ was.works;
      disk = subst (λ (t : Tape D). IsOnDisk seen may_leave stored t) (sym tape) was.disk;
      ahead = order_ahead stored orders before.register after.register answers (answers ++ told ∷ []) before.journal.group.items after.journal.group.items one told was.ahead step fits put refl;
    }

    pub carried_ready : AllHome after.register.owners → IsReady seen may_leave before → IsReady seen may_leave after
    carried_ready home was = record {
      home = home;
      under_way = λ works.
          let some = was.under_way (sym fault ∙ works) in
          (some.0, some.1 ++ one ∷ [], some.2 ++ told ∷ [], carried some.0 some.1 some.2 some.3);
    }

  -- what is on the disk is settled
  pub settled : (now : Journaled D) → now.journal.fault ≡ None → IsOnDisk seen may_leave (store_in now.register) now.journal.tape → now.journal.group.items ≡ []
      → IsUnderWay seen may_leave (store_in now.register) [] [] now
  settled now works disk none = record { works = works; disk = disk; ahead = none_ahead now.register [] now.journal.group.items refl none }

  pub settled_ready : (now : Journaled D) → AllHome now.register.owners → IsUnderWay seen may_leave (store_in now.register) [] [] now → IsReady seen may_leave now
  settled_ready now home is = record { home = home; under_way = λ works. (store_in now.register, [], [], is) }

  -- after a write that failed
  pub broken_ready : (now : Journaled D) (why : JournalFault) → AllHome now.register.owners → now.journal.fault ≡ Some why → IsReady seen may_leave now
  broken_ready now why home broken = record { home = home; under_way = λ works. absurd (let clash : Some why ≡ None = sym broken ∙ works in cc) }

  -- a journal with orders under way stands for the rows of its register
  pub under_way_stands : (stored : Store) (orders : List Order) (answers : List Answer) (now : Journaled D) → IsUnderWay seen may_leave stored orders answers now
      → StandsFor seen may_leave (book_in now.register.owners) now.journal
  under_way_stands stored orders answers now was = λ works. record {
    open_tape = was.disk.open_tape;
    synced = was.disk.synced;
    whole = was.disk.whole;
    begun = was.disk.begun;
    no_zero = was.ahead.lines.no_zero;
    whole_lines = was.ahead.lines.whole;
    rows = ap (book_after_lines (lines now.journal.group.items)) was.disk.rows
        ∙ ap (λ (l : List (List ℕ)). book_after_lines l (Some stored.book)) was.ahead.lines.lines
        ∙ all_orders orders answers stored (store_in now.register) was.ahead.run was.ahead.fit;
  }

  pub ready_stands : (now : Journaled D) → IsReady seen may_leave now → StandsFor seen may_leave (book_in now.register.owners) now.journal
  ready_stands now ready = λ works. let some = ready.under_way works in under_way_stands some.0 some.1 some.2 now some.3 works

  -- the rows after the first so many lines are those after the first so many orders
  pub first_some : (stored : Store) (orders : List Order) (answers : List Answer) (now : Journaled D) (c : List ℕ) → IsUnderWay seen may_leave stored orders answers now
      → StandsAfterFirst seen now.journal c → StandsAfterSome orders answers stored c
  first_some stored orders answers now c was first =
      let all = lines_of orders answers in
      let front = take first.count all in
      let some = some_orders orders answers stored (store_in now.register) was.ahead.run was.ahead.fit front (drop first.count all, sym (take-append-drop first.count all)) in
      let same : book_after_lines (take first.count (lines now.journal.group.items)) (book_of (seen now.journal.tape.device)) ≡ book_after_lines front (Some stored.book) =
      ap (λ (l : List (List ℕ)). book_after_lines (take first.count l) (book_of (seen now.journal.tape.device))) was.ahead.lines.lines ∙ ap (book_after_lines front) was.disk.rows in
      record {
        count = some.count;
        within = some.within;
        after = some.after;
        run = some.run;
        rows = first.rows ∙ sym first.after ∙ same ∙ some.rows;
      }

  -- a sync
  module _ (before : Journaled D) (j : Journal D) (stands : (book : Book) → StandsFor seen may_leave book before.journal → StandsFor seen may_leave book j) where
    abbrev Synced : Journaled D
    Synced = record before { journal = j }

    sync_settled : IsReady seen may_leave before → IsSettled j → IsUnderWay seen may_leave (store_in before.register) [] [] Synced
    sync_settled ready is =
        settled Synced is.0 (settled_disk seen may_leave (store_in before.register) j is (stands (book_in before.register.owners) (ready_stands before ready))) is.1

    pub synced_ready : (done : Result (Unit {0}) JournalFault) → IsReady seen may_leave before → OnOk done (IsSettled j) → IfErr done (λ why. j.fault ≡ Some why) → IsReady seen may_leave Synced
    synced_ready (Ok u) ready is broken = settled_ready Synced ready.home (sync_settled ready is)
    synced_ready (Err why) ready is broken = broken_ready Synced why ready.home broken

    pub synced_settled : (done : Result (Unit {0}) JournalFault) → IsReady seen may_leave before → OnOk done (IsSettled j)
        → OnOk done ((stored : Store) (orders : List Order) (answers : List Answer) → IsUnderWay seen may_leave stored orders answers before → IsUnderWay seen may_leave (store_in before.register) [] [] Synced)
    synced_settled (Ok u) ready is = λ stored orders answers was. sync_settled ready is
    synced_settled (Err why) ready is = tt

  pub synced_written : (done : Result (Unit {0}) JournalFault) (j : Journal D) → OnOk done (IsSettled j) → OnOk done (j.group.items ≡ [])
  synced_written (Ok u) j is = is.1
  synced_written (Err why) j is = tt

  pub synced_stays : (fault : Option JournalFault) (done : Result (Unit {0}) JournalFault) (before : Journaled D) (j : Journal D) → IfSome fault (λ why. (done ≡ Err why) × (j ≡ before.journal))
      → IfSome fault (λ why. (done ≡ Err why) × (record before { journal = j } ≡ before))
  synced_stays None done before j stays = tt
  synced_stays (Some why) done before j stays = (stays.0, ap (λ (k : Journal D). record before { journal = k }) stays.1)

  -- between two calls, a crash leaves what is on the disk
  pub stands_now : (moment : D → ℕ) (left_since : D → ℕ → List ℕ → Type 0) (only_now : (d : D) (c : List ℕ) → left_since d (moment d) c → may_leave d c)
      (stored : Store) (orders : List Order) (answers : List Answer) (tape : Tape D) → IsOnDisk seen may_leave stored tape
      → LeavesOnly moment left_since tape.device tape.device (λ c. HasFence c × StandsAfterSome orders answers stored c)
  stands_now moment left_since only_now stored orders answers tape disk =
      started moment left_since tape.device (λ c. HasFence c × StandsAfterSome orders answers stored c) (λ c left.
      let same = all_only seen may_leave tape disk.open_tape disk.synced c (only_now tape.device c left) in (
        subst HasFence (sym same) (open_fence seen may_leave tape disk.open_tape),
        record { count = 0; within = omega arith; after = stored; run = refl; rows = ap book_of same ∙ disk.rows },
      ))

  -- the same where nothing was done to the file
  pub stands_still : (moment : D → ℕ) (left_since : D → ℕ → List ℕ → Type 0) (only_now : (d : D) (c : List ℕ) → left_since d (moment d) c → may_leave d c)
      (stored : Store) (orders : List Order) (answers : List Answer) (before after : Tape D) → after ≡ before → IsOnDisk seen may_leave stored before
      → LeavesOnly moment left_since before.device after.device (λ c. HasFence c × StandsAfterSome orders answers stored c)
  stands_still moment left_since only_now stored orders answers before after same disk =
      subst (λ (t : Tape D). LeavesOnly moment left_since before.device t.device (λ c. HasFence c × StandsAfterSome orders answers stored c)) (sym same)
      (stands_now moment left_since only_now stored orders answers before disk)

-- all orders of a run, as the first so many of them
whole_run : (orders : List Order) (answers : List Answer) (a b : Store) → IsRun orders a answers b → IsRun (take (length orders) orders) a (take (length orders) answers) b
whole_run [] [] a b run = run
whole_run [] (told ∷ answers) a b run = absurd run
whole_run (one ∷ orders) [] a b run = absurd run
whole_run (one ∷ orders) (told ∷ answers) a b run = (run.0, run.1, whole_run orders answers run.0 b run.2)

-- a file that stands for the rows of the register has all orders under way
pub stands_after_all : (stored : Store) (orders : List Order) (answers : List Answer) (register : OwnersState) (group c : List ℕ) → IsAhead stored orders register answers group
    → book_of c ≡ Some (book_in register.owners) → StandsAfterSome orders answers stored c
stands_after_all stored orders answers register group c ahead rows = record {
  count = length orders;
  within = omega arith;
  after = store_in register;
  run = whole_run orders answers stored (store_in register) ahead.run;
  rows = rows;
}

-- a snapshot takes the place of a journal behind a sync
pub compacted : {D : Type 0} (moment : D → ℕ) (left_since : D → ℕ → List ℕ → Type 0) (stored : Store) (orders : List Order) (answers : List Answer) (register after : OwnersState) (group : List ℕ)
    (old mid new : D) → IsAhead stored orders register answers group → after ≡ register
    → LeavesOnly moment left_since old mid (λ c. HasFence c × StandsAfterSome orders answers stored c)
    → LeavesOnly moment left_since mid new (λ c. HasFence c × (book_of c ≡ Some (book_in after.owners)))
    → LeavesOnly moment left_since old new (λ c. HasFence c × StandsAfterSome orders answers stored c)
compacted moment left_since stored orders answers register after group old mid new ahead same first second =
    joined moment left_since old mid new (λ c. HasFence c × StandsAfterSome orders answers stored c) first
    (weaker moment left_since mid new (λ c. HasFence c × (book_of c ≡ Some (book_in after.owners))) (λ c. HasFence c × StandsAfterSome orders answers stored c) second
    (λ c left. (left.0, stands_after_all stored orders answers register group c ahead (left.1 ∙ ap (λ (r : OwnersState). Some (book_in r.owners)) same))))
