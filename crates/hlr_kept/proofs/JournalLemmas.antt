-- A journal without its register: what a line more, a sync and a crash make of the rows that it stands for.
use Rattle.std.proofs.Common.{◌≡◌, ◌∙◌, refl, sym, ap, subst, ℕ, true, List, [], ◌∷◌, ◌++◌, append_assoc, arith, length, length-append, take, Option, Some, None}
use Rattle.std.proofs.lemmas.List.{take_all, take-append-le}
use Rattle.tatp_actions.specs.Book.{Book}
use Rattle.journal_file.specs.Device.{LeavesOnly}
use Rattle.journal_file.specs.Relayed.{relayed_leaves, relayed_seen}
use Rattle.journal_file.specs.declared.relayed.Relayed.{Relayed}
use Rattle.journal.specs.Lines.{HasFence, HasNoZero, IsWhole, lines, recovered, text}
use Rattle.journal.specs.Tape.{HasLinesBetween, IsOpen}
use Rattle.journal.specs.declared.tape.Tape.{Tape}
use Rattle.journal.proofs.MomentLemmas.{started, weaker}
use Rattle.journal.proofs.OpenLemmas.{all_only, open_fence}
use Rattle.edit_lines.specs.Lines.{has_line}
use Rattle.hlr_owners.specs.Store.{Store}
use Rattle.hlr_core.specs.Step.{IsStep}
use Rattle.hlr_core.specs.declared.event.Event.{Event}
use Rattle.hlr_core.specs.declared.event.Reply.{Reply}
use Rattle.hlr_core.specs.declared.order.Answer.TheVariants as answer
use Rattle.hlr_core.specs.declared.order.Order.TheVariants as order
use Rattle.hlr_kept.specs.Keeping.{IsPut, IsSame, IsSettled, Keeps, StandsAfterFirst, StandsFor}
use Rattle.hlr_kept.specs.Rows.{book_after_lines, book_of, book_of_lines}
use Rattle.hlr_kept.specs.Runs.{IsBegun, IsGroup, IsOnDisk, line_bytes, lines_of, tells_done}
use Rattle.hlr_kept.specs.declared.keeping.Journal.{Journal}
use Rattle.hlr_kept.proofs.GroupLemmas.{group-append, order_group}
use Rattle.hlr_kept.proofs.KeptLemmas.{begun-append}
use Rattle.hlr_kept.proofs.RunLemmas.{after-append, all_orders, behind_begun, cancel, none_stays}

-- the front of a list is the first so many of its elements
first_ones : {A : Type 0} (front rest : List A) → take (length front) (front ++ rest) ≡ front
first_ones front rest = take-append-le (length front) front rest (omega arith) ∙ take_all (length front) front (omega arith)

-- if some lines lead to a book, so do the first of them
front_leads : (front rest : List (List ℕ)) (before : Option Book) (book : Book) → book_after_lines (front ++ rest) before ≡ Some book
    → (b : Book) × (book_after_lines front before ≡ Some b)
front_leads front rest before book is = cases (book_after_lines front before) refl
  where
    cases : (o : Option Book) → book_after_lines front before ≡ o → (b : Book) × (book_after_lines front before ≡ Some b)
    cases None e =
        let clash : None ≡ Some book = sym (none_stays rest) ∙ ap (book_after_lines rest) (sym e) ∙ sym (after-append front rest before) ∙ is in
        absurd cc
    cases (Some b) e = (b, e)

module _ {D : Type 0} (seen : D → List ℕ) (may_leave : D → List ℕ → Type 0) where
  -- what hasn't changed stands for the same rows
  pub same_stands : (book : Book) (before after : Journal D) → IsSame before after → StandsFor seen may_leave book before → StandsFor seen may_leave book after
  same_stands book before after same was = λ works.
      let keeps = was (sym same.fault ∙ works) in
      subst (λ (t : Tape D). Keeps seen may_leave book (record after { tape = t })) (sym same.tape)
      (record {
        open_tape = keeps.open_tape;
        synced = keeps.synced;
        whole = keeps.whole;
        begun = keeps.begun;
        no_zero = subst HasNoZero (sym same.group) keeps.no_zero;
        whole_lines = subst IsWhole (sym same.group) keeps.whole_lines;
        rows = ap (λ (g : List ℕ). book_after_lines (lines g) (book_of (seen before.tape.device))) same.group ∙ keeps.rows;
      })

  -- the line of an event more leads to the rows behind the event
  pub put_stands : (event : Event) (told : Reply) (a b : Store) (before after : Journal D) → IsPut event told before after → (tells_done told ≡ true → has_line event ≡ true)
      → IsStep event a told b → StandsFor seen may_leave a.book before → StandsFor seen may_leave b.book after
  put_stands event told a b before after put fits step was = λ works.
      let keeps = was (sym put.fault ∙ works) in
      let one = order.Event event in
      let said = answer.Reply told in
      let group = before.group.items in
      let more = lines_of (one ∷ []) (said ∷ []) in
      let both : IsGroup (lines group ++ more) (group ++ line_bytes one said) =
      group-append (lines group) more group (line_bytes one said) (record { lines = refl; no_zero = keeps.no_zero; whole = keeps.whole_lines }) (order_group one said) in
      let now : IsGroup (lines group ++ more) after.group.items = subst (IsGroup (lines group ++ more)) (sym put.group) both in
      let file = book_of (seen before.tape.device) in
      let rows : book_after_lines (lines after.group.items) file ≡ Some b.book =
      ap (λ (l : List (List ℕ)). book_after_lines l file) now.lines ∙ after-append (lines group) more file
      ∙ ap (book_after_lines more) keeps.rows ∙ all_orders (one ∷ []) (said ∷ []) a b (b, step, refl) (fits, tt) in
      subst (λ (t : Tape D). Keeps seen may_leave b.book (record after { tape = t })) (sym put.tape)
      (record {
        open_tape = keeps.open_tape;
        synced = keeps.synced;
        whole = keeps.whole;
        begun = keeps.begun;
        no_zero = now.no_zero;
        whole_lines = now.whole;
        rows = rows;
      })

  -- where no line waits, the file has the rows
  pub settled_rows : (book : Book) (journal : Journal D) → IsSettled journal → StandsFor seen may_leave book journal → book_of (seen journal.tape.device) ≡ Some book
  settled_rows book journal settled stands =
      let keeps = stands settled.0 in
      sym (ap (λ (g : List ℕ). book_after_lines (lines g) (book_of (seen journal.tape.device))) settled.1) ∙ keeps.rows

  pub settled_disk : (stored : Store) (journal : Journal D) → IsSettled journal → StandsFor seen may_leave stored.book journal → IsOnDisk seen may_leave stored journal.tape
  settled_disk stored journal settled stands =
      let keeps = stands settled.0 in
      record {
        open_tape = keeps.open_tape;
        synced = keeps.synced;
        whole = keeps.whole;
        begun = keeps.begun;
        rows = settled_rows stored.book journal settled stands;
      }

  -- a file that has the rows, with no line that waits
  pub disk_stands : (stored : Store) (journal : Journal D) → IsOnDisk seen may_leave stored journal.tape → journal.group.items ≡ [] → StandsFor seen may_leave stored.book journal
  disk_stands stored journal disk none = λ works. record {
    open_tape = disk.open_tape;
    synced = disk.synced;
    whole = disk.whole;
    begun = disk.begun;
    no_zero = subst HasNoZero (sym none) refl;
    whole_lines = subst IsWhole (sym none) refl;
    rows = ap (λ (g : List ℕ). book_after_lines (lines g) (book_of (seen journal.tape.device))) none ∙ disk.rows;
  }

  -- the lines that waited are on the disk
  pub written_stands : (book : Book) (before after : Journal D) (written : List ℕ) → Keeps seen may_leave book before → written ≡ before.group.items → after.group.items ≡ [] → IsOpen seen may_leave after.tape
      → after.tape.synced ≡ after.tape.end → IsWhole (text (seen after.tape.device)) → recovered (seen after.tape.device) ≡ recovered (seen before.tape.device) ++ lines written → StandsFor seen may_leave book after
  written_stands book before after written keeps same none opened synced whole is = λ works.
      let low = recovered (seen before.tape.device) in
      let group = lines written in
      let file : book_of (seen after.tape.device) ≡ Some book =
      ap book_of_lines is ∙ behind_begun low group keeps.begun ∙ ap (λ (g : List ℕ). book_after_lines (lines g) (book_of_lines low)) same ∙ keeps.rows in
      record {
        open_tape = opened;
        synced = synced;
        whole = whole;
        begun = subst IsBegun (sym is) (begun-append low group keeps.begun);
        no_zero = subst HasNoZero (sym none) refl;
        whole_lines = subst IsWhole (sym none) refl;
        rows = ap (λ (g : List ℕ). book_after_lines (lines g) (book_of (seen after.tape.device))) none ∙ file;
      }

  -- what a crash leaves while the lines that wait are written
  between_stands : (book : Book) (journal : Journal D) (c : List ℕ) → Keeps seen may_leave book journal
      → HasLinesBetween (recovered (seen journal.tape.device)) (recovered (seen journal.tape.device) ++ lines journal.group.items) c
      → HasFence c × StandsAfterFirst seen journal c
  between_stands book journal c keeps between =
      let low = recovered (seen journal.tape.device) in
      let group = lines journal.group.items in
      let more = between.at_least.0 in
      let rest = between.at_most.0 in
      let here : recovered c ≡ low ++ more = between.at_least.1 in
      let whole : low ++ group ≡ low ++ (more ++ rest) =
      between.at_most.1 ∙ ap (λ (l : List (List ℕ)). l ++ rest) here ∙ append_assoc low more rest in
      let split : group ≡ more ++ rest = cancel low group (more ++ rest) whole in
      let file = book_of (seen journal.tape.device) in
      let leads = front_leads more rest file book (ap (λ (l : List (List ℕ)). book_after_lines l file) (sym split) ∙ keeps.rows) in
      let front : take (length more) group ≡ more = ap (take (length more)) split ∙ first_ones more rest in (
        between.fence,
        record {
          count = length more;
          within = omega (arith, ap length split, length-append more rest);
          book = leads.0;
          rows = ap book_of_lines here ∙ behind_begun low more keeps.begun ∙ leads.1;
          after = ap (λ (l : List (List ℕ)). book_after_lines l file) front ∙ leads.1;
        },
      )

  module _ (moment : D → ℕ) (left_since : D → ℕ → List ℕ → Type 0) where
    pub sync_leaves : (book : Book) (journal : Journal D) (written : List ℕ) (new : D) → Keeps seen may_leave book journal → written ≡ journal.group.items
        → LeavesOnly moment left_since journal.tape.device new (HasLinesBetween (recovered (seen journal.tape.device)) (recovered (seen journal.tape.device) ++ lines written))
        → LeavesOnly moment left_since journal.tape.device new (λ c. HasFence c × StandsAfterFirst seen journal c)
    sync_leaves book journal written new keeps same run =
        let low = recovered (seen journal.tape.device) in
        weaker moment left_since journal.tape.device new (HasLinesBetween low (low ++ lines written)) (λ c. HasFence c × StandsAfterFirst seen journal c) run
        (λ c between. between_stands book journal c keeps (subst (λ (g : List ℕ). HasLinesBetween low (low ++ lines g) c) same between))

    -- between two calls, a crash leaves what is on the disk
    pub idle_leaves : ((d : D) (c : List ℕ) → left_since d (moment d) c → may_leave d c) → (book : Book) (journal : Journal D) → Keeps seen may_leave book journal
        → LeavesOnly moment left_since journal.tape.device journal.tape.device (λ c. HasFence c × StandsAfterFirst seen journal c)
    idle_leaves only_now book journal keeps =
        started moment left_since journal.tape.device (λ c. HasFence c × StandsAfterFirst seen journal c) (λ c left.
        let file = book_of (seen journal.tape.device) in
        let same : c ≡ seen journal.tape.device = all_only seen may_leave journal.tape keeps.open_tape keeps.synced c (only_now journal.tape.device c left) in
        let leads = front_leads [] (lines journal.group.items) file book keeps.rows in (
          subst HasFence (sym same) (open_fence seen may_leave journal.tape keeps.open_tape),
          record { count = 0; within = omega arith; book = leads.0; rows = ap book_of same ∙ leads.1; after = leads.1 },
        ))

-- a journal whose file has an owner stands for the same rows as one with the same calls and the same lines
pub like_stands : (book : Book) (before after : Journal Relayed) → after.tape.device.log.calls ≡ before.tape.device.log.calls
    → after.tape.end ≡ before.tape.end → after.tape.synced ≡ before.tape.synced → after.tape.len ≡ before.tape.len → after.group.items ≡ before.group.items
    → after.fault ≡ before.fault → StandsFor relayed_seen relayed_leaves book before → StandsFor relayed_seen relayed_leaves book after
like_stands book before after calls end synced len group fault was = λ works.
    let keeps = was (sym fault ∙ works) in
    let opened = keeps.open_tape in
    record {
      open_tape = record {
        file = rw (calls, end, len) opened.file;
        end = rw (calls, end) opened.end;
        fence = rw (end, len) opened.fence;
        synced = rw (end, synced) opened.synced;
        outcomes = rw (calls, synced) opened.outcomes;
      };
      synced = rw (end, synced) keeps.synced;
      whole = rw calls keeps.whole;
      begun = rw calls keeps.begun;
      no_zero = rw group keeps.no_zero;
      whole_lines = rw group keeps.whole_lines;
      rows = rw (calls, group) keeps.rows;
    }
