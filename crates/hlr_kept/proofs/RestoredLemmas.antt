-- A register in which lines are done again.
use Rattle.std.specs.Prelude.{◌⊎◌, ℤ, Result, Ok, Err}
use Rattle.std.proofs.Common.{◌≡◌, ◌≢◌, ◌<◌, ◌≤◌, ◌+◌, ◌^◌, ◌∙◌, refl, sym, ap, subst, inl, inr, ⊎_elim, arith, ℕ, Bool, true, false, List, [], ◌∷◌, length, Some, None}
use Rattle.journal_file.specs.Calls.{Call, left_after, seen_after}
use Rattle.journal_file.specs.Device.{LeavesOnly, Only}
use Rattle.journal_file.specs.Owner.{owner_of_held}
use Rattle.journal_file.specs.Relayed.{relayed_leaves, relayed_owner, relayed_seen}
use Rattle.journal_file.specs.declared.fault.JournalFault.{JournalFault}
use Rattle.journal_file.specs.declared.fault.JournalFault.TheVariants.{BadLine, Failed, Full, Locked, Memory, NoJournal}
use Rattle.journal_file.specs.declared.record.Step.TheVariants.{Held}
use Rattle.journal_file.specs.declared.relayed.Relayed.{Relayed}
use Rattle.journal.specs.Lines.{HasFence, recovered}
use Rattle.journal.specs.Machine.{AreRefused, HasBadLine, Runs}
use Rattle.journal.specs.Tape.{AreEnds}
use Rattle.journal.proofs.MomentLemmas.{weaker}
use Rattle.journal.specs.declared.tape.Ends.{Ends}
use Rattle.tatp_actions.specs.Book.{Book, empty_book}
use Rattle.hlr_owners.specs.Owners.{OwnersState, book_in, store_in}
use Rattle.hlr_owners.specs.Store.{Store}
use Rattle.edit_lines.specs.declared.error.LineError.{LineError}
use Rattle.hlr_kept.specs.Restored.{IsBadFor, Leads, LeadsNowhere, Restores}
use Rattle.hlr_kept.specs.Rows.{HasOtherRows, HasRowsOf, IsGivenUp, IsNotOpened, book_after_first, book_after_lines, book_of, book_of_lines}
use Rattle.hlr_kept.specs.declared.opening.Restored.{Restored}

-- the lines behind the first one
run_begun : (ls : List (List ℕ)) (a b : Restored) → a.is_begun ≡ true → Runs Restores ls a b
    → book_after_lines ls (Some (book_in a.register.owners)) ≡ Some (book_in b.register.owners)
run_begun [] a b begun run = ap (λ (r : Restored). Some (book_in r.register.owners)) (sym run)
run_begun (l ∷ ls) a b begun run =
    let leads : Leads true l a run.0 = subst (λ is. Leads is l a run.0) begun run.1.1 in
    ap (book_after_lines ls) leads.0 ∙ run_begun ls run.0 b run.1.0 run.2

-- all lines
pub run_after : (ls : List (List ℕ)) (a b : Restored) → a.is_begun ≡ false → book_in a.register.owners ≡ empty_book → Runs Restores ls a b
    → book_of_lines ls ≡ Some (book_in b.register.owners)
run_after [] a b fresh empty run = ap (λ (e : Book). Some e) (sym empty) ∙ ap (λ (r : Restored). Some (book_in r.register.owners)) (sym run)
run_after (l ∷ ls) a b fresh empty run =
    let leads : Leads false l a run.0 = subst (λ is. Leads is l a run.0) fresh run.1.1 in
    let same : empty_book ≡ book_in run.0.register.owners = sym (ap (λ (r : OwnersState). book_in r.owners) leads.1 ∙ empty) in
    ap (λ first. book_after_lines ls (book_after_first first)) leads.0
    ∙ ap (λ (e : Book). book_after_lines ls (Some e)) same ∙ run_begun ls run.0 b run.1.0 run.2

-- no book comes after none
none_after : (ls : List (List ℕ)) → book_after_lines ls None ≡ None
none_after [] = refl
none_after (l ∷ ls) = none_after ls

-- a bad line behind the first one
bad_begun : (ls : List (List ℕ)) (a : Restored) → a.is_begun ≡ true → HasBadLine Restores IsBadFor ls a → book_after_lines ls (Some (book_in a.register.owners)) ≡ None
bad_begun [] a begun bad = elim bad [ ]
bad_begun (l ∷ ls) a begun (inl bad) =
    let nowhere : LeadsNowhere true l a = subst (λ is. LeadsNowhere is l a) begun bad in
    ap (book_after_lines ls) nowhere ∙ none_after ls
bad_begun (l ∷ ls) a begun (inr (next, moved, bad)) =
    let leads : Leads true l a next = subst (λ is. Leads is l a next) begun moved.1 in
    ap (book_after_lines ls) leads.0 ∙ bad_begun ls next moved.0 bad

-- nothing stands behind a wrong first line
wrong_first : (read : Result (Unit {0}) LineError) → read ≢ Ok tt → book_after_first read ≡ None
wrong_first (Ok tt) wrong = absurd (wrong refl)
wrong_first (Err why) wrong = refl

-- a file with a bad line is no journal
pub bad_after : (ls : List (List ℕ)) (a : Restored) → a.is_begun ≡ false → book_in a.register.owners ≡ empty_book → HasBadLine Restores IsBadFor ls a → book_of_lines ls ≡ None
bad_after [] a fresh empty bad = elim bad [ ]
bad_after (l ∷ ls) a fresh empty (inl bad) =
    let nowhere : LeadsNowhere false l a = subst (λ is. LeadsNowhere is l a) fresh bad in
    ap (book_after_lines ls) (wrong_first _ nowhere) ∙ none_after ls
bad_after (l ∷ ls) a fresh empty (inr (next, moved, bad)) =
    let leads : Leads false l a next = subst (λ is. Leads is l a next) fresh moved.1 in
    let same : empty_book ≡ book_in next.register.owners = sym (ap (λ (r : OwnersState). book_in r.owners) leads.1 ∙ empty) in
    ap (λ first. book_after_lines ls (book_after_first first)) leads.0
    ∙ ap (λ (e : Book). book_after_lines ls (Some e)) same ∙ bad_begun ls next moved.0 bad

-- why a file isn't opened whose lines are refused
pub lines_refused : (file : List ℕ) (a : Restored) (why : JournalFault) → a.is_begun ≡ false → book_in a.register.owners ≡ empty_book
    → AreRefused Restores IsBadFor (recovered file) a why → IsNotOpened file why
lines_refused file a why fresh empty (inl memory) = rw memory tt
lines_refused file a why fresh empty (inr (told, bad)) = rw told (bad_after (recovered file) a fresh empty bad)

-- or which is too long
long_refused : (file : List ℕ) (why : JournalFault) → why ≡ Full → 2 ^ 62 ≤ length file → IsNotOpened file why
long_refused file why told long = rw told (omega (arith, long))

pub bytes_refused : (file : List ℕ) (a : Restored) (why : JournalFault) → a.is_begun ≡ false → book_in a.register.owners ≡ empty_book
    → AreRefused Restores IsBadFor (recovered file) a why ⊎ ((why ≡ Full) × (2 ^ 62 ≤ length file)) → IsNotOpened file why
bytes_refused file a why fresh empty (inl refused) = lines_refused file a why fresh empty refused
bytes_refused file a why fresh empty (inr long) = long_refused file why long.0 long.1

-- no line is refused because there is no journal
not_missing : (file : List ℕ) (a : Restored) (why : JournalFault) → AreRefused Restores IsBadFor (recovered file) a why → why ≢ NoJournal
not_missing file a why (inl memory) is = let clash : Memory ≡ NoJournal = sym memory ∙ is in cc
not_missing file a why (inr bad) is = let clash : BadLine ≡ NoJournal = sym bad.0 ∙ is in cc

pub read_refused : (before now : ℕ) (file : List ℕ) (a : Restored) (why : JournalFault) → a.is_begun ≡ false → book_in a.register.owners ≡ empty_book
    → AreRefused Restores IsBadFor (recovered file) a why ⊎ ((why ≡ Failed) × (before < now)) ⊎ ((why ≡ Full) × (2 ^ 62 ≤ length file))
    → IsGivenUp before now file why × (why ≢ NoJournal)
read_refused before now file a why fresh empty (inl refused) = (inr (lines_refused file a why fresh empty refused), not_missing file a why refused)
read_refused before now file a why fresh empty (inr (inl failed)) = (inl failed, λ is. let clash : Failed ≡ NoJournal = sym failed.0 ∙ is in cc)
read_refused before now file a why fresh empty (inr (inr long)) =
    (inr (long_refused file why long.0 long.1), λ is. let clash : Full ≡ NoJournal = sym long.0 ∙ is in cc)

-- or that isn't made ready to be written
pub not_begun : (file : List ℕ) (Fails : Type 0) (why : JournalFault) → (why ≡ Failed → Fails) → (why ≡ Full → 2 ^ 61 ≤ length file + 14)
    → (why ≡ NoJournal → HasFence file → ⊥) → (why ≡ BadLine → ⊥) → (why ≡ Locked → ⊥) → ((why ≡ Failed) × Fails) ⊎ IsNotOpened file why
not_begun file Fails Memory failed full journal bad locked = inr tt
not_begun file Fails Failed failed full journal bad locked = inl (refl, failed refl)
not_begun file Fails Full failed full journal bad locked = inr (full refl)
not_begun file Fails Locked failed full journal bad locked = absurd (locked refl)
not_begun file Fails NoJournal failed full journal bad locked = inr (journal refl)
not_begun file Fails BadLine failed full journal bad locked = absurd (bad refl)

-- a line changes nothing but rows, and so do all lines
module _ (a b : Restored) where
  leads_rows : (begun : Bool) (line : List ℕ) → Leads begun line a b → HasOtherRows a.register b.register
  leads_rows false line leads =
      let same = leads.1 in
      ap (λ (r : OwnersState). store_in r) same ∙ ap (λ (r : OwnersState). record (store_in a.register) { book = book_in r.owners }) (sym same)
  leads_rows true line leads = leads.1

pub run_rows : (ls : List (List ℕ)) (a b : Restored) → Runs Restores ls a b → HasOtherRows a.register b.register
run_rows [] a b run =
    ap (λ (r : Restored). store_in r.register) run ∙ ap (λ (r : Restored). record (store_in a.register) { book = book_in r.register.owners }) (sym run)
run_rows (l ∷ ls) a b run =
    let first : HasOtherRows a.register run.0.register = leads_rows a run.0 a.is_begun l run.1.1 in
    run_rows ls run.0 b run.2 ∙ ap (λ (s : Store). record s { book = book_in b.register.owners }) first

-- a file that was read and is to be written
module _ {D : Type 0} (seen : D → List ℕ) (may_leave : D → List ℕ → Type 0) (device d : D) (bytes : List ℕ) (same : device ≡ d) (is : seen d ≡ bytes) where
  pub read_ends : (ends : Ends) → AreEnds bytes ends → AreEnds (seen device) ends
  read_ends ends are = subst (λ (b : List ℕ). AreEnds b ends) (sym (ap seen same ∙ is)) are

  pub read_disk : Only bytes (may_leave d) → Only (seen device) (may_leave device)
  read_disk only c left = only c (subst (λ (x : D). may_leave x c) same left) ∙ sym (ap seen same ∙ is)

  pub read_rows : (book : Book) → book_of bytes ≡ Some book → book_of (seen device) ≡ Some book
  read_rows book rows = ap book_of (ap seen same ∙ is) ∙ rows

-- what a crash leaves of it meanwhile
module _ {D : Type 0} (seen : D → List ℕ) (moment : D → ℕ) (left_since : D → ℕ → List ℕ → Type 0) where
  pub read_moments : (file d device new : D) (bytes : List ℕ) → device ≡ d → d ≡ file → seen d ≡ bytes
      → LeavesOnly moment left_since device new (λ c. HasFence c × (book_of c ≡ book_of (seen device)))
      → LeavesOnly moment left_since file new (λ c. HasFence c × (book_of c ≡ book_of bytes))
  read_moments file d device new bytes same handed is leaves =
      let spelled = subst (λ (b : List ℕ). LeavesOnly moment left_since device new (λ c. HasFence c × (book_of c ≡ book_of b))) (ap seen same ∙ is) leaves in
      subst (λ (f : D). LeavesOnly moment left_since f new (λ c. HasFence c × (book_of c ≡ book_of bytes))) (same ∙ handed) spelled

  -- a fence that was there stays
  pub fenced_moments : (d new : D) → HasFence (seen d) → LeavesOnly moment left_since d new (HasRowsOf (seen d))
      → LeavesOnly moment left_since d new (λ c. HasFence c × (book_of c ≡ book_of (seen d)))
  fenced_moments d new fenced leaves =
      weaker moment left_since d new (HasRowsOf (seen d)) (λ c. HasFence c × (book_of c ≡ book_of (seen d))) leaves (λ c rows. (rows.0 fenced, rows.1))

  -- what a crash leaves where the file isn't opened
  pub back_moments : (file d new : D) (bytes : List ℕ) → d ≡ file → seen d ≡ bytes
      → LeavesOnly moment left_since d new (HasRowsOf (seen d)) → LeavesOnly moment left_since file new (HasRowsOf bytes)
  back_moments file d new bytes handed is leaves =
      let spelled = subst (λ (b : List ℕ). LeavesOnly moment left_since d new (HasRowsOf b)) is leaves in
      subst (λ (f : D). LeavesOnly moment left_since f new (HasRowsOf bytes)) handed spelled

-- why it isn't opened, told of what was read
pub back_given_up : (before before2 now : ℕ) (seen read : List ℕ) (why : JournalFault) → before ≡ before2 → seen ≡ read → IsGivenUp before now seen why → IsGivenUp before2 now read why
back_given_up before before2 now seen read why same is given = subst (λ (b : List ℕ). IsGivenUp before2 now b why) is (subst (λ (n : ℕ). IsGivenUp n now seen why) same given)

-- a file all of whose bytes are at hand
module _ (file : Relayed) (bytes : List ℕ) (held : file.log.calls ≡ (Held, bytes) ∷ []) where
  pub held_seen : relayed_seen file ≡ bytes
  held_seen = ap seen_after held

  pub held_owner : (fd : ℤ) → file.fd ≡ fd → file.made.calls ≡ (Held, bytes) ∷ [] → relayed_owner file ≡ owner_of_held fd bytes
  held_owner fd is made = rw (is, made) refl

  pub held_disk : Only (relayed_seen file) (relayed_leaves file)
  held_disk c left = ⊎_elim (λ now. now) (λ read. read) (subst (λ (calls : List Call). left_after calls c) held left) ∙ sym held_seen
