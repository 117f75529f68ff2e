-- What a call makes of a register that a journal keeps.
use Rattle.std.specs.Prelude.{ℤ, ◌⊎◌, ◌<◌, ◌≤◌, ◌+◌, ◌^◌, IfErr, IfOk, IfSome, IsErrOf, length, replicate, slice_get, zero}
use Rattle.std.proofs.lemmas.List.{append-nil}
use Rattle.hlr_c.proofs.Common.{◌≡◌, ◌≢◌, ◌∙◌, arith, ap, refl, sym, subst, ℕ, suc, Bool, true, false, List, [], ◌∷◌, ◌++◌, inl, inr, Ok, Err, Option, None, Some, Result, by_test, Refusal, Book, AllHome, OwnersState, HoldingState, Event, Reply, Give, IsAnswer, FileJournal, IsJournaled, StandsAs, asks, code_told}
use Rattle.part_table.specs.Recut.{recut_answer}
use Rattle.part_table.specs.declared.region.Side.{Side}
use Rattle.journal_file.specs.Device.{LeavesOnly}
use Rattle.journal_file.specs.Owner.{owner_of_held}
use Rattle.journal_file.specs.Relayed.{relayed_leaves, relayed_left_since, relayed_moment, relayed_owner, relayed_seen}
use Rattle.journal_file.specs.declared.record.Step.TheVariants.{Held}
use Rattle.journal_file.specs.declared.relayed.Relayed.{Relayed}
use Rattle.journal_file.specs.declared.fault.JournalFault.{JournalFault}
use Rattle.journal_file.specs.declared.fault.JournalFault.TheVariants as fault
use Rattle.journal.specs.Lines.{HasFence}
use Rattle.journal.proofs.OpenLemmas.{all_only, open_fence}
use Rattle.edit_lines.specs.Lines.{is_change}
use Rattle.hlr_owners.proofs.RecutLemmas.{recut_stays}
use Rattle.hlr_owners.specs.Out.{outs_in}
use Rattle.hlr_core.specs.Step.{IsStep}
use Rattle.hlr_owners.specs.Owners.{book_in, store_in}
use Rattle.hlr_owners.specs.Store.{Store}
use Rattle.hlr_owners.specs.declared.part_owner.RegionOwner.{RegionOwner}
use Rattle.hlr_owners.specs.declared.part_owner.RegionOwner.TheVariants.{Part, Piece}
use Rattle.hlr_core.proofs.HomeLemmas.{home_after, still_home}
use Rattle.hlr_core.specs.WhileOut.{IsRegisterRecut, IsRegisterStep}
use Rattle.hlr_kept.proofs.EventLemmas.{done_changes, left_step}
use Rattle.hlr_kept.proofs.JournalLemmas.{same_stands, settled_rows}
use Rattle.hlr_kept.specs.Keeping.{IsHanded, IsLike, IsPut, IsSame, IsSettled, StandsAfterFirst, StandsFor}
use Rattle.hlr_kept.specs.declared.keeping.Journal.{Journal}
use Rattle.journal.specs.declared.tape.Tape.{Tape}
use Rattle.journal_file.specs.Calls.{faults_in, seen_after}
use Rattle.hlr_kept.specs.Rows.{book_of}
use Rattle.hlr_kept.specs.Runs.{tells_done}
use Rattle.hlr_c.proofs.EditedLemmas.{told_written}
use Rattle.hlr_c.specs.Call.{IsCall, IsRecutAnswer}
use Rattle.hlr_c.specs.Inside.{changes_rows}
use Rattle.hlr_c.specs.Journaled.{IsAdded, IsAllMade, IsComeBack, IsEnding, IsKeptAnswer, IsMade, IsNotSynced, IsSafe, IsSnapshotOf, IsSynced, Open, by_before, current_of, fallen_back, fault_code, line_written, opened_in}
use Rattle.hlr_c.specs.Opened.{IsComing}
use Rattle.hlr_c.specs.Reports.{IsLook}
use Rattle.hlr_c.specs.declared.codes.TheConstants.{AWAY, DONE, FAILED}
use Rattle.hlr_c.specs.declared.kept.Kept.{Kept}
use Rattle.hlr_c.specs.declared.opened.Opened.{Opened}

-- a journal keeps a register with the same rows, of which no part is lent either
pub still_journaled : (before after : OwnersState) (journal : Option FileJournal) → book_in after.owners ≡ book_in before.owners → (AllHome before.owners → AllHome after.owners)
    → IsJournaled before journal → IsJournaled after journal
still_journaled before after None book home is = tt
still_journaled before after (Some journal) book home is =
    (home is.0, subst (λ (b : Book). StandsFor relayed_seen relayed_leaves b journal.current) (sym book) is.1, is.2)

-- the register itself
pub same_journaled : (before after : OwnersState) (journal : Option FileJournal) → after ≡ before → IsJournaled before journal → IsJournaled after journal
same_journaled before after journal same is = subst (λ (r : OwnersState). IsJournaled r journal) (sym same) is

-- an event that changes no row leaves them
unchanged_rows : (event : Event) (before after : OwnersState) (said : Reply) → is_change event ≡ false → IsRegisterStep event before said after → book_in after.owners ≡ book_in before.owners
unchanged_rows event before after said other is =
    by_test (tells_done said)
    (λ e. absurd (let clash : true ≡ false = sym (done_changes event (store_in before) (store_in after) said e is.step) ∙ other in cc))
    (λ e. left_step event (store_in before) (store_in after) said e is.step)

-- what is asked for changes no row
abbrev pub IsOther : Result Event Refusal → Type 0
IsOther asked = IfOk asked (λ event. is_change event ≡ false)

-- a give does
pub give_other : (part at : ℕ) (side : Result Side Refusal) → IsOther (asks (λ to. Give part to at) side)
give_other part at (Ok to) = refl
give_other part at (Err why) = tt

pub other_journaled : {X : Type 0} (asked : Result Event Refusal) (told : Reply → X) (away answer : X) (before after : OwnersState) (journal : Option FileJournal) → IsOther asked
    → IsAnswer asked told away before answer after → IsJournaled before journal → IsJournaled after journal
other_journaled asked told away answer before after journal other (inl waits) is = same_journaled before after journal waits.2 is
other_journaled (Err why) told away answer before after journal other (inr done) is = same_journaled before after journal done.2.1 is
other_journaled (Ok event) told away answer before after journal other (inr done) is =
    still_journaled before after journal (unchanged_rows event before after done.1 other done.2)
    (home_after event done.1 before after (done.2.homes)) is

-- a recut moves no row out of the register
pub recut_journaled : {X : Type 0} (asked : Result (List ℕ) Refusal) (told : Result ℕ Refusal → X) (away answer : X) (before after : OwnersState) (journal : Option FileJournal)
    → IsRecutAnswer asked told away before answer after → IsJournaled before journal → IsJournaled after journal
recut_journaled asked told away answer before after journal (inl waits) is = same_journaled before after journal waits.2 is
recut_journaled (Err why) told away answer before after journal (inr done) is = same_journaled before after journal done.2.1 is
recut_journaled (Ok bounds) told away answer before after journal (inr done) is =
    still_journaled before after journal (recut_stays (recut_answer before.regions bounds) bounds (store_in before) (store_in after) done.1 done.2.recut)
    (still_home before after (done.2.homes)) is

-- where all parts are home, none is lent
none_lent : (owners : List RegionOwner) → AllHome owners → (part : ℕ) (lent : HoldingState) → slice_get (outs_in owners) part ≡ Some (Some lent) → ⊥
none_lent [] home part lent out = absurd cc
none_lent (Piece b ∷ owners) home part lent out = none_lent owners home part lent out
none_lent (Part owner ∷ owners) home zero lent out = absurd (let is = rw (home.0) at out in cc)
none_lent (Part owner ∷ owners) home (suc part) lent out = none_lent owners home.1 part lent out

-- no part comes home to a register with a journal
pub back_journaled : (part code : ℕ) (before after : OwnersState) (journal : Option FileJournal) → IsComing part before code after → IsJournaled before journal → IsJournaled after journal
back_journaled part code before after None came is = tt
back_journaled part code before after (Some journal) (inl back) is = absurd (none_lent before.owners is.0 part (back.1.lent) (back.1.out))
back_journaled part code before after (Some journal) (inr same) is = same_journaled before after (Some journal) same.0 is

-- a look leaves the owners
pub look_journaled : (before after : OwnersState) (answer : ℕ × List _) (journal : Option FileJournal) → IsLook before answer after → IsJournaled before journal → IsJournaled after journal
look_journaled before after answer journal look is =
    let same : after.owners ≡ before.owners = ap (λ (r : OwnersState). r.owners) look.seen in
    still_journaled before after journal (ap book_in same) (λ home. subst AllHome (sym same) home) is

-- where no line waits, whatever a crash leaves of the file has the rows
pub settled_safe : (register : OwnersState) (journal : FileJournal) → IsSettled journal.current → StandsFor relayed_seen relayed_leaves (book_in register.owners) journal.current → IsSafe register journal
settled_safe register journal settled stands =
    let keeps = stands settled.0 in
    let tape = journal.current.tape in
    record {
      settled = settled;
      rows = λ file left.
          let same = all_only relayed_seen relayed_leaves tape keeps.open_tape keeps.synced file left in (
            subst HasFence (sym same) (open_fence relayed_seen relayed_leaves tape keeps.open_tape),
            ap book_of same ∙ settled_rows relayed_seen relayed_leaves (book_in register.owners) journal.current settled stands,
          );
    }

-- another journal in the place of the current one
abbrev pub with_current : FileJournal → Journal Relayed → FileJournal
with_current journal current = record { current = current; before = journal.before }

-- the journal of before stands for the rows of the file as long as the file has the same bytes
before_stands : (file now : Relayed) (before : Option (Journal Relayed)) → relayed_seen now ≡ relayed_seen file → IfSome before (StandsAs file) → IfSome before (StandsAs now)
before_stands file now None same stands = tt
before_stands file now (Some old) same stands = λ book is. stands book (ap book_of (sym same) ∙ is)

-- a change whose line there is room for, with its reply: what was written is the line of its code
pub change_written : (event : Event) (before after : OwnersState) (said : Reply) (was : FileJournal) (now : Journal Relayed) (code : ℕ) → changes_rows event ≡ true → IsRegisterStep event before said after
    → IsPut event said was.current now → code ≡ code_told said → IsAdded (line_written (Ok event) code) was (with_current was now)
change_written event before after said was now code change step put coded = record {
  old = refl;
  tape = put.tape;
  group = put.group
      ∙ ap (λ (bytes : List ℕ). was.current.group.items ++ bytes)
      (told_written event (store_in before) (store_in after) said change step.step ∙ ap (λ (n : ℕ). line_written (Ok event) n) (sym coded));
  fault = put.fault;
}

-- and the journal keeps the register after it
pub change_journaled : (event : Event) (before after : OwnersState) (said : Reply) (was : FileJournal) (now : Journal Relayed) → IsRegisterStep event before said after → IsPut event said was.current now
    → ((x y : Store) → IsStep event x said y → StandsFor relayed_seen relayed_leaves x.book was.current → StandsFor relayed_seen relayed_leaves y.book now)
    → IsJournaled before (Some was) → IsJournaled after (Some (with_current was now))
change_journaled event before after said was now step put stands is = (
  home_after event said before after (step.homes) is.0,
  stands (store_in before) (store_in after) step.step is.1,
  before_stands was.current.tape.device now.tape.device was.before (ap (λ (t : Tape Relayed). relayed_seen t.device) put.tape) is.2,
)

-- nothing was written
pub none_written : (journal : FileJournal) → IsAdded [] journal journal
none_written journal = record { tape = refl; group = sym (append-nil journal.current.group.items); fault = refl; old = refl }

-- more memory for lines is nothing to the journal
pub room_journaled : (register : OwnersState) (was : FileJournal) (now : Journal Relayed) → IsSame was.current now → IsJournaled register (Some was) → IsJournaled register (Some (with_current was now))
room_journaled register was now same is = (
  is.0,
  same_stands relayed_seen relayed_leaves (book_in register.owners) was.current now same is.1,
  before_stands was.current.tape.device now.tape.device was.before (ap (λ (t : Tape Relayed). relayed_seen t.device) same.tape) is.2,
)

-- nor is more memory for a sync
pub like_journaled : (register : OwnersState) (was : FileJournal) (now : Journal Relayed) → IsLike was.current now
    → ((book : Book) → StandsFor relayed_seen relayed_leaves book was.current → StandsFor relayed_seen relayed_leaves book now)
    → IsJournaled register (Some was) → IsJournaled register (Some (with_current was now))
like_journaled register was now same stands is = (
  is.0,
  stands (book_in register.owners) is.1,
  before_stands was.current.tape.device now.tape.device was.before (ap seen_after same.same.calls) is.2,
)

-- a change behind the making of room
pub kept_answer : (asked : Result Event Refusal) (before after : OwnersState) (was : FileJournal) (mid : Journal Relayed) (now : FileJournal) (code : ℕ) → IsSame was.current mid → was.current.fault ≡ None
    → IsAnswer asked code_told AWAY before code after → IsAdded (line_written asked code) (with_current was mid) now → IsKeptAnswer asked before was code after now
kept_answer asked before after was mid now code same works answer added =
    inr (
      works,
      answer,
      record {
        tape = added.tape ∙ same.tape;
        group = added.group ∙ ap (λ (items : List ℕ). items ++ line_written asked code) same.group;
        fault = added.fault ∙ same.fault;
        old = added.old;
      },
    )

-- a call on an open handle
pub called : {X : Type 0} (closed : X) (Does : Open → X → Open → Type 0) (was now : Kept) (x y : Open) (answer : X) → was.register ≡ Some x.0 → was.journal ≡ x.1 → now.register ≡ Some y.0 → now.journal ≡ y.1
    → Does x answer y → IsCall closed Does (opened_in was) answer (opened_in now)
called closed Does was now x y answer r j s k does = rw (r, s) (rw (j, k) does)

-- where there is room for a line, no sync has failed
pub room_works : (was : Option JournalFault) (made : Result (Unit {0}) JournalFault) (done : Unit {0}) → IfSome was (λ why. made ≡ Err why) → made ≡ Ok done → was ≡ None
room_works None made done stays is = refl
room_works (Some why) made done stays is = absurd (let clash : Ok done ≡ Err why = sym is ∙ stays in cc)

-- what is lent out of a box is what lies there
pub lent_journaled : (lent value : Opened) → lent ≡ value → IsJournaled value.lender value.journal → IsJournaled lent.lender lent.journal
lent_journaled lent value same is = subst (λ (o : Opened). IsJournaled o.lender o.journal) (sym same) is

-- no fault has the code 0
fault_some : (why : JournalFault) → fault_code why ≢ DONE
fault_some fault.Memory is = absurd cc
fault_some fault.Failed is = absurd cc
fault_some fault.Full is = absurd cc
fault_some fault.Locked is = absurd cc
fault_some fault.NoJournal is = absurd cc
fault_some fault.BadLine is = absurd cc

-- what is so of a fault that an option has
of_fault : (P : JournalFault → Type 0) (was : Option JournalFault) (why : JournalFault) → IfSome was P → was ≡ Some why → P why
of_fault P was why holds is = subst (λ (o : Option JournalFault). IfSome o P) is holds

-- what a crash leaves during a sync
abbrev pub LeavesSome : FileJournal → FileJournal → Type 0
LeavesSome was now =
    LeavesOnly relayed_moment relayed_left_since was.current.tape.device now.current.tape.device (λ file. HasFence file × StandsAfterFirst relayed_seen was.current file)

module _ (register : OwnersState) (was now : FileJournal) (made : Result (Unit {0}) JournalFault) (moment : was.current.fault ≡ None → LeavesSome was now)
    (stays : IfSome was.current.fault (λ why. (made ≡ Err why) × (now.current ≡ was.current)))
    (owner : relayed_owner now.current.tape.device ≡ relayed_owner was.current.tape.device) (old : now.before ≡ None) where
  -- a sync that was done
  pub synced_done : (done : Unit {0}) → made ≡ Ok done → IsSettled now.current → StandsFor relayed_seen relayed_leaves (book_in register.owners) now.current → IsSynced register was DONE now
  synced_done done is settled stands = record {
    done = λ told. settled_safe register now settled stands;
    failed = λ other. absurd (other refl);
    stays = λ why was_broken. absurd (let clash : Ok done ≡ Err why = sym is ∙ (of_fault (λ why. (made ≡ Err why) × (now.current ≡ was.current)) was.current.fault why stays was_broken).0 in cc);
    any_moment = moment;
    owner = owner;
    old = old;
  }

  -- one that has failed
  pub synced_failed : (why : JournalFault) (code : ℕ) → made ≡ Err why → code ≡ fault_code why → now.current.fault ≡ Some why → (was.current.fault ≡ None → IsNotSynced was why)
      → IsSynced register was code now
  synced_failed why code is coded broken reason = record {
    done = λ told. absurd (fault_some why (sym coded ∙ told));
    failed = λ other. (why, coded, broken, reason);
    stays = λ other was_broken.
        let both = of_fault (λ why. (made ≡ Err why) × (now.current ≡ was.current)) was.current.fault other stays was_broken in
        let same : why ≡ other = (let one : Err why ≡ Err other = sym is ∙ both.0 in cc) in
        (coded ∙ ap fault_code same, both.1);
    any_moment = moment;
    owner = owner;
    old = old;
  }

-- what is so of each error
pub if_err : {T E : Type 0} (result : Result T E) (Q : E → Type 0) → ((why : E) → result ≡ Err why → Q why) → IfErr result Q
if_err (Ok done) Q each = tt
if_err (Err why) Q each = each why refl

-- a sync through the owner of a file gives up for want of memory, or of room, and never because the disk fails
pub not_synced : (was now : FileJournal) (made : Result (Unit {0}) JournalFault)
    → (IsErrOf made fault.Failed → faults_in was.current.tape.device.log.calls < faults_in now.current.tape.device.log.calls)
    → (IsErrOf made fault.Full → 2 ^ 61 ≤ was.current.tape.len + length was.current.group.items)
    → (IsErrOf made fault.NoJournal → ⊥) × (IsErrOf made fault.BadLine → ⊥) × (IsErrOf made fault.Locked → ⊥)
    → (why : JournalFault) → made ≡ Err why → IsNotSynced was why
not_synced was now made failed full others fault.Memory is = inl refl
not_synced was now made failed full others fault.Failed is =
    absurd (omega (arith, failed is, was.current.tape.device.no_fault, now.current.tape.device.no_fault))
not_synced was now made failed full others fault.Full is = inr (refl, full is)
not_synced was now made failed full others fault.Locked is = absurd (others.2 is)
not_synced was now made failed full others fault.NoJournal is = absurd (others.0 is)
not_synced was now made failed full others fault.BadLine is = absurd (others.1 is)

-- a snapshot of a register, with the journal of before
pub snapshot_journaled : (register : OwnersState) (before : Option FileJournal) (current : Journal Relayed) → AllHome register.owners → IsJournaled register before → IsSettled current
    → StandsFor relayed_seen relayed_leaves (book_in register.owners) current → IsJournaled register (Some (record { current = current; before = current_of before }))
snapshot_journaled register None current home is settled stands = (home, stands, tt)
snapshot_journaled register (Some old) current home is settled stands =
    let rows = settled_rows relayed_seen relayed_leaves (book_in register.owners) current settled stands in (
      home,
      stands,
      λ book one. subst (λ (b : Book). StandsFor relayed_seen relayed_leaves b old.current) (let same : Some (book_in register.owners) ≡ Some book = sym rows ∙ one in cc) is.1,
    )

-- and it is a snapshot of the register
pub snapshot_of : (fd : ℤ) (register : OwnersState) (before : Option FileJournal) (current : Journal Relayed) (journal : FileJournal)
    → journal ≡ record { current = current; before = current_of before } → relayed_owner current.tape.device ≡ owner_of_held fd (replicate 65536 0) → IsSettled current
    → StandsFor relayed_seen relayed_leaves (book_in register.owners) current → IsSnapshotOf fd register before journal
snapshot_of fd register before current journal same owner settled stands =
    let whole : FileJournal = record { current = current; before = current_of before } in
    rw same (record { owner = owner; safe = settled_safe register whole settled stands; old = refl })

-- a register whose journal is again that of before, or has failed
pub fallen_journaled : (register : OwnersState) (journal : FileJournal) → journal.current.fault ≡ None → IsJournaled register (Some journal) → IsJournaled register (Some (fallen_back journal))
fallen_journaled register journal works is = by journal.before journal.current.group.items refl is.2
  where
    by : (before : Option (Journal Relayed)) (items : List ℕ) → journal.current.group.items ≡ items → IfSome before (StandsAs journal.current.tape.device)
        → IsJournaled register (Some (by_before journal before items))
    by (Some old) [] none stands =
        (is.0, stands (book_in register.owners) (settled_rows relayed_seen relayed_leaves (book_in register.owners) journal.current (works, none) is.1), tt)
    by (Some old) (byte ∷ items) none stands = (is.0, (λ fault. absurd cc), tt)
    by None [] none stands = (is.0, (λ fault. absurd cc), tt)
    by None (byte ∷ items) none stands = (is.0, (λ fault. absurd cc), tt)

-- a journal of which nothing is left to be done is on the disk
pub done_with : (register : OwnersState) (was : Option FileJournal) (journal : FileJournal) → was ≡ Some journal → IsJournaled register was → IsAllMade journal
    → IfSome was (λ one. IsSafe register one × IsAllMade one)
done_with register was journal there keeps made =
    rw there (settled_safe register journal made.0 ((subst (λ (o : Option FileJournal). IsJournaled register o) there keeps).1), made)

-- a journal whose calls are made keeps the register
pub handed_journaled : (register : OwnersState) (was now : FileJournal) → ((book : Book) → StandsFor relayed_seen relayed_leaves book was.current → StandsFor relayed_seen relayed_leaves book now.current)
    → now.before ≡ None → IsJournaled register (Some was) → IsJournaled register (Some now)
handed_journaled register was now stands none is =
    (is.0, stands (book_in register.owners) is.1, subst (λ (o : Option (Journal Relayed)). IfSome o (StandsAs now.current.tape.device)) (sym none) tt)

-- a sync has failed before
pub made_stays : (is_done : ℕ) (was : FileJournal) (code : ℕ) (why : JournalFault) → was.current.fault ≡ Some why → code ≡ fault_code why → IsMade is_done was was.current.fault code was
made_stays is_done was code why broken coded = subst (λ (o : Option JournalFault). IsMade is_done was o code was) (sym broken) (coded, refl)

-- a call has failed now
pub made_failed : (is_done : ℕ) (was now : FileJournal) → is_done ≡ 0 → was.current.fault ≡ None → now ≡ fallen_back was → IsMade is_done was was.current.fault FAILED now
made_failed is_done was now none works fallen =
    subst (λ (o : Option JournalFault). IsMade is_done was o FAILED now) (sym works) (subst (λ (n : ℕ). IsMade n was None FAILED now) (sym none) (refl, fallen))

-- C says that the calls are made
pub made_done : (is_done : ℕ) (was now : FileJournal) → (is_done ≡ 0 → ⊥) → was.current.fault ≡ None → IsHanded was.current now.current → now.before ≡ None → IsMade is_done was was.current.fault DONE now
made_done zero was now some works handed none = absurd (some refl)
made_done (suc n) was now some works handed none = subst (λ (o : Option JournalFault). IsMade (suc n) was o DONE now) (sym works) (refl, handed, none)

-- a register whose journal is done with is left without it
pub ended : (register : OwnersState) (was : Option FileJournal) (journal : FileJournal) → was ≡ Some journal → IsJournaled register was → IsAllMade journal
    → IsEnding (register, was) DONE (register, None)
ended register was journal there keeps made =
    rw there (refl, refl, settled_safe register journal made.0 ((subst (λ (o : Option FileJournal). IsJournaled register o) there keeps).1), made)

-- a register that comes back with its journal, in a box
pub come_back : (fd : ℤ) (bytes : List ℕ) (before after lender : OwnersState) (journal : Journal Relayed) (opened : Opened)
    → opened ≡ record { lender = lender; journal = Some (record { current = journal; before = None }) } → lender ≡ after
    → (book_of bytes ≡ Some (book_in after.owners)) × (first : Relayed) × (first.log.calls ≡ (Held, bytes) ∷ [])
    × LeavesOnly relayed_moment relayed_left_since first journal.tape.device (λ left. HasFence left × (book_of left ≡ book_of bytes))
    → relayed_owner journal.tape.device ≡ owner_of_held fd bytes → store_in after ≡ record (store_in before) { book = book_in after.owners } → AllHome after.owners
    → IsSettled journal → StandsFor relayed_seen relayed_leaves (book_in after.owners) journal
    → (one : FileJournal) × (opened.journal ≡ Some one) × IsComeBack fd bytes (store_in before) opened.lender one
come_back fd bytes before after lender journal opened is same read owner stays home settled stands =
    let whole : FileJournal = record { current = journal; before = None } in
    rw (is, same) (
      whole,
      refl,
      record {
        owner = owner;
        old = refl;
        rows = read.0;
        first = read.1;
        read = read.2;
        since = read.3;
        store = stays;
        home = home;
        safe = settled_safe after whole settled stands;
      },
    )

-- and its journal keeps it
pub new_journaled : (register : OwnersState) (journal : Journal Relayed) → AllHome register.owners → StandsFor relayed_seen relayed_leaves (book_in register.owners) journal
    → IsJournaled register (Some (record { current = journal; before = None }))
new_journaled register journal home stands = (home, stands, tt)
