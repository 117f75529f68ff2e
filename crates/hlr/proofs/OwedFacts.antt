-- How the text of a run with threads grows: events are owed, and their answers are written at a settle.
use Rattle.hlr.proofs.Common.{◌≡◌, refl, sym, ap, ◌∙◌, subst, ℕ, ◌+◌, ◌≤◌, ◌<◌, List, [], ◌∷◌, ◌++◌, length, Option, Some, Bool, true, false, append_assoc, length-append, inl, inr, arith, ◌⊎◌, map, IfSome, Result, Ok, Err, MatchResult, append-nil, ArrayVec, Refusal, IsRecut, OwnersState, store_in, Store, IsRun, Event, Reply, answers_with, events_in, Asked, Cut, Engaged, IsSettled, Stands, Took, TookNext, recut_unseen, seen_as, stands_unseen, step_unseen, Command, Answers, AreAnswered, AreBrokenOff, AskFor, HasAnswered, HasCome, HasComeToEnd, HasTaken, IsAtRest, IsOwed, IsUnderway, kind_of, replies_text, with_sight, word_of_report, WritesOwed, reply_line, bounds_of, command_named, field, word_named, Adds, Outgoing, AreRead, AsksEvent, GaveEvent, ReadsOne, Seen, StopsBehind, Unread, CommandText, RecordText, RecutText, Fault, Report, Word, Stalled}
use Rattle.csv.specs.declared.parser.State.TheVariants as st
use Rattle.hlr_workers.specs.Standing.{orders_of}
use Rattle.hlr.specs.Command.{Command as command}
use Rattle.hlr.specs.Records.{command_of}
use Rattle.hlr.specs.Text.{RecordsText}
use Rattle.hlr.specs.declared.fault.Fault.TheVariants as fault
use Rattle.hlr.specs.declared.records.Kind.TheVariants as kind
use Rattle.hlr.specs.declared.records.Report.TheVariants as report
use Rattle.hlr.specs.declared.records.Word.TheVariants as word
use Rattle.hlr.proofs.RunFacts.{answered_kept, broken_kept, come_to, if_known, if_some, read_all, read_is_no_write, read_more, read_none, records_more, stopped_at_last, stopped_by_read}
use Rattle.hlr.proofs.SinkFacts.{adds_both, adds_front_after, adds_none}

-- the events that records ask for, one more
ask_more : (rows : List (List (List ℕ))) (events : List Event) (fields : List (List ℕ)) (event : Event) → AskFor rows events
    → command_of fields ≡ Ok (command.Ask event) → AskFor (rows ++ fields ∷ []) (events ++ event ∷ [])
ask_more [] [] fields event asked is = (is, tt)
ask_more [] (e ∷ events) fields event asked is = absurd asked
ask_more (row ∷ rows) [] fields event asked is = absurd asked
ask_more (row ∷ rows) (e ∷ events) fields event asked is = (asked.0, ask_more rows events fields event asked.1 is)

-- events that were taken, one more
took_more : (events : List Event) (event : Event) → map Took (events ++ event ∷ []) ≡ map Took events ++ Took event ∷ []
took_more [] event = refl
took_more (e ∷ events) event = ap (λ (asked : List Asked). Took e ∷ asked) (took_more events event)

-- as many events as were taken
events_taken : (events : List Event) → events_in (map Took events) ≡ length events
events_taken [] = refl
events_taken (e ∷ events) = let rest = events_taken events in omega arith

-- an engine takes the event that one more record asks for
owed_more : (rows : List (List (List ℕ))) (before : Store) (a b : Engaged) (fields : List (List ℕ)) (event : Event) → IsOwed rows before a
    → command_of fields ≡ Ok (command.Ask event) → TookNext (Took event) a b → IsOwed (rows ++ fields ∷ []) before b
owed_more rows before a b fields event owes is took = record {
  events = owes.events ++ event ∷ [];
  asked = ask_more rows owes.events fields event owes.asked is;
  stands = rw (took_more owes.events event) (took before (map Took owes.events) owes.stands);
}

-- an engine is at rest that was opened over a register
pub opened_at_rest : (e : Engaged) (h : OwnersState) → e.register ≡ h → e.replies ≡ [] → Stands e (store_in h) [] → IsAtRest e
opened_at_rest e h is none stands = record { none = none; stands = subst (λ (h : OwnersState). Stands e (store_in h) []) (sym is) stands }

-- an engine at rest owes nothing, whatever was seen of the words
owed_none : (sight : List ℕ) (e : Engaged) → IsAtRest e → IsOwed [] (with_sight sight e.register) e
owed_none sight e rest = record { events = []; asked = tt; stands = stands_unseen sight e (store_in e.register) [] rest.stands }

-- the lines of the replies to events answer the records that ask for them
events_text : (rows : List (List (List ℕ))) (events : List Event) (replies : List (ℕ × Reply)) (before after : Store) → AskFor rows events → length replies ≡ length events
    → IsRun (orders_of (map Took events)) before (answers_with replies (map Took events)) after → RecordsText rows before (replies_text replies) after
unfolding RecordsText
events_text [] [] [] before after asked many run = (refl, run)
events_text [] [] (one ∷ replies) before after asked many run = absurd (omega arith)
events_text [] (event ∷ events) replies before after asked many run = absurd asked
events_text (row ∷ rows) [] replies before after asked many run = absurd asked
events_text (row ∷ rows) (event ∷ events) [] before after asked many run = absurd run
events_text (row ∷ rows) (event ∷ events) (one ∷ replies) before after asked many run =
    let right : RecordText row before (reply_line one.1) run.0 = rw asked.0 (record { reply = one.1; right = run.1; line = refl }) in
    (reply_line one.1, run.0, replies_text replies, right, events_text rows events replies run.0 after asked.1 (omega arith) run.2, refl)

-- what was owed is answered by the lines of the replies of a settle
owed_text : (rows : List (List (List ℕ))) (before : Store) (e : Engaged) (replies : List (ℕ × Reply)) (register : OwnersState) → IsOwed rows before e → IsSettled e replies register
    → length replies ≡ length e.replies → RecordsText rows before (replies_text replies) (with_sight before.sight register)
owed_text rows before e replies register owes settled each =
    let count = owes.stands.0 in
    let taken = events_taken owes.events in
    events_text rows owes.events replies before (with_sight before.sight register) owes.asked (omega arith) (settled before (map Took owes.events) owes.stands)

-- records answered one after another, and then more
records_after : (rows more : List (List (List ℕ))) (s m t : Store) (text behind : List ℕ) → RecordsText rows s text m → RecordsText more m behind t
    → RecordsText (rows ++ more) s (text ++ behind) t
unfolding RecordsText
records_after [] more s m t text behind h k = rw h.0 (subst (λ (from : Store). RecordsText more from behind t) h.1 k)
records_after (row ∷ rows) more s m t text behind h k =
    (h.0, h.1, h.2 ++ behind, h.3, records_after rows more h.1 m t h.2 behind h.4 k, ap (λ w. w ++ behind) h.5 ∙ append_assoc h.0 h.2 behind)

-- what is owed is written
module _ (rows : List (List (List ℕ))) (start : Store) (e : Engaged) (replies : List (ℕ × Reply)) (register : OwnersState) (settled : IsSettled e replies register)
    (each : length replies ≡ length e.replies) (old mid new : Outgoing) (under : IsUnderway rows start e old mid) where
  whole_text : RecordsText rows start (under.text ++ replies_text replies) (with_sight under.now.sight register)
  whole_text =
      rw under.all (records_after under.answered under.owed start under.now (with_sight under.now.sight register) under.text (replies_text replies) under.answers
      (owed_text under.owed under.now e replies register under.owes settled each))

  pub settled_text : (stalled : Bool) (r : Result (Unit {0}) Stalled) → Adds (replies_text replies) mid new stalled r
      → MatchResult r (λ done. AreAnswered rows start register old new) (λ why. AreBrokenOff rows start old new stalled)
  settled_text stalled (Ok done) put = record {
    text = under.text ++ replies_text replies;
    sight = under.now.sight;
    answers = whole_text;
    grew = adds_both under.text (replies_text replies) old mid new under.grew put;
  }
  settled_text stalled (Err why) put = record {
    text = under.text ++ replies_text replies;
    end = with_sight under.now.sight register;
    answers = whole_text;
    front = adds_front_after under.text (replies_text replies) old mid new under.grew put.0;
    told = put.1;
  }

-- records that are answered by an engine which is at rest
pub underway_at_rest : (rows : List (List (List ℕ))) (start : Store) (e : Engaged) (old new : Outgoing) → IsAtRest e → AreAnswered rows start e.register old new → IsUnderway rows start e old new
underway_at_rest rows start e old new rest done = record {
  answered = rows;
  owed = [];
  all = sym (append-nil rows);
  text = done.text;
  now = with_sight done.sight e.register;
  answers = done.answers;
  grew = done.grew;
  owes = owed_none done.sight e rest;
}

-- no record is answered yet
pub underway_none : (e : Engaged) (old : Outgoing) → IsAtRest e → IsUnderway [] (store_in e.register) e old old
unfolding RecordsText
underway_none e old rest =
    underway_at_rest [] (store_in e.register) e old old rest (record { text = []; sight = e.register.spare.view.seen; answers = (refl, refl); grew = adds_none old })

-- one more record is owed
pub underway_more : (rows : List (List (List ℕ))) (start : Store) (a b : Engaged) (old new : Outgoing) (fields : List (List ℕ)) (event : Event) → IsUnderway rows start a old new
    → command_of fields ≡ Ok (command.Ask event) → TookNext (Took event) a b → IsUnderway (rows ++ fields ∷ []) start b old new
underway_more rows start a b old new fields event under is took = record {
  answered = under.answered;
  owed = under.owed ++ fields ∷ [];
  all = ap (λ (all : List (List (List ℕ))). all ++ fields ∷ []) under.all ∙ append_assoc under.answered under.owed (fields ∷ []);
  text = under.text;
  now = under.now;
  answers = under.answers;
  grew = under.grew;
  owes = owed_more under.owed under.now a b fields event under.owes is took;
}

-- no text tells what was seen of the words
recut_text_unseen : (w : List ℕ) (bounds : Result (ArrayVec ℕ) Refusal) (before : Store) (text : List ℕ) (after : Store) → RecutText bounds before text after
    → RecutText bounds (seen_as w before) text (seen_as w after)
recut_text_unseen w (Ok bounds) before text after told =
    record { answer = told.answer; right = recut_unseen w bounds.items before told.answer after told.right; line = told.line }
recut_text_unseen w (Err why) before text after told = (told.0, ap (seen_as w) told.1)

text_unseen : (w : List ℕ) (fields : List (List ℕ)) (asked : Result Command Refusal) (before : Store) (text : List ℕ) (after : Store) → CommandText fields asked before text after
    → CommandText fields asked (seen_as w before) text (seen_as w after)
text_unseen w fields (Ok (command.Ask event)) before text after told =
    record { reply = told.reply; right = step_unseen w event before told.reply after told.right; line = told.line }
text_unseen w fields (Ok command.Views) before text after told = (told.0, ap (seen_as w) told.1)
text_unseen w fields (Ok command.Scan) before text after told = (told.0, ap (seen_as w) told.1)
text_unseen w fields (Ok command.Index) before text after told = (told.0, ap (seen_as w) told.1)
text_unseen w fields (Ok command.Regions) before text after told = (told.0, ap (seen_as w) told.1)
text_unseen w fields (Ok command.Propose) before text after told = (told.0, ap (seen_as w) told.1)
text_unseen w fields (Ok command.Recut) before text after told = recut_text_unseen w (bounds_of fields) before text after told
text_unseen w fields (Err why) before text after told = (told.0, ap (seen_as w) told.1)

-- the text of records that are answered, and of one more behind them
module _ (rows : List (List (List ℕ))) (fields : List (List ℕ)) (start : Store) (before : OwnersState) (e : Engaged) (old mid new : Outgoing) (stalled : Bool)
    (r : Result (Unit {0}) Stalled) (all : AreAnswered rows start before old mid) (one : Answers fields (store_in before) (store_in e.register) mid new stalled r) where
  next_text : RecordsText (rows ++ fields ∷ []) start (all.text ++ one.text) (with_sight all.sight e.register)
  next_text =
      records_more rows fields start (with_sight all.sight before) (with_sight all.sight e.register) all.text one.text all.answers
      (text_unseen all.sight fields (command_of fields) (store_in before) one.text (store_in e.register) one.answer)

-- so that one is answered too
pub answered_next : (rows : List (List (List ℕ))) (fields : List (List ℕ)) (start : Store) (before : OwnersState) (e : Engaged) (old mid new : Outgoing) (stalled : Bool)
    (r : Result (Unit {0}) Stalled) → AreAnswered rows start before old mid → Answers fields (store_in before) (store_in e.register) mid new stalled r → IsAtRest e
    → HasAnswered rows fields start e old new stalled r
answered_next rows fields start before e old mid new stalled (Ok done) all one rest = underway_at_rest (rows ++ fields ∷ []) start e old new rest (record {
  text = all.text ++ one.text;
  sight = all.sight;
  answers = next_text rows fields start before e old mid new stalled (Ok done) all one;
  grew = adds_both all.text one.text old mid new all.grew one.put;
})
answered_next rows fields start before e old mid new stalled (Err why) all one rest = inr (record {
  text = all.text ++ one.text;
  end = with_sight all.sight e.register;
  answers = next_text rows fields start before e old mid new stalled (Err why) all one;
  front = adds_front_after all.text one.text old mid new all.grew one.put.0;
  told = one.put.1;
})

-- a re-cut by an engine at rest
pub recut_settled : (bounds : List ℕ) (done : Result ℕ Refusal) (a b : Engaged) → IsAtRest a → TookNext (Cut bounds done) a b → IsSettled b [] b.register
    → b.register.spare ≡ a.register.spare → IsRecut bounds (store_in a.register) done (store_in b.register)
recut_settled bounds done a b rest took settled first =
    let run = settled (store_in a.register) (Cut bounds done ∷ []) (took (store_in a.register) [] rest.stands) in
    let sight : a.register.spare.view.seen ≡ b.register.spare.view.seen = sym (rw first refl) in
    let after : run.0 ≡ store_in b.register = sym run.2 ∙ ap (λ (sight : List ℕ). record (store_in b.register) { sight = sight }) sight in
    subst (λ (s : Store). IsRecut bounds (store_in a.register) done s) after run.1

-- no replies stay none
pub nothing_more : (before after : List (ℕ × Reply)) → before ≡ [] → length after ≡ length before → after ≡ []
nothing_more before [] none same = refl
nothing_more [] (r ∷ after) none same = absurd (omega (arith, same))
nothing_more (b ∷ before) (r ∷ after) none same = absurd cc

-- what is owed was written, and then the line was handed on
pub owed_handed : (before : Engaged) (after : OwnersState) (taken mid new : Outgoing) (stalled : Bool) (r : Result (Unit {0}) Stalled) → WritesOwed before after taken mid stalled (Ok tt) → Adds [] mid new stalled r
    → WritesOwed before after taken new stalled r
owed_handed before after taken mid new stalled (Ok done) write handed = λ rows start old under. answered_kept rows start after old mid new (write rows start old under) handed
owed_handed before after taken mid new stalled (Err why) write handed = λ rows start old under. broken_kept rows start after old mid new stalled (write rows start old under) handed.0 handed.1

-- so many records were read, of the bytes if they are known, and are answered or owed
pub record SoFarOwed (start : Store) (known : Option (List ℕ)) (unread : Unread) (e : Engaged) (old new : Outgoing) (count : ℕ) : Type 0 where
  pub rows : List (List (List ℕ))
  pub many : length rows ≡ count
  pub underway : IsUnderway rows start e old new
  pub read : IfSome known (λ bytes. AreRead bytes unread rows)

-- nothing is read yet
pub owed_started : (e : Engaged) (unread : Unread) (old : Outgoing) → IsAtRest e → unread.state ≡ st.StartRecord → SoFarOwed (store_in e.register) unread.bytes unread e old old 0
owed_started e unread old rest at_start = record {
  rows = [];
  many = refl;
  underway = underway_none e old rest;
  read = if_known _ _ (λ bytes is. read_none bytes unread is at_start);
}

module _ (a b : Unread) (fields : List (List ℕ)) (found : Bool) (taken : ReadsOne a b found fields) (start : Store) (known : Option (List ℕ)) (e : Engaged)
    (old mid new : Outgoing) (count : ℕ) (so : SoFarOwed start known a e old mid count) where
  -- one record more is answered or owed
  pub owed_goes_on : (next : Engaged) → found ≡ true → IsUnderway (so.rows ++ fields ∷ []) start next old new → SoFarOwed start known b next old new (count + 1)
  owed_goes_on next there under =
      let many = so.many in
      record {
        rows = so.rows ++ fields ∷ [];
        many = rw length-append (omega arith);
        underway = under;
        read = if_some known _ _ (λ bytes read. read_more bytes a b so.rows fields read found there taken) so.read;
      }

  -- the bytes end
  pub owed_ends : found ≡ false → count ≤ 1048576 → IfSome known (λ bytes. HasComeToEnd bytes (λ rows. IsUnderway rows start e old mid))
  owed_ends none within =
      let many = so.many in
      if_some known _ _ (λ bytes read.
      record { rows = so.rows; few = omega arith; are_records = read_all bytes a b so.rows fields read found none taken; holds = so.underway }) so.read

  -- a run stops in front of the record, for one or the other reason
  stops_at : (stops : List ℕ → List (List (List ℕ)) → Fault → Type 0) (broken : List (List (List ℕ)) → Type 0) (next : Engaged) (why : Fault) → count ≤ 1048576 → (why ≡ fault.Write → ⊥)
      → IsUnderway so.rows start next old new → ((bytes : List ℕ) → AreRead bytes a so.rows → stops bytes so.rows why)
      → IfSome known (λ bytes. HasCome (stops bytes) bytes (λ rows. IsUnderway rows start next old new) broken (Err why))
  stops_at stops broken next why within unless under stopped =
      let many = so.many in
      if_some known _ _ (λ bytes read.
      come_to (stops bytes) bytes (λ rows. IsUnderway rows start next old new) broken why unless
      (record { rows = so.rows; few = omega arith; state = a.state; left = read.left; are_first = read.reached; holds = (under, stopped bytes read) })) so.read

module _ {T : Type 0} (source : Seen T) (now : T) (a : Unread) (fields : List (List ℕ)) (found : Bool)
    (taken : ReadsOne a (source.unread now) found fields) (start : Store) (known : Option (List ℕ)) (e : Engaged) (old mid new : Outgoing) (count : ℕ)
    (so : SoFarOwed start known a e old mid count) where
  -- one record more was read
  one_more : (bytes : List ℕ) → AreRead bytes a so.rows → found ≡ true → AreRead bytes (source.unread now) (so.rows ++ fields ∷ [])
  one_more bytes read there = read_more bytes a (source.unread now) so.rows fields read found there taken

  -- a run stops in front of that record
  stops_there : (broken : List (List (List ℕ)) → Type 0) (next : Engaged) (why : Fault) (later : Outgoing) → count ≤ 1048576 → (why ≡ fault.Write → ⊥)
      → IsUnderway so.rows start next old later → ((bytes : List ℕ) → AreRead bytes a so.rows → StopsBehind source true bytes now so.rows why)
      → IfSome known (λ bytes. HasCome (StopsBehind source true bytes now) bytes (λ rows. IsUnderway rows start next old later) broken (Err why))
  stops_there broken next why later =
      stops_at a (source.unread now) fields found taken start known e old mid later count so (λ bytes. StopsBehind source true bytes now) broken next why

  -- the record ended the run
  pub owed_fails : (next : Engaged) (stalled : Bool) (why : Fault) → found ≡ true → count < 1048576 → HasTaken so.rows fields start next old new stalled (Err why)
      → IfSome known (λ bytes. HasCome (StopsBehind source true bytes now) bytes (λ rows. IsUnderway rows start next old new) (λ rows. AreBrokenOff rows start old new stalled) (Err why))
  owed_fails next stalled fault.Memory there below outgoing =
      stops_there (λ rows. AreBrokenOff rows start old new stalled) next fault.Memory new (omega arith) (λ is. cc) outgoing.0
      (λ bytes read. inr (refl, (fields, outgoing.1, one_more bytes read there)))
  owed_fails next stalled fault.Thread there below outgoing =
      stops_there (λ rows. AreBrokenOff rows start old new stalled) next fault.Thread new (omega arith) (λ is. cc) outgoing.0
      (λ bytes read. (refl, (fields, outgoing.1, one_more bytes read there)))
  owed_fails next stalled fault.Field there below outgoing = absurd outgoing
  owed_fails next stalled fault.Read there below outgoing = absurd outgoing
  owed_fails next stalled fault.Write there below was =
      let many = so.many in
      if_some known _ _ (λ bytes read.
      elim was [
        | inl before ↦ record { rows = so.rows; few = omega arith; state = a.state; left = read.left; are_first = read.reached; holds = before }
        | inr itself ↦
            let more = one_more bytes read there in
            record { rows = so.rows ++ fields ∷ []; few = rw length-append (omega arith); state = (source.unread now).state; left = more.left; are_first = more.reached; holds = itself }
      ]) so.read

  -- the record is one too many
  pub owed_stops_at_last : (broken : List (List (List ℕ)) → Type 0) → found ≡ true → count ≡ 1048576
      → IfSome known (λ bytes. HasCome (StopsBehind source true bytes now) bytes (λ rows. IsUnderway rows start e old mid) broken (Err fault.Read))
  owed_stops_at_last broken there last =
      let many = so.many in
      stops_there broken e fault.Read mid (omega arith) (λ is. cc) so.underway
      (λ bytes read. stopped_at_last source true bytes so.rows now fields (omega arith) (one_more bytes read there))

-- the read of a record failed
pub owed_stops : {T : Type 0} (source : Seen T) (at now : T) (start : Store) (known : Option (List ℕ)) (e : Engaged) (old new : Outgoing) (count : ℕ)
    (broken : List (List (List ℕ)) → Type 0) (why : Fault) → (so : SoFarOwed start known (source.unread at) e old new count) → count ≤ 1048576
    → source.begun now ≡ source.unread at → source.fails at now why → (why ≡ fault.Memory) ⊎ (why ≡ fault.Read)
    → IfSome known (λ bytes. HasCome (StopsBehind source true bytes now) bytes (λ rows. IsUnderway rows start e old new) broken (Err why))
owed_stops source at now start known e old new count broken why so within last failed either =
    let many = so.many in
    if_some known _ _ (λ bytes read.
    come_to (StopsBehind source true bytes now) bytes (λ rows. IsUnderway rows start e old new) broken why (read_is_no_write why either) (record {
      rows = so.rows;
      few = omega arith;
      state = (source.unread at).state;
      left = read.left;
      are_first = read.reached;
      holds = (so.underway, stopped_by_read source true bytes so.rows now at why read last failed either);
    })) so.read

-- a record that ended a run was no option out of range, and where the sink failed it told so
pub taken_no_field : (rows : List (List (List ℕ))) (fields : List (List ℕ)) (start : Store) (e : Engaged) (old new : Outgoing) (stalled : Bool) (r : Result (Unit {0}) Fault)
    → HasTaken rows fields start e old new stalled r → r ≡ Err fault.Field → ⊥
taken_no_field rows fields start e old new stalled r outgoing is = subst (λ (r : Result (Unit {0}) Fault). HasTaken rows fields start e old new stalled r) is outgoing

pub taken_told : (rows : List (List (List ℕ))) (fields : List (List ℕ)) (start : Store) (e : Engaged) (old new : Outgoing) (stalled : Bool) (r : Result (Unit {0}) Fault)
    → HasTaken rows fields start e old new stalled r → r ≡ Err fault.Write → stalled ≡ true
taken_told rows fields start e old new stalled r outgoing is = elim (subst (λ (r : Result (Unit {0}) Fault). HasTaken rows fields start e old new stalled r) is outgoing) [
  | inl before ↦ before.told
  | inr itself ↦ itself.told
]

-- a record that is answered, or in which the sink failed, as a run takes it
pub answered_taken : (rows : List (List (List ℕ))) (fields : List (List ℕ)) (start : Store) (e : Engaged) (old new : Outgoing) (stalled : Bool) (done : Result (Unit {0}) Stalled) (r : Result (Unit {0}) Fault)
    → HasAnswered rows fields start e old new stalled done → MatchResult done (λ unit. r ≡ Ok unit) (λ why. r ≡ Err fault.Write) → HasTaken rows fields start e old new stalled r
answered_taken rows fields start e old new stalled (Ok done) r outgoing is = rw is outgoing
answered_taken rows fields start e old new stalled (Err why) r outgoing is = rw is outgoing

-- a record was taken, and then what is owed was handed on
pub handed_taken : (rows : List (List (List ℕ))) (fields : List (List ℕ)) (start : Store) (e : Engaged) (old new : Outgoing) (stalled : Bool) (done : Result (Unit {0}) Stalled) (r : Result (Unit {0}) Fault)
    → MatchResult done (λ unit. AreAnswered (rows ++ fields ∷ []) start e.register old new) (λ why. AreBrokenOff (rows ++ fields ∷ []) start old new stalled) → IsAtRest e
    → MatchResult done (λ unit. r ≡ Ok unit) (λ why. r ≡ Err fault.Write) → HasTaken rows fields start e old new stalled r
handed_taken rows fields start e old new stalled (Ok done) r outgoing rest is = rw is (underway_at_rest (rows ++ fields ∷ []) start e old new rest outgoing)
handed_taken rows fields start e old new stalled (Err why) r outgoing rest is = rw is (inr outgoing)

-- the command of a record whose word is known
pub command_is : (fields : List (List ℕ)) (named : Word) (asked : Result Command Refusal) → Some named ≡ word_named (field fields 0) → command_named (Some named) fields ≡ asked → command_of fields ≡ asked
unfolding command_of
command_is fields named asked is asks = rw (← is) asks

-- the word of a report
pub report_word : (named : Word) (asked : Report) → kind_of named ≡ kind.Report asked → word_of_report asked ≡ named
report_word word.Gsd asked is = absurd cc
report_word word.Gnd asked is = absurd cc
report_word word.Gad asked is = absurd cc
report_word word.Usd asked is = absurd cc
report_word word.Ul asked is = absurd cc
report_word word.Icf asked is = absurd cc
report_word word.Dcf asked is = absurd cc
report_word word.Sub asked is = absurd cc
report_word word.Acc asked is = absurd cc
report_word word.Fac asked is = absurd cc
report_word word.Active asked is = absurd cc
report_word word.Number asked is = absurd cc
report_word word.Post asked is = absurd cc
report_word word.Give asked is = absurd cc
report_word word.Take asked is = absurd cc
report_word word.Divide asked is = absurd cc
report_word word.Dissolve asked is = absurd cc
report_word word.Recut asked is = absurd cc
report_word word.Views asked is = let same : asked ≡ report.Views = cc in rw same refl
report_word word.Scan asked is = let same : asked ≡ report.Scan = cc in rw same refl
report_word word.Index asked is = let same : asked ≡ report.Index = cc in rw same refl
report_word word.Regions asked is = let same : asked ≡ report.Regions = cc in rw same refl
report_word word.Propose asked is = let same : asked ≡ report.Propose = cc in rw same refl

-- the word of a re-cut
pub recut_word : (named : Word) → kind_of named ≡ kind.Recut → named ≡ word.Recut
recut_word word.Gsd is = absurd cc
recut_word word.Gnd is = absurd cc
recut_word word.Gad is = absurd cc
recut_word word.Usd is = absurd cc
recut_word word.Ul is = absurd cc
recut_word word.Icf is = absurd cc
recut_word word.Dcf is = absurd cc
recut_word word.Sub is = absurd cc
recut_word word.Acc is = absurd cc
recut_word word.Fac is = absurd cc
recut_word word.Active is = absurd cc
recut_word word.Number is = absurd cc
recut_word word.Post is = absurd cc
recut_word word.Give is = absurd cc
recut_word word.Take is = absurd cc
recut_word word.Divide is = absurd cc
recut_word word.Dissolve is = absurd cc
recut_word word.Views is = absurd cc
recut_word word.Scan is = absurd cc
recut_word word.Index is = absurd cc
recut_word word.Regions is = absurd cc
recut_word word.Propose is = absurd cc
recut_word word.Recut is = refl
