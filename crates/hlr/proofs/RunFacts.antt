-- How the text of a run grows, record by record.
use Rattle.hlr.proofs.Common.{◌≡◌, refl, sym, ap, ◌∙◌, subst, ℕ, ◌+◌, ◌≤◌, ◌<◌, List, [], ◌∷◌, ◌++◌, length, Option, Some, None, Bool, true, false, append_assoc, length-append, ◌⊎◌, inl, inr, arith, ◌==◌, IfSome, option_map, Result, Ok, Err, is_err, false≢true, nat_tests, append-nil, Appends, Keeps, Read, next_record, AreRecords, NextIs, ReadsNext, default_config, strip_bom, State, reached-more, OwnersState, store_in, Store, command_named, field, word_named, Report, Word, AddsAnswer, Answers, AreAnswered, AreBrokenOff, HasCome, HasComeTo, HasComeToEnd, report_on, with_sight, word_of_report, Adds, AddsFront, AddsWhole, Outgoing, outgoing, WritesWhole, AnsweredRecords, RanFront, Ran, AreRead, IsStop, Seen, RanUntil, ReadsOne, StoppedFront, StopsBehind, Unread, CommandText, RecordText, Refusal, Fault, Command, Stalled}
use Rattle.csv.specs.Reading.{Reached}
use Rattle.csv.specs.declared.parser.State.TheVariants as st
use Rattle.hlr.specs.Records.{command_of}
use Rattle.hlr.specs.declared.records.Report.TheVariants as report
use Rattle.hlr.specs.declared.records.Word.TheVariants as word
use Rattle.hlr.specs.Text.{RecordsText}
use Rattle.hlr.proofs.OrderFacts.{answered_records}
use Rattle.tatp_rows.specs.declared.refusal.Refusal.TheVariants as refusal
use Rattle.hlr.specs.Command.{Command as command}
use Rattle.hlr.specs.declared.fault.Fault.TheVariants as fault
use Rattle.hlr.proofs.SinkFacts.{adds_all, adds_begun, adds_both, adds_front, adds_front_after, adds_grown, adds_none, adds_on, adds_whole, appends_kept, appends_none, begins_all}

-- a record was answered behind a line, as the command that it is
pub answered : (fields : List (List ℕ)) (asked : Result Command Refusal) (before after : Store) (page grown : List ℕ) (taken : Option (List ℕ)) → asked ≡ command_of fields
    → AddsAnswer fields asked before after page grown → (stalled : Bool) → Answers fields before after (outgoing page taken) (outgoing grown taken) stalled (Ok tt)
answered fields asked before after page grown taken is added stalled =
    record { text = added.text; answer = rw (← is) added.answer; put = adds_grown added.text page grown taken added.grew }

-- a command was answered by a text that was added
pub answered_by : (fields : List (List ℕ)) (asked : Result Command Refusal) (before after : Store) (text : List ℕ) (old new : Outgoing) (stalled : Bool) (r : Result (Unit {0}) Stalled) → asked ≡ command_of fields
    → CommandText fields asked before text after → Adds text old new stalled r → Answers fields before after old new stalled r
answered_by fields asked before after text old new stalled r is answer added = record { text = text; answer = rw (← is) answer; put = added }

-- a record was answered, which is all
pub answered_on : (fields : List (List ℕ)) (before after : Store) (old new : Outgoing) (stalled : Bool) (r s : Result (Unit {0}) Stalled)
    → is_err r ≡ is_err s → Answers fields before after old new stalled r → Answers fields before after old new stalled s
answered_on fields before after old new stalled r s same done = record { text = done.text; answer = done.answer; put = on r s same done.put }
  where
    on : (r s : Result (Unit {0}) Stalled) → is_err r ≡ is_err s → Adds done.text old new stalled r → Adds done.text old new stalled s
    on (Ok x) (Ok y) same put = put
    on (Err x) (Err y) same put = put
    on (Ok x) (Err y) same put = absurd (false≢true same)
    on (Err x) (Ok y) same put = absurd (false≢true (sym same))

-- and then the line was handed on, or the sink failed in that
pub answered_handed : (fields : List (List ℕ)) (before after : Store) (old mid new : Outgoing) (stalled later : Bool) (r s : Result (Unit {0}) Stalled)
    → is_err r ≡ false → Answers fields before after old mid stalled r → Adds [] mid new later s → Answers fields before after old new later s
answered_handed fields before after old mid new stalled later r s passed done handed = record {
  text = done.text;
  answer = done.answer;
  put = adds_on done.text old mid new later s (adds_whole done.text old mid stalled r passed done.put) handed;
}

-- one record more
pub records_more : (rows : List (List (List ℕ))) (row : List (List ℕ)) (s m t : Store) (text more : List ℕ)
    → RecordsText rows s text m → RecordText row m more t → RecordsText (rows ++ row ∷ []) s (text ++ more) t
unfolding RecordsText
records_more [] row s m t text more h k =
    (more, t, [], subst (λ (from : Store). RecordText row from more t) h.1 k, (refl, refl), rw h.0 (sym (append-nil more)))
records_more (first ∷ rows) row s m t text more h k =
    (h.0, h.1, h.2 ++ more, h.3, records_more rows row h.1 m t h.2 more h.4 k, ap (λ w. w ++ more) h.5 ∙ append_assoc h.0 h.2 more)

-- nothing is read yet
pub read_none : (bytes : List ℕ) (unread : Unread) → unread.bytes ≡ Some bytes → unread.state ≡ st.StartRecord → AreRead bytes unread []
unfolding Reached
read_none bytes unread is at_start = record { left = bytes; left_is = is; reached = (sym at_start, refl) }

module _ (bytes : List ℕ) (a b : Unread) (rows : List (List (List ℕ))) (fields : List (List ℕ)) (read : AreRead bytes a rows) where
  more_by : (o : Option Read) → next_record default_config a.state [] [] read.left ≡ o → (after : Option (List ℕ)) (z : List ℕ) → after ≡ Some z → NextIs o true fields b.state z
      → (z : List ℕ) × (after ≡ Some z) × Reached default_config st.StartRecord bytes (rows ++ fields ∷ []) b.state z
  more_by None is after z known next = absurd (false≢true (sym next))
  more_by (Some p) is after z known next =
      (z, known, rw (next.1, next.2, next.3) (reached-more default_config st.StartRecord a.state bytes read.left rows p read.reached is))

  more_after : (after : Option (List ℕ)) → ReadsNext default_config a.state (Some read.left) after true fields b.state
      → (z : List ℕ) × (after ≡ Some z) × Reached default_config st.StartRecord bytes (rows ++ fields ∷ []) b.state z
  more_after None next = absurd next
  more_after (Some z) next = more_by (next_record default_config a.state [] [] read.left) refl (Some z) z refl next

  -- one record more was read
  pub read_more : (found : Bool) → found ≡ true → ReadsOne a b found fields → AreRead bytes b (rows ++ fields ∷ [])
  read_more found there taken =
      let more = more_after b.bytes (rw (there, read.left_is) at taken) in
      record { left = more.0; left_is = more.1; reached = more.2 }

  none_by : (o : Option Read) (z : List ℕ) → NextIs o false fields b.state z → o ≡ None
  none_by None z next = refl
  none_by (Some p) z next = absurd (false≢true next.0)

  none_after : (after : Option (List ℕ)) → ReadsNext default_config a.state (Some read.left) after false fields b.state → next_record default_config a.state [] [] read.left ≡ None
  none_after None next = absurd next
  none_after (Some z) next = none_by (next_record default_config a.state [] [] read.left) z next

  -- there was none, so these are all
  pub read_all : (found : Bool) → found ≡ false → ReadsOne a b found fields → AreRecords default_config st.StartRecord bytes rows
  read_all found none taken = (a.state, read.left, read.reached, none_after b.bytes (rw (none, read.left_is) at taken))

-- so many records of the bytes are read and answered
pub record SoFar (start : Store) (bytes : List ℕ) (unread : Unread) (register : OwnersState) (old new : Outgoing) (count : ℕ) : Type 0 where
  pub rows : List (List (List ℕ))
  pub read : AreRead bytes unread rows
  pub text : List ℕ
  pub answers : RecordsText rows start text (store_in register)
  pub grew : AddsWhole text old new
  pub many : length rows ≡ count

-- nothing is read yet
pub started : (bytes : List ℕ) (unread : Unread) (register : OwnersState) (old : Outgoing) → unread.bytes ≡ Some bytes → unread.state ≡ st.StartRecord
    → SoFar (store_in register) bytes unread register old old 0
unfolding RecordsText
started bytes unread register old is at_start = record {
  rows = [];
  read = read_none bytes unread is at_start;
  text = [];
  answers = (refl, refl);
  grew = adds_none old;
  many = refl;
}

-- the records so far are answered
pub answered_so_far : (start : Store) (bytes : List ℕ) (unread : Unread) (register : OwnersState) (old new : Outgoing) (count : ℕ) (so : SoFar start bytes unread register old new count)
    → AreAnswered so.rows start register old new
answered_so_far start bytes unread register old new count so =
    record { text = so.text; sight = register.spare.view.seen; answers = so.answers; grew = so.grew }

module _ (start : Store) (bytes : List ℕ) (a b : Unread) (fields : List (List ℕ)) (register next : OwnersState) (old mid new : Outgoing) (count : ℕ)
    (so : SoFar start bytes a register old mid count) (found : Bool) (taken : ReadsOne a b found fields) where
  -- one record more is read and answered
  pub goes_on : found ≡ true → (stalled : Bool) (r : Result (Unit {0}) Stalled) → is_err r ≡ false → Answers fields (store_in register) (store_in next) mid new stalled r
      → SoFar start bytes b next old new (count + 1)
  goes_on there stalled r passed done =
      let many = so.many in
      record {
        rows = so.rows ++ fields ∷ [];
        read = read_more bytes a b so.rows fields so.read found there taken;
        text = so.text ++ done.text;
        answers = records_more so.rows fields start (store_in register) (store_in next) so.text done.text so.answers done.answer;
        grew = adds_both so.text done.text old mid new so.grew (adds_whole done.text mid new stalled r passed done.put);
        many = rw length-append (omega arith);
      }

  -- the bytes end
  pub ends : found ≡ false → count ≤ 1048576 → HasComeToEnd bytes (λ rows. AreAnswered rows start register old mid)
  ends none few = record {
    rows = so.rows;
    few = let many = so.many in omega arith;
    are_records = read_all bytes a b so.rows fields so.read found none taken;
    holds = answered_so_far start bytes a register old mid count so;
  }

  -- the sink failed in the answer of a record
  pub breaks : found ≡ true → (stalled : Bool) (r : Result (Unit {0}) Stalled) → is_err r ≡ true → Answers fields (store_in register) (store_in next) mid new stalled r → count < 1048576
      → HasComeTo bytes (λ rows. AreBrokenOff rows start old new stalled)
  breaks there stalled r failed cut below =
      let more = read_more bytes a b so.rows fields so.read found there taken in
      let many = so.many in
      let front = adds_front cut.text mid new stalled r failed cut.put in
      record {
        rows = so.rows ++ fields ∷ [];
        few = rw length-append (omega arith);
        state = b.state;
        left = more.left;
        are_first = more.reached;
        holds = record {
          text = so.text ++ cut.text;
          end = store_in next;
          answers = records_more so.rows fields start (store_in register) (store_in next) so.text cut.text so.answers cut.answer;
          front = adds_front_after so.text cut.text old mid new so.grew front.0;
          told = front.1;
        };
      }

-- a text that is written whole
pub writes_whole : (why : Fault) (text : List ℕ) → WritesWhole why text text
writes_whole fault.Memory text = refl
writes_whole fault.Field text = refl
writes_whole fault.Thread text = refl
writes_whole fault.Read text = refl
writes_whole fault.Write text = tt

-- the first records are answered, and their whole text is written
abbrev pub front_is_whole : (start : Store) (bytes : List ℕ) (old new : Option (List ℕ)) (why : Fault) (answered : AnsweredRecords start) (at : State) (left : List ℕ)
    → Reached default_config st.StartRecord bytes answered.rows at left → Appends old new answered.text → RanFront start bytes old new why
front_is_whole start bytes old new why answered at left reached grew = record {
  answered = answered;
  state = at;
  left = left;
  are_first = reached;
  written = answered.text;
  begins = begins_all answered.text;
  whole = writes_whole why answered.text;
  grew = grew;
}

-- nothing more is written after a fault, which another may follow
abbrev front_kept : (start : Store) (bytes : List ℕ) (old mid new : Option (List ℕ)) (why other : Fault) (ran : RanFront start bytes old mid why)
    → WritesWhole other ran.written ran.answered.text → Keeps mid new → RanFront start bytes old new other
front_kept start bytes old mid new why other ran whole kept = record {
  answered = ran.answered;
  state = ran.state;
  left = ran.left;
  are_first = ran.are_first;
  written = ran.written;
  begins = ran.begins;
  whole = whole;
  grew = appends_kept old mid new ran.written ran.grew kept;
}

-- a run that came to a record and no further, unless the sink failed
pub come_to : (stops : List (List (List ℕ)) → Fault → Type 0) (bytes : List ℕ) (P broken : List (List (List ℕ)) → Type 0) (why : Fault) → (why ≡ fault.Write → ⊥)
    → HasComeTo bytes (λ rows. P rows × stops rows why) → HasCome stops bytes P broken (Err why)
come_to stops bytes P broken fault.Memory unless come = come
come_to stops bytes P broken fault.Field unless come = come
come_to stops bytes P broken fault.Thread unless come = come
come_to stops bytes P broken fault.Read unless come = come
come_to stops bytes P broken fault.Write unless come = absurd (unless refl)

-- a reader's fault is none of the sink
pub read_is_no_write : (why : Fault) → (why ≡ fault.Memory) ⊎ (why ≡ fault.Read) → why ≡ fault.Write → ⊥
read_is_no_write why (inl memory) is = let clash : fault.Memory ≡ fault.Write = sym memory ∙ is in cc
read_is_no_write why (inr read) is = let clash : fault.Read ≡ fault.Write = sym read ∙ is in cc

-- the run stops between two records
pub stops_so : (stops : List (List (List ℕ)) → Fault → Type 0) (broken : List (List (List ℕ)) → Type 0) (start : Store) (bytes : List ℕ) (unread : Unread) (register : OwnersState) (old new : Outgoing)
    (count : ℕ) (why : Fault) → (so : SoFar start bytes unread register old new count) → count ≤ 1048576 → (why ≡ fault.Write → ⊥) → stops so.rows why
    → HasCome stops bytes (λ rows. AreAnswered rows start register old new) broken (Err why)
stops_so stops broken start bytes unread register old new count why so within unless stopped =
    let many = so.many in
    come_to stops bytes (λ rows. AreAnswered rows start register old new) broken why unless (record {
      rows = so.rows;
      few = omega arith;
      state = unread.state;
      left = so.read.left;
      are_first = so.read.reached;
      holds = (answered_so_far start bytes unread register old new count so, stopped);
    })

module _ {T : Type 0} (source : Seen T) (threads : Bool) (bytes : List ℕ) (rows : List (List (List ℕ))) (now : T) where
  -- a read failed
  pub stopped_by_read : (at : T) (why : Fault) → AreRead bytes (source.unread at) rows → source.begun now ≡ source.unread at → source.fails at now why
      → (why ≡ fault.Memory) ⊎ (why ≡ fault.Read) → StopsBehind source threads bytes now rows why
  stopped_by_read at fault.Memory read last failed either = inl (record { at = at; read = read; last = last; failed = failed })
  stopped_by_read at fault.Read read last failed either = inl (record { at = at; read = read; last = last; failed = failed })
  stopped_by_read at fault.Write read last failed either = tt
  stopped_by_read at fault.Field read last failed (inl is) = cc
  stopped_by_read at fault.Field read last failed (inr is) = cc
  stopped_by_read at fault.Thread read last failed (inl is) = cc
  stopped_by_read at fault.Thread read last failed (inr is) = cc

  -- a run may answer no more
  pub stopped_at_last : (fields : List (List ℕ)) → length rows ≡ 1048576 → AreRead bytes (source.unread now) (rows ++ fields ∷ []) → StopsBehind source threads bytes now rows fault.Read
  stopped_at_last fields many read = inr (many, fields, read)

-- the run stops at a record that is one too many
pub stops_full : {T : Type 0} (source : Seen T) (last : T) (broken : List (List (List ℕ)) → Type 0) (start : Store) (bytes : List ℕ) (a : Unread)
    (fields : List (List ℕ)) (register : OwnersState) (old new : Outgoing) (count : ℕ) (so : SoFar start bytes a register old new count) (found : Bool) → ReadsOne a (source.unread last) found fields → found ≡ true
    → count ≡ 1048576 → HasCome (StopsBehind source false bytes last) bytes (λ rows. AreAnswered rows start register old new) broken (Err fault.Read)
stops_full source last broken start bytes a fields register old new count so found taken there full =
    let many = so.many in
    stops_so (StopsBehind source false bytes last) broken start bytes a register old new count fault.Read so (omega arith) (λ is. cc)
    (stopped_at_last source false bytes so.rows last fields (omega arith) (read_more bytes a (source.unread last) so.rows fields so.read found there taken))

-- a run that read nothing and wrote nothing
pub ran_nothing : (start : Store) (bytes : List ℕ) (old new : Option (List ℕ)) (why : Fault) → (why ≡ fault.Thread → ⊥) → Keeps old new → Ran start bytes old new (Err why)
unfolding RecordsText Reached
ran_nothing start bytes old new why unless kept = record {
  front = front_is_whole start bytes old new why (answered_records start [] [] start (omega arith) (refl, refl)) st.StartRecord bytes (refl, refl)
      (appends_kept old old new [] (appends_none old) kept);
  stopped = λ none. no_stop (answered_records start [] [] start (omega arith) (refl, refl)).rows why unless;
}
  where
    no_stop : (rows : List (List (List ℕ))) (why : Fault) → (why ≡ fault.Thread → ⊥) → IsStop bytes rows why
    no_stop rows fault.Thread unless = absurd (unless refl)
    no_stop rows fault.Memory unless = tt
    no_stop rows fault.Field unless = tt
    no_stop rows fault.Read unless = tt
    no_stop rows fault.Write unless = tt

-- nothing more is written after a run
pub ran_kept : (start : Store) (bytes : List ℕ) (old mid new : Option (List ℕ)) (r : Result (Unit {0}) Fault) → Ran start bytes old mid r → Keeps mid new → Ran start bytes old new r
ran_kept start bytes old mid new (Ok done) ran kept = record {
  answered = ran.answered;
  are_records = ran.are_records;
  grew = appends_kept old mid new ran.answered.text ran.grew kept;
}
ran_kept start bytes old mid new (Err why) ran kept = record {
  front = front_kept start bytes old mid new why why ran.front ran.front.whole kept;
  stopped = ran.stopped;
}

-- the flush after a run failed
pub ran_unflushed : (start : Store) (bytes : List ℕ) (old mid new : Option (List ℕ)) (r : Result (Unit {0}) Fault) → Ran start bytes old mid r → Keeps mid new → Ran start bytes old new (Err fault.Write)
ran_unflushed start bytes old mid new (Ok done) ran kept = record {
  front = front_is_whole start bytes old new fault.Write ran.answered ran.are_records.0 ran.are_records.1 ran.are_records.2 (appends_kept old mid new ran.answered.text ran.grew kept);
  stopped = λ unless. tt;
}
ran_unflushed start bytes old mid new (Err why) ran kept = record { front = front_kept start bytes old mid new why fault.Write ran.front tt kept; stopped = λ unless. tt }

-- what is known of known bytes
pub if_some : {X : Type 0} (o : Option X) (P Q : X → Type 0) → ((x : X) → P x → Q x) → IfSome o P → IfSome o Q
if_some None P Q step h = tt
if_some (Some x) P Q step h = step x h

-- what holds of the known bytes
pub if_known : {X : Type 0} (o : Option X) (Q : X → Type 0) → ((x : X) → o ≡ Some x → Q x) → IfSome o Q
if_known None Q h = tt
if_known (Some x) Q h = h x refl

-- known bytes that nothing touches
pub keeps_same : (o : Option (List ℕ)) → Keeps o o
keeps_same None = tt
keeps_same (Some xs) = refl

-- where a source stopped a run is known of the bytes alone
pub is_stop : {T : Type 0} (source : Seen T) (threads : Bool) (bytes : List ℕ) (now : T) (rows : List (List (List ℕ))) (why : Fault)
    → StopsBehind source threads bytes now rows why → IsStop bytes rows why
is_stop source threads bytes now rows fault.Thread stops =
    let read = stops.1.2 in
    (stops.1.0, stops.1.1, (source.unread now).state, read.left, read.reached)
is_stop source threads bytes now rows fault.Memory stops = tt
is_stop source threads bytes now rows fault.Field stops = tt
is_stop source threads bytes now rows fault.Read stops = tt
is_stop source threads bytes now rows fault.Write stops = tt

-- a run over a source is one over its bytes
ran_until : {T : Type 0} (source : Seen T) (threads : Bool) (now : T) (start : Store) (bytes : List ℕ) (old new : Option (List ℕ)) (r : Result (Unit {0}) Fault)
    → RanUntil (StopsBehind source threads bytes now) start bytes old new r → Ran start bytes old new r
ran_until source threads now start bytes old new (Ok done) ran = ran
ran_until source threads now start bytes old new (Err why) ran =
    record { front = ran.front; stopped = λ unless. is_stop source threads bytes now ran.front.answered.rows why (ran.stopped unless) }

-- a run that ended with a flush
pub ran_finished : (start : Store) (bytes : List ℕ) (old mid new : Option (List ℕ)) (done r : Result (Unit {0}) Fault) → Ran start bytes old mid done → Keeps mid new
    → (r ≡ done) ⊎ (r ≡ Err fault.Write) → Ran start bytes old new r
ran_finished start bytes old mid new done r ran kept (inl same) = rw same (ran_kept start bytes old mid new done ran kept)
ran_finished start bytes old mid new done r ran kept (inr failed) = rw failed (ran_unflushed start bytes old mid new done ran kept)

-- a run that was refused before it read anything
pub ran_refused : (start : Store) (bytes : List ℕ) (old new : Option (List ℕ)) (r : Result (Unit {0}) Fault) → is_err r ≡ true → (r ≡ Err fault.Thread → ⊥) → Keeps old new → Ran start bytes old new r
ran_refused start bytes old new (Ok done) failed unless kept = absurd (false≢true failed)
ran_refused start bytes old new (Err why) failed unless kept = ran_nothing start bytes old new why (λ is. unless (ap (λ (f : Fault). Err f) is)) kept

-- a run over a reader's bytes from a store that is another one
pub ran_from : (known : Option (List ℕ)) (start other : Store) (old new : Option (List ℕ)) (r : Result (Unit {0}) Fault) → start ≡ other
    → IfSome known (λ bytes. Ran start (strip_bom bytes) old new r) → IfSome known (λ bytes. Ran other (strip_bom bytes) old new r)
ran_from known start other old new r same ran = subst (λ (store : Store). IfSome known (λ bytes. Ran store (strip_bom bytes) old new r)) same ran

-- a run over a reader's bytes, without the byte order mark before them, that ended with a flush
pub ran_flushed : {T : Type 0} (source : Seen T) (threads : Bool) (now : T) (known given : Option (List ℕ)) (start : Store) (old mid new : Option (List ℕ)) (done r : Result (Unit {0}) Fault)
    → given ≡ option_map strip_bom known → IfSome given (λ bytes. RanUntil (StopsBehind source threads bytes now) start bytes old mid done) → Keeps mid new
    → (r ≡ done) ⊎ (r ≡ Err fault.Write) → IfSome known (λ bytes. Ran start (strip_bom bytes) old new r)
ran_flushed source threads now None given start old mid new done r is ran kept ended = tt
ran_flushed source threads now (Some bytes) given start old mid new done r is ran kept ended =
    let until : RanUntil (StopsBehind source threads (strip_bom bytes) now) start (strip_bom bytes) old mid done =
    subst (λ (o : Option (List ℕ)). IfSome o (λ bytes. RanUntil (StopsBehind source threads bytes now) start bytes old mid done)) is ran in
    ran_finished start (strip_bom bytes) old mid new done r (ran_until source threads now start (strip_bom bytes) old mid done until) kept ended

-- the answer to a record whose word is known
module _ (fields : List (List ℕ)) (named : Option Word) (before after : Store) (page grown : List ℕ) (is : named ≡ word_named (field fields 0)) where
  pub named_adds : AddsAnswer fields (command_named named fields) before after page grown → AddsAnswer fields (command_of fields) before after page grown
  unfolding command_of
  named_adds added = subst (λ (w : Option Word). AddsAnswer fields (command_named w fields) before after page grown) is added

  pub named_done : (text : List ℕ) → CommandText fields (command_named named fields) before text after → grown ≡ page ++ text → AddsAnswer fields (command_of fields) before after page grown
  named_done text answer grew = named_adds (record { text = text; answer = answer; grew = grew })

-- a number that isn't 1, as a test
not_one : (n : ℕ) → (n ≡ 1 → ⊥) → (n == 1) ≡ false
not_one n more = grind (arith, nat_tests)

-- the command that a report is
abbrev pub command_of_report : Report → Command
command_of_report report.Views = command.Views
command_of_report report.Scan = command.Scan
command_of_report report.Index = command.Index
command_of_report report.Regions = command.Regions
command_of_report report.Propose = command.Propose

-- the text of a report answers its command
pub report_answers : (fields : List (List ℕ)) (asked : Report) (store : Store) → CommandText fields (Ok (command_of_report asked)) store (report_on asked store) store
report_answers fields report.Views store = (refl, refl)
report_answers fields report.Scan store = (refl, refl)
report_answers fields report.Index store = (refl, refl)
report_answers fields report.Regions store = (refl, refl)
report_answers fields report.Propose store = (refl, refl)

-- a record of one field, whose word is that of a report
pub report_named : (fields : List (List ℕ)) (asked : Report) → Some (word_of_report asked) ≡ word_named (field fields 0) → length fields ≡ 1 → Ok (command_of_report asked) ≡ command_of fields
unfolding command_of
report_named fields report.Views is one = rw (← is, one) refl
report_named fields report.Scan is one = rw (← is, one) refl
report_named fields report.Index is one = rw (← is, one) refl
report_named fields report.Regions is one = rw (← is, one) refl
report_named fields report.Propose is one = rw (← is, one) refl

-- and one of more or fewer fields
pub report_refused : (fields : List (List ℕ)) (asked : Report) → Some (word_of_report asked) ≡ word_named (field fields 0) → (length fields ≡ 1 → ⊥) → Err refusal.Syntax ≡ command_of fields
unfolding command_of
report_refused fields report.Views is more = rw (← is, not_one (length fields) more) refl
report_refused fields report.Scan is more = rw (← is, not_one (length fields) more) refl
report_refused fields report.Index is more = rw (← is, not_one (length fields) more) refl
report_refused fields report.Regions is more = rw (← is, not_one (length fields) more) refl
report_refused fields report.Propose is more = rw (← is, not_one (length fields) more) refl

-- a record whose word is that of a re-cut
pub recut_named : (fields : List (List ℕ)) → Some word.Recut ≡ word_named (field fields 0) → command_of fields ≡ Ok command.Recut
unfolding command_of
recut_named fields is = rw (← is) refl

-- records that are answered, and then the line was handed on
pub answered_kept : (rows : List (List (List ℕ))) (start : Store) (register : OwnersState) (old mid new : Outgoing) → AreAnswered rows start register old mid → AddsWhole [] mid new
    → AreAnswered rows start register old new
answered_kept rows start register old mid new done handed =
    record { text = done.text; sight = done.sight; answers = done.answers; grew = rw (append-nil done.text) at (adds_both done.text [] old mid new done.grew handed) }

-- or the sink failed in that
pub broken_kept : (rows : List (List (List ℕ))) (start : Store) (register : OwnersState) (old mid new : Outgoing) (stalled : Bool) → AreAnswered rows start register old mid
    → AddsFront [] mid new → stalled ≡ true → AreBrokenOff rows start old new stalled
broken_kept rows start register old mid new stalled done cut told = record {
  text = done.text;
  end = with_sight done.sight register;
  answers = done.answers;
  front = rw (append-nil done.text) at (adds_front_after done.text [] old mid new done.grew cut);
  told = told;
}

-- records of some bytes are answered by a text, of which the sink took a front
pub broken_front : (stops : List (List (List ℕ)) → Fault → Type 0) (start : Store) (bytes : List ℕ) (old new : Outgoing) (stalled : Bool) → old.line ≡ []
    → HasComeTo bytes (λ rows. AreBrokenOff rows start old new stalled) → StoppedFront stops start bytes old.taken new.taken fault.Write
broken_front stops start bytes old new stalled none come =
    let broken = come.holds in
    let front = adds_begun broken.text old new none broken.front in
    record {
      front = record {
        answered = answered_records start come.rows broken.text broken.end come.few broken.answers;
        state = come.state;
        left = come.left;
        are_first = come.are_first;
        written = front.front;
        begins = front.begins;
        whole = tt;
        grew = front.grew;
      };
      stopped = λ unless. absurd (unless refl);
    }

-- and the last answers are handed on, after no fault of the sink
module _ (stops : List (List (List ℕ)) → Fault → Type 0) (start : Store) (bytes : List ℕ) (P broken : List (List (List ℕ)) → Type 0) (old new : Outgoing) (none : old.line ≡ []) where
  module _ (register : OwnersState) (empty : new.line ≡ []) (write : (rows : List (List (List ℕ))) → P rows → AreAnswered rows start register old new) where
    stopped : (why : Fault) → HasComeTo bytes (λ rows. P rows × stops rows why) → StoppedFront stops start bytes old.taken new.taken why
    stopped why come =
        let all = write come.rows come.holds.0 in
        record {
          front = front_is_whole start bytes old.taken new.taken why (answered_records start come.rows all.text (with_sight all.sight register) come.few all.answers) come.state come.left come.are_first
              (adds_all all.text old new none empty all.grew);
          stopped = λ unless. come.holds.1;
        }

    pub come_whole : (done : Result (Unit {0}) Fault) → (done ≡ Err fault.Write → ⊥) → HasCome stops bytes P broken done → RanUntil stops start bytes old.taken new.taken done
    come_whole (Ok done) unless come =
        let all = write come.rows come.holds in
        record {
          answered = answered_records start come.rows all.text (with_sight all.sight register) come.few all.answers;
          are_records = come.are_records;
          grew = adds_all all.text old new none empty all.grew;
        }
    come_whole (Err fault.Memory) unless come = stopped fault.Memory come
    come_whole (Err fault.Field) unless come = stopped fault.Field come
    come_whole (Err fault.Thread) unless come = stopped fault.Thread come
    come_whole (Err fault.Read) unless come = stopped fault.Read come
    come_whole (Err fault.Write) unless come = absurd (unless refl)

  -- or the sink fails in that
  module _ (stalled : Bool) (write : (rows : List (List (List ℕ))) → P rows → AreBrokenOff rows start old new stalled) where
    cut : (why : Fault) → HasComeTo bytes (λ rows. P rows × stops rows why) → StoppedFront stops start bytes old.taken new.taken fault.Write
    cut why come = broken_front stops start bytes old new stalled none (record {
      rows = come.rows;
      few = come.few;
      state = come.state;
      left = come.left;
      are_first = come.are_first;
      holds = write come.rows come.holds.0;
    })

    pub come_broken : (done : Result (Unit {0}) Fault) → (done ≡ Err fault.Write → ⊥) → HasCome stops bytes P broken done → StoppedFront stops start bytes old.taken new.taken fault.Write
    come_broken (Ok done) unless come = broken_front stops start bytes old new stalled none (record {
      rows = come.rows;
      few = come.few;
      state = come.are_records.0;
      left = come.are_records.1;
      are_first = come.are_records.2;
      holds = write come.rows come.holds;
    })
    come_broken (Err fault.Memory) unless come = cut fault.Memory come
    come_broken (Err fault.Field) unless come = cut fault.Field come
    come_broken (Err fault.Thread) unless come = cut fault.Thread come
    come_broken (Err fault.Read) unless come = cut fault.Read come
    come_broken (Err fault.Write) unless come = absurd (unless refl)

-- the sink failed before
pub come_cut : (stops : List (List (List ℕ)) → Fault → Type 0) (start : Store) (bytes : List ℕ) (P : List (List (List ℕ)) → Type 0) (old new : Outgoing) (stalled : Bool) (done : Result (Unit {0}) Fault)
    → old.line ≡ [] → done ≡ Err fault.Write → HasCome stops bytes P (λ rows. AreBrokenOff rows start old new stalled) done → StoppedFront stops start bytes old.taken new.taken fault.Write
come_cut stops start bytes P old new stalled done none is come = broken_front stops start bytes old new stalled none (rw is at come)
