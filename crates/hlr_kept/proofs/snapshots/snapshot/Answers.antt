use Rattle.std.proofs.Common.{◌≡◌, ◌∙◌, [], ◌∷◌, ◌++◌, ap, sym, List, ℕ}
use Rattle.std.specs.Prelude.{map}
use Rattle.edit_lines.specs.Lines.{first_line, line_of}
use Rattle.hlr_core.specs.declared.event.Event.TheVariants.{AddSubscriber, AddAccess, AddFacility}
use Rattle.hlr_owners.specs.Owners.{book_in, store_in}
use Rattle.hlr_kept.specs.Draft.{draft_lines}
use Rattle.hlr_kept.specs.Snapshot.{insertion}
use Rattle.hlr_kept.proofs.SnapshotLemmas.{by_tables, snapshot_stored}
use Rattle.hlr_kept.proofs.RuleLemmas.{access_keyed, facilities_keyed, forwardings_keyed, forwardings_known, subscribers_keyed, subscribers_known}
use Rattle.hlr_kept.proofs.snapshots.snapshot.Goals as goal

pub put_table-requires-clause-known : goal.put_table-requires-clause-known
put_table-requires-clause-known g c = subscribers_known (book_in c.args.register.now.owners) c.rules.ensures.rules

pub put_table-requires-clause-keyed : goal.put_table-requires-clause-keyed
put_table-requires-clause-keyed g c = subscribers_keyed (book_in c.args.register.now.owners) c.rules.ensures.rules

pub put_table-requires-2-clause-keyed : goal.put_table-requires-2-clause-keyed
put_table-requires-2-clause-keyed g c = access_keyed (book_in c.args.register.now.owners) c.rules.ensures.rules

pub put_table-requires-3-clause-keyed : goal.put_table-requires-3-clause-keyed
put_table-requires-3-clause-keyed g c = facilities_keyed (book_in c.args.register.now.owners) c.rules.ensures.rules

pub put_table-requires-4-clause-known : goal.put_table-requires-4-clause-known
put_table-requires-4-clause-known g c = forwardings_known (book_in c.args.register.now.owners) c.rules.ensures.rules

pub put_table-requires-4-clause-keyed : goal.put_table-requires-4-clause-keyed
put_table-requires-4-clause-keyed g c = forwardings_keyed (book_in c.args.register.now.owners) c.rules.ensures.rules

pub returns : goal.returns
returns g c =
    let store = store_in c.args.register.now in
    let book = store.book in
    let lines = draft_lines g.D.Device.seen in
    let a = map line_of (map AddSubscriber book.subscribers) in
    let b = map line_of (map AddAccess book.access) in
    let d = map line_of (map AddFacility book.facilities) in
    let e = map line_of (map (insertion book.subscribers) book.forwardings) in
    let first : lines c.put_table.new.draft ≡ (first_line ∷ []) ++ a = c.in_ok-put_table.ensures.lines ∙ ap (λ (l : List (List ℕ)). l ++ a) c.in_ok-draft.ensures.lines in
    let second : lines c.put_table-2.new.draft ≡ ((first_line ∷ []) ++ a) ++ b = c.in_ok-put_table-2.ensures.lines ∙ ap (λ (l : List (List ℕ)). l ++ b) first in
    let third : lines c.put_table-3.new.draft ≡ (((first_line ∷ []) ++ a) ++ b) ++ d = c.in_ok-put_table-3.ensures.lines ∙ ap (λ (l : List (List ℕ)). l ++ d) second in
    let fourth : lines c.put_table-4.new.draft ≡ ((((first_line ∷ []) ++ a) ++ b) ++ d) ++ e = c.in_ok-put_table-4.ensures.lines ∙ ap (λ (l : List (List ℕ)). l ++ e) third in
    record {
      stored = snapshot_stored g.D.Device.seen g.D.Device.may_leave store c.rules.ensures.rules c.rules.ensures.alone (lines c.put_table-4.new.draft) c.in_ok-tape.tape c.sync.new.self (fourth ∙ sym (by_tables book))
          c.in_ok-tape.ensures.whole c.in_ok-tape.ensures.lines c.in_ok-sync.ensures.is_open c.in_ok-sync.ensures.acknowledged c.in_ok-sync.ensures.same;
      owner = c.sync.ensures.owner ∙ c.in_ok-tape.ensures.owner ∙ c.put_table-4.ensures.owner ∙ c.put_table-3.ensures.owner ∙ c.put_table-2.ensures.owner ∙ c.put_table.ensures.owner
          ∙ c.in_ok-draft.ensures.owner;
    }
