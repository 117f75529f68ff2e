use Rattle.std.proofs.Common.{◌≡◌, ◌∙◌, ◌<◌, ◌-◌, ◌++◌, ap, arith, refl, sym, subst, length, List, take, get_or}
use Rattle.std.specs.Prelude.{IsSome, map}
use Rattle.std.specs.List.{AllByRecursion}
use Rattle.tatp_actions.specs.Book.{subscriber_at}
use Rattle.tatp_actions.specs.Listed.{rows_listed}
use Rattle.edit_lines.specs.Lines.{line_of}
use Rattle.hlr_owners.specs.Owners.{book_in}
use Rattle.hlr_kept.specs.Draft.{draft_lines}
use Rattle.hlr_kept.proofs.ReadingLemmas.{IsFurther, page_read, page_whole, reading_each, reading_ends, reading_next, reading_starts}
use Rattle.hlr_kept.proofs.snapshots.put_table.Goals as goal

pub loop-page-init : goal.loop-page-init
loop-page-init g c =
    let book = book_in c.args.register.now.owners in
    let starts = reading_starts g.V.TableRow.fields (g.V.SnapshotRow.event book.subscribers) g.D.Device.seen g.D.Device.may_leave (g.V.TableRow.table book) (draft_lines g.D.Device.seen c.args.draft.now)
    c.args.draft.now (record { is_draft = c.requires.draft; lines = refl }) in
    (starts, omega (arith, c.in_ok-resize.ensures.len, c.resize.new.self.ok.0), refl)

pub returns-then-count-eq0-clause-lines : goal.returns-then-count-eq0-clause-lines
returns-then-count-eq0-clause-lines g c =
    let book = book_in c.args.register.now.owners in
    let rest = rows_listed g.V.TableRow.fields c.loop-page.from (g.V.TableRow.table book) in
    let is = page_read g.V.FromRow.of_row c.requires.same rest c.deref_mut.result.now c.write_rows-count.result c.write_rows-count.new.rows c.write_rows-count.ensures in
    let room : 0 < length c.write_rows-count.new.rows = omega (arith, c.loop-page.invariant.1, is.0, ap length c.deref_mut.ensures.value) in
    (reading_ends g.V.TableRow.fields (g.V.SnapshotRow.event book.subscribers) g.D.Device.seen g.D.Device.may_leave (g.V.TableRow.table book) (draft_lines g.D.Device.seen c.args.draft.now)
    c.loop-page.from c.write_rows-count.result c.write_rows-count.new.rows c.loop-page.draft c.loop-page.invariant.0 is.1 room c.if-count-eq0.true).lines

-- the rows of the page, which are those that were read
rows_are : (g : _) (c : goal.After-put_rows-arg-1 g) → c.deref.result.now ≡ c.write_rows-count.new.rows
rows_are g c =
    let book = book_in c.args.register.now.owners in
    let rest = rows_listed g.V.TableRow.fields c.loop-page.from (g.V.TableRow.table book) in
    let is = page_read g.V.FromRow.of_row c.requires.same rest c.deref_mut.result.now c.write_rows-count.result c.write_rows-count.new.rows c.write_rows-count.ensures in
    c.deref.ensures.value ∙ page_whole c.loop-page.page.len c.write_rows-count.new.rows c.loop-page.page.items c.loop-page.page.ok.0 (is.0 ∙ ap length c.deref_mut.ensures.value)

pub put_rows-requires-clause-known : goal.put_rows-requires-clause-known
put_rows-requires-clause-known g c =
    let book = book_in c.args.register.now.owners in
    let fields = g.V.TableRow.fields in
    let rest = rows_listed fields c.loop-page.from (g.V.TableRow.table book) in
    let is = page_read g.V.FromRow.of_row c.requires.same rest c.deref_mut.result.now c.write_rows-count.result c.write_rows-count.new.rows c.write_rows-count.ensures in
    let each = reading_each fields (g.V.SnapshotRow.event book.subscribers) g.D.Device.seen g.D.Device.may_leave (g.V.TableRow.table book) (draft_lines g.D.Device.seen c.args.draft.now)
    (λ row. IsSome (subscriber_at book (fields row).s_id)) c.loop-page.from c.write_rows-count.result c.write_rows-count.new.rows c.loop-page.draft c.requires.known c.loop-page.invariant.0 is.1 in
    subst (λ (l : List _). AllByRecursion (λ row. IsSome (subscriber_at book (fields row).s_id)) (take c.write_rows-count.result l)) (sym (rows_are g c)) each

-- the rows of a page are put behind the others, and the next key is behind the last one
further : (g : _) (c : goal.After-next_key-from g)
    → IsFurther g.V.TableRow.fields (g.V.SnapshotRow.event (book_in c.args.register.now.owners).subscribers) g.D.Device.seen g.D.Device.may_leave
    (g.V.TableRow.table (book_in c.args.register.now.owners)) (draft_lines g.D.Device.seen c.args.draft.now) c.loop-page.from c.next_key-from.result c.put_rows.new.draft
further g c =
    let book = book_in c.args.register.now.owners in
    let fields = g.V.TableRow.fields in
    let event = g.V.SnapshotRow.event book.subscribers in
    let seen = g.D.Device.seen in
    let rest = rows_listed fields c.loop-page.from (g.V.TableRow.table book) in
    let count = c.write_rows-count.result in
    let rows = c.write_rows-count.new.rows in
    let is = page_read g.V.FromRow.of_row c.requires.same rest c.deref_mut.result.now count rows c.write_rows-count.ensures in
    let whole = page_whole c.loop-page.page.len rows c.loop-page.page.items c.loop-page.page.ok.0 (is.0 ∙ ap length c.deref_mut.ensures.value) in
    let last = c.index.result.now in
    let at : last ≡ get_or rows (count - 1) last = subst (λ (l : List _). last ≡ get_or l (count - 1) last) whole c.index.ensures in
    let some : 0 < count = omega (arith, c.if-count-eq0.false) in
    let now : c.deref.result.now ≡ rows = c.deref.ensures.value ∙ whole in
    let lines : draft_lines seen c.put_rows.new.draft ≡ draft_lines seen c.loop-page.draft ++ map line_of (map event (take count rows)) =
    subst (λ (l : List _). draft_lines seen c.put_rows.new.draft ≡ draft_lines seen c.loop-page.draft ++ map line_of (map event (take count l))) now c.in_ok-put_rows.ensures.lines in
    reading_next fields event seen g.D.Device.may_leave (g.V.TableRow.table book) (draft_lines seen c.args.draft.now) c.requires.keyed c.loop-page.from c.next_key-from.result count rows last
    c.loop-page.draft c.put_rows.new.draft c.loop-page.invariant.0 is.1 some at c.next_key-from.ensures (record { is_draft = c.in_ok-put_rows.ensures.draft; lines = lines })

pub loop-page-smaller : goal.loop-page-smaller
loop-page-smaller g c = (further g c).fewer

pub loop-page-preserved : goal.loop-page-preserved
loop-page-preserved g c =
    let book = book_in c.args.register.now.owners in
    let rest = rows_listed g.V.TableRow.fields c.loop-page.from (g.V.TableRow.table book) in
    let rows = c.write_rows-count.new.rows in
    let is = page_read g.V.FromRow.of_row c.requires.same rest c.deref_mut.result.now c.write_rows-count.result rows c.write_rows-count.ensures in
    let whole = page_whole c.loop-page.page.len rows c.loop-page.page.items c.loop-page.page.ok.0 (is.0 ∙ ap length c.deref_mut.ensures.value) in
    let room : 0 < length rows = omega (arith, c.loop-page.invariant.1, is.0, ap length c.deref_mut.ensures.value) in
    ((further g c).reading, subst (λ (l : List _). 0 < length l) (sym whole) room, c.put_rows.ensures.owner ∙ c.loop-page.invariant.2)

pub returns-then-count-eq0-clause-owner : goal.returns-then-count-eq0-clause-owner
returns-then-count-eq0-clause-owner g c = c.loop-page.invariant.2

pub returns-in_err-put_rows-clause-owner : goal.returns-in_err-put_rows-clause-owner
returns-in_err-put_rows-clause-owner g c = c.put_rows.ensures.owner ∙ c.loop-page.invariant.2
