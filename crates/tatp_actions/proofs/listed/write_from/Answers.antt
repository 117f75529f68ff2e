use Rattle.tatp_actions.proofs.Common.{arith, map, refl, key_of_pair, keys_from}
use Rattle.tatp_actions.proofs.ListedLemmas.{last_small, page_grows, page_none, page_parts, page_some, writing_done, writing_full, writing_next, writing_starts}
use Rattle.tatp_actions.proofs.listed.write_from.Goals as goal

pub loop-behind-init : goal.loop-behind-init
loop-behind-init g c = writing_starts _ c.args.place c.args.rows.now _ c.requires.room refl

pub overflow_add-from : goal.overflow_add-from
overflow_add-from g c =
    let some = page_some c.as_slice-pairs.result.now c.is_empty.result c.is_empty.ensures c.if-is_empty.false in
    let small = last_small c.loop-behind.from c.args.tree.now.rows c.page_from.new.page.items c.page_from.ensures c.as_slice-pairs.result.now c.index-pairs-pairs.result c.requires.small c.as_slice-pairs.ensures.value some in
    omega (arith, small)

pub loop-behind-preserved : goal.loop-behind-preserved
loop-behind-preserved g c =
    let rows = c.args.tree.now.rows in
    let some = page_some c.as_slice-pairs.result.now c.is_empty.result c.is_empty.ensures c.if-is_empty.false in
    let parts = page_parts c.loop-behind.from rows c.page_from.new.page.items c.page_from.ensures (λ pair. g.T.FromRow.of_row pair.1) c.as_slice-pairs.result.now c.index-pairs-pairs.result c.requires.ordered c.as_slice-pairs.ensures.value some in
    writing_next (map (λ pair. g.T.FromRow.of_row pair.1) (keys_from key_of_pair c.args.key rows)) c.args.place c.args.rows.now _ _ _ c.loop-behind.behind c.write_page-behind.result c.loop-behind.rows c.write_page-behind.new.rows c.loop-behind.invariant parts c.write_page-behind.ensures

pub loop-behind-smaller : goal.loop-behind-smaller
loop-behind-smaller g c =
    let some = page_some c.as_slice-pairs.result.now c.is_empty.result c.is_empty.ensures c.if-is_empty.false in
    let grows = page_grows (λ pair. g.T.FromRow.of_row pair.1) c.as_slice-pairs.result.now c.loop-behind.behind c.loop-behind.rows c.write_page-behind.result c.write_page-behind.new.rows some c.loop-behind-test.true c.write_page-behind.ensures in
    let same = c.loop-behind.auto.rows in
    let room = c.loop-behind-test.true in
    omega (arith, grows, same, room)

pub returns-then-is_empty : goal.returns-then-is_empty
returns-then-is_empty g c =
    let none = page_none c.loop-behind.from c.args.tree.now.rows c.page_from.new.page.items c.page_from.ensures (λ pair. g.T.FromRow.of_row pair.1) c.as_slice-pairs.result.now c.is_empty.result c.as_slice-pairs.ensures.value c.is_empty.ensures c.if-is_empty.true in
    writing_done (map (λ pair. g.T.FromRow.of_row pair.1) (keys_from key_of_pair c.args.key c.args.tree.now.rows)) c.args.place c.args.rows.now _ c.loop-behind.behind c.loop-behind.rows c.loop-behind.invariant none

pub returns : goal.returns
returns g c = writing_full _ c.args.place c.args.rows.now _ c.loop-behind.behind c.loop-behind.rows c.loop-behind.invariant c.loop-behind-test.false
