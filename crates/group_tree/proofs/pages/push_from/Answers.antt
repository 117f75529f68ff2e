use Rattle.group_tree.proofs.Common.{◌∙◌, ◌++◌, ap, append-nil, arith, rules, sym, key_of_pair, keys_from}
use Rattle.group_tree.proofs.PageLemmas.{passed_none, passed_row, pushed_room, pushed_row}
use Rattle.group_tree.proofs.PlaceLemmas.{all_rows, few_first, next_first, no_first}
use Rattle.group_tree.proofs.pages.push_from.Goals.{in-Some+then-key-pair, in-Some+else-key-pair, in_default}
use Rattle.group_tree.proofs.pages.push_from.Goals as goal

pub loop-place-init : goal.loop-place-init
loop-place-init g c =
    rw (no_first g.met.G.Group.laws c.args.base c.args.group.now c.requires.rules) (sym (append-nil c.args.page.now.items))

pub push-requires : goal.push-requires
push-requires g c =
    let few = few_first g.met.G.Group.laws c.args.base c.args.group.now c.requires.rules c.loop-place.place in
    (search rules, pushed_room c.args.page.now.items c.args.key _ c.loop-place.page.items c.loop-place.invariant c.requires.room (omega (arith, few, c.loop-place-test.true)))

pub loop-place-preserved : goal.loop-place-preserved
loop-place-preserved g c =
    let more = next_first g.met.G.Group.laws c.args.base c.args.group.now c.requires.rules c.loop-place.place in
    elim c.match-row_in.branch [
      | in-Some+then-key-pair w ↦ rw (w.page-is, w.push.ensures.items) (pushed_row c.args.page.now.items c.args.key _ c.loop-place.page.items c.loop-place.invariant _ _ more w.in-Some.pair (w.in-Some.ensures c.requires.rules) (omega (arith, w.if-key-pair.true)))
      | in-Some+else-key-pair w ↦ rw w.page-is (passed_row c.args.page.now.items c.args.key _ c.loop-place.page.items c.loop-place.invariant _ _ more w.in-Some.pair (w.in-Some.ensures c.requires.rules) (omega (arith, w.if-key-pair.false)))
      | in_default w ↦ rw w.page-is (passed_none c.args.page.now.items c.args.key _ c.loop-place.page.items c.loop-place.invariant _ _ more (w.in_default.ensures c.requires.rules))
    ]

pub returns : goal.returns
returns g c =
    c.loop-place.invariant ∙ ap (λ rows. c.args.page.now.items ++ keys_from key_of_pair c.args.key rows) (all_rows g.met.G.Group.laws c.args.base c.args.group.now c.requires.rules c.loop-place.place c.loop-place.auto.place-end c.loop-place-test.false)
