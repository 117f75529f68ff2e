use Rattle.hlr_owners.proofs.Common.{map-append, each-append, state_of, Part, ◌≡◌, ◌∙◌, arith, refl, sym, rules, length, ◌∷◌, [], WORDS, PartOwnerState, ◌<◌, SLOTS}
use Rattle.hlr_owners.proofs.ApartLemmas.{parts-last}
use Rattle.hlr_owners.proofs.OpenLemmas.{regions_few, width_fits, range_at, none_opened, one_opened, IsPartOwnerHome, desks_long, opened_home, opened_ruled, opened_store}
use Rattle.hlr_owners.proofs.ShareLemmas.{none_shared, first_of_board, one_of_board, one_shared, level_small, shared_desks}
use Rattle.hlr_owners.proofs.owners.Owners.open.Goals as goal

pub loop-region-init : goal.loop-region-init
loop-region-init c =
    let none = c.in_ok-owners.ensures.items in
    let long = c.in_ok-owners.owners.ok.0 in
    let wide : length c.args.words.now ≡ WORDS = search rules in
    record {
      room = c.in_ok-owners.ensures.capacity;
      long = long ∙ rw none refl;
      home = rw none tt;
      opened = none_opened c.args.width c.list-region-items.result.now _ (rw none refl);
      of_board = rw none (first_of_board c.args.words.now _ _ (c.in_ok-board.ensures.ok.1 ∙ sym c.in_ok-board-2.ensures.ok) c.in_ok-board.ensures.ok.2 wide, tt);
      shared = none_shared c.args.words.now _ _ c.in_ok-board.ensures.ok.2 (rw none refl);
    }

pub opened-requires : goal.opened-requires
opened-requires c =
    let few = regions_few c.args.parts c.args.width _ c.requires.can c.in_ok-regions.ensures in
    let below = rw c.list-region-items.ensures.value at c.loop-region-test.true in
    let desks = desks_long c.loop-region.owners.items c.loop-region.invariant.home in
    let slot : c.len-slot.result < SLOTS = omega (arith, c.len-slot.ensures, c.loop-region.invariant.long) in
    record {
      board = search rules;
      slot = slot;
      own = c.loop-region.invariant.shared.left c.len-slot.result (omega (arith, c.len-slot.ensures, c.loop-region.owners.ok.0)) slot;
      small = level_small c.args.words.now c.loop-region.spare.view c.len-slot.result c.requires.level c.loop-region.invariant.of_board.0.wide c.loop-region.invariant.shared.numbers.0;
      range = range_at _ _ _ c.list-region-items.ensures.regions c.loop-region-test.true;
      width = width_fits c.args.parts c.args.width _ c.requires.can c.in_ok-regions.ensures;
    }

pub push_reserved-requires : goal.push_reserved-requires
push_reserved-requires c =
    let few = regions_few c.args.parts c.args.width _ c.requires.can c.in_ok-regions.ensures in
    omega (arith, c.loop-region.invariant.room, c.loop-region.invariant.long, rw c.list-region-items.ensures.value at c.loop-region-test.true)

pub loop-region-preserved : goal.loop-region-preserved
loop-region-preserved c =
    let few = regions_few c.args.parts c.args.width _ c.requires.can c.in_ok-regions.ensures in
    let long = c.loop-region.invariant.long in
    let below = rw c.list-region-items.ensures.value at c.loop-region-test.true in
    let desks = desks_long c.loop-region.owners.items c.loop-region.invariant.home in
    let is = c.in_ok-holding.ensures.ok in
    record {
      room = rw c.push_reserved.ensures.capacity c.loop-region.invariant.room;
      long = omega (arith, c.push_reserved.ensures.len);
      home = rw c.push_reserved.ensures.items (each-append IsPartOwnerHome c.loop-region.owners.items (Part c.of.result ∷ []) c.loop-region.invariant.home (c.of.ensures.1, tt));
      opened = rw (c.push_reserved.ensures.items, map-append state_of c.loop-region.owners.items (Part c.of.result ∷ []), c.of.ensures.0) (one_opened _ _ _ _ _ _ c.loop-region-test.true c.loop-region.invariant.opened is.0);
      of_board = rw (c.push_reserved.ensures.items, parts-last (λ (o : PartOwnerState). o.holding.desk) c.loop-region.owners.items (Part c.of.result), c.of.ensures.0, is.1, is.2) (one_of_board c.args.words.now c.loop-region.spare _ c.len-slot.result (omega (arith, c.len-slot.ensures))
          (omega (arith, c.len-slot.ensures, c.loop-region.owners.ok.0)) _ c.loop-region.invariant.of_board);
      shared = rw (c.push_reserved.ensures.items, parts-last (λ (o : PartOwnerState). o.holding.desk) c.loop-region.owners.items (Part c.of.result), c.of.ensures.0, is.1, is.2) (one_shared c.args.words.now c.loop-region.spare _ c.len-slot.result (omega (arith, c.len-slot.ensures))
          (omega (arith, c.len-slot.ensures, c.loop-region.owners.ok.0)) c.loop-region.invariant.of_board.0.wide c.loop-region.invariant.shared);
    }

pub invariant_of-result : goal.invariant_of-result
invariant_of-result c =
    let are = rw c.list-region-items.ensures.value at c.list-region-items.ensures.regions in
    let past = rw c.list-region-items.ensures.value at c.loop-region-test.false in
    let opened = rw c.list-region-items.ensures.value at c.loop-region.invariant.opened in (
      opened_ruled c.args.parts _ _ _ _ c.requires.can c.in_ok-regions.ensures opened past c.loop-region.invariant.home _ are,
      shared_desks c.args.words.now _ _ _ c.requires.level c.loop-region.invariant.of_board c.loop-region.invariant.shared,
      c.loop-region.invariant.room,
    )

pub returns-clause-ok : goal.returns-clause-ok
returns-clause-ok c =
    let past = rw c.list-region-items.ensures.value at c.loop-region-test.false in
    let opened = rw c.list-region-items.ensures.value at c.loop-region.invariant.opened in
    let wide : length c.args.words.now ≡ WORDS = search rules in (
      c.in_ok-board.ensures.ok.0,
      opened_store _ _ _ _ _ c.requires.can c.in_ok-regions.ensures opened past c.loop-region.invariant.home _ _ c.loop-region.invariant.shared wide,
    )

pub returns-clause-home : goal.returns-clause-home
returns-clause-home c = opened_home c.loop-region.owners.items c.loop-region.invariant.home
