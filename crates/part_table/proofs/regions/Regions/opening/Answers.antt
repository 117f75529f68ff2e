-- One part after another, each from the bound in front of it.
use Rattle.part_table.proofs.Common.{◌∙◌, refl, sym, arith}
use Rattle.part_table.proofs.OpeningLemmas.{product_small, one_opened, last_opened, openable, regions_opened, opened}
use Rattle.part_table.proofs.regions.Regions.opening.Goals as goal

pub loop-p-init : goal.loop-p-init
loop-p-init c = record { so_far = rw c.new-list.ensures refl; count = rw c.new-list.ensures refl }

pub overflow_mul-hi : goal.overflow_mul-hi
overflow_mul-hi c =
    let is = openable c.args.parts c.args.width (sym c.can_open.ensures ∙ c.if-not-can_open.false) in
    let small = product_small c.args.parts c.loop-p.p c.args.width c.loop-p-test.true is.small_width in
    rw (c.from-in-loop-p-2.ensures, c.from.ensures, c.from-in-loop-p.ensures) (omega (arith, small))

pub overflow_add-hi : goal.overflow_add-hi
overflow_add-hi c =
    let is = openable c.args.parts c.args.width (sym c.can_open.ensures ∙ c.if-not-can_open.false) in
    let small = product_small c.args.parts c.loop-p.p c.args.width c.loop-p-test.true is.small_width in
    rw (c.from-in-loop-p-2.ensures, c.from.ensures, c.from-in-loop-p.ensures) (omega (arith, small))

pub loop-p-preserved : goal.loop-p-preserved
loop-p-preserved c =
    let zones = rw (c.from.ensures, c.from-in-loop-p.ensures) at c.from-in-loop-p-2.ensures in
    record {
      so_far = rw (c.push.ensures.items, zones) (one_opened c.args.parts c.args.width c.loop-p.p c.loop-p.lo c.loop-p.list.items c.loop-p.auto.p c.loop-p-test.true c.loop-p.invariant.so_far);
      count = omega (arith, c.push.ensures.len, c.loop-p.invariant.count);
    }

pub invariant_of-result : goal.invariant_of-result
invariant_of-result c =
    let can = sym c.can_open.ensures ∙ c.if-not-can_open.false in
    let some = (openable c.args.parts c.args.width can).some_part in
    let all = last_opened c.args.parts c.args.width c.loop-p.p c.loop-p.lo c.loop-p.list.items (omega (arith, some)) c.loop-p.invariant.so_far in
    rw (c.push-2.ensures.items, all) (regions_opened c.args.parts c.args.width can)

pub returns : goal.returns
returns c =
    let can = sym c.can_open.ensures ∙ c.if-not-can_open.false in
    let some = (openable c.args.parts c.args.width can).some_part in
    let all = last_opened c.args.parts c.args.width c.loop-p.p c.loop-p.lo c.loop-p.list.items (omega (arith, some)) c.loop-p.invariant.so_far in
    opened c.args.parts c.args.width c.push-2.new.self.items can (c.push-2.ensures.items ∙ all)
