use Rattle.hlr_c.proofs.Common.{◌≡◌, arith, get_or, subst, AreWritten}
use Rattle.hlr_c.proofs.ManyLemmas.{none_written, one_written}
use Rattle.hlr_c.proofs.asking.write_block.Goals as goal

pub loop-at-init : goal.loop-at-init
loop-at-init g c = record {
  reached = (omega arith, c.requires.block.0);
  written = none_written g.Q.Telling.told c.args.asked.now c.args.found.now c.args.from (c.args.rows.now, c.args.codes.now) c.requires.as_many;
}

pub loop-at-preserved : goal.loop-at-preserved
loop-at-preserved g c =
    let told = g.Q.Telling.told in
    let asked = get_or c.args.asked.now c.loop-at.at c.index-asked-at.result in
    let row = get_or c.loop-at.rows c.loop-at.at c.index-rows-at.result in
    record {
      reached = (omega (arith, c.loop-at.invariant.reached.0), omega (arith, c.loop-at-test.true));
      written = one_written told c.args.asked.now c.args.found.now c.args.from (c.args.rows.now, c.args.codes.now) c.loop-at.rows c.loop-at.codes c.loop-at.at c.write.result c.index-asked-at.result c.index-found-at.result c.index-rows-at.result c.write.new.row
          c.loop-at.invariant.written c.loop-at.invariant.reached.0 (omega (arith, c.loop-at-test.true, c.requires.block.1)) (omega (arith, c.requires.found, c.loop-at-test.true, c.loop-at.invariant.reached.0))
          (subst (λ o. (c.write.result, c.write.new.row) ≡ told asked row o) c.index-found-at.is (subst (λ q. (c.write.result, c.write.new.row) ≡ told q row c.index-found-at.result) c.index-asked-at.is c.write.ensures));
    }

pub returns : goal.returns
returns g c =
    let end : c.loop-at.at ≡ c.args.to = omega (arith, c.loop-at.invariant.reached.1, c.loop-at-test.false) in
    subst (λ k. AreWritten g.Q.Telling.told c.args.asked.now c.args.found.now c.args.from (c.args.rows.now, c.args.codes.now) (c.loop-at.rows, c.loop-at.codes) k) end c.loop-at.invariant.written
