use Rattle.edit_lines.proofs.Common.{arith}
use Rattle.edit_lines.proofs.DigitLemmas.{put_more, put_all}
use Rattle.edit_lines.proofs.digits.put.Goals as goal

pub loop-preserved : goal.loop-preserved
loop-preserved c = record {
  items = put_more _ _ _ _ _ _ _ c.loop-test.true c.loop.invariant.items c.push.ensures.items (omega arith);
  len = let more = c.push.ensures.len in let so = c.loop.invariant.len in omega arith;
}

pub returns-clause-items : goal.returns-clause-items
returns-clause-items c = put_all _ _ _ _ _ c.loop-test.false c.loop.invariant.items
