-- The loop stops at the first number that no piece has.
use Rattle.part_table.proofs.Common.{◌∙◌, pieces_of}
use Rattle.part_table.proofs.FreeLemmas.{free_if, free_found, not_free, used_more, none_free}
use Rattle.part_table.proofs.finding.free_number.Goals as goal

pub returns-then-not-has_piece : goal.returns-then-not-has_piece
returns-then-not-has_piece c =
    let n = c.loop-n.n in
    let regions = c.args.regions.now in
    let fresh = free_if regions n c.has_piece.result (rw c.from.ensures at c.has_piece.ensures) ∙ c.if-not-has_piece.true in
    free_found regions n c.requires c.loop-n.auto.n c.loop-n-test.true fresh c.loop-n.invariant.least_free

pub loop-n-preserved : goal.loop-n-preserved
loop-n-preserved c =
    let n = c.loop-n.n in
    let regions = c.args.regions.now in
    let used = free_if regions n c.has_piece.result (rw c.from.ensures at c.has_piece.ensures) ∙ c.if-not-has_piece.false in
    record {
      least_free = not_free (pieces_of regions) n c.loop-n-test.true used c.loop-n.invariant.least_free;
      used = used_more (pieces_of regions) n used c.loop-n.invariant.used;
    }

pub returns : goal.returns
returns c = none_free c.args.regions.now c.loop-n.n c.requires c.loop-n-test.false c.loop-n.invariant.used
